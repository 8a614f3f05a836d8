use Rattle.std.proofs.Common.{◌≡◌, ◌≤◌, take, true}
use Rattle.std.specs.List.{list_all}
use Rattle.archive_state.specs.Looks.{OnView}
use Rattle.record_kinds.specs.Model as model
use Rattle.record_shapes.specs.Entries.{names_person}
use Rattle.archive_state.specs.Known.{known_of}
use Rattle.place_names.proofs.entries.name_persons.Given as goal

abbrev pub invariant-mentions : goal.invariant-mentions
invariant-mentions g l = record {
  shown : OnView g.V.View.is_honest g.V.View.shows g.V.View.content l.fn.view l.view
      (λ c. list_all (λ (m : model.Mention). names_person (known_of c.records) m.link)
      (take l.mention-index l.mentions) ≡ true);
  counted : g.V.View.failed l.fn.view ≤ g.V.View.failed l.view;
}
