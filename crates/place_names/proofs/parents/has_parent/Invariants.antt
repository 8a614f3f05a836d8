use Rattle.std.proofs.Common.{◌≡◌, ◌≤◌, take, false}
use Rattle.std.specs.List.{list_any}
use Rattle.archive_state.specs.Looks.{OnView}
use Rattle.archive_state.specs.Known.{known_before}
use Rattle.place_names.specs.Naming.{is_parent}
use Rattle.place_names.proofs.parents.has_parent.Given as goal

abbrev pub invariant-lines : goal.invariant-lines
invariant-lines g l = record {
  shown : OnView g.V.View.is_honest g.V.View.shows g.V.View.content l.fn.view l.view
      (λ c. list_any (is_parent (known_before c.records l.number).path l.name) (take l.line-index l.lines) ≡ false);
  counted : g.V.View.failed l.fn.view ≤ g.V.View.failed l.view;
}
