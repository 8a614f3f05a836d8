use Rattle.std.proofs.Common.{◌≡◌, ◌≤◌, take, false}
use Rattle.std.specs.List.{list_any}
use Rattle.archive_state.specs.Looks.{OnView}
use Rattle.place_names.specs.Naming.{is_at}
use Rattle.place_names.proofs.passing.is_place_of_one.Given as goal

abbrev pub invariant-numbers : goal.invariant-numbers
invariant-numbers g l = record {
  shown : OnView g.V.View.is_honest g.V.View.shows g.V.View.content l.fn.view l.view
      (λ c. list_any (is_at c l.number) (take l.k-index l.numbers) ≡ false);
  counted : g.V.View.failed l.fn.view ≤ g.V.View.failed l.view;
}
