use Rattle.std.proofs.Common.{◌≡◌, ◌≤◌, ◌+◌, ◌*◌, take, true}
use Rattle.std.specs.List.{list_all}
use Rattle.archive_state.specs.Looks.{OnView}
use Rattle.place_names.specs.Naming.{may_at}
use Rattle.place_names.proofs.passing.+may.Given as goal

abbrev pub decreases-all_may : goal.decreases-all_may
decreases-all_may g l = 3 * l.steps

abbrev pub decreases-may_at : goal.decreases-may_at
decreases-may_at g l = 3 * l.steps + 1

abbrev pub decreases-may_within : goal.decreases-may_within
decreases-may_within g l = 3 * l.steps + 2

abbrev pub invariant-may_within-numbers : goal.invariant-may_within-numbers
invariant-may_within-numbers g l = record {
  shown : OnView g.V.View.is_honest g.V.View.shows g.V.View.content l.fn.view l.view
      (λ c. list_all (may_at l.steps c l.number l.path) (take l.k-index l.numbers) ≡ true);
  counted : g.V.View.failed l.fn.view ≤ g.V.View.failed l.view;
}
