use Rattle.std.proofs.Common.{◌≡◌, ◌≤◌, ◌+◌, ◌*◌, take, false}
use Rattle.std.specs.List.{list_any}
use Rattle.archive_state.specs.Looks.{OnView}
use Rattle.place_names.specs.Naming.{reads_at}
use Rattle.place_names.proofs.reading.+reads.Given as goal

abbrev pub decreases-any_reads : goal.decreases-any_reads
decreases-any_reads g l = 3 * l.steps

abbrev pub decreases-reads_at : goal.decreases-reads_at
decreases-reads_at g l = 3 * l.steps + 1

abbrev pub decreases-one_reads : goal.decreases-one_reads
decreases-one_reads g l = 3 * l.steps + 2

abbrev pub invariant-one_reads-numbers : goal.invariant-one_reads-numbers
invariant-one_reads-numbers g l = record {
  shown : OnView g.V.View.is_honest g.V.View.shows g.V.View.content l.fn.view l.view
      (λ c. list_any (reads_at l.steps c l.number l.path) (take l.k-index l.numbers) ≡ false);
  counted : g.V.View.failed l.fn.view ≤ g.V.View.failed l.view;
}
