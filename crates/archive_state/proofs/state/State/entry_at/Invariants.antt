use Rattle.archive_state.specs.Entries.{IsEntryAt}
use Rattle.archive_state.proofs.Lowest.{Ahead}
use Rattle.archive_state.proofs.state.State.entry_at.Given as goal

abbrev pub invariant-records : goal.invariant-records
invariant-records l = Ahead l.self.records (λ n. IsEntryAt l.self.records l.source l.kind l.page l.item n)
    l.number-iterator
