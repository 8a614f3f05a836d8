use Rattle.archive_state.specs.Paths.{HasPath}
use Rattle.archive_state.proofs.Lowest.{Ahead}
use Rattle.archive_state.proofs.state.State.place_at.Given as goal

abbrev pub invariant-records : goal.invariant-records
invariant-records l = Ahead l.self.records (λ n. HasPath l.self.records n l.path) l.at-iterator
