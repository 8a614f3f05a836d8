use Rattle.std.proofs.Common.{rules}
use Rattle.archive_state.proofs.Soundness.{sound_if_nothing}
use Rattle.archive_state.proofs.state.State.new.Goals as goal

pub returns-clause-sound : goal.returns-clause-sound
returns-clause-sound c = sound_if_nothing _ (search rules)
