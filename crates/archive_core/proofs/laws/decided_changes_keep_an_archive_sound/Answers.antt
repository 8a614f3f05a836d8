use Rattle.std.specs.Prelude.{Ok}
use Rattle.archive_core.proofs.Serving.{request_sound}
use Rattle.archive_core.proofs.laws.decided_changes_keep_an_archive_sound.Goals as goal

pub returns : goal.returns
returns _ c r changes words sound h = request_sound c _ r (Ok changes.answer) words sound h
