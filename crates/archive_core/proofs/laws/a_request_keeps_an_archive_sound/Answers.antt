use Rattle.archive_core.proofs.Serving.{request_sound}
use Rattle.archive_core.proofs.laws.a_request_keeps_an_archive_sound.Goals as goal

pub returns : goal.returns
returns _ c after r o words sound h = request_sound c after r o words sound h
