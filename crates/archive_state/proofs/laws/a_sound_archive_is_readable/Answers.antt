use Rattle.archive_state.proofs.Readable.{record_readable}
use Rattle.archive_state.proofs.laws.a_sound_archive_is_readable.Goals as goal

pub returns : goal.returns
returns _ c a n t sound around whole = record_readable c sound a around n t whole
