use Rattle.imports.proofs.Commands.{import_sound}
use Rattle.imports.proofs.laws.an_import_keeps_an_archive_sound.Goals as goal

pub returns : goal.returns
returns _ c after f a forest sound e = import_sound c after f a forest sound e
