use Rattle.imports.proofs.Whole.{imports_stay_sound}
use Rattle.imports.proofs.laws.an_import_leaves_an_archive_sound.Goals as goal

pub returns : goal.returns
returns c = imports_stay_sound
