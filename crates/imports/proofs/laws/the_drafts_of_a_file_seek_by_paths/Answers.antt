use Rattle.imports.proofs.Seeking.{drafts_seek}
use Rattle.imports.proofs.laws.the_drafts_of_a_file_seek_by_paths.Goals as goal

pub returns : goal.returns
returns c = drafts_seek
