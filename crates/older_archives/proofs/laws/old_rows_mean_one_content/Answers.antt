use Rattle.older_archives.proofs.OneOldContent.{one_content}
use Rattle.older_archives.proofs.laws.old_rows_mean_one_content.Goals as goal

pub returns : goal.returns
returns c = one_content
