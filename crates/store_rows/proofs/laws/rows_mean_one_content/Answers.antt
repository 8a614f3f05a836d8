use Rattle.store_rows.proofs.OneContent.{one_content}
use Rattle.store_rows.proofs.laws.rows_mean_one_content.Goals as goal

pub returns : goal.returns
returns c = one_content
