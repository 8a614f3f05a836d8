use Rattle.packed_rows.proofs.Apart.{one_link}
use Rattle.packed_rows.proofs.laws.one_key_has_one_link.Goals as goal

pub returns : goal.returns
returns c = one_link
