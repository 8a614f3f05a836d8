use Rattle.packed_rows.proofs.OneText.{same_whole}
use Rattle.records.proofs.Shallow.{stored_one}
use Rattle.records.specs.Stored.{stored}
use Rattle.earlier_values.proofs.laws.a_text_is_of_one_record.Goals as goal

pub returns : goal.returns
returns c text r s h k = stored_one r s (same_whole text (stored r) (stored s) h k)
