use Rattle.std.proofs.Common.{refl}
use Rattle.record_fields.specs.Items.{first_item}
use Rattle.record_fields.proofs.Items.{same_item}
use Rattle.record_fields.proofs.item.Item.first.Goals as goal

pub returns : goal.returns
returns c = same_item _ first_item refl
