use Rattle.record_rules.proofs.Leaves.{text_decided}
use Rattle.record_rules.proofs.texts.is_text_str.Goals as goal

pub returns : goal.returns
returns c = text_decided c.args.words.now c.is_plain.result c.is_plain.ensures
