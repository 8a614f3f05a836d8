use Rattle.std.proofs.Common.{arith}
use Rattle.gedcom_rules.proofs.Sizes.{text_chars_are}
use Rattle.gedcom_rules.proofs.header.text_chars.Goals as goal

pub returns : goal.returns
returns c = omega (
  arith,
  c.saturating_sub.ensures,
  c.char_len.ensures.value,
  c.text_len.ensures.value,
  text_chars_are c.args.raw.now,
)
