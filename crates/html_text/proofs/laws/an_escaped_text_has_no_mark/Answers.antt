use Rattle.std.specs.Str.{chars}
use Rattle.html_text.proofs.NoMarks.{whole}
use Rattle.html_text.proofs.laws.an_escaped_text_has_no_mark.Goals as goal

pub returns : goal.returns
returns c text = whole (chars text)
