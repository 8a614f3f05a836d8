use Rattle.std.proofs.Common.{◌∙◌}
use Rattle.gedcom_date.specs.View.{view}
use Rattle.doubts.proofs.Said.{same_words}
use Rattle.doubts.proofs.single.is_of_words.Goals as goal

pub returns : goal.returns
returns c = c.is_words.ensures ∙ same_words c.args.date.now.text (view c.in_ok-value.value) c.in_ok-value.ensures.said
