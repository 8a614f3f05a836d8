use Rattle.std.proofs.Common.{ap, ◌∙◌}
use Rattle.record_fields.specs.Words.{sex_of as word_of}
use Rattle.record_fields.proofs.Worded.{sex_read}
use Rattle.field_rows.proofs.words.sex_of.Goals as goal

pub returns : goal.returns
returns c = sex_read c.text_of.result.now c.from_word.result c.from_word.ensures ∙ ap word_of c.text_of.ensures.same
