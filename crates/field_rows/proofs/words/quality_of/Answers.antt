use Rattle.std.proofs.Common.{ap, ◌∙◌}
use Rattle.record_fields.specs.Words.{quality_of as word_of}
use Rattle.record_fields.proofs.Worded.{quality_read}
use Rattle.field_rows.proofs.words.quality_of.Goals as goal

pub returns : goal.returns
returns c = quality_read c.text_of.result.now c.from_word.result c.from_word.ensures ∙ ap word_of c.text_of.ensures.same
