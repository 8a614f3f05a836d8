use Rattle.record_fields.specs.Words.{quality_of}
use Rattle.record_fields.proofs.Worded.{quality_read}
use Rattle.records.proofs.Worded.{read_text}
use Rattle.records.proofs.source_parts.quality_in.Goals as goal

pub returns-in-Some : goal.returns-in-Some
returns-in-Some c = read_text quality_of c.as_str.result.now c.in-Some.text c.args.text.now c.from_word.result
    (quality_read c.as_str.result.now c.from_word.result c.from_word.ensures) c.as_str.ensures.same c.in-Some.is
