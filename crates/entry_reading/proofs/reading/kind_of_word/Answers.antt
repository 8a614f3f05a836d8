use Rattle.record_fields.proofs.Worded.{entry_kind_read}
use Rattle.entry_reading.proofs.reading.kind_of_word.Goals as goal

pub returns : goal.returns
returns c = entry_kind_read c.args.word.now c.from_word.result c.from_word.ensures
