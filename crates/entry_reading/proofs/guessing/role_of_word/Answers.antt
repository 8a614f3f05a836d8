use Rattle.record_fields.proofs.Worded.{role_read}
use Rattle.entry_reading.proofs.guessing.role_of_word.Goals as goal

pub returns : goal.returns
returns c = role_read c.args.word.now c.from_word.result c.from_word.ensures
