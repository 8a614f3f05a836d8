use Rattle.record_fields.proofs.Items.{item_read}
use Rattle.entry_reading.proofs.guessing.item_of_words.Goals as goal

pub returns : goal.returns
returns c = item_read c.args.words.now c.in_ok-found.found c.in_ok-found.ensures
