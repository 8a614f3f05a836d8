use Rattle.commands.proofs.Mentions.{all_mentions, many_mentions}
use Rattle.commands.proofs.entry_reading.mentions_in.Goals as goal

pub returns-then-fields-gt-MOST_FIELDS : goal.returns-then-fields-gt-MOST_FIELDS
returns-then-fields-gt-MOST_FIELDS c = λ e. many_mentions c.args.fields.now c.if-fields-gt-MOST_FIELDS.true

pub returns : goal.returns
returns c = all_mentions c.new.result.items c.args.fields.now c.with_mentions.result c.new.ensures.items
    c.with_mentions.ensures
