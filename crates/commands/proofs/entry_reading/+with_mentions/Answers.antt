use Rattle.commands.proofs.Mentions.{two_more}
use Rattle.commands.proofs.entry_reading.+with_mentions.Goals as goal

pub returns-in_ok-push_mention-in-len2-up : goal.returns-in_ok-push_mention-in-len2-up
returns-in_ok-push_mention-in-len2-up t c =
    two_more c.args.mentions.items c.push_mention.new.mentions.items c.args.fields.now _ c.with_mentions.result
    c.in-len2-up.len_at_least c.in_ok-push_mention-in-len2-up.ensures c.with_mentions.ensures
