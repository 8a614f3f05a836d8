use Rattle.command_checks.proofs.Mentions.{all_passed, if_added}
use Rattle.command_checks.proofs.entries.+push_mentions.Goals as goal

pub returns-in_ok-push-in-len1-up-clause-decides : goal.returns-in_ok-push-in-len1-up-clause-decides
returns-in_ok-push-in-len1-up-clause-decides t c =
    all_passed c.args.kind c.args.given.now c.first-item.result c.in_ok-mention-in-len1-up.mention
    c.push_mentions.result
    c.in-len1-up.len_at_least c.first-item.is c.in_ok-mention-in-len1-up.ensures.decides c.push_mentions.ensures.decides

pub returns-in_ok-push-in-len1-up-clause-pushes : goal.returns-in_ok-push-in-len1-up-clause-pushes
returns-in_ok-push-in-len1-up-clause-pushes t c =
    if_added c.args.kind c.args.given.now c.first-item.result c.in_ok-mention-in-len1-up.mention c.push_mentions.result
    c.args.mentions.now.items c.push.new.items.items c.push_mentions.new.mentions.items
    c.in-len1-up.len_at_least c.first-item.is c.in_ok-mention-in-len1-up.ensures.decides c.in_ok-push-in-len1-up.ensures
    c.push_mentions.ensures.pushes
