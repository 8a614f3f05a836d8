use Rattle.std.proofs.Common.{◌<◌, ◌++◌, [], length, arith}
use Rattle.std.proofs.lemmas.Grind.{common_steps}
use Rattle.doubts.specs.Doubts.{twice_doubts}
use Rattle.doubts.proofs.Twice.{next_mention}
use Rattle.doubts.proofs.entries.push_mentions.Goals as goal

pub each-preserved : goal.each-preserved
each-preserved c =
    let less : c.each.mention-index < length c.args.mentions.now = grind (arith, common_steps) in
    next_mention c.args.number c.args.mentions.now c.each.mention-index c.mention-item.result c.each.before.items
    c.push_mention.new.before.items c.each.found.items c.push_mention.new.found.items
    (c.args.found.now.items ++ twice_doubts c.args.number [] c.args.mentions.now) less c.mention-item.is
    c.in_ok-push_mention.ensures.found c.in_ok-push_mention.ensures.before c.each.invariant
