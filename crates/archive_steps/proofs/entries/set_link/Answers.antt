use Rattle.std.proofs.Common.{rules, ◌<◌, ap, length}
use Rattle.record_kinds.specs.Model as model
use Rattle.archive_steps.proofs.Entered.{link_set}
use Rattle.archive_steps.proofs.entries.set_link.Goals as goal

pub returns-then-index-len : goal.returns-then-index-len
returns-then-index-len c =
    let less : c.args.index < length c.args.mentions.now.items = search rules in
    link_set c.args.mentions.now.items c.args.index c.index_mut.result.now _ c.args.link less c.index_mut.ensures.value
    (ap (λ (y : model.Mention). record y { link = c.args.link }) c.behind-mentions.view_is)
