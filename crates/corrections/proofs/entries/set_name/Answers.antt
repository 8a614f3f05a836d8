use Rattle.std.proofs.Common.{rules, ◌<◌, ◌≤◌, ap, length}
use Rattle.record_kinds.specs.Model as model
use Rattle.corrections.specs.Corrections.{mention_named}
use Rattle.corrections.proofs.Changing.{none_changed, set_changed}
use Rattle.corrections.proofs.entries.set_name.Goals as goal

pub returns-then-index-len : goal.returns-then-index-len
returns-then-index-len c =
    let less : c.args.index < length c.args.mentions.now.items = search rules in
    set_changed (mention_named c.args.name) c.args.mentions.now.items c.args.index c.index_mut.result.now
    _ less c.index_mut.ensures.value
    (ap (λ (y : model.Mention). record y { name = c.args.name }) c.behind-mentions.view_is)

pub returns-else-index-len : goal.returns-else-index-len
returns-else-index-len c =
    let beyond : length c.args.mentions.now.items ≤ c.args.index = search rules in
    none_changed (mention_named c.args.name) c.args.mentions.now.items c.args.index beyond
