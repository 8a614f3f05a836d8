use Rattle.std.proofs.Common.{rules, ◌<◌, ◌≤◌, ap, length}
use Rattle.record_kinds.specs.Model as model
use Rattle.corrections.specs.Corrections.{renamed}
use Rattle.corrections.proofs.Changing.{none_changed, set_changed}
use Rattle.corrections.proofs.persons.rename.Goals as goal

pub returns-then-index-len : goal.returns-then-index-len
returns-then-index-len c =
    let less : c.args.index < length c.args.names.now.items = search rules in
    set_changed (renamed c.args.text) c.args.names.now.items c.args.index c.index_mut.result.now
    _ less c.index_mut.ensures.value
    (ap (λ (y : model.Name). record y { text = c.args.text }) c.behind-names.view_is)

pub returns-else-index-len : goal.returns-else-index-len
returns-else-index-len c =
    let beyond : length c.args.names.now.items ≤ c.args.index = search rules in
    none_changed (renamed c.args.text) c.args.names.now.items c.args.index beyond
