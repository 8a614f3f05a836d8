use Rattle.std.proofs.Common.{◌+◌, drop}
use Rattle.record_kinds.specs.Model as model
use Rattle.record_text.specs.Naming.{surname_of}
use Rattle.list_laws.proofs.Lists.{item_here}
use Rattle.html_lists.specs.Letters.{texts}
use Rattle.html_lists.proofs.Arranging.{name_added}
use Rattle.html_lists.proofs.letters.add_names.Goals as goal

pub names-preserved : goal.names-preserved
names-preserved c =
    let names = c.args.names.now in
    let i = c.names.name-index in
    name_added c.name-item.result (drop (i + 1) names) (drop i names) (texts c.names.found)
    (texts c.add_name.new.found) _ (λ (x : model.Name). surname_of x.text)
    (item_here names i c.name-item.result c.names-test.true c.name-item.is) c.in_ok-add_name.ensures c.names.invariant
