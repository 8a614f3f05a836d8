use Rattle.std.proofs.Common.{◌∙◌}
use Rattle.std.specs.BTreeSet as set
use Rattle.table_looks.specs.Linking.{pair_order}
use Rattle.table_looks.proofs.Linked.{first_found}
use Rattle.table_looks.proofs.linking.first_unlinked.Goals as goal

pub returns : goal.returns
returns c = first_found (set.contains pair_order c.in_ok-links.links) c.args.rows.items c.in_ok-links.ensures
    c.args.held.now c.as_slice.result.now c.first_without.result
    (c.as_slice.ensures.value ∙ c.in_ok-numbers.ensures) c.first_without.ensures
