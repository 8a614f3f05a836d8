use Rattle.std.proofs.Common.{inr}
use Rattle.std.specs.BTreeSet as set
use Rattle.std.specs.Ordering.{nat_cmp}
use Rattle.std.proofs.lemmas.Result.{IfErr-weaker}
use Rattle.store_rows.specs.Meaning.{is_closed}
use Rattle.store_rows.specs.Grouped.{group_at, stored_at}
use Rattle.store_rows.proofs.StateRecords.{lacks_one, refused_by}
use Rattle.store_rows.proofs.state.fill_records.Goals as goal

pub returns-clause-refused : goal.returns-clause-refused
returns-clause-refused c =
    IfErr-weaker c.put_records.result _ _
    (λ kind. refused_by kind
    (λ bad. inr (lacks_one (set.contains nat_cmp c.in_ok-closed.closed) (λ n. is_closed n c.args.batches.now)
    (stored_at c.args.lines.items c.args.packs.items)
    (group_at c.in_ok-groups.groups) c.args.rows.now c.in_ok-closed.ensures
    c.in_ok-groups.ensures bad))) c.put_records.ensures.refused
