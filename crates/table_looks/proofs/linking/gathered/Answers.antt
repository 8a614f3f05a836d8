use Rattle.table_looks.proofs.Linked.{added}
use Rattle.table_looks.proofs.linking.gathered.Goals as goal

pub rows-preserved : goal.rows-preserved
rows-preserved c target n =
    rw (← c.row.view_is) (added target n c.rows.yielded c.row.inside.target c.row.inside.number _ _
    (c.in_ok-insert.ensures.updates.0 (target, n)) (c.rows.invariant target n))
