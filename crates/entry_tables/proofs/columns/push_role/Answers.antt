use Rattle.entry_tables.proofs.Steps.{one_column}
use Rattle.entry_tables.proofs.columns.push_role.Goals as goal

pub each-preserved : goal.each-preserved
each-preserved c = one_column c.args.role c.each.before c.args.row.now c.each.row c.push_column.new.row
    c.in_ok-push_column.ensures c.each.invariant
