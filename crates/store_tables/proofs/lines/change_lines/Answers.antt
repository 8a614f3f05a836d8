-- The old lines go, and then the new ones come.
use Rattle.std.proofs.Common.{arith}
use Rattle.store_tables.specs.Rows.{with_pack, without_lines}
use Rattle.store_tables.proofs.Loops.{and_last}
use Rattle.store_tables.proofs.lines.change_lines.Goals as goal

pub returns-clause-ok : goal.returns-clause-ok
returns-clause-ok g c clean =
    let one = c.in_ok-delete_lines.ensures.ok (omega (arith, c.insert_lines.ensures.survives.clean)) in
    and_last c.insert_lines.result _ _ _ (without_lines c.args.number) (with_pack c.args.number c.args.lines.now) one
    (c.insert_lines.ensures.ok clean)
