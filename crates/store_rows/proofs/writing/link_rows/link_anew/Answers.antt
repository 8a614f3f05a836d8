use Rattle.std.proofs.Common.{arith}
use Rattle.store_tables.specs.Rows.{with_link, without_link}
use Rattle.store_tables.proofs.Calls.{on_ok}
use Rattle.store_rows.proofs.Dated.{dated_then}
use Rattle.store_rows.proofs.writing.link_rows.link_anew.Goals as goal

pub returns-clause-ok : goal.returns-clause-ok
returns-clause-ok g c clean =
    let one = c.in_ok-delete_link.ensures.ok (omega (arith, clean, c.insert_link.ensures.survives.clean)) in
    on_ok c.insert_link.result
    (λ two. dated_then _ _ _ (without_link c.args.target c.args.number) (with_link c.args.target c.args.number)
    (λ rows has. has) one two) (c.insert_link.ensures.ok clean)
