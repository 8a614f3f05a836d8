use Rattle.std.proofs.Common.{rules, false, true}
use Rattle.sqlite.specs.Held.{state}
use Rattle.sqlite.specs.State.{Shows}
use Rattle.store_tables.specs.Calls.{Follows}
use Rattle.store_rows.specs.Writing.{without_all_lines}
use Rattle.staging.proofs.Commits.{settles}
use Rattle.staging.proofs.clearing.clear_packs.Goals as goal

pub returns-clause-done : goal.returns-clause-done
returns-clause-done g c clean rows was =
    let old = state g.S.Store c.args.conn.now in
    let mid = state g.S.Store c.remove_lines.new.tx.conn.now in
    let new = state g.S.Store c.conn-2-1.given.0 in
    let follows : Follows (record old { in_transaction = true }) mid (without_all_lines c.args.numbers.now) =
    search rules in
    let shows : Shows mid new mid.now mid.now false = search rules in
    settles old mid new (without_all_lines c.args.numbers.now) rows follows shows was
