use Rattle.std.proofs.Common.{rules, false, true}
use Rattle.sqlite.specs.Held.{state}
use Rattle.sqlite.specs.State.{Shows}
use Rattle.store_tables.specs.Calls.{FollowsDated}
use Rattle.store_rows.specs.Links.{without_all_links}
use Rattle.staging.proofs.Commits.{settles_dated}
use Rattle.staging.proofs.clearing.clear_links.Goals as goal

pub returns-clause-done : goal.returns-clause-done
returns-clause-done g c clean rows was dated =
    let old = state g.S.Store c.args.conn.now in
    let mid = state g.S.Store c.remove_links.new.tx.conn.now in
    let new = state g.S.Store c.conn-2-1.given.0 in
    let follows : FollowsDated (record old { in_transaction = true }) mid (without_all_links c.args.links.now) =
    search rules in
    let shows : Shows mid new mid.now mid.now false = search rules in
    settles_dated old mid new (without_all_links c.args.links.now) rows follows shows was dated
