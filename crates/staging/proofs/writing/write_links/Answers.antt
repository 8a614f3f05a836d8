use Rattle.std.proofs.Common.{ap, map, subst, take, ◌∙◌}
use Rattle.sqlite.specs.Held.{state}
use Rattle.staged_rows.specs.Staging.{a_link}
use Rattle.staging.specs.Opened.{FollowsStaged}
use Rattle.staging.proofs.Cursors.{links_follow}
use Rattle.staging.proofs.writing.write_links.Goals as goal

pub returns-clause-ok : goal.returns-clause-ok
returns-clause-ok g c clean =
    let old = state g.S.Store c.args.tx.now.conn.now in
    let new = state g.S.Store c.insert_links.new.tx.conn.now in
    let some = c.split_at-2.result.0.now in
    let is = c.split_at-2.ensures.front ∙ ap (take c.min-number.result) c.split_at.ensures.back in
    let did = c.in_ok-insert_links.ensures in
    subst (λ ls. FollowsStaged old new (map a_link ls)) is (links_follow some old new (did.ok clean) (did.fresh clean))
