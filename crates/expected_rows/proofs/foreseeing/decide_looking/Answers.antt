use Rattle.std.proofs.Common.{◌≡◌, ◌∙◌, Bool, false, subst, sym}
use Rattle.sqlite.specs.Held.{Held, state}
use Rattle.sqlite.specs.State.{HasCleanDisk}
use Rattle.store_tables.proofs.Queries.{only_committed}
use Rattle.store.specs.Looking.{StaysReadable}
use Rattle.store.specs.Viewing.{OnReadable}
use Rattle.expected_rows.specs.Meeting.{DecidesSurely}
use Rattle.expected_rows.proofs.Foretold.{viewed_deciding}
use Rattle.expected_rows.proofs.foreseeing.decide_looking.Goals as goal

pub returns-clause-looked : goal.returns-clause-looked
returns-clause-looked g c =
    let r = c.args.request.now in
    let old = c.args.archive.now in
    let first = c.set_aside-import.new.self in
    let last = c.decide-decided.new.view in
    let new = c.put_back.new.self in
    let decided = c.decide-decided.result in
    let start = state g.S.Store first.conn in
    let end = state g.S.Store last.conn in
    let seen = viewed_deciding start end first.is_lost last.is_lost first.failures last.failures r decided
    c.set_aside-import.ensures.counts
    (λ rows was t l. only_committed start rows t was (g.met.S.Store.settled first.conn.store t was.is_open l))
    c.decide-decided.ensures.decides c.decide-decided.ensures.counts in
    subst (λ (h : Held _). HasCleanDisk (state g.S.Store h) → StaysReadable (state g.S.Store old.conn) new.is_lost
    (state g.S.Store h) × OnReadable (state g.S.Store old.conn)
    (λ rows k. new.is_lost ≡ false → DecidesSurely k r decided))
    (sym c.put_back.ensures.conn)
    (subst (λ (l : Bool). HasCleanDisk end → StaysReadable (state g.S.Store old.conn) l end
    × OnReadable (state g.S.Store old.conn) (λ rows k. l ≡ false → DecidesSurely k r decided))
    (sym c.put_back.ensures.lost)
    (subst (λ (h : Held _). HasCleanDisk end → StaysReadable (state g.S.Store h) last.is_lost end
    × OnReadable (state g.S.Store h) (λ rows k. last.is_lost ≡ false → DecidesSurely k r decided))
    c.set_aside-import.ensures.conn seen))

pub returns-clause-aside : goal.returns-clause-aside
returns-clause-aside g c = c.put_back.ensures.back ∙ c.set_aside-import.ensures.aside
