use Rattle.std.proofs.Common.{rules, arith, ◌≡◌, ◌⊎◌, true, OnOk}
use Rattle.sqlite.specs.Held.{state}
use Rattle.sqlite.specs.State.{HasCleanDisk}
use Rattle.store_tables.specs.Calls.{Built, Inside, Settled, SettledBlank}
use Rattle.store_tables.specs.Rows.{nothing_yet}
use Rattle.store_tables.specs.Schema.{no_schema}
use Rattle.store_tables.proofs.Begun.{leaves, settles}
use Rattle.store_tables.proofs.Calls.{on_ok}
use Rattle.store_tables.proofs.creating.create.Goals as goal

pub returns-clause-done : goal.returns-clause-done
returns-clause-done g c clean =
    let old = state g.S.Store c.args.conn.now in
    let mid = state g.S.Store c.build.new.tx.conn.now in
    let end = c.commit.new.self.0 in
    let same : end ≡ c.conn-2-1.given.0 = search rules in
    let sure : HasCleanDisk (state g.S.Store end) = rw same clean in
    let builds : Built (record old { in_transaction = true }) no_schema → Inside mid (nothing_yet c.args.society.now)
    × (mid.committed ≡ old.committed) = rw c.transaction-tx.ensures.begun at
    (c.in_ok-build.ensures.ok (omega (arith, sure, c.commit.ensures.survives.clean))) in
    let done : OnOk c.commit.result (SettledBlank old → Settled (state g.S.Store end)
    (nothing_yet c.args.society.now)) =
    on_ok c.commit.result (λ shows was. settles old mid c.args.society.now builds was (state g.S.Store end) shows.1)
    (c.commit.ensures.ok sure) in
    rw same at done

pub returns-clause-crash : goal.returns-clause-crash
returns-clause-crash g c clean was t left =
    let old = state g.S.Store c.args.conn.now in
    let mid = state g.S.Store c.build.new.tx.conn.now in
    let end = c.commit.new.self.0 in
    let same : end ≡ c.conn-2-1.given.0 = search rules in
    let sure : HasCleanDisk (state g.S.Store end) = rw same clean in
    let builds : Built (record old { in_transaction = true }) no_schema → Inside mid (nothing_yet c.args.society.now)
    × (mid.committed ≡ old.committed) = rw c.transaction-tx.ensures.begun at
    (c.in_ok-build.ensures.ok (omega (arith, sure, c.commit.ensures.survives.clean))) in
    let from : (old.may_leave t) ⊎ (t ≡ mid.now.trees) = search rules in
    leaves old mid c.args.society.now builds was t (g.met.S.Store.settled c.args.conn.now.store t) from
