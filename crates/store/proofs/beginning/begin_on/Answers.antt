use Rattle.std.proofs.Common.{◌≡◌, arith, false, inl, inr, subst, sym, Err}
use Rattle.sqlite.specs.Held.{state}
use Rattle.sqlite.specs.State.{HasCleanDisk}
use Rattle.archive_core.specs.Machine.{Does, import_of}
use Rattle.store.specs.Histories.{is_storage}
use Rattle.store.proofs.beginning.begin_on.Goals as goal

pub returns-in-Err-clause-refused : goal.returns-in-Err-clause-refused
returns-in-Err-clause-refused g c clean sure society content rows was keeps =
    let r = import_of c.args.token.now (g.F.Given.forest_of c.args.given) in
    let after = c.refusal_after.ensures in
    let before : HasCleanDisk (state g.S.Store c.try_begin.new.archive.conn) = omega
    (arith, after.survives.clean, clean) in
    let same = after.same sure in
    let did = c.in-Err.ensures.refused before (subst (λ x. is_storage x.kind ≡ false) same sure) society content
    rows was keeps in
    (subst (λ x. Does content r (Err x) content) (sym same) did.0, after.settled clean sure rows did.1)

pub returns-in-Err-clause-crash : goal.returns-in-Err-clause-crash
returns-in-Err-clause-crash g c clean society content rows was keeps t l =
    let after = c.refusal_after.ensures in
    let before : HasCleanDisk (state g.S.Store c.try_begin.new.archive.conn) = omega
    (arith, after.survives.clean, clean) in
    c.in-Err.ensures.crash before society content rows was keeps t
    (elim (after.survives.crash clean t l) [ inl was ↦ was | inr none ↦ absurd none ])

pub returns-in-Err-clause-repeated : goal.returns-in-Err-clause-repeated
returns-in-Err-clause-repeated g c clean society content rows was keeps kept t l =
    let after = c.refusal_after.ensures in
    let before : HasCleanDisk (state g.S.Store c.try_begin.new.archive.conn) = omega
    (arith, after.survives.clean, clean) in
    c.in-Err.ensures.repeated before society content rows was keeps kept t
    (elim (after.survives.crash clean t l) [ inl was ↦ was | inr none ↦ absurd none ])

pub returns-in-Err-clause-placed : goal.returns-in-Err-clause-placed
returns-in-Err-clause-placed g c = c.refusal_after.ensures.placed c.in-Err.ensures.placed
