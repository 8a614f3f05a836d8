use Rattle.std.proofs.Common.{rules, ◌≡◌, Err, ap, ap₂, inl, inr, subst, sym, ◌∙◌}
use Rattle.sqlite.specs.Held.{state}
use Rattle.sqlite.specs.State.{HasCleanDisk}
use Rattle.store_tables.specs.Calls.{Settled}
use Rattle.staged_rows.specs.Removing.{AreOf, links_from, without_batch}
use Rattle.store_tables.proofs.Calls.{on_ok}
use Rattle.staging.proofs.Cleared.{leaves_seen}
use Rattle.staging.proofs.Opening.{are_from, numbers_aside}
use Rattle.staging.proofs.removing.remove_found.Goals as goal

pub returns-in_err-numbers-clause-crash : goal.returns-in_err-numbers-clause-crash
returns-in_err-numbers-clause-crash g c clean rows was has unclosed =
    leaves_seen rows (state g.S.Store c.find_numbers.new.conn) (c.in_err-numbers.ensures.looks.crash clean rows was)

pub returns-in_err-numbers-clause-stays : goal.returns-in_err-numbers-clause-stays
returns-in_err-numbers-clause-stays g c clean =
    let same : c.from_residual.result ≡ Err c.in_err-numbers.field-0.0 = search rules in
    let did = c.in_err-numbers.ensures in
    rw same (elim did.failure [
      | inl memory ↦ inr (memory, did.looks.crash clean)
      | inr storage ↦ inl storage
    ])

pub returns-in_err-links-clause-crash : goal.returns-in_err-links-clause-crash
returns-in_err-links-clause-crash g c clean rows was has unclosed =
    let looks = c.in_err-links.ensures.looks in
    leaves_seen rows (state g.S.Store c.find_links.new.conn)
    (looks.crash clean rows (c.in_ok-numbers.ensures.looks.same (looks.clean clean) rows was))

pub returns-in_err-links-clause-stays : goal.returns-in_err-links-clause-stays
returns-in_err-links-clause-stays g c clean =
    let same : c.from_residual-in_err-links.result ≡ Err c.in_err-links.field-0.0 = search rules in
    let did = c.in_err-links.ensures in
    rw same (elim did.failure [
      | inl memory ↦ inr (
        memory,
        λ rows was. did.looks.crash clean rows
            (c.in_ok-numbers.ensures.looks.same (did.looks.clean clean) rows was),
      )
      | inr storage ↦ inl storage
    ])

pub returns-clause-gone : goal.returns-clause-gone
returns-clause-gone g c clean =
    let first = c.in_ok-numbers.ensures.looks in
    let looks = c.in_ok-links.ensures.looks in
    let still : HasCleanDisk (state g.S.Store c.find_links.new.conn) = c.remove_batch.ensures.clean clean in
    let before = looks.clean still in
    on_ok c.remove_batch.result (λ gone rows was has.
    let here = first.same before rows was in
    let numbers = first.read before rows was in
    let links = c.deref-3.ensures.value ∙ looks.read still rows here has
    ∙ ap (λ ns. links_from ns rows) (c.deref.ensures.value ∙ numbers) in
    subst (Settled (state g.S.Store c.remove_batch.new.conn))
    (ap₂ (λ ns ls. without_batch c.args.batch ns ls rows) (c.deref-2.ensures.value ∙ numbers) links)
    (gone rows (looks.same still rows here) has))
    (c.remove_batch.ensures.gone clean)

pub returns-clause-crash : goal.returns-clause-crash
returns-clause-crash g c clean rows was has unclosed =
    let first = c.in_ok-numbers.ensures.looks in
    let looks = c.in_ok-links.ensures.looks in
    let mid = state g.S.Store c.find_links.new.conn in
    let still : HasCleanDisk mid = c.remove_batch.ensures.clean clean in
    let before = looks.clean still in
    let here = looks.same still rows (first.same before rows was) in
    let numbers = c.deref-2.ensures.value ∙ first.read before rows was in
    let links = c.deref-3.ensures.value ∙ looks.read still rows (first.same before rows was) has in
    let same = c.deref.ensures.value ∙ sym c.deref-2.ensures.value in
    c.remove_batch.ensures.crash clean rows here has unclosed
    (numbers_aside mid c.args.batch c.deref-2.result.now rows here unclosed numbers)
    (subst (λ ns. AreOf ns c.deref-3.result.now) same
    (subst (AreOf c.deref.result.now) (sym links) (are_from c.deref.result.now rows.links)))
