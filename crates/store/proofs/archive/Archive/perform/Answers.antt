use Rattle.std.proofs.Common.{ap, refl, subst, sym, [], ◌∷◌, ◌∙◌, None}
use Rattle.store.specs.Lives.{IsCall}
use Rattle.store.specs.Histories.{has_failed}
use Rattle.store.specs.Standing.{asked_by, standing}
use Rattle.store.proofs.Called.{heard_all, no_import, ready_call, still_call, unheard_lost}
use Rattle.store.proofs.Committed.{unless_failed}
use Rattle.store.proofs.archive.Archive.perform.Goals as goal

pub returns-then-self-clause-called : goal.returns-then-self-clause-called
returns-then-self-clause-called g c r =
    let was = c.args.self.now in
    still_call g.S.Store _ _ _ _ _ (unheard_lost was.is_lost was.import _ c.if-self.true) refl refl

pub returns-clause-called : goal.returns-clause-called
returns-clause-called g c r =
    let was = c.args.self.now in
    let outcome = c.perform_on-outcome.result in
    let next = c.perform_on-outcome.new.archive.conn in
    let calls = (c.args.request.now, outcome) ∷ [] in
    let none = no_import was.import (sym c.is_some.ensures ∙ c.if-is_some.false) in
    let before = standing r was.is_lost was.import in
    let after = standing r c.has_failed-self.result None in
    subst (λ calls. IsCall g.S.Store was.conn before calls next after)
    (sym (heard_all was.is_lost was.import calls c.if-self.false none))
    (ready_call g.S.Store was.conn next before after calls c.if-self.false (ap (asked_by r) none) refl
    (λ sure. unless_failed (has_failed outcome) c.args.request.now (sym c.has_failed-self.ensures ∙ sure))
    c.perform_on-outcome.ensures.performs)

pub returns-clause-quiet : goal.returns-clause-quiet
returns-clause-quiet g c clean kept = c.perform_on-outcome.ensures.quiet clean

pub returns-clause-together : goal.returns-clause-together
returns-clause-together g c clean free keeps = c.perform_on-outcome.ensures.together clean keeps
