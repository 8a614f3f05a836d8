use Rattle.std.proofs.Common.{◌≡◌, Ok, inr, refl, rules, subst, sym, true}
use Rattle.std.proofs.lemmas.Result.{IfErr-weaker, IfOk-weaker}
use Rattle.expected_answers.specs.Expected.{left}
use Rattle.archive_input.proofs.Refused.{refused_shut}
use Rattle.archive_input.specs.Applying.{Steps}
use Rattle.expected_rows.proofs.Answered.{foreseeing_ended}
use Rattle.expected_rows.proofs.Foretold.{does_foretold}
use Rattle.expected_rows.proofs.Looked.{steps_after}
use Rattle.expected_rows.specs.Expecting.{is_expected}
use Rattle.expected_rows.specs.Meeting.{PerformsExpected}
use Rattle.expected_rows.specs.declared.meeting.Met.{Met}
use Rattle.expected_rows.proofs.meeting.perform_expected.Goals as goal

pub returns-clause-performs : goal.returns-clause-performs
returns-clause-performs g c =
    let r = c.args.request in
    let old = c.args.archive.now in
    let mid = c.foresee.new.archive in
    let new = c.perform-outcome.new.self in
    let did = c.perform-outcome.ensures in
    let looked = c.in-Ok.ensures.foresees.looked in
    let steps : Steps g.S.Store (Ok (r, c.perform-outcome.result)) mid new =
    (did.performs, did.lost, refused_shut g.S.Store mid new r c.perform-outcome.result did.reopen did.waits)
    in
    IfOk-weaker c.finish.result _ _ (λ what h. subst (λ (m : Met). PerformsExpected g.S.Store r (left c.args.still.now)
    (left c.finish.new.still) old new (g.W.Write.contents c.args.output.now) (g.W.Write.contents c.finish.new.output) m)
    (sym h.1) (
      c.perform-outcome.result,
      steps_after g.S.Store old mid new looked (r, c.perform-outcome.result) steps,
      h.0,
      h.2,
      refl,
      h.3,
      h.4,
    )) c.finish.ensures.answered

pub returns-clause-ended : goal.returns-clause-ended
returns-clause-ended g c =
    let r = c.args.request in
    let old = c.args.archive.now in
    let mid = c.foresee.new.archive in
    let new = c.perform-outcome.new.self in
    let did = c.perform-outcome.ensures in
    let seen = c.in-Ok.ensures.foresees in
    let o = c.perform-outcome.result in
    let steps : Steps g.S.Store (Ok (r, o)) mid new =
    (did.performs, did.lost, refused_shut g.S.Store mid new r o did.reopen did.waits) in
    let expected : is_expected (left c.args.still.now) (Ok (r, c.in-Ok.foreseen)) ≡ true = search rules in
    IfErr-weaker c.finish.result _ _ (λ kind h. inr (
      o,
      steps_after g.S.Store old mid new seen.looked (r, o) steps,
      h,
      does_foretold g.S.Store (left c.args.still.now) r c.in-Ok.foreseen o old mid new seen expected steps,
    )) c.finish.ensures.ended

pub returns-in-Err-clause-ended : goal.returns-in-Err-clause-ended
returns-in-Err-clause-ended g c =
    foreseeing_ended g.S.Store c.args.request c.args.archive.now c.foresee.new.archive (left c.args.still.now)
    (g.W.Write.contents c.args.output.now) c.in-Err.kind c.in-Err.ensures.ended
