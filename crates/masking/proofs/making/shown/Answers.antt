use Rattle.std.proofs.Common.{◌∙◌, ap, subst, w32}
use Rattle.std.specs.Prelude.{ℤ}
use Rattle.std.specs.FinMap.{empty}
use Rattle.std.proofs.lemmas.Int.{to_z-of_z}
use Rattle.archive_state.specs.Content.{Content}
use Rattle.masking.proofs.Whole.{shown_sound}
use Rattle.masking.specs.Judged.{IsJudgement}
use Rattle.masking.proofs.Made.{masked_is}
use Rattle.masking.proofs.making.shown.Goals as goal

pub returns-clause-sound : goal.returns-clause-sound
returns-clause-sound c = λ sound.
    let j = c.in_ok-judgement.judgement in
    let is = subst (λ (t : ℤ). IsJudgement c.args.state.now.records t j.living j.silent j.open_entries)
    (to_z-of_z w32 c.args.today c.ranges.today) c.in_ok-judgement.ensures in
    shown_sound c.args.state.now c.args.today c.of_masked.result sound
    (masked_is c.args.state.now c.args.today j.living j.silent j.open_entries c.in_ok-masked.masked
    c.of_masked.result is (c.in_ok-masked.ensures is.silences)
    (c.of_masked.ensures
    ∙ ap (λ (s : Content). record s { receipts = empty; slips = empty }) c.set_next.ensures
    ∙ ap (λ n. record c.in_ok-masked.masked { next = n; receipts = empty; slips = empty }) c.next.ensures))
