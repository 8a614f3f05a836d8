use Rattle.std.proofs.Common.{◌∙◌, ap, subst, rules, SFits, w32, w64}
use Rattle.std.specs.Prelude.{ℤ}
use Rattle.std.proofs.lemmas.Int.{to_z-of_z}
use Rattle.masking.specs.Life.{long_before}
use Rattle.masking.specs.Evidence.{IsOldEvent}
use Rattle.masking.specs.Sets.{Has}
use Rattle.masking.specs.Telling.{IsTold}
use Rattle.masking.proofs.Life.{living_known}
use Rattle.masking.proofs.judgement.living_persons.Goals as goal

pub returns : goal.returns
returns c =
    let fits : SFits w64 c.long_before-day.result = search rules in
    living_known c.args.state.now.records c.args.today c.in_ok-dead.dead c.in_ok-old.old
    c.in_ok-partners.partners c.in_ok-living.living c.in_ok-dead.ensures
    (subst (λ (day : ℤ). Has c.in_ok-old.old (IsTold c.args.state.now.records (IsOldEvent day)))
    (to_z-of_z w64 c.long_before-day.result fits ∙ c.long_before-day.ensures
    ∙ ap long_before (to_z-of_z w32 c.args.today c.ranges.today)) c.in_ok-old.ensures)
    c.in_ok-partners.ensures c.in_ok-living.ensures
