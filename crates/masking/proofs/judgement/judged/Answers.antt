use Rattle.std.proofs.Common.{subst, w32}
use Rattle.std.specs.Prelude.{ℤ}
use Rattle.std.proofs.lemmas.Int.{to_z-of_z}
use Rattle.masking.specs.Evidence.{IsOpenEntry}
use Rattle.masking.specs.Judged.{KnowsLiving}
use Rattle.masking.specs.Sets.{Has}
use Rattle.masking.specs.Telling.{IsTold}
use Rattle.masking.proofs.Judging.{judged_is}
use Rattle.masking.proofs.judgement.judged.Goals as goal

pub returns : goal.returns
returns c =
    let today = to_z-of_z w32 c.args.today c.ranges.today in
    judged_is c.args.state.now.records c.args.today c.in_ok-living.living c.in_ok-silent.silent
    c.in_ok-open_entries.open_entries
    (subst (λ (t : ℤ). KnowsLiving c.args.state.now.records t c.in_ok-living.living) today c.in_ok-living.ensures)
    c.in_ok-silent.ensures
    (subst (λ (t : ℤ). Has c.in_ok-open_entries.open_entries
    (IsTold c.args.state.now.records (IsOpenEntry t c.in_ok-living.living))) today
    c.in_ok-open_entries.ensures)
