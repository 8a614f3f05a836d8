use Rattle.std.proofs.Common.{◌∙◌, sym, subst, w32}
use Rattle.std.specs.Prelude.{ℤ}
use Rattle.std.proofs.lemmas.Int.{to_z-of_z}
use Rattle.masking.specs.Judged.{KnowsLiving}
use Rattle.masking.proofs.asking.living.Goals as goal

pub returns-clause-told : goal.returns-clause-told
returns-clause-told c =
    let known = subst (λ (t : ℤ). KnowsLiving c.args.state.now.records t c.in_ok-found.found)
    (to_z-of_z w32 c.args.today c.ranges.today) c.in_ok-found.ensures in (
      λ e. (known c.args.person).0 (sym c.contains.ensures ∙ e),
      λ l. c.contains.ensures ∙ (known c.args.person).1 l,
    )
