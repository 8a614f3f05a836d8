use Rattle.std.proofs.Common.{◌≡◌, ◌-◌, ℕ, ◌∙◌, sym, ap, true, false, get_or, drop, arith}
use Rattle.std.specs.Ordering.{nat_cmp}
use Rattle.std.specs.BTreeSet.{contains}
use Rattle.std.proofs.lemmas.Bool.Decides.{Decides-at}
use Rattle.record_rules.specs.Judged.{is_once}
use Rattle.record_rules.proofs.Once.{is_twice, one_behind, still_once}
use Rattle.record_rules.proofs.Parts.{once}
use Rattle.record_rules.proofs.families.is_each_once.Goals as goal

pub returns-then-not-branch : goal.returns-then-not-branch
returns-then-not-branch c =
    let x : ℕ = get_or c.args.numbers.now (c.numbers.left - 1) 0 in
    Decides-at false (is_once c.args.numbers.now)
    (sym (is_twice c.args.numbers.now c.numbers.left (omega (arith, c.numbers-test.true)) c.numbers.invariant.within
    (contains nat_cmp c.numbers.behind x) (c.numbers.invariant.behind x)
    (sym c.in_ok-add.ensures.new ∙ c.if-not-branch.true)))
    (once c.args.numbers.now)

pub numbers-preserved : goal.numbers-preserved
numbers-preserved c =
    let x : ℕ = get_or c.args.numbers.now (c.numbers.left - 1) 0 in
    record {
      within = omega (arith, c.numbers.invariant.within);
      once = still_once c.args.numbers.now c.numbers.left (omega (arith, c.numbers-test.true))
          c.numbers.invariant.within (contains nat_cmp c.numbers.behind x) (c.numbers.invariant.behind x)
          (sym c.in_ok-add.ensures.new ∙ c.if-not-branch.false) c.numbers.invariant.once;
      behind = λ n. one_behind c.args.numbers.now c.numbers.left (omega (arith, c.numbers-test.true))
          c.numbers.invariant.within n _ _ (c.in_ok-add.ensures.added n) (c.numbers.invariant.behind n);
    }

pub returns : goal.returns
returns c =
    let none_left : 0 ≡ c.numbers.left = omega (arith, c.numbers-test.false) in
    Decides-at true (is_once c.args.numbers.now)
    (sym (ap (λ i. is_once (drop i c.args.numbers.now)) none_left ∙ c.numbers.invariant.once))
    (once c.args.numbers.now)
