-- Numbers that are taken from the last on, each looked for among those after it.
use Rattle.std.proofs.Common.{
  ◌≡◌,
  ℕ,
  zero,
  suc,
  ◌+◌,
  ◌-◌,
  ◌<◌,
  ◌≤◌,
  ◌==◌,
  List,
  [],
  ◌∷◌,
  length,
  drop,
  get_or,
  Bool,
  true,
  false,
  not,
  ◌&&◌,
  ◌||◌,
  sym,
  ap,
  ◌∙◌,
  arith,
}
use Rattle.std.specs.List.{list_any}
use Rattle.std.proofs.lemmas.List.{drop_more}
use Rattle.record_rules.specs.Judged.{is_once}
use Rattle.list_laws.proofs.Booleans.{and_never}

one_down : (ns : List ℕ) (left : ℕ) → 0 < left → left ≤ length ns
    → drop (left - 1) ns ≡ get_or ns (left - 1) 0 ∷ drop left ns
one_down ns left some within =
    let same : (left - 1) + 1 ≡ left = omega arith in
    drop_more ns (left - 1) 0 (omega arith) ∙ ap (λ i. get_or ns (left - 1) 0 ∷ drop i ns) same

-- what is twice among the last is twice
among_last : (ns : List ℕ) (i : ℕ) → is_once (drop i ns) ≡ false → is_once ns ≡ false
among_last [] zero h = h
among_last [] (suc i) h = h
among_last (n ∷ ns) zero h = h
among_last (n ∷ ns) (suc i) h = ap (λ b. not (list_any (λ m. m == n) ns) && b) (among_last ns i h) ∙ and_never _

module _ (ns : List ℕ) (left : ℕ) (some : 0 < left) (within : left ≤ length ns) where
  first_of : is_once (drop (left - 1) ns) ≡ (not (list_any (λ m. m == get_or ns (left - 1) 0) (drop left ns))
      && is_once (drop left ns))
  first_of = ap is_once (one_down ns left some within)

  pub is_twice : (has : Bool) → has ≡ list_any (λ m. m == get_or ns (left - 1) 0) (drop left ns) → not has ≡ false
      → is_once ns ≡ false
  is_twice has is no_new = among_last ns (left - 1)
      (first_of ∙ ap (λ b. not b && is_once (drop left ns)) (sym is) ∙ ap (λ b. b && is_once (drop left ns)) no_new)

  pub still_once : (has : Bool) → has ≡ list_any (λ m. m == get_or ns (left - 1) 0) (drop left ns) → not has ≡ true
      → is_once (drop left ns) ≡ true → is_once (drop (left - 1) ns) ≡ true
  still_once has is new before = first_of ∙ ap (λ b. not b && is_once (drop left ns)) (sym is)
      ∙ ap (λ b. b && is_once (drop left ns)) new ∙ before

  pub one_behind : (n : ℕ) (after before : Bool) → after ≡ (get_or ns (left - 1) 0 == n || before)
      → before ≡ list_any (λ m. m == n) (drop left ns) → after ≡ list_any (λ m. m == n) (drop (left - 1) ns)
  one_behind n after before is was = is ∙ ap (λ b. get_or ns (left - 1) 0 == n || b) was
      ∙ sym (ap (list_any (λ m. m == n)) (one_down ns left some within))
