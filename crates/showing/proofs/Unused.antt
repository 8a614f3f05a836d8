-- Numbers that are in no list: sets of numbers, and the numbers from one on.
use Rattle.std.proofs.Common.{
  ◌≡◌,
  ◌+◌,
  ◌∙◌,
  ◌∷◌,
  [],
  ℕ,
  suc,
  zero,
  List,
  Bool,
  true,
  false,
  cond,
  add-one,
  arith,
  ap,
  refl,
  sym,
}
use Rattle.std.specs.Prelude.{◌||◌, ◌==◌, ◌++◌}
use Rattle.std.specs.BTreeMap.{is_at}
use Rattle.std.specs.BTreeSet as set
use Rattle.std.specs.BTreeSet.{BTreeSet}
use Rattle.std.specs.Cmp.{unsigned_tied}
use Rattle.std.specs.List.{filter, range_with_len}
use Rattle.std.specs.Ordering.{nat_cmp}
use Rattle.std.proofs.lemmas.List.Elements.{filter-append}

or_no : (b : Bool) → b ≡ (b || false)
or_no true = refl
or_no false = refl

one : (b c : Bool) → cond b true c ≡ (c || b)
one true true = refl
one true false = refl
one false c = or_no c

-- one more number is there
pub one_put : (before after : BTreeSet ℕ) (k : ℕ)
    → ((q : ℕ) → set.contains nat_cmp after q ≡ cond (is_at (nat_cmp k) q) true (set.contains nat_cmp before q))
    → (n : ℕ) → set.contains nat_cmp after n ≡ (set.contains nat_cmp before n || k == n)
one_put before after k h n =
    h n ∙ ap (λ b. cond b true (set.contains nat_cmp before n)) (unsigned_tied k n)
    ∙ one (k == n) (set.contains nat_cmp before n)

range_more : (a i : ℕ) → range_with_len a (suc i) ≡ range_with_len a i ++ (a + i) ∷ []
range_more a zero = let same : a ≡ a + 0 = omega arith in ap (λ x. x ∷ []) same
range_more a (suc i) =
    let same : (a + 1) + i ≡ a + suc i = omega arith in
    ap (λ xs. a ∷ xs) (range_more (a + 1) i ∙ ap (λ x. range_with_len (a + 1) i ++ x ∷ []) same)

-- one more of the numbers from the first on
pub next_free : (p : ℕ → Bool) (a i : ℕ) (old new : List ℕ) → new ≡ old ++ filter p ((a + i) ∷ [])
    → old ≡ filter p (range_with_len a i) → new ≡ filter p (range_with_len a (i + 1))
next_free p a i old new e is =
    e ∙ ap (λ xs. xs ++ filter p ((a + i) ∷ [])) is
    ∙ sym (ap (λ k. filter p (range_with_len a k)) (add-one i) ∙ ap (filter p) (range_more a i)
    ∙ filter-append p (range_with_len a i) ((a + i) ∷ []))
