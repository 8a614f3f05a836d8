-- Who stands at a number of a pedigree, by who stands at half of it.
use Rattle.std.proofs.Common.{
  ◌≡◌,
  ℕ,
  zero,
  suc,
  ◌+◌,
  ◌*◌,
  ◌/◌,
  ◌%◌,
  ◌<◌,
  ◌≤◌,
  ◌++◌,
  ◌∷◌,
  [],
  List,
  length,
  get_or,
  Bool,
  true,
  false,
  inl,
  inr,
  ap,
  refl,
  sym,
  ◌∙◌,
  arith,
  add-one,
  append_assoc,
  length-append,
}
use Rattle.std.specs.Prelude.{◌==◌, if◌then◌else◌, Option, Some, None}
use Rattle.std.specs.Option.{option_and_then}
use Rattle.std.proofs.lemmas.Bool.{cases_lt}
use Rattle.std.proofs.lemmas.Bool.Decides.{nat_tests}
use Rattle.std.proofs.lemmas.List.{get_or_append_left}
use Rattle.std.proofs.Math.Seq.{get_or-append_seam}
use Rattle.record_fields.specs.declared.words.Partnership.{Partnership}
use Rattle.record_fields.specs.declared.words.Partnership.TheVariants as partnership
use Rattle.sheets.specs.Gathered.{Gathered}
use Rattle.sheets.specs.Pedigrees.{ancestor_in, line_at, lines_to, parent, side, stands_at, stands_by}

even_test : (n : ℕ) → ((2 * n) % 2 == 0) ≡ true
even_test n = grind (arith, nat_tests)

odd_test : (n : ℕ) → ((2 * n + 1) % 2 == 0) ≡ false
odd_test n = grind (arith, nat_tests)

even : (n : ℕ) → side (2 * n) ≡ partnership.Husband
even n = ap (λ (b : Bool). if b then partnership.Husband else partnership.Wife) (even_test n)

odd : (n : ℕ) → side (2 * n + 1) ≡ partnership.Wife
odd n = ap (λ (b : Bool). if b then partnership.Husband else partnership.Wife) (odd_test n)

half : (n a : ℕ) → n ≤ suc a → n / 2 ≤ a
half n a h = omega arith

module _ (g : Gathered) (s : ℕ) where
  none_at_0 : (steps : ℕ) → stands_by steps g s 0 ≡ None
  none_at_0 zero = refl
  none_at_0 (suc steps) = ap (option_and_then (parent g (side 0))) (none_at_0 steps)

  nobody : (n steps : ℕ) → n ≤ 0 → stands_by steps g s n ≡ None
  nobody n steps h = let is : n ≡ 0 = omega arith in rw is (none_at_0 steps)

  -- more steps than the number do not matter
  enough : (a b n : ℕ) → n ≤ a → n ≤ b → stands_by a g s n ≡ stands_by b g s n
  enough zero b n h k = sym (nobody n b h)
  enough (suc a) zero n h k = nobody n (suc a) k
  enough (suc a) (suc b) n h k =
      ap (λ (o : Option ℕ). if n == 1 then Some s else option_and_then (parent g (side n)) o)
      (enough a b (n / 2) (half n a h) (half n b k))

  pub stands_next : (n : ℕ) → 0 < n → stands_at g s n
      ≡ (if n == 1 then Some s else option_and_then (parent g (side n)) (stands_at g s (n / 2)))
  unfolding stands_at
  stands_next zero h = absurd (omega arith)
  stands_next (suc k) h =
      ap (λ (o : Option ℕ). if suc k == 1 then Some s else option_and_then (parent g (side (suc k))) o)
      (enough k (suc k / 2) (suc k / 2) (half (suc k) k (omega arith)) (omega arith))

  pub nobody_at_0 : stands_at g s 0 ≡ None
  unfolding stands_at
  nobody_at_0 = refl

  pub subject_at : stands_at g s 1 ≡ Some s
  unfolding stands_at
  subject_at = refl

  parent_at : (n m : ℕ) (w : Partnership) → 0 < n → (m == 1) ≡ false → m / 2 ≡ n → side m ≡ w → 0 < m
      → stands_at g s m ≡ option_and_then (parent g w) (stands_at g s n)
  parent_at n m w some more is of first =
      stands_next m first
      ∙ ap (λ (b : Bool). if b then Some s else option_and_then (parent g (side m)) (stands_at g s (m / 2))) more
      ∙ ap (λ (k : ℕ). option_and_then (parent g (side m)) (stands_at g s k)) is
      ∙ ap (λ (x : Partnership). option_and_then (parent g x) (stands_at g s n)) of

  pub father_at : (n : ℕ) → 0 < n
      → stands_at g s (2 * n) ≡ option_and_then (parent g partnership.Husband) (stands_at g s n)
  father_at n h = parent_at n (2 * n) partnership.Husband h (grind (arith, nat_tests)) (omega arith) (even n)
      (omega arith)

  pub mother_at : (n : ℕ) → 0 < n
      → stands_at g s (2 * n + 1) ≡ option_and_then (parent g partnership.Wife) (stands_at g s n)
  mother_at n h = parent_at n (2 * n + 1) partnership.Wife h (grind (arith, nat_tests)) (omega arith) (odd n)
      (omega arith)

  -- at each number from 0 to that one of the list stands who stands there
  pub record Stand (people : List (Option ℕ)) (last : ℕ) : Type 0 where
    pub counted : length people ≡ last + 1
    pub each : (k : ℕ) → k ≤ last → get_or people k None ≡ stands_at g s k

  pub stand_first : (people : List (Option ℕ)) → people ≡ None ∷ [] → Stand people 0
  stand_first people is = record {
    counted = ap length is;
    each = λ k h. let at : k ≡ 0 = omega arith in rw (at, is) (sym nobody_at_0);
  }

  pub half_within : (people : List (Option ℕ)) (k : ℕ) → Stand people k → (k + 1) / 2 < length people
  half_within people k stand = omega (arith, stand.counted)

  module _ (people : List (Option ℕ)) (k : ℕ) (person : Option ℕ) (stand : Stand people k) where
    pub person_is : person ≡ (if k + 1 == 1 then Some s
        else option_and_then (parent g (side (k + 1))) (get_or people ((k + 1) / 2) None))
        → person ≡ stands_at g s (k + 1)
    person_is e = e
        ∙ ap (λ (o : Option ℕ). if k + 1 == 1 then Some s else option_and_then (parent g (side (k + 1))) o)
        (stand.each ((k + 1) / 2) (omega arith)) ∙ sym (stands_next (k + 1) (omega arith))

    each_next : person ≡ stands_at g s (k + 1) → (j : ℕ) → j ≤ k + 1
        → get_or (people ++ person ∷ []) j None ≡ stands_at g s j
    each_next is j h =
        let count : length people ≡ k + 1 = stand.counted in
        elim (cases_lt j (k + 1)) as (λ _. get_or (people ++ person ∷ []) j None ≡ stands_at g s j) [
          | inl less ↦ get_or_append_left people (person ∷ []) None j (omega arith) ∙ stand.each j (omega arith)
          | inr most ↦
              let at : j ≡ length people = omega arith in
              let last : k + 1 ≡ j = omega arith in
              ap (λ (i : ℕ). get_or (people ++ person ∷ []) i None) at ∙ get_or-append_seam people person [] None ∙ is
              ∙ ap (stands_at g s) last
        ]

    pub stand_next : (new : List (Option ℕ)) → new ≡ people ++ person ∷ [] → person ≡ stands_at g s (k + 1)
        → Stand new (k + 1)
    stand_next new made is = record {
      counted = ap length made ∙ length-append people (person ∷ []) ∙ ap (λ (n : ℕ). n + 1) stand.counted;
      each = λ j h. ap (λ (xs : List (Option ℕ)). get_or xs j None) made ∙ each_next is j h;
    }

  one_more : (k : ℕ) → lines_to (line_at g s) (k + 1) ≡ lines_to (line_at g s) k ++ line_at g s (k + 1)
  one_more k = rw add-one refl

  -- the line of one more number is appended
  pub text_next : (old out new : List ℕ) (k : ℕ) (person : Option ℕ) → person ≡ stands_at g s (k + 1)
      → new ≡ out ++ ancestor_in g (k + 1) person → out ≡ old ++ lines_to (line_at g s) k
      → new ≡ old ++ lines_to (line_at g s) (k + 1)
  text_next old out new k person is e before =
      e ∙ ap (λ (t : List ℕ). t ++ ancestor_in g (k + 1) person) before
      ∙ append_assoc old (lines_to (line_at g s) k) (ancestor_in g (k + 1) person)
      ∙ ap (λ (o : Option ℕ). old ++ (lines_to (line_at g s) k ++ ancestor_in g (k + 1) o)) is
      ∙ ap (λ (t : List ℕ). old ++ t) (sym (one_more k))
