-- The entries of a map whose keys are numbers: they rise, and each is what stands under its number.
use Rattle.std.specs.Prelude.{
  ℕ,
  ◌≡◌,
  ◌<◌,
  ◌==◌,
  ◌||◌,
  nat_lt,
  Bool,
  true,
  false,
  cond,
  List,
  [],
  ◌∷◌,
  map,
  Option,
  Some,
  None,
  refl,
  T,
}
use Rattle.std.specs.List.{filter}
use Rattle.std.specs.FinMap.{FinMap, find, is_sorted, get, entries, get-entries, entries_sorted}
use Rattle.std.specs.FinMap.Entries.{below_all}
use Rattle.std.specs.Cmp.{ranked}
use Rattle.std.specs.Ordering.{nat_cmp, is_lt, is_eq}
use Rattle.std.specs.declared.cmp.Ordering.TheVariants.{Less, Equal, Greater}
use Rattle.std.proofs.Common.{ap, sym, ◌∙◌, arith}
use Rattle.std.proofs.lemmas.Bool.{eqb-true}
use Rattle.std.proofs.lemmas.Bool.Decides.{nat_tests}
use Rattle.record_shapes.specs.Lists.{EachOf, IsOnce, Ascends}
use Rattle.archive_state.proofs.Rising.{less_is}
use Rattle.round_trip.proofs.Listed.{other_way}
use Rattle.record_shapes.proofs.Each.{each_more, has, once_ascending}
use Rattle.list_laws.proofs.Booleans.{first_holds, rest_holds, neither, true_not_false}
use Rattle.list_laws.proofs.Numbers.{same_self}

pub ties : (n k : ℕ) → is_eq (nat_cmp n k) ≡ (k == n)
ties n k = by (k == n) refl
  where
    by : (b : Bool) → (k == n) ≡ b → is_eq (cond (nat_lt n k) Less (cond (n == k) Equal Greater)) ≡ b
    by true e =
        let a : nat_lt n k ≡ false = grind (arith, nat_tests) in
        let b : (n == k) ≡ true = grind (arith, nat_tests) in
        rw (a, b)
    by false e =
        let b : (n == k) ≡ false = other_way k n e in
        elim (nat_lt n k) as (λ c. is_eq (cond c Less (cond (n == k) Equal Greater)) ≡ false) [
          | true ↦ refl
          | false ↦ ap (λ c. is_eq (cond c Equal Greater)) b
        ]

module _ {X : Type 0} where
  abbrev pub keys : List (ℕ × X) → List ℕ
  keys es = map (λ (e : ℕ × X). e.0) es

  below_keys : (k : ℕ) (es : List (ℕ × X)) → T (below_all nat_cmp k es) → EachOf (λ j. k < j) (keys es)
  below_keys k [] h = tt
  below_keys k (e ∷ es) h = (
    ranked k e.0 Less (sym
        (less_is (nat_cmp k e.0) (first_holds (is_lt (nat_cmp k e.0)) (below_all nat_cmp k es) h))),
    below_keys k es (rest_holds (is_lt (nat_cmp k e.0)) (below_all nat_cmp k es) h),
  )

  rising_keys : (es : List (ℕ × X)) → T (is_sorted nat_cmp es) → Ascends (keys es)
  rising_keys [] h = tt
  rising_keys (e ∷ es) h = (
    below_keys e.0 es (first_holds (below_all nat_cmp e.0 es) (is_sorted nat_cmp es) h),
    rising_keys es (rest_holds (below_all nat_cmp e.0 es) (is_sorted nat_cmp es) h),
  )

  each_filtered : (Q : ℕ → Type 0) (test : ℕ × X → Bool) (es : List (ℕ × X)) → EachOf Q (keys es)
      → EachOf Q (keys (filter test es))
  each_filtered Q test [] h = tt
  each_filtered Q test (e ∷ es) h =
      elim (test e) as (λ b. EachOf Q (keys (cond b (e ∷ filter test es) (filter test es)))) [
        | true ↦ (h.0, each_filtered Q test es h.1)
        | false ↦ each_filtered Q test es h.1
      ]

  filter_rises : (test : ℕ × X → Bool) (es : List (ℕ × X)) → Ascends (keys es) → Ascends (keys (filter test es))
  filter_rises test [] h = tt
  filter_rises test (e ∷ es) h =
      elim (test e) as (λ b. Ascends (keys (cond b (e ∷ filter test es) (filter test es)))) [
        | true ↦ (each_filtered (λ j. e.0 < j) test es h.0, filter_rises test es h.1)
        | false ↦ filter_rises test es h.1
      ]

  -- ---- what stands under a number
  abbrev look : ℕ → List (ℕ × X) → Option X
  look n [] = None
  look n (e ∷ es) = cond (e.0 == n) (Some e.1) (look n es)

  find_look : (n : ℕ) (es : List (ℕ × X)) → find nat_cmp n es ≡ look n es
  find_look n [] = refl
  find_look n (e ∷ es) = λ i. cond (ties n e.0 i) (Some e.1) (find_look n es i)

  look_there : (n : ℕ) (x : X) (es : List (ℕ × X)) → look n es ≡ Some x → has n (keys es) ≡ true
  look_there n x [] h = absurd cc
  look_there n x (e ∷ es) h =
      elim (e.0 == n) as (λ b. cond b (Some e.1) (look n es) ≡ Some x → (b || has n (keys es)) ≡ true) [
        | true ↦ λ g. refl
        | false ↦ λ g. look_there n x es g
      ] h

  look_behind : (e : ℕ × X) (es fs : List (ℕ × X)) → has e.0 (keys fs) ≡ false
      → EachOf (λ f. look f.0 es ≡ Some f.1) fs
      → EachOf (λ f. look f.0 (e ∷ es) ≡ Some f.1) fs
  look_behind e es [] n h = tt
  look_behind e es (f ∷ fs) n h =
      let both : ((f.0 == e.0) ≡ false) × (has e.0 (keys fs) ≡ false) = neither (f.0 == e.0) (has e.0 (keys fs)) n in
      (ap (λ b. cond b (Some e.1) (look f.0 es)) (other_way f.0 e.0 both.0) ∙ h.0, look_behind e es fs both.1 h.1)

  look_own : (es : List (ℕ × X)) → IsOnce (keys es) → EachOf (λ e. look e.0 es ≡ Some e.1) es
  look_own [] h = tt
  look_own (e ∷ es) h =
      (ap (λ b. cond b (Some e.1) (look e.0 es)) (same_self e.0), look_behind e es es h.0 (look_own es h.1))

  -- ---- of a map
  module _ (m : FinMap nat_cmp X) where
    abbrev pub Stands : ℕ × X → Type 0
    Stands e = get m e.0 ≡ Some e.1

    look_get : (n : ℕ) → get m n ≡ look n (entries m)
    look_get n = get-entries m n ∙ find_look n (entries m)

    pub some_rise : (test : ℕ × X → Bool) → Ascends (keys (filter test (entries m)))
    some_rise test = filter_rises test (entries m) (rising_keys (entries m) (entries_sorted m))

    pub entries_once : IsOnce (keys (entries m))
    entries_once = once_ascending (keys (entries m)) (rising_keys (entries m) (entries_sorted m))

    pub entries_stand : EachOf Stands (entries m)
    entries_stand = each_more (λ e. look e.0 (entries m) ≡ Some e.1) Stands (λ e h. look_get e.0 ∙ h) (entries m)
        (look_own (entries m) (once_ascending (keys (entries m)) (rising_keys (entries m) (entries_sorted m))))

    pub entries_have : (n : ℕ) (x : X) → get m n ≡ Some x → has n (keys (entries m)) ≡ true
    entries_have n x h = look_there n x (entries m) (sym (look_get n) ∙ h)

    pub same_entry : (n : ℕ) (x : X) (e : ℕ × X) → get m n ≡ Some x → Stands e → (e.0 == n) ≡ true → e.1 ≡ x
    same_entry n x e g h i = let same : e.0 ≡ n = eqb-true e.0 n i in
        let two : Some e.1 ≡ Some x = sym h ∙ ap (get m) same ∙ g in cc

    -- an entry of which a test is true stands among those of which it is
    any_step : (n : ℕ) (test : ℕ × X → Bool) (e : ℕ × X) (es : List (ℕ × X)) (b c : Bool) → (e.0 == n) ≡ b
        → test e ≡ c
        → ((e.0 == n) ≡ true → test e ≡ true)
        → ((e.0 == n) || has n (keys es)) ≡ true → (has n (keys es) ≡ true → has n (keys (filter test es)) ≡ true)
        → has n (keys (filter test (e ∷ es))) ≡ true
    any_step n test e es true true i j f g rest = rw (j, i)
    any_step n test e es false true i j f g rest = rw (j, i) (rest (ap (λ b. b || has n (keys es)) (sym i) ∙ g))
    any_step n test e es true false i j f g rest = absurd (true_not_false (sym (f i) ∙ j))
    any_step n test e es false false i j f g rest = rw j (rest (ap (λ b. b || has n (keys es)) (sym i) ∙ g))

    any_filter : (n : ℕ) (test : ℕ × X → Bool) (es : List (ℕ × X))
        → ((e : ℕ × X) → Stands e → (e.0 == n) ≡ true → test e ≡ true) → EachOf Stands es → has n (keys es) ≡ true
        → has n (keys (filter test es)) ≡ true
    any_filter n test [] f h g = g
    any_filter n test (e ∷ es) f h g = any_step n test e es (e.0 == n) (test e) refl refl (f e h.0) g
        (λ k. any_filter n test es f h.1 k)

    pub some_have : (n : ℕ) (x : X) (test : ℕ × X → Bool) → get m n ≡ Some x → ((e : ℕ × X) → e.1 ≡ x → test e ≡ true)
        → has n (keys (filter test (entries m))) ≡ true
    some_have n x test g f = any_filter n test (entries m) (λ e h i. f e (same_entry n x e g h i)) entries_stand
        (entries_have n x g)
