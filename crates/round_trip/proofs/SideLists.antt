-- The sides of one family among those of all, and the lines of one family among those of all sides.
use Rattle.std.specs.Prelude.{
  ℕ,
  ◌≡◌,
  ◌==◌,
  ◌||◌,
  ◌&&◌,
  Bool,
  true,
  false,
  cond,
  List,
  [],
  ◌∷◌,
  ◌++◌,
  map,
  Option,
  Some,
  None,
  option_map,
  bytes_eq,
  refl,
}
use Rattle.std.specs.List.{filter, flat_map}
use Rattle.std.proofs.Common.{ap, sym, ◌∙◌, append-nil, eqb}
use Rattle.std.proofs.lemmas.Bool.{eqb-true}
use Rattle.std.proofs.lemmas.List.Elements.{filter-append}
use Rattle.std.proofs.lemmas.List.Folds.{list_any-append}
use Rattle.stored_lines.specs.Tree.{Tree}
use Rattle.stored_lines.specs.Line.{Line}
use Rattle.record_kinds.specs.Model as model
use Rattle.record_kinds.specs.declared.record.Record.{Record}
use Rattle.record_kinds.specs.declared.record.Record.TheVariants as kind
use Rattle.record_shapes.specs.Forms.{is_some, number_of, tagged}
use Rattle.record_shapes.specs.Lists.{EachOf, IsOnce}
use Rattle.record_shapes.specs.Picking.{first}
use Rattle.record_shapes.specs.Shapes.{Side, side_line}
use Rattle.gedcom_export.specs.Around.{child_sides, partner_sides}
use Rattle.gedcom_export.specs.Order.{Numbered}
use Rattle.round_trip.proofs.Entries.{keys}
use Rattle.round_trip.proofs.Listed.{filter_under, other_way}
use Rattle.record_shapes.proofs.Each.{has}
use Rattle.list_laws.proofs.Booleans.{neither, or_right, true_not_false}
use Rattle.list_laws.proofs.Numbers.{same_self}

pub first_map : {A B : Type 0} (g : A → B) (xs : List A) → first (map g xs) ≡ option_map g (first xs)
first_map g [] = refl
first_map g (x ∷ xs) = refl

pub is_some_map : {A B : Type 0} (g : A → B) (o : Option A) → is_some (option_map g o) ≡ is_some o
is_some_map g None = refl
is_some_map g (Some a) = refl

-- ---- the lines of sides, of which one tag and one family are looked for
abbrev pub is_wanted_side : List ℕ → ℕ → Tree Line → Bool
is_wanted_side tag family t = tagged tag t && number_of t == family

pub pick_own : (tag : List ℕ) (j : ℕ) (ss : List Side) → bytes_eq tag tag ≡ true
    → filter (is_wanted_side tag j) (map (side_line tag) ss)
    ≡ map (side_line tag) (filter (λ (s : Side). s.family == j) ss)
pick_own tag j ss e = filter_under (side_line tag) (is_wanted_side tag j) (λ (s : Side). s.family == j) ss
    (λ (s : Side). ap (λ b. b && s.family == j) e)

filter_nothing : {A : Type 0} (p : A → Bool) (xs : List A) → ((x : A) → p x ≡ false) → filter p xs ≡ []
filter_nothing p [] h = refl
filter_nothing p (x ∷ xs) h = ap (λ b. cond b (x ∷ filter p xs) (filter p xs)) (h x) ∙ filter_nothing p xs h

pub pick_other : (tag other : List ℕ) (j : ℕ) (ss : List Side) → bytes_eq other tag ≡ false
    → filter (is_wanted_side tag j) (map (side_line other) ss) ≡ []
pick_other tag other j ss e =
    filter_under (side_line other) (is_wanted_side tag j) (λ (s : Side). false) ss
    (λ (s : Side). ap (λ b. b && s.family == j) e)
    ∙ ap (map (side_line other)) (filter_nothing (λ (s : Side). false) ss (λ s. refl))

pub filter_and : {A : Type 0} (p q : A → Bool) (xs : List A) → filter (λ x. p x && q x) xs ≡ filter q (filter p xs)
filter_and p q [] = refl
filter_and p q (x ∷ xs) =
    elim (p x) as (λ b. cond (b && q x) (x ∷ filter (λ y. p y && q y) xs) (filter (λ y. p y && q y) xs)
    ≡ filter q (cond b (x ∷ filter p xs) (filter p xs))) [
      | true ↦ (λ i. cond (q x) (x ∷ filter_and p q xs i) (filter_and p q xs i))
      | false ↦ filter_and p q xs
    ]

-- ---- one family among all
children_of : (k : ℕ) (cs : List model.Child)
    → EachOf (λ (s : Side). s.family ≡ k)
    (map (λ (c : model.Child). (let t : Side = record { family = k; carried = c.carried_by_person } in t)) cs)
children_of k [] = tt
children_of k (c ∷ cs) = (refl, children_of k cs)

partners_of : (k : ℕ) (cs : List model.Partner)
    → EachOf (λ (s : Side). s.family ≡ k)
    (map (λ (c : model.Partner). (let t : Side = record { family = k; carried = c.carried_by_person } in t)) cs)
partners_of k [] = tt
partners_of k (c ∷ cs) = (refl, partners_of k cs)

pub child_sides_of : (n : ℕ) (e : Numbered) → EachOf (λ (s : Side). s.family ≡ e.0) (child_sides n e)
child_sides_of n (k, kind.Family f) = children_of k (filter (λ (c : model.Child). c.person == n) f.children)
child_sides_of n (k, _) = tt

pub partner_sides_of : (n : ℕ) (e : Numbered) → EachOf (λ (s : Side). s.family ≡ e.0) (partner_sides n e)
partner_sides_of n (k, kind.Family f) = partners_of k (filter (λ (c : model.Partner). c.person == n) f.partners)
partner_sides_of n (k, _) = tt

module _ (f : ℕ → ℕ) (n : ℕ) (apart : (j : ℕ) → f j ≡ f n → j ≡ n) where
  abbrev is_one : Side → Bool
  is_one s = f s.family == f n

  sides_all : (k : ℕ) (ss : List Side) → k ≡ n → EachOf (λ (s : Side). s.family ≡ k) ss → filter is_one ss ≡ ss
  sides_all k [] e h = refl
  sides_all k (s ∷ ss) e h =
      let is : is_one s ≡ true = ap (λ j. f j == f n) (h.0 ∙ e) ∙ same_self (f n) in
      ap (λ b. cond b (s ∷ filter is_one ss) (filter is_one ss)) is
      ∙ ap (λ (us : List Side). s ∷ us) (sides_all k ss e h.1)

  sides_no : (k : ℕ) (ss : List Side) → (k == n) ≡ false → EachOf (λ (s : Side). s.family ≡ k) ss
      → filter is_one ss ≡ []
  sides_no k [] e h = refl
  sides_no k (s ∷ ss) e h =
      elim (eqb (f s.family) (f n)) as (λ b. eqb (f s.family) (f n) ≡ b
      → cond b (s ∷ filter is_one ss) (filter is_one ss) ≡ []) [
        | true ↦ λ i. let same : k ≡ n = sym h.0 ∙ apart s.family (eqb-true (f s.family) (f n) i) in
            absurd (true_not_false (sym (ap (λ j. j == n) same ∙ same_self n) ∙ e))
        | false ↦ λ i. sides_no k ss e h.1
      ] refl

  module _ (g : Numbered → List Side) (of_family : (e : Numbered) → EachOf (λ (s : Side). s.family ≡ e.0) (g e)) where
    flat_no : (es : List Numbered) → has n (keys es) ≡ false → filter is_one (flat_map g es) ≡ []
    flat_no [] h = refl
    flat_no (e ∷ es) h =
        let both : ((e.0 == n) ≡ false) × (has n (keys es) ≡ false) = neither (e.0 == n) (has n (keys es)) h in
        filter-append is_one (g e) (flat_map g es)
        ∙ (λ i. sides_no e.0 (g e) both.0 (of_family e) i ++ flat_no es both.1 i)

    -- of all sides those of the family
    pub sides_one : (r : Record) (es : List Numbered) → EachOf (λ (e : Numbered). e.0 ≡ n → e.1 ≡ r) es
        → IsOnce (keys es) → has n (keys es) ≡ true
        → filter is_one (flat_map g es) ≡ g (n, r)
    sides_one r [] s o h = absurd cc
    sides_one r (e ∷ es) s o h =
        filter-append is_one (g e) (flat_map g es)
        ∙ elim (eqb e.0 n) as (λ b. eqb e.0 n ≡ b → (b || has n (keys es)) ≡ true
        → filter is_one (g e) ++ filter is_one (flat_map g es) ≡ g (n, r)) [
          | true ↦ λ i k. let same : e.0 ≡ n = eqb-true e.0 n i in
              (λ j. sides_all e.0 (g e) same (of_family e) j
              ++ flat_no es (ap (λ q. has q (keys es)) (sym same) ∙ o.0) j)
              ∙ append-nil (g e) ∙ (λ j. g (same j, s.0 same j))
          | false ↦ λ i k. (λ j. sides_no e.0 (g e) i (of_family e) j ++ sides_one r es s.1 o.1 k j)
        ] refl h

-- ---- the first of a key, where none stands twice
module _ {A : Type 0} (key : A → ℕ) where
  first_behind : (x : A) (xs ys : List A) → has (key x) (map key ys) ≡ false
      → EachOf (λ y. first (filter (λ z. key z == key y) xs) ≡ Some y) ys
      → EachOf (λ y. first (filter (λ z. key z == key y) (x ∷ xs)) ≡ Some y) ys
  first_behind x xs [] n h = tt
  first_behind x xs (y ∷ ys) n h =
      let both : ((key y == key x) ≡ false) × (has (key x) (map key ys) ≡ false) =
      neither (key y == key x) (has (key x) (map key ys)) n in (
        ap (λ b. first (cond b (x ∷ filter (λ z. key z == key y) xs) (filter (λ z. key z == key y) xs)))
            (other_way (key y) (key x) both.0) ∙ h.0,
        first_behind x xs ys both.1 h.1,
      )

  pub first_own : (xs : List A) → IsOnce (map key xs)
      → EachOf (λ y. first (filter (λ z. key z == key y) xs) ≡ Some y) xs
  first_own [] h = tt
  first_own (x ∷ xs) h = (
    ap (λ b. first (cond b (x ∷ filter (λ z. key z == key x) xs) (filter (λ z. key z == key x) xs)))
        (same_self (key x)),
    first_behind x xs xs h.0 (first_own xs h.1),
  )

  -- where there is a first, the key is there
  pub first_has : (k : ℕ) (xs : List A) → is_some (first (filter (λ z. key z == k) xs)) ≡ true
      → has k (map key xs) ≡ true
  first_has k [] h = absurd (true_not_false (sym h))
  first_has k (x ∷ xs) h =
      elim (key x == k) as (λ b.
      is_some (first (cond b (x ∷ filter (λ z. key z == k) xs) (filter (λ z. key z == k) xs))) ≡ true
      → (b || has k (map key xs)) ≡ true) [
        | true ↦ λ g. refl
        | false ↦ λ g. first_has k xs g
      ] h

-- ---- lists without doubles, and mapped
pub once_parts : (a b : List ℕ) → IsOnce (a ++ b) → IsOnce a × IsOnce b
once_parts [] b h = (tt, h)
once_parts (x ∷ a) b h =
    let rest : IsOnce a × IsOnce b = once_parts a b h.1 in
    let e : (has x a || has x b) ≡ false = sym (list_any-append (λ m. m == x) a b) ∙ h.0 in
    (((neither (has x a) (has x b) e).0, rest.0), rest.1)

pub has_map : (f : ℕ → ℕ) (c : ℕ) (ks : List ℕ) → has c ks ≡ true → has (f c) (map f ks) ≡ true
has_map f c [] h = absurd cc
has_map f c (k ∷ ks) h =
    elim (eqb k c) as (λ b. eqb k c ≡ b → (b || has c ks) ≡ true → (f k == f c || has (f c) (map f ks)) ≡ true) [
      | true ↦ λ e g. ap (λ b. b || has (f c) (map f ks)) (ap (λ j. f j == f c) (eqb-true k c e) ∙ same_self (f c))
      | false ↦ λ e g. or_right (f k == f c) (has (f c) (map f ks)) (has_map f c ks g)
    ] refl h
