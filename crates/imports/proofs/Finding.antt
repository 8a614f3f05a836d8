-- Where a place is found that is looked for by its path.
use Rattle.std.proofs.Common.{
  ◌≡◌,
  ◌⊎◌,
  ℕ,
  ◌+◌,
  zero,
  suc,
  ◌<◌,
  true,
  false,
  cond,
  nat_lt,
  List,
  [],
  ◌∷◌,
  refl,
  ap,
  ◌∙◌,
  inl,
  inr,
  arith,
}
use Rattle.std.specs.Prelude.{Option, Some, None, IfSome, option_map, bytes_eq, if◌then◌else◌}
use Rattle.std.proofs.lemmas.Bool.Decides.{nat_tests}
use Rattle.record_fields.specs.Bytes.{bytes_same}
use Rattle.record_shapes.specs.Forms.{is_some}
use Rattle.record_shapes.specs.Reading.{has_path}
use Rattle.import_definitions.specs.Numbers.{Found, Places, at_number, at_position, find, or_else, where_before}
use Rattle.import_definitions.specs.Positions.{path_at, position_of}
use Rattle.record_shapes.proofs.PathTexts.{path_has}

-- the position of a path has it
position_has : (path : List ℕ) (k : ℕ) (ps : List (Option (List ℕ))) (n : ℕ) → position_of path k ps ≡ Some n
    → (j : ℕ) × (n ≡ k + j) × (path_at ps j ≡ Some path)
position_has path k [] n e = absurd cc
position_has path k (p ∷ ps) n e =
    elim (has_path path p) as (λ b. has_path path p ≡ b → cond b (Some k) (position_of path (k + 1) ps) ≡ Some n
    → (j : ℕ) × (n ≡ k + j) × (path_at (p ∷ ps) j ≡ Some path)) [
      | true ↦ λ is f. let same : k ≡ n = cc in (zero, (let e : n ≡ k + zero = omega arith in e), path_has path p is)
      | false ↦ λ is f. let r = position_has path (k + 1) ps n f in
          let same : n ≡ (k + 1) + r.0 = r.1 in
          (suc r.0, (let e : n ≡ k + suc r.0 = omega arith in e), r.2)
    ] refl e

pub first_position_has : (path : List ℕ) (ps : List (Option (List ℕ))) (n : ℕ) → position_of path 0 ps ≡ Some n
    → path_at ps n ≡ Some path
first_position_has path ps n e =
    let r = position_has path 0 ps n e in
    let same : n ≡ r.0 = omega (arith, r.1) in
    ap (path_at ps) same ∙ r.2

before_is : (before found : Option ℕ) (j : ℕ) → where_before before found ≡ Some j
    → (found ≡ Some j) × IfSome before (λ k. j < k)
before_is None found j e = (e, tt)
before_is (Some k) None j e = absurd cc
before_is (Some k) (Some n) j e =
    elim (nat_lt n k) as (λ b. nat_lt n k ≡ b → cond b (Some n) None ≡ Some j → (Some n ≡ Some j) × (j < k)) [
      | true ↦ λ less f. let same : n ≡ j = cc in let low : n < k = grind (arith, nat_tests) in (f, omega arith)
      | false ↦ λ less f. absurd cc
    ] refl e

-- ---- where it is found: in the archive, in the file, or among the places made
abbrev pub IsFoundBy : Places → Option ℕ → (List ℕ → Option ℕ) → List ℕ → Found → Type 0
IsFoundBy w before made path f =
    ((n : ℕ) × (f ≡ at_number n) × (w.archive path ≡ Some n))
    ⊎ (((j : ℕ) × (f ≡ at_position j) × (w.file path ≡ Some j) × IfSome before (λ k. j < k))
    ⊎ ((n : ℕ) × (f ≡ at_number n) × (made path ≡ Some n)))

one_of_three : (a b c : Option ℕ) (f : Found)
    → or_else (option_map at_number a) (or_else (option_map at_position b) (option_map at_number c)) ≡ Some f
    → ((n : ℕ) × (f ≡ at_number n) × (a ≡ Some n))
    ⊎ (((j : ℕ) × (f ≡ at_position j) × (b ≡ Some j)) ⊎ ((n : ℕ) × (f ≡ at_number n) × (c ≡ Some n)))
one_of_three (Some n) b c f e = inl (n, (let s : f ≡ at_number n = cc in s), refl)
one_of_three None (Some j) c f e = inr (inl (j, (let s : f ≡ at_position j = cc in s), refl))
one_of_three None None (Some n) f e = inr (inr (n, (let s : f ≡ at_number n = cc in s), refl))
one_of_three None None None f e = absurd cc

pub found_by : (w : Places) (before : Option ℕ) (made : List ℕ → Option ℕ) (path : List ℕ) (f : Found)
    → find w before made path ≡ Some f → IsFoundBy w before made path f
found_by w before made path f e =
    elim (one_of_three (w.archive path) (where_before before (w.file path)) (made path) f e)
    as (λ _. IsFoundBy w before made path f) [
      | inl a ↦ inl a
      | inr r ↦ elim r as (λ _. IsFoundBy w before made path f) [
        | inl (j, is, at) ↦ let low = before_is before (w.file path) j at in inr (inl (j, is, low.0, low.1))
        | inr m ↦ inr (inr m)
      ]
    ]

-- ---- with more places made
some_else : {A : Type 0} (a b : Option A) → is_some b ≡ true → is_some (or_else a b) ≡ true
some_else None b e = e
some_else (Some x) b e = refl

else_more : {A : Type 0} (a b c : Option A) → (is_some b ≡ true → is_some c ≡ true) → is_some (or_else a b) ≡ true
    → is_some (or_else a c) ≡ true
else_more None b c f e = f e
else_more (Some x) b c f e = refl

mapped_more : {A B : Type 0} (g : A → B) (a b : Option A) → (is_some a ≡ true → is_some b ≡ true)
    → is_some (option_map g a) ≡ true → is_some (option_map g b) ≡ true
mapped_more g None b f e = absurd cc
mapped_more g (Some x) None f e = f refl
mapped_more g (Some x) (Some y) f e = refl

-- what was found is found
pub found_more : (w : Places) (before : Option ℕ) (path : List ℕ) (made more : List ℕ → Option ℕ)
    → (is_some (made path) ≡ true → is_some (more path) ≡ true) → is_some (find w before made path) ≡ true
    → is_some (find w before more path) ≡ true
found_more w before path made more grows e =
    else_more (option_map at_number (w.archive path)) _ _
    (else_more (option_map at_position (where_before before (w.file path))) _ _
    (mapped_more at_number (made path) (more path) grows)) e

-- a place that was made is found
pub found_made : (w : Places) (before : Option ℕ) (path : List ℕ) (made : List ℕ → Option ℕ) (n : ℕ)
    → is_some (find w before (λ p. if bytes_eq path p then Some n else made p) path) ≡ true
found_made w before path made n =
    some_else (option_map at_number (w.archive path)) _
    (some_else (option_map at_position (where_before before (w.file path))) _
    (ap (λ b. is_some (option_map at_number (if b then Some n else made path))) (bytes_same path path refl)))
