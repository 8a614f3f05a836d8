-- The parts of the text of a path.
use Rattle.std.proofs.Common.{
  ◌==◌,
  refl,
  List,
  ap,
  ◌≡◌,
  ℕ,
  true,
  ◌∷◌,
  cond,
  [],
  false,
  ◌∙◌,
  ◌++◌,
  map,
  sym,
  ◌+◌,
  length,
  arith,
  suc,
}
use Rattle.std.specs.List.{onto_first, count_by}
use Rattle.std.proofs.lemmas.List.Splits.{length-slice_split}
use Rattle.std.proofs.lemmas.List.{length-append}
use Rattle.std.specs.Prelude.{codes, None, Some, Option}
use Rattle.record_shapes.specs.Paths.{parts, trimmed, joined}
use Rattle.list_laws.proofs.Bytes.{onto_both, onto_length}
use Rattle.record_shapes.specs.Fields.{path_below}
use Rattle.record_shapes.specs.Reading.{has_path}
use Rattle.record_fields.specs.Bytes.{bytes_are}

pub parts_some : (xs : List ℕ) → (y : List ℕ) × (ys : List (List ℕ)) × (parts xs ≡ y ∷ ys)
parts_some [] = ([], [], refl)
parts_some (x ∷ xs) = elim (x == 44) as (λ b. (y : List ℕ) × (ys : List (List ℕ))
    × (cond b ([] ∷ parts xs) (onto_first x (parts xs)) ≡ y ∷ ys)) [
      | true ↦ ([], parts xs, refl)
      | false ↦ let s = parts_some xs in (x ∷ s.0, s.1, ap (onto_first x) s.2)
    ]

pub parts_both : (xs ys : List ℕ) → parts (xs ++ (44 ∷ ys)) ≡ parts xs ++ parts ys
parts_both [] ys = refl
parts_both (x ∷ xs) ys =
    let s = parts_some xs in
    ap (λ l. cond (x == 44) ([] ∷ l) (onto_first x l)) (parts_both xs ys)
    ∙ elim (x == 44) as (λ b. cond b ([] ∷ (parts xs ++ parts ys)) (onto_first x (parts xs ++ parts ys))
    ≡ cond b ([] ∷ parts xs) (onto_first x (parts xs)) ++ parts ys) [
      | true ↦ refl
      | false ↦ onto_both x (parts xs) (parts ys) s.0 s.1 s.2
    ]

-- a space in front is none of a part
pub spaced : (ys : List (List ℕ)) (y : List ℕ) (more : List (List ℕ)) → ys ≡ y ∷ more
    → map trimmed (onto_first 32 ys) ≡ map trimmed ys
spaced ys y more e = ap (λ l. map trimmed (onto_first 32 l)) e ∙ sym (ap (map trimmed) e)

pub parts_behind_space : (ys : List ℕ) → map trimmed (parts (32 ∷ ys)) ≡ map trimmed (parts ys)
parts_behind_space ys = let s = parts_some ys in spaced (parts ys) s.0 s.1 s.2

pub count_is : (t : List ℕ) → length (parts t) ≡ count_by (λ b. b == 44) t + 1
count_is t = length-slice_split (λ b. b == 44) t

pub parts_below : (name above : List ℕ) → length (parts (path_below name above)) ≡ length (parts name)
    + length (parts above)
parts_below name above =
    let s = parts_some above in
    ap length (parts_both name (32 ∷ above)) ∙ length-append (parts name) (parts (32 ∷ above))
    ∙ ap (λ k. length (parts name) + k) (onto_length 32 (parts above) s.0 s.1 s.2)

pub bytes_below : (name above : List ℕ) → length (path_below name above) ≡ length name + (2 + length above)
bytes_below name above = length-append name (44 ∷ (32 ∷ above)) ∙ ap (λ k. length name + k) (two (length above))
  where
    two : (k : ℕ) → suc (suc k) ≡ 2 + k
    two k = omega arith

pub joined_two : (x : List ℕ) (ys : List (List ℕ)) (y : List ℕ) (more : List (List ℕ)) → ys ≡ y ∷ more
    → joined (trimmed x ∷ map trimmed ys) ≡ trimmed x ++ (codes ", " ++ joined (map trimmed ys))
joined_two x ys y more e = ap (λ l. joined (trimmed x ∷ map trimmed l)) e
    ∙ sym (ap (λ l. trimmed x ++ (codes ", " ++ joined (map trimmed l))) e)

pub path_has : (path : List ℕ) (o : Option (List ℕ)) → has_path path o ≡ true → o ≡ Some path
path_has path None e = absurd cc
path_has path (Some p) e = ap Some (bytes_are p path e)
