-- A text made normal has no byte that the text has not, but for commas and spaces.
use Rattle.std.proofs.Common.{
  ◌≡◌,
  ℕ,
  ◌≤◌,
  List,
  [],
  ◌∷◌,
  ◌++◌,
  length,
  map,
  Bool,
  true,
  false,
  ◌==◌,
  cond,
  refl,
  sym,
  ap,
  ◌∙◌,
  subst,
  arith,
}
use Rattle.std.specs.Prelude.{if◌then◌else◌, ◌&&◌, codes, nat_le}
use Rattle.std.specs.List.{list_any, onto_first}
use Rattle.std.proofs.lemmas.Bool.Decides.{nat_tests}
use Rattle.record_text.specs.Text.{IsPlain}
use Rattle.record_shapes.specs.Paths.{from_word, backwards, trimmed, parts, joined, normal, is_within_limits}
use Rattle.list_laws.proofs.Booleans.{or_first, or_none, or_second}
use Rattle.record_shapes.proofs.PathTexts.{parts_some}

module _ (p : ℕ → Bool) where
  any_both : (xs ys : List ℕ) → list_any p xs ≡ false → list_any p ys ≡ false → list_any p (xs ++ ys) ≡ false
  any_both [] ys h k = k
  any_both (x ∷ xs) ys h k = or_none (p x) (list_any p (xs ++ ys)) (or_first (p x) (list_any p xs) h)
      (any_both xs ys (or_second (p x) (list_any p xs) h) k)

  any_word : (xs : List ℕ) → list_any p xs ≡ false → list_any p (from_word xs) ≡ false
  any_word [] h = refl
  any_word (x ∷ xs) h = elim (x == 32) as (λ b. list_any p (if b then from_word xs else x ∷ xs) ≡ false) [
    | true ↦ any_word xs (or_second (p x) (list_any p xs) h)
    | false ↦ h
  ]

  any_back : (xs : List ℕ) → list_any p xs ≡ false → list_any p (backwards xs) ≡ false
  any_back [] h = refl
  any_back (x ∷ xs) h = any_both (backwards xs) (x ∷ []) (any_back xs (or_second (p x) (list_any p xs) h))
      (or_none (p x) false (or_first (p x) (list_any p xs) h) refl)

  any_trimmed : (xs : List ℕ) → list_any p xs ≡ false → list_any p (trimmed xs) ≡ false
  any_trimmed xs h = any_back (from_word (backwards (from_word xs)))
      (any_word (backwards (from_word xs)) (any_back (from_word xs) (any_word xs h)))

  -- no part has such a byte
  abbrev AreFree : List (List ℕ) → Type 0
  AreFree [] = Unit {0}
  AreFree (y ∷ ys) = (list_any p y ≡ false) × AreFree ys

  free_onto : (x : ℕ) (ps : List (List ℕ)) (y : List ℕ) (ys : List (List ℕ)) → ps ≡ y ∷ ys → p x ≡ false → AreFree ps
      → AreFree (onto_first x ps)
  free_onto x ps y ys e h k =
      let there : AreFree (y ∷ ys) = subst AreFree e k in
      subst (λ l. AreFree (onto_first x l)) (sym e) (or_none (p x) (list_any p y) h there.0, there.1)

  free_parts : (t : List ℕ) → list_any p t ≡ false → AreFree (parts t)
  free_parts [] h = (refl, tt)
  free_parts (x ∷ xs) h =
      let s = parts_some xs in
      let more : AreFree (parts xs) = free_parts xs (or_second (p x) (list_any p xs) h) in
      elim (x == 44) as (λ b. AreFree (cond b ([] ∷ parts xs) (onto_first x (parts xs)))) [
        | true ↦ (refl, more)
        | false ↦ free_onto x (parts xs) s.0 s.1 s.2 (or_first (p x) (list_any p xs) h) more
      ]

  free_trimmed : (ps : List (List ℕ)) → AreFree ps → AreFree (map trimmed ps)
  free_trimmed [] h = tt
  free_trimmed (y ∷ ys) h = (any_trimmed y h.0, free_trimmed ys h.1)

  any_joined : (ps : List (List ℕ)) → list_any p (codes ", ") ≡ false → AreFree ps → list_any p (joined ps) ≡ false
  any_joined [] c h = refl
  any_joined (y ∷ []) c h = h.0
  any_joined (y ∷ (z ∷ zs)) c h = any_both y (codes ", " ++ joined (z ∷ zs)) h.0
      (any_both (codes ", ") (joined (z ∷ zs)) c (any_joined (z ∷ zs) c h.1))

  any_normal : (t : List ℕ) → list_any p (codes ", ") ≡ false → list_any p t ≡ false → list_any p (normal t) ≡ false
  unfolding normal
  any_normal t c h = any_joined (map trimmed (parts t)) c (free_trimmed (parts t) (free_parts t h))

within_bytes : (path : List ℕ) → is_within_limits path ≡ true → length path ≤ 4096
unfolding is_within_limits
within_bytes path e = bound (length (parts path)) (length path) e
  where
    bound : (n m : ℕ) → (nat_le n 32 && nat_le m 4096) ≡ true → m ≤ 4096
    bound n m e = grind (arith, nat_tests)

pub name_is_plain : (t name : List ℕ) (b : Bool) → name ≡ normal t → IsPlain t → b ≡ is_within_limits name → b ≡ true
    → IsPlain name
name_is_plain t name b e plain is h =
    let short : length name ≤ 4096 = within_bytes name (sym is ∙ h) in record {
      no_nul = ap (list_any (λ b. b == 0)) e ∙ any_normal (λ b. b == 0) t refl plain.no_nul;
      no_cr = ap (list_any (λ b. b == 13)) e ∙ any_normal (λ b. b == 13) t refl plain.no_cr;
      short = omega arith;
    }
