-- The first line of units.
use Rattle.std.proofs.Common.{
  ◌≡◌,
  ◌∙◌,
  ◌+◌,
  ◌<◌,
  ◌++◌,
  ◌∷◌,
  [],
  Bool,
  List,
  ap,
  arith,
  cond,
  drop,
  false,
  length,
  length-drop,
  not,
  refl,
  suc,
  sym,
  take,
  true,
  zero,
  ℕ,
}
use Rattle.std.proofs.lemmas.List.{take-append-drop}
use Rattle.std.specs.List.{prefix_len}
use Rattle.character_sets.specs.Lines.{Line, is_body, is_ending, lines, onto_first, units_of}

pub none : (us : List ℕ) → length us < 1 → lines us ≡ []
unfolding lines
none [] h = refl
none (u ∷ us) h = absurd (omega (arith, h))

-- the lines of units that are cut after so many
abbrev pub cut_lines : ℕ → List ℕ → List Line
cut_lines n us = record { body = take n us; ending = take 1 (drop n us) } ∷ lines (drop 1 (drop n us))

at_end : (u : ℕ) (us : List ℕ) → is_ending u ≡ true → lines (u ∷ us) ≡ cut_lines 0 (u ∷ us)
unfolding lines
at_end u us e = ap (λ (b : Bool). cond b (record { body = []; ending = u ∷ [] } ∷ lines us) (onto_first u (lines us))) e

in_body : (u : ℕ) (us : List ℕ) → is_ending u ≡ false → lines (u ∷ us) ≡ onto_first u (lines us)
unfolding lines
in_body u us e =
    ap (λ (b : Bool). cond b (record { body = []; ending = u ∷ [] } ∷ lines us) (onto_first u (lines us))) e

last_of : (u m : ℕ) → m ≡ 0 → onto_first u [] ≡ cut_lines (suc m) (u ∷ [])
last_of u zero e = ap (λ ls. record { body = u ∷ []; ending = [] } ∷ ls) (sym (none [] (omega arith)))
last_of u (suc m) e = absurd (omega (arith, e))

ended : (u : ℕ) (n k : ℕ) → suc n ≡ cond (not (is_ending u)) (1 + k) 0 → (is_ending u ≡ false) × (n ≡ k)
ended u n k e = elim (is_ending u) as (λ b. is_ending u ≡ b → suc n ≡ cond (not b) (1 + k) 0
    → (is_ending u ≡ false) × (n ≡ k)) [
      | true ↦ λ is h. absurd (omega (arith, h))
      | false ↦ λ is h. (is, omega (arith, h))
    ] refl e

not_ended : (u k : ℕ) → 0 ≡ cond (not (is_ending u)) (1 + k) 0 → is_ending u ≡ true
not_ended u k e = elim (is_ending u) as (λ b. is_ending u ≡ b → 0 ≡ cond (not b) (1 + k) 0 → is_ending u ≡ true) [
  | true ↦ λ is h. is
  | false ↦ λ is h. absurd (omega (arith, h))
] refl e

pub cut : (us : List ℕ) (n : ℕ) → 0 < length us → n ≡ prefix_len is_body us → lines us ≡ cut_lines n us
cut [] n h e = absurd (omega (arith, h))
cut (u ∷ us) zero h e = at_end u us (not_ended u (prefix_len is_body us) e)
cut (u ∷ []) (suc m) h e = let both = ended u m 0 e in
    in_body u [] both.0 ∙ (ap (onto_first u) (none [] (omega arith)) ∙ last_of u m both.1)
cut (u ∷ v ∷ us) (suc m) h e = let both = ended u m (prefix_len is_body (v ∷ us)) e in
    in_body u (v ∷ us) both.0 ∙ ap (onto_first u) (cut (v ∷ us) m (omega arith) both.1)

onto_units : (u : ℕ) (ls : List Line) → units_of (onto_first u ls) ≡ u ∷ units_of ls
onto_units u [] = refl
onto_units u (l ∷ ls) = refl

-- lines are made of all units
pub whole : (us : List ℕ) → units_of (lines us) ≡ us
whole [] = ap units_of (none [] (omega arith))
whole (u ∷ us) = elim (is_ending u) as (λ b. is_ending u ≡ b → units_of (lines (u ∷ us)) ≡ u ∷ us) [
  | true ↦ λ is. ap units_of (at_end u us is) ∙ ap (λ r. u ∷ r) (whole us)
  | false ↦ λ is. ap units_of (in_body u us is) ∙ (onto_units u (lines us) ∙ ap (λ r. u ∷ r) (whole us))
] refl

pub parts : (more : List ℕ) → more ≡ take 1 more ++ units_of (lines (drop 1 more))
parts more = sym (take-append-drop 1 more) ∙ ap (λ r. take 1 more ++ r) (sym (whole (drop 1 more)))

pub shorter : (us : List ℕ) (n : ℕ) → 0 < length us → length (drop 1 (drop n us)) < length us
shorter us n h = rw (length-drop 1 (drop n us), length-drop n us) (omega (arith, h))

pub is_first : (us body ending more rest : List ℕ) (n : ℕ) → 0 < length us → n ≡ prefix_len is_body us
    → body ≡ take n us → more ≡ drop n us → ending ≡ take 1 more → rest ≡ drop 1 more
    → lines us ≡ record { body = body; ending = ending } ∷ lines rest
is_first us body ending more rest n h e b m en r = rw (b, en, r, m) (cut us n h e)

pub is_more : (more ending rest : List ℕ) → ending ≡ take 1 more → rest ≡ drop 1 more
    → more ≡ ending ++ units_of (lines rest)
is_more more ending rest e r = rw (e, r) (parts more)

pub empty : (us : List ℕ) → length us < 1 → us ≡ []
empty [] h = refl
empty (u ∷ us) h = absurd (omega (arith, h))
