-- A text is normal part by part: each is without spaces at its ends, and one space is after each comma.
use Rattle.std.proofs.Common.{
  ◌≡◌,
  ◌≢◌,
  ℕ,
  suc,
  ◌<◌,
  List,
  [],
  ◌∷◌,
  ◌++◌,
  length,
  map,
  false,
  ◌==◌,
  refl,
  sym,
  ap,
  ◌∙◌,
  ◌↔◌,
  inl,
  inr,
  arith,
}
use Rattle.std.specs.List.{onto_first}
use Rattle.std.proofs.lemmas.List.{append_cancel_left}
use Rattle.std.proofs.lemmas.List.Splits.{slice_split-cons_no}
use Rattle.std.proofs.lemmas.Bool.{ne_eqb}
use Rattle.record_shapes.specs.Paths.{joined, trimmed, parts, normal, IsNormal}
use Rattle.command_checks.specs.Cuts.{Without}
use Rattle.command_checks.proofs.Trimmed.{trimmed_cases}
use Rattle.list_laws.proofs.Lists.{head_same, tail_same}
use Rattle.record_shapes.proofs.PathTexts.{joined_two, parts_some, spaced}

-- ---- parts
behind_first : (b : ℕ) (bs : List ℕ) → Without 44 (b ∷ bs) → Without 44 bs
behind_first b bs h = λ i less. h (suc i) (omega arith)

first_is_none : (b : ℕ) (bs : List ℕ) → Without 44 (b ∷ bs) → (b == 44) ≡ false
first_is_none b bs h = ne_eqb b 44 (h 0 (omega arith))

parts_cut : (part after : List ℕ) → Without 44 part → parts (part ++ (44 ∷ after)) ≡ part ∷ parts after
parts_cut [] after h = refl
parts_cut (b ∷ bs) after h =
    slice_split-cons_no (λ c. c == 44) b (bs ++ (44 ∷ after)) (first_is_none b bs h) ∙ ap (onto_first b)
    (parts_cut bs after (behind_first b bs h))

pub parts_alone : (t : List ℕ) → Without 44 t → parts t ≡ t ∷ []
parts_alone [] h = refl
parts_alone (b ∷ bs) h = slice_split-cons_no (λ c. c == 44) b bs (first_is_none b bs h)
    ∙ ap (onto_first b) (parts_alone bs (behind_first b bs h))

-- ---- normal texts
-- a space in front is none of the text made normal
behind_space : (t : List ℕ) → normal (32 ∷ t) ≡ normal t
unfolding normal
behind_space t = let s = parts_some t in ap joined (spaced (parts t) s.0 s.1 s.2)

normal_cut : (part after : List ℕ) → Without 44 part → normal (part ++ (44 ∷ after)) ≡ trimmed part
    ++ (44 ∷ (32 ∷ normal after))
unfolding normal
normal_cut part after h =
    let s = parts_some after in ap (λ l. joined (map trimmed l)) (parts_cut part after h)
    ∙ joined_two part (parts after) s.0 s.1 s.2

-- a text without comma
pub normal_alone : (t : List ℕ) → Without 44 t → normal t ≡ trimmed t
unfolding normal
normal_alone t h = ap (λ l. joined (map trimmed l)) (parts_alone t h)

-- ---- one part after the other

pub goes_on : (t part after next : List ℕ) → t ≡ part ++ (44 ∷ after) → Without 44 part → trimmed part ≡ part
    → after ≡ 32 ∷ next → IsNormal t ↔ IsNormal next
goes_on t part after next is h same e =
    let made : normal t ≡ part ++ (44 ∷ (32 ∷ normal next)) =
    ap normal (is ∙ ap (λ x. part ++ (44 ∷ x)) e) ∙ normal_cut part (32 ∷ next) h
    ∙ ap (λ x. x ++ (44 ∷ (32 ∷ normal (32 ∷ next)))) same ∙ ap (λ x. part ++ (44 ∷ (32 ∷ x))) (behind_space next) in
    let whole : t ≡ part ++ (44 ∷ (32 ∷ next)) = is ∙ ap (λ x. part ++ (44 ∷ x)) e in (
      λ n.
          let rest : 44 ∷ (32 ∷ normal next) ≡ 44 ∷ (32 ∷ next) = append_cancel_left part (44 ∷ (32 ∷ normal next))
          (44 ∷ (32 ∷ next)) (sym made ∙ n ∙ whole) in
          tail_same 32 32 (normal next) next (tail_same 44 44 (32 ∷ normal next) (32 ∷ next) rest),
      λ n. made ∙ ap (λ x. part ++ (44 ∷ (32 ∷ x))) n ∙ sym whole,
    )

-- a shorter text before a comma is not the other
apart : (xs part front after : List ℕ) → length xs < length part → Without 44 part
    → xs ++ (44 ∷ front) ≡ part ++ (44 ∷ after) → ⊥
apart xs [] front after less h e = absurd (omega arith)
apart [] (b ∷ bs) front after less h e = h 0 (omega arith) (sym (head_same 44 b front (bs ++ (44 ∷ after)) e))
apart (x ∷ xs) (b ∷ bs) front after less h e =
    apart xs bs front after (omega arith) (behind_first b bs h)
    (tail_same x b (xs ++ (44 ∷ front)) (bs ++ (44 ∷ after)) e)

pub spaces_at_ends : (t part after : List ℕ) → t ≡ part ++ (44 ∷ after) → Without 44 part → (trimmed part ≡ part → ⊥)
    → IsNormal t → ⊥
spaces_at_ends t part after is h other n =
    let made : trimmed part ++ (44 ∷ (32 ∷ normal after)) ≡ part ++ (44 ∷ after) = sym (normal_cut part after h)
    ∙ ap normal (sym is) ∙ n ∙ is in
    elim (trimmed_cases part) as (λ _. ⊥) [
      | inl same ↦ other same
      | inr less ↦ apart (trimmed part) part (32 ∷ normal after) after less h made
    ]

pub no_space_behind : (t part after : List ℕ) → t ≡ part ++ (44 ∷ after) → Without 44 part → trimmed part ≡ part
    → ((rest : List ℕ) → after ≢ 32 ∷ rest) → IsNormal t → ⊥
no_space_behind t part after is h same none n =
    let made : part ++ (44 ∷ (32 ∷ normal after)) ≡ part ++ (44 ∷ after) =
    ap (λ x. x ++ (44 ∷ (32 ∷ normal after))) (sym same) ∙ sym (normal_cut part after h)
    ∙ ap normal (sym is) ∙ n ∙ is in
    let rest : 44 ∷ (32 ∷ normal after) ≡ 44 ∷ after = append_cancel_left part (44 ∷ (32 ∷ normal after))
    (44 ∷ after) made in
    none (normal after) (sym (tail_same 44 44 (32 ∷ normal after) after rest))

pub last_part : (t : List ℕ) → Without 44 t → IsNormal t ↔ (trimmed t ≡ t)
last_part t h = (λ n. sym (normal_alone t h) ∙ n, λ e. normal_alone t h ∙ e)
