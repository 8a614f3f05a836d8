-- A text on one line is one, and is made a line end at a time.
use Rattle.std.proofs.Common.{
  ◌≡◌,
  ◌==◌,
  ◌||◌,
  ◌++◌,
  ◌∙◌,
  ℕ,
  suc,
  List,
  [],
  ◌∷◌,
  true,
  false,
  length,
  refl,
  ap,
  cond,
}
use Rattle.std.specs.Prelude.{codes}
use Rattle.std.specs.List.{list_any}
use Rattle.record_text.specs.Text.{IsPlain, IsText}
use Rattle.record_text.specs.Words.{Without}
use Rattle.record_text.proofs.Cuts as cuts
use Rattle.plain_export.specs.Allowed.{one_line}

pub turn : (out front after rest whole : List ℕ) → rest ≡ front ++ 10 ∷ after → Without 10 front
    → out ++ one_line rest ≡ whole → ((out ++ front) ++ codes " ") ++ one_line after ≡ whole
unfolding one_line
turn out front after rest whole parts none so_far = cuts.turn 10 (codes " ") out front after rest whole parts none
    so_far

pub last_turn : (out rest whole : List ℕ) → Without 10 rest → out ++ one_line rest ≡ whole → out ++ rest ≡ whole
unfolding one_line
last_turn out rest whole none so_far = cuts.last_turn 10 (codes " ") out rest whole none so_far

-- as many bytes
same_length : (text : List ℕ) → length (one_line text) ≡ length text
unfolding one_line
same_length [] = refl
same_length (b ∷ bs) = elim (b == 10) as (λ t. length (cond t (codes " " ++ one_line bs) (b ∷ one_line bs))
    ≡ suc (length bs)) [
      | true ↦ ap suc (same_length bs)
      | false ↦ ap suc (same_length bs)
    ]

-- no byte that is neither a blank nor a line end is more there
no_more : (c : ℕ) (text : List ℕ) → (32 == c) ≡ false → list_any (λ b. b == c) text ≡ false
    → list_any (λ b. b == c) (one_line text) ≡ false
unfolding one_line
no_more c [] blank none = refl
no_more c (b ∷ bs) blank none = (elim (b == c) as (λ t. (b == c) ≡ t → (t || list_any (λ x. x == c) bs) ≡ false
    → list_any (λ x. x == c) (cond (b == 10) (codes " " ++ one_line bs) (b ∷ one_line bs)) ≡ false) [
      | true ↦ λ is f. absurd cc
      | false ↦ λ is f. elim (b == 10) as (λ t.
          list_any (λ x. x == c) (cond t (codes " " ++ one_line bs) (b ∷ one_line bs)) ≡ false) [
            | true ↦ ap (λ t. t || list_any (λ x. x == c) (one_line bs)) blank ∙ no_more c bs blank f
            | false ↦ ap (λ t. t || list_any (λ x. x == c) (one_line bs)) is ∙ no_more c bs blank f
          ]
    ]) refl none

pub is_plain : (text : List ℕ) → IsText text → IsPlain (one_line text)
is_plain text h = record {
  no_nul = no_more 0 text refl h.no_nul;
  no_cr = no_more 13 text refl h.no_cr;
  short = rw (same_length text) h.short;
}
