-- How long the text of a value is: of a pair of @ one counts.
use Rattle.std.proofs.Common.{
  ◌≡◌,
  ℕ,
  ◌+◌,
  Bool,
  true,
  false,
  eqb,
  cond,
  List,
  [],
  ◌∷◌,
  length,
  refl,
  sym,
  ap,
  ◌∙◌,
  subst,
  inl,
  inr,
  arith,
}
use Rattle.std.specs.List.{count_by, fold, list_any}
use Rattle.std.proofs.lemmas.Bool.{eqb-true, or_parts, cases_Bool}
use Rattle.gedcom_line.specs.Split.{begins_char, char_count}
use Rattle.gedcom_line.specs.Escape.{unescaped, past_pair}
use Rattle.gedcom_line.proofs.Steps.{eqb_no}
use Rattle.gedcom_line.proofs.Doubled.{unescaped_cons, unescaped_at}

-- the text of what is left of a value; second: the byte before it is the first @ of what may be a pair
abbrev pub left : Bool → List ℕ → List ℕ
left true bs = unescaped (past_pair bs)
left false bs = unescaped bs

past_other : (b : ℕ) (bs : List ℕ) → eqb b 64 ≡ false → past_pair (b ∷ bs) ≡ b ∷ bs
past_other b bs h = rw h refl

-- characters: each @ of a pair is one
counted_from : (bs : List ℕ) (n : ℕ) → fold (λ a x. a + cond (begins_char x) 1 0) n bs ≡ n + count_by begins_char bs
counted_from [] n = omega arith
counted_from (b ∷ bs) n = omega (
  arith,
  counted_from bs (n + cond (begins_char b) 1 0),
  counted_from bs (0 + cond (begins_char b) 1 0),
)

counted_cons : (b : ℕ) (bs : List ℕ) → count_by begins_char (b ∷ bs) ≡ cond (begins_char b) 1 0
    + count_by begins_char bs
counted_cons b bs = counted_from bs (0 + cond (begins_char b) 1 0) ∙ omega arith

abbrev Even : List ℕ → List ℕ → Type 0
Even bs t = count_by begins_char bs + length t ≡ count_by begins_char t + length bs

chars_other : (b : ℕ) (bs t : List ℕ) → Even bs t → Even (b ∷ bs) (b ∷ t)
chars_other b bs t h = omega (arith, counted_cons b bs, counted_cons b t, h)

chars_pair : (bs t : List ℕ) → Even bs t → Even (64 ∷ bs) t
chars_pair bs t h = omega (arith, counted_cons 64 bs, h)

left_chars : (second : Bool) (bs : List ℕ) → Even bs (left second bs)
left_chars true [] = refl
left_chars false [] = refl
left_chars true (b ∷ bs) = elim (cases_Bool (eqb b 64)) [
  | inl e ↦ subst (λ (x : ℕ). Even (x ∷ bs) (left true (x ∷ bs))) (sym (eqb-true b 64 e))
      (chars_pair bs (unescaped bs) (left_chars false bs))
  | inr e ↦ subst (Even (b ∷ bs)) (sym (ap unescaped (past_other b bs e) ∙ unescaped_cons b bs (eqb_no b 64 e)))
      (chars_other b bs (unescaped bs) (left_chars false bs))
]
left_chars false (b ∷ bs) = elim (cases_Bool (eqb b 64)) [
  | inl e ↦ subst (λ (x : ℕ). Even (x ∷ bs) (left false (x ∷ bs))) (sym (eqb-true b 64 e))
      (subst (Even (64 ∷ bs)) (sym (unescaped_at bs))
      (chars_other 64 bs (unescaped (past_pair bs)) (left_chars true bs)))
  | inr e ↦ subst (Even (b ∷ bs)) (sym (unescaped_cons b bs (eqb_no b 64 e)))
      (chars_other b bs (unescaped bs) (left_chars false bs))
]

pub text_chars_are : (raw : List ℕ) → char_count raw + length (unescaped raw) ≡ char_count (unescaped raw) + length raw
unfolding char_count
text_chars_are raw = left_chars false raw

-- without an @ nothing is a pair
pub no_pair : (raw : List ℕ) → list_any (λ x. eqb x 64) raw ≡ false → unescaped raw ≡ raw
no_pair [] h = refl
no_pair (b ∷ bs) h =
    let r = or_parts (eqb b 64) (list_any (λ x. eqb x 64) bs) h in
    let other : b ≡ 64 → ⊥ = eqb_no b 64 r.0 in
    unescaped_cons b bs other ∙ ap (λ (x : List ℕ). b ∷ x) (no_pair bs r.1)
