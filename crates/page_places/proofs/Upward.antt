-- The path of a place cut at its first comma.
use Rattle.std.proofs.Common.{
  ◌≡◌,
  ◌∙◌,
  ◌+◌,
  ◌<◌,
  ◌==◌,
  ◌++◌,
  [],
  ◌∷◌,
  Bool,
  List,
  ap,
  arith,
  cond,
  false,
  length,
  length-append,
  refl,
  suc,
  sym,
  true,
  ℕ,
}
use Rattle.std.proofs.lemmas.Bool.Decides.{nat_tests}
use Rattle.field_rows.specs.Cuts.{Without}
use Rattle.list_laws.proofs.Numbers.{is_not}
use Rattle.page_places.specs.Ways.{above, name_of, past_space}

rest_without : (b : ℕ) (bs : List ℕ) → Without 44 (b ∷ bs) → Without 44 bs
rest_without b bs h = λ i less. h (suc i) (omega arith)

-- a byte that is no comma adds no place above
passed : (b : ℕ) (bs : List ℕ) → (b == 44) ≡ false → above (b ∷ bs) ≡ above bs
passed b bs e = ap (λ (is : Bool). cond is (past_space bs ∷ above bs) (above bs)) e

first_passed : (b : ℕ) (bs : List ℕ) → Without 44 (b ∷ bs) → above (b ∷ bs) ≡ above bs
first_passed b bs h = passed b bs (is_not b 44 (h 0 (omega arith)))

space_is_none : (b : ℕ) → (b == 32) ≡ true → (b == 44) ≡ false
space_is_none b e = grind (arith, nat_tests)

past_space_is : (bs : List ℕ) → above (past_space bs) ≡ above bs
past_space_is [] = refl
past_space_is (b ∷ bs) =
    elim (b == 32) as (λ is. (b == 32) ≡ is → above (cond is bs (b ∷ bs)) ≡ above (b ∷ bs)) [
      | true ↦ λ e. sym (passed b bs (space_is_none b e))
      | false ↦ λ e. refl
    ] refl

cut_at : (part after : List ℕ) → Without 44 part → above (part ++ (44 ∷ after)) ≡ past_space after ∷ above after
cut_at [] after h = refl
cut_at (b ∷ bs) after h = passed b (bs ++ (44 ∷ after)) (is_not b 44 (h 0 (omega arith)))
    ∙ cut_at bs after (rest_without b bs h)

pub above_cut : (t part after over : List ℕ) → t ≡ part ++ (44 ∷ after) → Without 44 part → over ≡ past_space after
    → above t ≡ over ∷ above over
above_cut t part after over e h o = ap above e
    ∙ (cut_at part after h
    ∙ (ap (λ us. past_space after ∷ us) (sym (past_space_is after)) ∙ ap (λ x. x ∷ above x) (sym o)))

pub above_none : (t : List ℕ) → Without 44 t → above t ≡ []
above_none [] h = refl
above_none (b ∷ bs) h = first_passed b bs h ∙ above_none bs (rest_without b bs h)

name_passed : (b : ℕ) (bs : List ℕ) → (b == 44) ≡ false → name_of (b ∷ bs) ≡ b ∷ name_of bs
name_passed b bs e = ap (λ (is : Bool). cond is [] (b ∷ name_of bs)) e

name_before : (part after : List ℕ) → Without 44 part → name_of (part ++ (44 ∷ after)) ≡ part
name_before [] after h = refl
name_before (b ∷ bs) after h = name_passed b (bs ++ (44 ∷ after)) (is_not b 44 (h 0 (omega arith)))
    ∙ ap (λ ns. b ∷ ns) (name_before bs after (rest_without b bs h))

pub name_cut : (t part after : List ℕ) → t ≡ part ++ (44 ∷ after) → Without 44 part → part ≡ name_of t
name_cut t part after e h = sym (ap name_of e ∙ name_before part after h)

pub name_whole : (t : List ℕ) → Without 44 t → t ≡ name_of t
name_whole [] h = refl
name_whole (b ∷ bs) h = ap (λ ns. b ∷ ns) (name_whole bs (rest_without b bs h))
    ∙ sym (name_passed b bs (is_not b 44 (h 0 (omega arith))))

not_longer : (bs : List ℕ) → length (past_space bs) < length bs + 1
not_longer [] = omega arith
not_longer (b ∷ bs) = elim (b == 32) as (λ is. length (cond is bs (b ∷ bs)) < length (b ∷ bs) + 1) [
  | true ↦ omega arith
  | false ↦ omega arith
]

pub shorter : (t part after over : List ℕ) → t ≡ part ++ (44 ∷ after) → over ≡ past_space after
    → length over < length t
shorter t part after over e o =
    let whole : length t ≡ length part + length (44 ∷ after) = ap length e ∙ length-append part (44 ∷ after) in
    let same : length over ≡ length (past_space after) = ap length o in
    omega (arith, whole, same, not_longer after)
