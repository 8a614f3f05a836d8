-- Units of which nothing is left out have no mark at the beginning.
use Rattle.std.proofs.Common.{
  ◌≡◌,
  ◌∙◌,
  ◌≤◌,
  ◌==◌,
  ◌&&◌,
  ◌∷◌,
  [],
  Bool,
  List,
  ap,
  arith,
  false,
  if◌then◌else◌,
  length,
  refl,
  sym,
  true,
  ℕ,
}
use Rattle.character_sets.specs.declared.set.CharacterSet.{CharacterSet}
use Rattle.character_sets.specs.declared.set.CharacterSet.TheVariants.{
  Utf8,
  Utf16Le,
  Utf16Be,
  Windows1252,
  CodePage437,
  CodePage850,
  Macintosh,
  Ansel,
}
use Rattle.file_conversion.specs.Conversion.{past_marks, past_utf8_marks, past_wide_marks}

no_longer : (us : List ℕ) → length (past_utf8_marks us) ≤ length us
no_longer [] = omega arith
no_longer (a ∷ []) = omega arith
no_longer (a ∷ b ∷ []) = omega arith
no_longer (a ∷ b ∷ c ∷ more) = elim (a == 0xEF && b == 0xBB && c == 0xBF) as (λ (t : Bool).
    length (if t then past_utf8_marks more else a ∷ b ∷ c ∷ more) ≤ length (a ∷ b ∷ c ∷ more)) [
      | true ↦ omega (arith, no_longer more)
      | false ↦ omega arith
    ]

utf8_whole : (us : List ℕ) → length (past_utf8_marks us) ≡ length us → past_utf8_marks us ≡ us
utf8_whole [] e = refl
utf8_whole (a ∷ []) e = refl
utf8_whole (a ∷ b ∷ []) e = refl
utf8_whole (a ∷ b ∷ c ∷ more) e = elim (a == 0xEF && b == 0xBB && c == 0xBF) as (λ (t : Bool).
    length (if t then past_utf8_marks more else a ∷ b ∷ c ∷ more) ≡ length (a ∷ b ∷ c ∷ more)
    → (if t then past_utf8_marks more else a ∷ b ∷ c ∷ more) ≡ a ∷ b ∷ c ∷ more) [
      | true ↦ λ h. absurd (omega (arith, no_longer more, h))
      | false ↦ λ h. refl
    ] e

no_longer_wide : (us : List ℕ) → length (past_wide_marks us) ≤ length us
no_longer_wide [] = omega arith
no_longer_wide (u ∷ us) = elim (u == 0xFEFF) as (λ (t : Bool).
    length (if t then past_wide_marks us else u ∷ us) ≤ length (u ∷ us)) [
      | true ↦ omega (arith, no_longer_wide us)
      | false ↦ omega arith
    ]

wide_whole : (us : List ℕ) → length (past_wide_marks us) ≡ length us → past_wide_marks us ≡ us
wide_whole [] e = refl
wide_whole (u ∷ us) e = elim (u == 0xFEFF) as (λ (t : Bool).
    length (if t then past_wide_marks us else u ∷ us) ≡ length (u ∷ us)
    → (if t then past_wide_marks us else u ∷ us) ≡ u ∷ us) [
      | true ↦ λ h. absurd (omega (arith, no_longer_wide us, h))
      | false ↦ λ h. refl
    ] e

whole : (set : CharacterSet) (us : List ℕ) → length (past_marks set us) ≡ length us → past_marks set us ≡ us
whole Utf8 us e = utf8_whole us e
whole Utf16Le us e = wide_whole us e
whole Utf16Be us e = wide_whole us e
whole Windows1252 us e = utf8_whole us e
whole CodePage437 us e = utf8_whole us e
whole CodePage850 us e = utf8_whole us e
whole Macintosh us e = utf8_whole us e
whole Ansel us e = utf8_whole us e

pub none_left_out : (set : CharacterSet) (us shown rest : List ℕ) → shown ≡ us → rest ≡ past_marks set shown
    → length rest ≡ length us → us ≡ past_marks set us
none_left_out set us shown rest s r n =
    let is : rest ≡ past_marks set us = r ∙ ap (past_marks set) s in sym (whole set us (sym (ap length is) ∙ n))
