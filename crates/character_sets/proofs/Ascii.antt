-- ASCII stays as it is.
use Rattle.std.proofs.Common.{
  ◌≡◌,
  ◌∙◌,
  ◌<◌,
  ◌-◌,
  ◌∷◌,
  [],
  Bool,
  List,
  None,
  Some,
  ap,
  arith,
  false,
  if◌then◌else◌,
  map,
  nat_lt,
  refl,
  slice_index_or,
  true,
  ℕ,
}
use Rattle.std.specs.List.{AllByRecursion}
use Rattle.std.specs.Char.Utf16.{lone_unit_char, utf16_lossy_chars}
use Rattle.std.specs.Option.{unwrap_or}
use Rattle.std.proofs.lemmas.Bool.Decides.{nat_tests}
use Rattle.std.proofs.lemmas.Str.{utf16_chars-nil, utf16_chars_lone}
use Rattle.character_sets.specs.declared.set.CharacterSet.{CharacterSet}
use Rattle.character_sets.specs.declared.set.CharacterSet.TheVariants.{
  Utf8,
  Utf16Le,
  Utf16Be,
  Windows1252,
  CodePage437,
  CodePage850,
  Macintosh,
  Ansel,
}
use Rattle.character_sets.specs.declared.utf8.Beginning.TheVariants.{Whole}
use Rattle.character_sets.specs.declared.tables.TheConstants.{
  ANSEL,
  CODE_PAGE_437,
  CODE_PAGE_850,
  MACINTOSH,
  WINDOWS_1252,
}
use Rattle.character_sets.specs.CodePages.{character}
use Rattle.character_sets.specs.Ansel.{ansel_character, ansel_characters, mark, spelt as spelt_mark}
use Rattle.character_sets.specs.Utf8.{front, spelt, utf8_characters}
use Rattle.character_sets.specs.Sets.{characters}

abbrev IsAscii : List ℕ → Type 0
IsAscii units = AllByRecursion (λ u. u < 128) units

if_true : {A : Type 0} (b : Bool) (x y : A) → b ≡ true → (if b then x else y) ≡ x
if_true b x y e = ap (λ t. if t then x else y) e

if_false : {A : Type 0} (b : Bool) (x y : A) → b ≡ false → (if b then x else y) ≡ y
if_false b x y e = ap (λ t. if t then x else y) e

is_less : (u n : ℕ) → u < n → nat_lt u n ≡ true
is_less u n h = grind (arith, nat_tests)

pub own_character : (table : List ℕ) (u : ℕ) → u < 128 → character table u ≡ u
own_character table u h = if_true (nat_lt u 128) u (slice_index_or table (u - 128) 0xFFFD) (is_less u 128 h)

page_stays : (table units : List ℕ) → IsAscii units → map (character table) units ≡ units
page_stays table [] h = refl
page_stays table (u ∷ us) h = ap (λ c. c ∷ map (character table) us) (own_character table u h.0)
    ∙ ap (λ r. u ∷ r) (page_stays table us h.1)

front_ascii : (u : ℕ) (us : List ℕ) → u < 128 → front (u ∷ us) ≡ Whole u 1
unfolding front
front_ascii u us h = if_true (nat_lt u 0x80) _ _ (is_less u 128 h)

utf8_stays : (units : List ℕ) → IsAscii units → utf8_characters 0 units ≡ units
utf8_stays [] h = refl
utf8_stays (u ∷ us) h = ap (λ b. spelt u (λ n. utf8_characters n us) b) (front_ascii u us h.0)
    ∙ ap (λ r. u ∷ r) (utf8_stays us h.1)

no_mark : (u : ℕ) → u < 128 → mark u ≡ None
unfolding mark
no_mark u h = if_true (nat_lt u 224) _ _ (is_less u 224 (omega (arith, h)))

ansel_same : (u : ℕ) → u < 128 → ansel_character u ≡ u
unfolding ansel_character
ansel_same u h = own_character ANSEL u h

ansel_stays : (units : List ℕ) → IsAscii units → ansel_characters [] units ≡ units
ansel_stays [] h = refl
ansel_stays (u ∷ us) h = ap (λ o. spelt_mark [] u (λ ms. ansel_characters ms us) o) (no_mark u h.0)
    ∙ (ap (λ c. c ∷ ansel_characters [] us) (ansel_same u h.0) ∙ ap (λ r. u ∷ r) (ansel_stays us h.1))

lone_ascii : (u : ℕ) → u < 128 → lone_unit_char u ≡ Some u
lone_ascii u h = if_false _ None (Some u) (grind (arith, nat_tests))

wide_stays : (units : List ℕ) → IsAscii units → utf16_lossy_chars units ≡ units
wide_stays [] h = ap (λ os. map (λ o. unwrap_or o 0xFFFD) os) utf16_chars-nil
wide_stays (u ∷ us) h =
    ap (λ os. map (λ o. unwrap_or o 0xFFFD) os) (utf16_chars_lone u us (λ p. absurd (omega (arith, p.0, h.0))))
    ∙ (ap (λ o. unwrap_or o 0xFFFD ∷ utf16_lossy_chars us) (lone_ascii u h.0) ∙ ap (λ r. u ∷ r) (wide_stays us h.1))

pub stays : (set : CharacterSet) (units : List ℕ) → IsAscii units → characters set units ≡ units
stays Utf8 units h = utf8_stays units h
stays Utf16Le units h = wide_stays units h
stays Utf16Be units h = wide_stays units h
stays Windows1252 units h = page_stays WINDOWS_1252 units h
stays CodePage437 units h = page_stays CODE_PAGE_437 units h
stays CodePage850 units h = page_stays CODE_PAGE_850 units h
stays Macintosh units h = page_stays MACINTOSH units h
stays Ansel units h = ansel_stays units h
