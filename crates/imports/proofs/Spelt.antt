-- The canonical spelling of what a text says is a text, and is spelt as it is.
use Rattle.std.proofs.Common.{
  ◌≡◌,
  ℕ,
  ◌+◌,
  ◌/◌,
  ◌%◌,
  ◌<◌,
  ◌≤◌,
  ◌^◌,
  ◌==◌,
  Bool,
  true,
  false,
  cond,
  List,
  [],
  ◌∷◌,
  ◌++◌,
  length,
  refl,
  sym,
  ap,
  ◌∙◌,
  subst,
  inl,
  inr,
  arith,
}
use Rattle.std.specs.Prelude.{codes, decimal, ◌&&◌}
use Rattle.std.specs.List.{list_all}
use Rattle.std.specs.Str.Parse.{AllDigits}
use Rattle.std.proofs.lemmas.Bool.Decides.{nat_tests}
use Rattle.std.proofs.lemmas.Fmt.{decimal_is_IsNumeral, length-decimal-le}
use Rattle.std.proofs.lemmas.Str.Parse.{digit_from_value}
use Rattle.calendar_days.specs.Calendars.{IsCounted, IsExtent, counted}
use Rattle.calendar_days.specs.Told.{Exists, Told}
use Rattle.calendar_days.specs.declared.calendar.Calendar.{Calendar}
use Rattle.calendar_days.specs.declared.calendar.Calendar.TheVariants.{Gregorian, Julian, Republican}
use Rattle.calendar_days.specs.declared.calendar.Year.{Year}
use Rattle.calendar_days.specs.declared.calendar.Year.TheVariants.{Double, Single}
use Rattle.calendar_days.specs.declared.calendar.Extent.{Extent}
use Rattle.calendar_days.specs.declared.calendar.Extent.TheVariants.{BeforeChrist, Day, Month, Whole}
use Rattle.calendar_days.proofs.Counts.{month_days_bounds}
use Rattle.gedcom_date.specs.declared.approximation.Approximation.{Approximation}
use Rattle.gedcom_date.specs.declared.approximation.Approximation.TheVariants.{About, Calculated, Estimated}
use Rattle.record_text.specs.Text.{IsText}
use Rattle.gedcom_date.specs.Form.{
  Form,
  AfterDate,
  BeforeDate,
  BetweenDates,
  FromToDates,
  InterpretedDate,
  NearDate,
  OnDate,
  PhraseAlone,
  SinceDate,
  UntilDate,
  VerbatimText,
}
use Rattle.gedcom_date.specs.Grammar.{IsGood, IsOfForm, IsPhrased, IsShort, Says}
use Rattle.gedcom_date.specs.Spelling.{
  after_text,
  approximation_text,
  date_text as told_date,
  extent_text,
  month_name,
  republican_name,
  roman_name,
  phrase_text,
  spelling,
  told_text,
  two_digits,
  two_text,
  year_text,
}
use Rattle.gedcom_date.proofs.Deciding.{some_value}
use Rattle.imports.proofs.Clean.{
  IsClean,
  IsShortText,
  clean_both,
  clean_front,
  clean_short,
  clean_text,
  is_plain,
  short_both,
  short_is_text,
  short_space,
  text_clean,
}
use Rattle.record_fields.specs.Dated.{one_said, spelt}
use Rattle.gedcom_date.proofs.SaidAgain.{says_again}

-- ---- it is spelt as it is

-- what is kept as it is, is spelt so
verbatim : (text : List ℕ) → spelling (VerbatimText text) ≡ text
unfolding spelling
verbatim text = refl

pub spelt_twice : (text : List ℕ) → spelt (spelt text) ≡ spelt text
spelt_twice text =
    let said = some_value text in
    ap spelling (one_said (spelt text) (some_value (spelt text)).0 said.0 (some_value (spelt text)).1
    (says_again text said.0 said.1))

-- ---- numbers, years, months
byte_plain : (b : ℕ) → 48 ≤ b → b ≤ 57 → is_plain b ≡ true
byte_plain b low high = grind (arith, nat_tests)

digits_plain : (ds : List ℕ) → AllDigits 10 ds → list_all is_plain ds ≡ true
digits_plain [] h = refl
digits_plain (d ∷ ds) h =
    let range = digit_from_value d h.0 in
    λ i. byte_plain d range.0 range.1 i && digits_plain ds h.1 i

decimal_short : (k n : ℕ) → 0 < k → n < 10 ^ k → n < 2 ^ 64 → IsShortText k (decimal n)
decimal_short k n some less small = record {
  bytes = digits_plain (decimal n) (decimal_is_IsNumeral n small).0.1;
  short = length-decimal-le k n some less small;
}

four_short : (n : ℕ) → n ≤ 9999 → IsShortText 4 (decimal n)
four_short n h = decimal_short 4 n (omega arith) (omega arith) (omega arith)

two_short : (n : ℕ) → IsShortText 2 (two_digits n)
two_short n = record {
  bytes = λ i. byte_plain (48 + n / 10 % 10) (omega arith) (omega arith) i
      && (byte_plain (48 + n % 10) (omega arith) (omega arith) i && true);
  short = omega arith;
}

year_short : (y : Year) → IsCounted y → IsShortText 7 (year_text y)
year_short (Single n) h = let high : n ≤ 9999 = h.1 in
    let one : IsShortText 4 (decimal n) = four_short n high in
    let short : length (decimal n) ≤ 4 = one.short in
    record { bytes = one.bytes; short = omega arith }
year_short (Double n) h =
    let high : n ≤ 9998 = h.1 in
    let two : IsShortText 2 (two_digits (n + 1)) = two_short (n + 1) in
    short_both 4 3 7 (omega arith) (decimal n) (47 ∷ two_digits (n + 1)) (four_short n (omega arith))
    (record { bytes = two.bytes; short = omega arith })

-- one of two
chosen : (b : Bool) (x y : List ℕ) → IsShortText 4 x → IsShortText 4 y → IsShortText 4 (cond b x y)
chosen true x y h g = h
chosen false x y h g = g

named : (w : List ℕ) → list_all is_plain w ≡ true → length w ≤ 4 → IsShortText 4 w
named w h e = record { bytes = h; short = e }

roman_short : (m : ℕ) → IsShortText 4 (roman_name m)
roman_short m =
    chosen (m == 1) _ _ (named (codes "JAN") refl (omega arith))
    (chosen (m == 2) _ _ (named (codes "FEB") refl (omega arith))
    (chosen (m == 3) _ _ (named (codes "MAR") refl (omega arith))
    (chosen (m == 4) _ _ (named (codes "APR") refl (omega arith))
    (chosen (m == 5) _ _ (named (codes "MAY") refl (omega arith))
    (chosen (m == 6) _ _ (named (codes "JUN") refl (omega arith))
    (chosen (m == 7) _ _ (named (codes "JUL") refl (omega arith))
    (chosen (m == 8) _ _ (named (codes "AUG") refl (omega arith))
    (chosen (m == 9) _ _ (named (codes "SEP") refl (omega arith))
    (chosen (m == 10) _ _ (named (codes "OCT") refl (omega arith))
    (chosen (m == 11) _ _ (named (codes "NOV") refl (omega arith)) (named (codes "DEC") refl (omega arith))))))))))))

republican_short : (m : ℕ) → IsShortText 4 (republican_name m)
republican_short m =
    chosen (m == 1) _ _ (named (codes "VEND") refl (omega arith))
    (chosen (m == 2) _ _ (named (codes "BRUM") refl (omega arith))
    (chosen (m == 3) _ _ (named (codes "FRIM") refl (omega arith))
    (chosen (m == 4) _ _ (named (codes "NIVO") refl (omega arith))
    (chosen (m == 5) _ _ (named (codes "PLUV") refl (omega arith))
    (chosen (m == 6) _ _ (named (codes "VENT") refl (omega arith))
    (chosen (m == 7) _ _ (named (codes "GERM") refl (omega arith))
    (chosen (m == 8) _ _ (named (codes "FLOR") refl (omega arith))
    (chosen (m == 9) _ _ (named (codes "PRAI") refl (omega arith))
    (chosen (m == 10) _ _ (named (codes "MESS") refl (omega arith))
    (chosen (m == 11) _ _ (named (codes "THER") refl (omega arith))
    (chosen (m == 12) _ _ (named (codes "FRUC") refl (omega arith)) (named (codes "COMP") refl (omega arith)))))))))))))

month_short : (c : Calendar) (m : ℕ) → IsShortText 4 (month_name c m)
month_short Gregorian m = roman_short m
month_short Julian m = roman_short m
month_short Republican m = republican_short m

-- ---- dates
extent_short : (c : Calendar) (e : Extent) → IsExtent c e → IsShortText 17 (extent_text c e)
extent_short c (BeforeChrist n) h = short_both 4 5 17 (omega arith) (decimal n) (32 ∷ codes "B.C.")
    (four_short n h.0.1) (record { bytes = refl; short = omega arith })
extent_short c (Whole y) h = let one = year_short y h.0 in
    let short : length (year_text y) ≤ 7 = one.short in
    record { bytes = one.bytes; short = omega arith }
extent_short c (Month m y) h = short_both 4 8 17 (omega arith) (month_name c m) (32 ∷ year_text y) (month_short c m)
    (short_space 7 8 (omega arith) (year_text y) (year_short y h.0))
extent_short c (Day d m y) h =
    let day : d ≤ 31 = omega (arith, h.1.1.1, month_days_bounds c (counted y) m) in
    let front : IsShortText 9 (decimal d ++ 32 ∷ month_name c m) = short_both 4 5 9 (omega arith) (decimal d)
    (32 ∷ month_name c m) (four_short d (omega arith)) (short_space 4 5 (omega arith) (month_name c m)
    (month_short c m)) in
    short_both 9 8 17 (omega arith) (decimal d ++ 32 ∷ month_name c m) (32 ∷ year_text y) front
    (short_space 7 8 (omega arith) (year_text y) (year_short y h.0))

told_short : (d : Told) → Exists d → IsShortText 30 (told_text d)
told_short d h = by d.calendar d.extent h
  where
    by : (c : Calendar) (e : Extent) → IsExtent c e → IsShortText 30 (told_date c e)
    by Gregorian e h = let one = extent_short Gregorian e h in
        let short : length (extent_text Gregorian e) ≤ 17 = one.short in
        record { bytes = one.bytes; short = omega arith }
    by Julian e h = short_both 11 18 30 (omega arith) (codes "@#DJULIAN@") (32 ∷ extent_text Julian e)
        (record { bytes = refl; short = omega arith })
        (short_space 17 18 (omega arith) (extent_text Julian e) (extent_short Julian e h))
    by Republican e h = short_both 12 18 30 (omega arith) (codes "@#DFRENCH R@") (32 ∷ extent_text Republican e)
        (record { bytes = refl; short = omega arith })
        (short_space 17 18 (omega arith) (extent_text Republican e) (extent_short Republican e h))

after_short : (k : List ℕ) (d : Told) → IsShortText 4 k → Exists d → IsShortText 35 (after_text k d)
after_short k d h e = short_both 4 31 35 (omega arith) k (32 ∷ told_text d) h
    (short_space 30 31 (omega arith) (told_text d) (told_short d e))

pair_short : (k j : List ℕ) (d e : Told) → IsShortText 4 k → IsShortText 4 j → Exists d → Exists e
    → IsShortText 71 (two_text k j d e)
pair_short k j d e h g one two =
    short_both 40 31 71 (omega arith) ((k ++ 32 ∷ told_text d) ++ 32 ∷ j) (32 ∷ told_text e)
    (short_both 35 5 40 (omega arith) (k ++ 32 ∷ told_text d) (32 ∷ j) (after_short k d h one)
    (short_space 4 5 (omega arith) j g)) (short_space 30 31 (omega arith) (told_text e) (told_short e two))

near_short : (how : Approximation) → IsShortText 4 (approximation_text how)
near_short About = named (codes "ABT") refl (omega arith)
near_short Calculated = named (codes "CAL") refl (omega arith)
near_short Estimated = named (codes "EST") refl (omega arith)

-- ---- phrases
phrase_clean : (text front phrase : List ℕ) → IsPhrased text front phrase → IsClean text → IsClean (phrase_text phrase)
phrase_clean text front phrase is h =
    let all : IsClean ((front ++ 40 ∷ phrase) ++ 41 ∷ is.after) = subst IsClean is.parts h in
    let opened : IsClean (40 ∷ phrase) = (clean_front front phrase 40 (omega arith)
    (clean_front (front ++ 40 ∷ phrase) is.after 41 (omega arith) all).0).1 in
    clean_both (40 ∷ phrase) (41 ∷ []) opened (clean_short 1 (41 ∷ []) (record { bytes = refl; short = omega arith }))

-- ---- all forms

form_text : (text : List ℕ) (f : Form) → IsText text → IsOfForm text f → IsGood f → IsText (spelling f)
unfolding spelling IsOfForm IsShort
form_text text (OnDate d) t h g = short_is_text 30 (omega arith) (told_text d) (told_short d g)
form_text text (NearDate how d) t h g = short_is_text 35 (omega arith) _
    (after_short (approximation_text how) d (near_short how) g)
form_text text (BeforeDate d) t h g = short_is_text 35 (omega arith) _
    (after_short (codes "BEF") d (named (codes "BEF") refl (omega arith)) g)
form_text text (AfterDate d) t h g = short_is_text 35 (omega arith) _
    (after_short (codes "AFT") d (named (codes "AFT") refl (omega arith)) g)
form_text text (BetweenDates d e) t h g = short_is_text 71 (omega arith) _ (pair_short (codes "BET") (codes "AND") d e
    (named (codes "BET") refl (omega arith)) (named (codes "AND") refl (omega arith)) g.0 g.1)
form_text text (SinceDate d) t h g = short_is_text 35 (omega arith) _
    (after_short (codes "FROM") d (named (codes "FROM") refl (omega arith)) g)
form_text text (UntilDate d) t h g = short_is_text 35 (omega arith) _
    (after_short (codes "TO") d (named (codes "TO") refl (omega arith)) g)
form_text text (FromToDates d e) t h g = short_is_text 71 (omega arith) _ (pair_short (codes "FROM") (codes "TO") d e
    (named (codes "FROM") refl (omega arith)) (named (codes "TO") refl (omega arith)) g.0 g.1)
form_text text (InterpretedDate d phrase) t h g =
    let front : IsShortText 35 (after_text (codes "INT") d) =
    after_short (codes "INT") d (named (codes "INT") refl (omega arith)) g.0 in
    clean_text (after_text (codes "INT") d ++ 32 ∷ phrase_text phrase)
    (clean_both (after_text (codes "INT") d) (32 ∷ phrase_text phrase)
    (clean_short 35 (after_text (codes "INT") d) front)
    (clean_both (32 ∷ []) (phrase_text phrase) (clean_short 1 (32 ∷ []) (record { bytes = refl; short = omega arith }))
    (phrase_clean text h.0 phrase h.1 (text_clean text t)))) g.1
form_text text (PhraseAlone phrase) t h g = clean_text (phrase_text phrase)
    (phrase_clean text h.0 phrase h.1 (text_clean text t)) g
form_text text (VerbatimText v) t h g = absurd h

says_text : (text : List ℕ) (f : Form) → IsText text → Says text f → IsText (spelling f)
says_text text f t (inl h) = form_text text f t h.0 h.1
says_text text f t (inr h) = subst IsText (sym (ap spelling h.0 ∙ verbatim text)) t

pub spelt_text : (text : List ℕ) → IsText text → IsText (spelt text)
spelt_text text t = let said = some_value text in says_text text said.0 t said.1
