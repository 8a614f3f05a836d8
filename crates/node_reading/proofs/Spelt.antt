-- What a text says as a date is spelt as a text.
use Rattle.std.proofs.Common.{
  ◌≡◌,
  inl,
  inr,
  ℕ,
  ◌+◌,
  ◌/◌,
  ◌%◌,
  ◌==◌,
  ◌≤◌,
  ◌<◌,
  ◌^◌,
  ◌&&◌,
  Bool,
  true,
  false,
  if◌then◌else◌,
  nat_le,
  List,
  [],
  ◌∷◌,
  ◌++◌,
  length,
  get_or,
  codes,
  decimal,
  refl,
  ap,
  sym,
  subst,
  ◌∙◌,
  arith,
  length-append,
  append_assoc,
  ◌||◌,
  Option,
  Some,
  None,
  MatchOption,
  Result,
  Ok,
  Err,
  IfOk,
}
use Rattle.std.specs.List.{list_all, list_any}
use Rattle.std.specs.Str.{IsUtf8, IsAscii}
use Rattle.std.proofs.Math.Seq.{take-append_seam, drop-append_seam}
use Rattle.std.proofs.lemmas.Bool.{and_parts}
use Rattle.std.proofs.lemmas.Bool.Decides.{nat_tests}
use Rattle.std.proofs.lemmas.List.Folds.{list_all-append, list_any-append}
use Rattle.std.proofs.lemmas.Fmt.{decimal_by_steps, length-decimal-le}
use Rattle.std.proofs.lemmas.Str.{
  IsUtf8-append,
  IsUtf8-drop,
  IsUtf8-take,
  IsUtf8-from_ascii,
  IsUtf8-past_char,
  IsCharBoundary-before_ascii,
  encode_ascii,
}
use Rattle.std.proofs.lemmas.Str.Ascii.{IsAscii-cons, IsAscii-nil}
use Rattle.calendar_days.specs.Told.{Told, Exists}
use Rattle.calendar_days.specs.Calendars.{IsCounted, IsExtent, counted}
use Rattle.calendar_days.proofs.Counts.{month_days_bounds}
use Rattle.calendar_days.specs.declared.calendar.Calendar.{Calendar}
use Rattle.calendar_days.specs.declared.calendar.Calendar.TheVariants.{Gregorian, Julian, Republican}
use Rattle.calendar_days.specs.declared.calendar.Year.{Year}
use Rattle.calendar_days.specs.declared.calendar.Year.TheVariants.{Single, Double}
use Rattle.calendar_days.specs.declared.calendar.Extent.{Extent}
use Rattle.calendar_days.specs.declared.calendar.Extent.TheVariants.{BeforeChrist, Whole, Month, Day}
use Rattle.gedcom_date.specs.Form.{
  Form,
  OnDate,
  NearDate,
  BeforeDate,
  AfterDate,
  BetweenDates,
  SinceDate,
  UntilDate,
  FromToDates,
  InterpretedDate,
  PhraseAlone,
  VerbatimText,
}
use Rattle.gedcom_date.specs.Grammar.{IsGood, IsOfForm, IsShort, Says}
use Rattle.gedcom_date.specs.Spelling.{
  after_text,
  approximation_text,
  date_text,
  extent_text,
  month_name,
  republican_name,
  roman_name,
  phrase_text,
  spelling,
  told_text,
  two_digits,
  two_text,
  year_text,
}
use Rattle.gedcom_date.specs.declared.approximation.Approximation.{Approximation}
use Rattle.gedcom_date.specs.declared.approximation.Approximation.TheVariants.{About, Calculated, Estimated}
use Rattle.gedcom_date.proofs.Deciding.{some_value}
use Rattle.record_text.specs.Text.{IsText}
use Rattle.record_fields.specs.Dated.{date_of, spelt}
use Rattle.record_fields.specs.declared.date.Date.{Date}
use Rattle.record_fields.proofs.Dated.{date_back}
use Rattle.record_shapes.specs.Reading.{dated}

-- a byte from space to tilde
abbrev is_printed : ℕ → Bool
is_printed b = nat_le 32 b && nat_le b 126

-- at most so many of them
record Printed (most : ℕ) (bytes : List ℕ) : Type 0 where
  printed : list_all is_printed bytes ≡ true
  short : length bytes ≤ most

-- ---- printed bytes are a text
not_nul : (b : ℕ) → is_printed b ≡ true → (b == 0) ≡ false
not_nul b h = grind (arith, nat_tests)

not_cr : (b : ℕ) → is_printed b ≡ true → (b == 13) ≡ false
not_cr b h = grind (arith, nat_tests)

is_low : (b : ℕ) → is_printed b ≡ true → b < 128
is_low b h = grind (arith, nat_tests)

none_of : (p : ℕ → Bool) → ((b : ℕ) → is_printed b ≡ true → p b ≡ false) → (bs : List ℕ)
    → list_all is_printed bs ≡ true → list_any p bs ≡ false
none_of p not [] h = refl
none_of p not (b ∷ bs) h =
    let r = and_parts (is_printed b) (list_all is_printed bs) h in
    rw (not b r.0, none_of p not bs r.1) refl

ascii_of : (bs : List ℕ) → list_all is_printed bs ≡ true → IsAscii bs
ascii_of [] h = IsAscii-nil
ascii_of (b ∷ bs) h =
    let r = and_parts (is_printed b) (list_all is_printed bs) h in
    IsAscii-cons b bs (is_low b r.0) (ascii_of bs r.1)

-- a list whose parts are without it
any_none : (p : ℕ → Bool) (a b : List ℕ) → list_any p a ≡ false → list_any p b ≡ false → list_any p (a ++ b) ≡ false
any_none p a b h k = rw (list_any-append p a b, h, k) refl

text_of_printed : (n : ℕ) (bs : List ℕ) → n ≤ 1048576 → Printed n bs → IsText bs
text_of_printed n bs few h = record {
  utf8 = IsUtf8-from_ascii bs (ascii_of bs h.printed);
  no_nul = none_of (λ b. b == 0) not_nul bs h.printed;
  no_cr = none_of (λ b. b == 13) not_cr bs h.printed;
  short = omega (arith, h.short);
}

-- ---- lists of printed bytes
joins : (m n : ℕ) (a b : List ℕ) → Printed m a → Printed n b → Printed (m + n) (a ++ b)
joins m n a b h k = record {
  printed = rw (list_all-append is_printed a b, h.printed, k.printed) refl;
  short = omega (arith, length-append a b, h.short, k.short);
}

fewer : (m n : ℕ) (a : List ℕ) → m ≤ n → Printed m a → Printed n a
fewer m n a le h = record { printed = h.printed; short = omega (arith, h.short) }

-- ---- numbers
digit_printed : (n : ℕ) → n < 10 → is_printed (48 + n) ≡ true
digit_printed n h = grind (arith, nat_tests)

digits_printed : (n : ℕ) → n < 2 ^ 64 → list_all is_printed (decimal n) ≡ true
digits_printed n h = decimal_by_steps (λ k ds. list_all is_printed ds ≡ true)
    (λ k small. rw (digit_printed k small) refl)
    (λ k ds large more. rw (
      list_all-append is_printed ds ((48 + k % 10) ∷ []),
      more,
      digit_printed (k % 10) (omega arith),
    ) refl) n h

number_printed : (n : ℕ) → n ≤ 9999 → Printed 4 (decimal n)
number_printed n h = record {
  printed = digits_printed n (omega arith);
  short = length-decimal-le 4 n (omega arith) (omega arith) (omega arith);
}

two_printed : (n : ℕ) → Printed 2 (two_digits n)
two_printed n = record {
  printed = rw (digit_printed (n / 10 % 10) (omega arith), digit_printed (n % 10) (omega arith)) refl;
  short = omega arith;
}

-- ---- dates
year_printed : (y : Year) → IsCounted y → Printed 7 (year_text y)
year_printed (Single n) h = fewer 4 7 (decimal n) (omega arith) (number_printed n h.1)
year_printed (Double n) h =
    joins 4 3 (decimal n) (47 ∷ two_digits (n + 1)) (number_printed n (omega (arith, h.1)))
    (joins 1 2 (47 ∷ []) (two_digits (n + 1)) (record { printed = refl; short = omega arith }) (two_printed (n + 1)))

either : (b : Bool) (x y : List ℕ) → Printed 4 x → Printed 4 y → Printed 4 (if b then x else y)
either true x y h k = h
either false x y h k = k

-- a word that is written out
word : (n : ℕ) (bs : List ℕ) → (list_all is_printed bs && nat_le (length bs) n) ≡ true → Printed n bs
word n bs h =
    let r = and_parts (list_all is_printed bs) (nat_le (length bs) n) h in
    record { printed = r.0; short = at_most (length bs) n r.1 }
  where
    at_most : (a b : ℕ) → nat_le a b ≡ true → a ≤ b
    at_most a b e = grind (arith, nat_tests)

roman_printed : (m : ℕ) → Printed 4 (roman_name m)
roman_printed m =
    either (m == 1) _ _ (word 4 (codes "JAN") refl)
    (either (m == 2) _ _ (word 4 (codes "FEB") refl)
    (either (m == 3) _ _ (word 4 (codes "MAR") refl)
    (either (m == 4) _ _ (word 4 (codes "APR") refl)
    (either (m == 5) _ _ (word 4 (codes "MAY") refl)
    (either (m == 6) _ _ (word 4 (codes "JUN") refl)
    (either (m == 7) _ _ (word 4 (codes "JUL") refl)
    (either (m == 8) _ _ (word 4 (codes "AUG") refl)
    (either (m == 9) _ _ (word 4 (codes "SEP") refl)
    (either (m == 10) _ _ (word 4 (codes "OCT") refl)
    (either (m == 11) _ _ (word 4 (codes "NOV") refl) (word 4 (codes "DEC") refl)))))))))))

republican_printed : (m : ℕ) → Printed 4 (republican_name m)
republican_printed m =
    either (m == 1) _ _ (word 4 (codes "VEND") refl)
    (either (m == 2) _ _ (word 4 (codes "BRUM") refl)
    (either (m == 3) _ _ (word 4 (codes "FRIM") refl)
    (either (m == 4) _ _ (word 4 (codes "NIVO") refl)
    (either (m == 5) _ _ (word 4 (codes "PLUV") refl)
    (either (m == 6) _ _ (word 4 (codes "VENT") refl)
    (either (m == 7) _ _ (word 4 (codes "GERM") refl)
    (either (m == 8) _ _ (word 4 (codes "FLOR") refl)
    (either (m == 9) _ _ (word 4 (codes "PRAI") refl)
    (either (m == 10) _ _ (word 4 (codes "MESS") refl)
    (either (m == 11) _ _ (word 4 (codes "THER") refl)
    (either (m == 12) _ _ (word 4 (codes "FRUC") refl) (word 4 (codes "COMP") refl))))))))))))

month_printed : (c : Calendar) (m : ℕ) → Printed 4 (month_name c m)
month_printed Gregorian m = roman_printed m
month_printed Julian m = roman_printed m
month_printed Republican m = republican_printed m

-- space and a text after it
spaced : (n : ℕ) (bs : List ℕ) → Printed n bs → Printed (1 + n) (32 ∷ bs)
spaced n bs h = joins 1 n (32 ∷ []) bs (word 1 (32 ∷ []) refl) h

extent_printed : (c : Calendar) (e : Extent) → IsExtent c e → Printed 17 (extent_text c e)
extent_printed c (BeforeChrist n) h = fewer 9 17 (decimal n ++ 32 ∷ codes "B.C.") (omega arith)
    (joins 4 5 (decimal n) (32 ∷ codes "B.C.") (number_printed n h.0.1) (word 5 (32 ∷ codes "B.C.") refl))
extent_printed c (Whole y) h = fewer 7 17 (year_text y) (omega arith) (year_printed y h.0)
extent_printed c (Month m y) h = fewer 12 17 (month_name c m ++ 32 ∷ year_text y) (omega arith)
    (joins 4 8 (month_name c m) (32 ∷ year_text y) (month_printed c m) (spaced 7 (year_text y) (year_printed y h.0)))
extent_printed c (Day d m y) h =
    let day : d ≤ 9999 = omega (arith, h.1.1.1, month_days_bounds c (counted y) m) in
    joins 9 8 (decimal d ++ 32 ∷ month_name c m) (32 ∷ year_text y)
    (joins 4 5 (decimal d) (32 ∷ month_name c m) (number_printed d day)
    (spaced 4 (month_name c m) (month_printed c m))) (spaced 7 (year_text y) (year_printed y h.0))

date_printed : (c : Calendar) (e : Extent) → IsExtent c e → Printed 30 (date_text c e)
date_printed Gregorian e h = fewer 17 30 (extent_text Gregorian e) (omega arith) (extent_printed Gregorian e h)
date_printed Julian e h = fewer 28 30 (date_text Julian e) (omega arith)
    (joins 10 18 (codes "@#DJULIAN@") (32 ∷ extent_text Julian e) (word 10 (codes "@#DJULIAN@") refl)
    (spaced 17 (extent_text Julian e) (extent_printed Julian e h)))
date_printed Republican e h =
    joins 12 18 (codes "@#DFRENCH R@") (32 ∷ extent_text Republican e) (word 12 (codes "@#DFRENCH R@") refl)
    (spaced 17 (extent_text Republican e) (extent_printed Republican e h))

told_printed : (d : Told) → Exists d → Printed 30 (told_text d)
told_printed d h = date_printed d.calendar d.extent h

after_printed : (keyword : List ℕ) (d : Told) → Printed 4 keyword → Exists d → Printed 35 (after_text keyword d)
after_printed keyword d k h = joins 4 31 keyword (32 ∷ told_text d) k (spaced 30 (told_text d) (told_printed d h))

two_printed_dates : (opening joining : List ℕ) (d e : Told) → Printed 4 opening → Printed 4 joining → Exists d
    → Exists e
    → Printed 71 (two_text opening joining d e)
two_printed_dates opening joining d e k j h i =
    joins 40 31 (opening ++ 32 ∷ told_text d ++ 32 ∷ joining) (32 ∷ told_text e)
    (joins 35 5 (opening ++ 32 ∷ told_text d) (32 ∷ joining)
    (after_printed opening d k h) (spaced 4 joining j))
    (spaced 30 (told_text e) (told_printed e i))

how_printed : (how : Approximation) → Printed 4 (approximation_text how)
how_printed About = word 4 (codes "ABT") refl
how_printed Calculated = word 4 (codes "CAL") refl
how_printed Estimated = word 4 (codes "EST") refl

-- ---- phrases
-- what is between a bracket and another is UTF-8 as the text is
between_utf8 : (front phrase after : List ℕ) → IsUtf8 (front ++ 40 ∷ phrase ++ 41 ∷ after) → IsUtf8 phrase
between_utf8 front phrase after u =
    let text : List ℕ = front ++ 40 ∷ phrase ++ 41 ∷ after in
    let inner : List ℕ = phrase ++ 41 ∷ after in
    let same : text ≡ front ++ (40 ∷ inner) = append_assoc front (40 ∷ phrase) (41 ∷ after) in
    let whole : IsUtf8 (front ++ (40 ∷ inner)) = subst IsUtf8 same u in
    let opened : IsUtf8 (40 ∷ inner) = subst IsUtf8 (drop-append_seam front (40 ∷ inner))
    (IsUtf8-drop (front ++ (40 ∷ inner)) (length front) whole
    (IsCharBoundary-before_ascii (front ++ (40 ∷ inner)) (length front) (inside front (40) inner)
    (at_seam front 40 inner (omega arith)))) in
    let rest : IsUtf8 inner = IsUtf8-past_char (40 ∷ inner) inner 40 opened
    (ap (λ (l : List ℕ). l ++ inner) (sym (encode_ascii 40 (omega arith)))) in
    subst IsUtf8 (take-append_seam phrase (41 ∷ after))
    (IsUtf8-take inner (length phrase) rest
    (IsCharBoundary-before_ascii inner (length phrase) (inside phrase 41 after)
    (at_seam phrase 41 after (omega arith))))
  where
    inside : (xs : List ℕ) (b : ℕ) (ys : List ℕ) → length xs < length (xs ++ (b ∷ ys))
    inside xs b ys = omega (arith, length-append xs (b ∷ ys))

    seam : (xs : List ℕ) (b : ℕ) (ys : List ℕ) → get_or (xs ++ (b ∷ ys)) (length xs) 0 ≡ b
    seam [] b ys = refl
    seam (x ∷ xs) b ys = seam xs b ys

    at_seam : (xs : List ℕ) (b : ℕ) (ys : List ℕ) → b < 128 → get_or (xs ++ (b ∷ ys)) (length xs) 0 < 128
    at_seam xs b ys h = omega (arith, seam xs b ys)

-- what no byte of a text is, no byte of a part of it is
within : (p : ℕ → Bool) (front phrase after : List ℕ) → list_any p (front ++ 40 ∷ phrase ++ 41 ∷ after) ≡ false
    → list_any p phrase ≡ false
within p front phrase after h =
    let e : (list_any p (front ++ 40 ∷ phrase) || list_any p (41 ∷ after)) ≡ false =
    sym (list_any-append p (front ++ 40 ∷ phrase) (41 ∷ after)) ∙ h in
    let f : (list_any p front || list_any p (40 ∷ phrase)) ≡ false =
    sym (list_any-append p front (40 ∷ phrase)) ∙ or_first (list_any p (front ++ 40 ∷ phrase))
    (list_any p (41 ∷ after)) e in
    or_last (p 40) (list_any p phrase) (or_last (list_any p front) (list_any p (40 ∷ phrase)) f)
  where
    or_first : (a b : Bool) → (a || b) ≡ false → a ≡ false
    or_first true b e = e
    or_first false b e = refl

    or_last : (a b : Bool) → (a || b) ≡ false → b ≡ false
    or_last true b e = absurd (let wrong : true ≡ false = e in cc)
    or_last false b e = e

-- a text in brackets, after a printed one
phrase_is_text : (n : ℕ) (before phrase front after : List ℕ) → Printed n before
    → length (before ++ 40 ∷ phrase ++ 41 ∷ []) ≤ 1048576 → IsText (front ++ 40 ∷ phrase ++ 41 ∷ after)
    → IsText (before ++ 40 ∷ phrase ++ 41 ∷ [])
phrase_is_text n before phrase front after h short text = record {
  utf8 = IsUtf8-append (before ++ 40 ∷ phrase) (41 ∷ [])
      (IsUtf8-append before (40 ∷ phrase) (IsUtf8-from_ascii before (ascii_of before h.printed))
      (IsUtf8-append (40 ∷ []) phrase (IsUtf8-from_ascii (40 ∷ []) (ascii_of (40 ∷ []) refl))
      (between_utf8 front phrase after text.utf8))) (IsUtf8-from_ascii (41 ∷ []) (ascii_of (41 ∷ []) refl));
  no_nul = bare (λ b. b == 0) not_nul text.no_nul refl refl;
  no_cr = bare (λ b. b == 13) not_cr text.no_cr refl refl;
  short = short;
}
  where
    bare : (p : ℕ → Bool) → ((b : ℕ) → is_printed b ≡ true → p b ≡ false)
        → list_any p (front ++ 40 ∷ phrase ++ 41 ∷ after) ≡ false → p 40 ≡ false → list_any p (41 ∷ []) ≡ false
        → list_any p (before ++ 40 ∷ phrase ++ 41 ∷ []) ≡ false
    bare p not none opening closing = any_none p (before ++ 40 ∷ phrase) (41 ∷ [])
        (any_none p before (40 ∷ phrase) (none_of p not before h.printed)
        (rw (opening, within p front phrase after none) refl)) closing

bracketed : (front phrase : List ℕ)
    → front ++ 32 ∷ phrase_text phrase ≡ (front ++ 32 ∷ []) ++ 40 ∷ phrase ++ 41 ∷ []
bracketed front phrase = sym (append_assoc (front ++ 32 ∷ []) (40 ∷ phrase) (41 ∷ [])
    ∙ append_assoc front (32 ∷ []) (40 ∷ phrase ++ 41 ∷ []))

-- ---- all forms
form_is_text : (text : List ℕ) (f : Form) → IsOfForm text f → IsGood f → IsText text → IsText (spelling f)
unfolding spelling IsOfForm IsShort
form_is_text text (OnDate d) is h t = text_of_printed 30 (told_text d) (omega arith) (told_printed d h)
form_is_text text (NearDate how d) is h t = text_of_printed 35 (after_text (approximation_text how) d) (omega arith)
    (after_printed (approximation_text how) d (how_printed how) h)
form_is_text text (BeforeDate d) is h t = text_of_printed 35 (after_text (codes "BEF") d) (omega arith)
    (after_printed (codes "BEF") d (word 4 (codes "BEF") refl) h)
form_is_text text (AfterDate d) is h t = text_of_printed 35 (after_text (codes "AFT") d) (omega arith)
    (after_printed (codes "AFT") d (word 4 (codes "AFT") refl) h)
form_is_text text (BetweenDates d e) is h t = text_of_printed 71 (two_text (codes "BET") (codes "AND") d e)
    (omega arith)
    (two_printed_dates (codes "BET") (codes "AND") d e (word 4 (codes "BET") refl) (word 4 (codes "AND") refl) h.0 h.1)
form_is_text text (SinceDate d) is h t = text_of_printed 35 (after_text (codes "FROM") d) (omega arith)
    (after_printed (codes "FROM") d (word 4 (codes "FROM") refl) h)
form_is_text text (UntilDate d) is h t = text_of_printed 35 (after_text (codes "TO") d) (omega arith)
    (after_printed (codes "TO") d (word 4 (codes "TO") refl) h)
form_is_text text (FromToDates d e) is h t = text_of_printed 71 (two_text (codes "FROM") (codes "TO") d e) (omega arith)
    (two_printed_dates (codes "FROM") (codes "TO") d e (word 4 (codes "FROM") refl) (word 4 (codes "TO") refl) h.0 h.1)
form_is_text text (InterpretedDate d phrase) is h t =
    let front : List ℕ = after_text (codes "INT") d in
    let whole : front ++ 32 ∷ phrase_text phrase ≡ (front ++ 32 ∷ []) ++ 40 ∷ phrase ++ 41 ∷ [] =
    bracketed front phrase in
    subst IsText (sym whole) (phrase_is_text 36 (front ++ 32 ∷ []) phrase is.0 is.1.after
    (joins 35 1 front (32 ∷ []) (after_printed (codes "INT") d (word 4 (codes "INT") refl) h.0)
    (word 1 (32 ∷ []) refl)) (subst (λ (l : List ℕ). length l ≤ 1048576) whole h.1) (subst IsText is.1.parts t))
form_is_text text (PhraseAlone phrase) is h t =
    phrase_is_text 0 [] phrase is.0 is.1.after (record { printed = refl; short = omega arith }) h
    (subst IsText is.1.parts t)
form_is_text text (VerbatimText u) is h t = absurd is

-- what a text says as a date is spelt as a text
pub spelt_as_text : (text : List ℕ) (f : Form) → Says text f → IsText text → IsText (spelling f)
unfolding spelling
spelt_as_text text f (inl fits) t = form_is_text text f fits.0 fits.1 t
spelt_as_text text f (inr is) t = subst (λ (g : Form). IsText (spelling g)) (sym is.0) t

-- the date that a text says is found
said : (text : List ℕ) (found : Option Date) → IsText text → ((form : Form) → Says text form
    → MatchOption found (¬ (IsText (spelling form))) (λ date. date.text ≡ spelling form)) → found ≡ dated text
said text None is h =
    let one = some_value text in absurd (h one.0 one.1 (spelt_as_text text one.0 one.1 is))
said text (Some d) is h =
    let same : d.text ≡ spelt text = h (some_value text).0 (some_value text).1 in
    sym (date_back (Some d)) ∙ ap date_of same

pub said_ok : {E : Type 0} (r : Result (Option Date) E) (text : List ℕ) {words : List ℕ} → words ≡ text → IsText text
    → IfOk r (λ found. (form : Form) → Says words form
    → MatchOption found (¬ (IsText (spelling form))) (λ date. date.text ≡ spelling form))
    → IfOk r (λ found. found ≡ dated text)
said_ok (Ok found) text e is h = said text found is (λ form says. h form (subst (λ w. Says w form) (sym e) says))
said_ok (Err x) text e is h = tt
