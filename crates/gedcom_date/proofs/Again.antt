-- What is written of a value is read as the same value.
use Rattle.std.proofs.Common.{
  ◌≡◌,
  ◌⊎◌,
  inl,
  inr,
  ℕ,
  suc,
  zero,
  ◌+◌,
  ◌-◌,
  ◌/◌,
  ◌%◌,
  ◌≤◌,
  ◌<◌,
  Bool,
  true,
  false,
  ◌||◌,
  cond,
  List,
  [],
  ◌∷◌,
  ◌++◌,
  length,
  length-append,
  append_assoc,
  append-nil,
  codes,
  decimal,
  Some,
  refl,
  ap,
  sym,
  subst,
  ◌∙◌,
  arith,
}
use Rattle.std.specs.Char.{is_ascii_digit}
use Rattle.std.specs.List.{list_all, list_any, slice_split, onto_first, slice_get}
use Rattle.std.specs.Int.{IsInRange}
use Rattle.std.proofs.lemmas.Bool.Decides.{nat_tests}
use Rattle.std.proofs.lemmas.Fmt.{decimal_digit, decimal_step}
use Rattle.std.proofs.lemmas.List.Splits.{length-slice_split}
use Rattle.std.proofs.lemmas.Bool.{and_parts}
use Rattle.gedcom_date.specs.Words.{words, filled, is_space, Without}
use Rattle.calendar_days.specs.Calendars.{last_month, IsCounted, IsExtent, HasDay, counted}
use Rattle.calendar_days.specs.Told.{Told, Exists}
use Rattle.gedcom_date.specs.Form.{
  Form,
  OnDate,
  NearDate,
  BeforeDate,
  AfterDate,
  BetweenDates,
  SinceDate,
  UntilDate,
  FromToDates,
  InterpretedDate,
  PhraseAlone,
  VerbatimText,
}
use Rattle.gedcom_date.specs.Spelling.{
  month_name,
  roman_name,
  republican_name,
  two_digits,
  year_text,
  extent_text,
  date_text,
  told_text,
  approximation_text,
  phrase_text,
  spelling,
}
use Rattle.gedcom_date.specs.Grammar.{
  IsNumber,
  IsYearWord,
  IsMonthWord,
  IsExtentOf,
  IsDateOf,
  IsAfterWord,
  IsAfterWords,
  IsPhrased,
  IsOfForm,
  IsGood,
  month_names,
  republican_names,
}
use Rattle.calendar_days.specs.declared.calendar.Calendar.{Calendar}
use Rattle.calendar_days.specs.declared.calendar.Calendar.TheVariants.{Gregorian, Julian, Republican}
use Rattle.calendar_days.specs.declared.calendar.Year.{Year}
use Rattle.calendar_days.specs.declared.calendar.Year.TheVariants.{Single, Double}
use Rattle.calendar_days.specs.declared.calendar.Extent.{Extent}
use Rattle.calendar_days.specs.declared.calendar.Extent.TheVariants.{BeforeChrist, Whole, Month, Day}
use Rattle.gedcom_date.specs.declared.approximation.Approximation.{Approximation}
use Rattle.gedcom_date.specs.declared.approximation.Approximation.TheVariants.{About, Calculated, Estimated}
use Rattle.gedcom_date.specs.declared.keyword.Keyword.TheVariants.{Interpreted}
use Rattle.calendar_days.proofs.Counts.{month_days_bounds}
use Rattle.gedcom_date.proofs.Cuts.{whole_word}
use Rattle.gedcom_date.proofs.Quiet.{is_bracket, any_append}
use Rattle.gedcom_date.proofs.Fitting.{words_any, after_bare}
use Rattle.gedcom_date.proofs.Numbers.{longer}

-- the words of two texts with a space between
onto_append : (x : ℕ) (parts rest : List (List ℕ)) → 0 < length parts → onto_first x (parts ++ rest)
    ≡ onto_first x parts ++ rest
onto_append x [] rest h = absurd (omega arith)
onto_append x (part ∷ parts) rest h = refl

split_cons : (x : ℕ) (xs b : List ℕ) (t : Bool) → slice_split is_space (xs ++ 32 ∷ b) ≡ slice_split is_space xs
    ++ slice_split is_space b → cond t ([] ∷ slice_split is_space (xs ++ 32 ∷ b))
    (onto_first x (slice_split is_space (xs ++ 32 ∷ b))) ≡ cond t ([] ∷ slice_split is_space xs)
    (onto_first x (slice_split is_space xs)) ++ slice_split is_space b
split_cons x xs b true h = ap (λ (l : List (List ℕ)). [] ∷ l) h
split_cons x xs b false h = ap (onto_first x) h ∙ onto_append x (slice_split is_space xs) (slice_split is_space b)
    (omega (arith, length-slice_split is_space xs))

split_append : (a b : List ℕ) → slice_split is_space (a ++ 32 ∷ b) ≡ slice_split is_space a ++ slice_split is_space b
split_append [] b = refl
split_append (x ∷ xs) b = split_cons x xs b (is_space x) (split_append xs b)

filled_append : (a b : List (List ℕ)) → filled (a ++ b) ≡ filled a ++ filled b
filled_append [] b = refl
filled_append ([] ∷ parts) b = filled_append parts b
filled_append ((x ∷ xs) ∷ parts) b = ap (λ (l : List (List ℕ)). (x ∷ xs) ∷ l) (filled_append parts b)

words_append : (a b : List ℕ) → words (a ++ 32 ∷ b) ≡ words a ++ words b
unfolding words
words_append a b = ap filled (split_append a b) ∙ filled_append (slice_split is_space a) (slice_split is_space b)

-- a byte that is not there
without_at : (c : ℕ) (p : ℕ → Bool) → p c ≡ true → (x : ℕ) (xs : List ℕ) (b : Bool) → p x ≡ b
    → (b || list_any p xs) ≡ false → (list_any p xs ≡ false → Without c xs) → Without c (x ∷ xs)
without_at c p h x xs true f none more i k e = absurd cc
without_at c p h x xs false f none more zero k e = let s : x ≡ c = e in let g : p x ≡ true = ap p s ∙ h in
    absurd (let z : true ≡ false = sym g ∙ f in cc)
without_at c p h x xs false f none more (suc i) k e = more none i (omega arith) e

without_is : (c : ℕ) (p : ℕ → Bool) → p c ≡ true → (w : List ℕ) → list_any p w ≡ false → Without c w
without_is c p h [] none i k e = omega arith
without_is c p h (x ∷ xs) none i k e = without_at c p h x xs (p x) refl none (without_is c p h xs) i k e

-- one word
abbrev IsWord : List ℕ → Type 0
IsWord w = (0 < length w) × (list_any is_space w ≡ false)

one_word : (w : List ℕ) → IsWord w → words w ≡ w ∷ []
unfolding words
one_word w is = whole_word w (without_is 32 is_space refl w is.1) is.0

word_more : (w rest : List ℕ) → IsWord w → words (w ++ 32 ∷ rest) ≡ w ∷ words rest
word_more w rest is = words_append w rest ∙ ap (λ (l : List (List ℕ)). l ++ words rest) (one_word w is)

-- numbers are their digits
digit_at : (n : ℕ) → n < 10 → is_ascii_digit (48 + n) ≡ true
digit_at n h = grind (arith, nat_tests)

two_at : (n : ℕ) → 10 ≤ n → n < 100 → decimal n ≡ (48 + n / 10) ∷ (48 + n % 10) ∷ []
two_at n low high = decimal_step n low (omega arith) ∙ ap (λ (l : List ℕ). l ++ (48 + n % 10) ∷ [])
    (decimal_digit (n / 10) (omega arith))

three_at : (n : ℕ) → 100 ≤ n → n < 1000 → decimal n ≡ (48 + n / 10 / 10) ∷ (48 + n / 10 % 10) ∷ (48 + n % 10) ∷ []
three_at n low high = decimal_step n (omega arith) (omega arith) ∙ ap (λ (l : List ℕ). l ++ (48 + n % 10) ∷ [])
    (two_at (n / 10) (omega arith) (omega arith))

four_at : (n : ℕ) → 1000 ≤ n → n < 10000 → decimal n ≡ (48 + n / 10 / 10 / 10) ∷ (48 + n / 10 / 10 % 10)
    ∷ (48 + n / 10 % 10) ∷ (48 + n % 10) ∷ []
four_at n low high = decimal_step n (omega arith) (omega arith) ∙ ap (λ (l : List ℕ). l ++ (48 + n % 10) ∷ [])
    (three_at (n / 10) (omega arith) (omega arith))

-- n is less than m, or not
less : (n m : ℕ) → (n < m) ⊎ (m ≤ n)
less n m = grind arith

one_number : (n : ℕ) → 1 ≤ n → n < 10 → IsNumber 2 (decimal n) n
one_number n low high = subst (λ (l : List ℕ). IsNumber 2 l n) (sym (decimal_digit n high))
    (rw (digit_at n high) refl, (omega arith, omega arith), omega arith, low)

two_number : (n : ℕ) → 10 ≤ n → n < 100 → IsNumber 2 (decimal n) n
two_number n low high = subst (λ (l : List ℕ). IsNumber 2 l n) (sym (two_at n low high)) (
  rw (digit_at (n / 10) (omega arith), digit_at (n % 10) (omega arith)) refl,
  (omega arith, omega arith),
  omega arith,
  omega arith,
)

three_number : (n : ℕ) → 100 ≤ n → n < 1000 → IsNumber 4 (decimal n) n
three_number n low high = subst (λ (l : List ℕ). IsNumber 4 l n) (sym (three_at n low high)) (
  rw (digit_at (n / 10 / 10) (omega arith), digit_at (n / 10 % 10) (omega arith), digit_at (n % 10) (omega arith))
      refl,
  (omega arith, omega arith),
  omega arith,
  omega arith,
)

four_number : (n : ℕ) → 1000 ≤ n → n < 10000 → IsNumber 4 (decimal n) n
four_number n low high = subst (λ (l : List ℕ). IsNumber 4 l n) (sym (four_at n low high)) (
  rw (
    digit_at (n / 10 / 10 / 10) (omega arith),
    digit_at (n / 10 / 10 % 10) (omega arith),
    digit_at (n / 10 % 10) (omega arith),
    digit_at (n % 10) (omega arith),
  ) refl,
  (omega arith, omega arith),
  omega arith,
  omega arith,
)

day_number_of : (n : ℕ) → 1 ≤ n → n < 100 → IsNumber 2 (decimal n) n
day_number_of n low high = elim (less n 10) [
  | inl h ↦ one_number n low h
  | inr h ↦ two_number n h high
]

year_number_of : (n : ℕ) → 1 ≤ n → n < 10000 → IsNumber 4 (decimal n) n
year_number_of n low high = elim (less n 100) [
  | inl h ↦ longer (decimal n) n (day_number_of n low h)
  | inr h ↦ elim (less n 1000) [
    | inl k ↦ three_number n h k
    | inr k ↦ four_number n k high
  ]
]

digit_space : (d : ℕ) → is_ascii_digit d ≡ true → is_space d ≡ false
digit_space d h = grind (arith, nat_tests)

digits_space : (ds : List ℕ) → list_all is_ascii_digit ds ≡ true → list_any is_space ds ≡ false
digits_space [] h = refl
digits_space (d ∷ ds) h = rw (
  digit_space d (and_parts (is_ascii_digit d) (list_all is_ascii_digit ds) h).0,
  digits_space ds (and_parts (is_ascii_digit d) (list_all is_ascii_digit ds) h).1,
) refl

number_word : (most : ℕ) (w : List ℕ) (n : ℕ) → IsNumber most w n → IsWord w
number_word most w n h = (omega (arith, h.1.0), digits_space w h.0)

-- years
tail_digits : (n : ℕ) → list_all is_ascii_digit (two_digits n) ≡ true
tail_digits n = rw (digit_at (n / 10 % 10) (omega arith), digit_at (n % 10) (omega arith)) refl

year_back : (y : Year) → IsCounted y → IsYearWord (year_text y) y
year_back (Single n) h = year_number_of n h.0 (omega (arith, h.1))
year_back (Double n) h = (
  decimal n,
  48 + (n + 1) / 10 % 10,
  48 + (n + 1) % 10,
  refl,
  year_number_of n h.0 (omega (arith, h.1)),
  h.1,
  tail_digits (n + 1),
  omega arith,
)

year_word : (y : Year) → IsCounted y → IsWord (year_text y)
year_word (Single n) h = number_word 4 (decimal n) n (year_number_of n h.0 (omega (arith, h.1)))
year_word (Double n) h =
    let is = number_word 4 (decimal n) n (year_number_of n h.0 (omega (arith, h.1))) in (
      omega (arith, length-append (decimal n) (47 ∷ two_digits (n + 1)), is.0),
      any_append is_space (decimal n) (47 ∷ two_digits (n + 1)) is.1
          (digits_space (two_digits (n + 1)) (tail_digits (n + 1))),
    )

-- months
roman_back : (m : ℕ) → IsInRange 1 12 m → slice_get month_names (m - 1) ≡ Some (roman_name m)
roman_back zero h = absurd (omega (arith, h.0))
roman_back (suc zero) h = refl
roman_back (suc (suc zero)) h = refl
roman_back (suc (suc (suc zero))) h = refl
roman_back (suc (suc (suc (suc zero)))) h = refl
roman_back (suc (suc (suc (suc (suc zero))))) h = refl
roman_back (suc (suc (suc (suc (suc (suc zero)))))) h = refl
roman_back (suc (suc (suc (suc (suc (suc (suc zero))))))) h = refl
roman_back (suc (suc (suc (suc (suc (suc (suc (suc zero)))))))) h = refl
roman_back (suc (suc (suc (suc (suc (suc (suc (suc (suc zero))))))))) h = refl
roman_back (suc (suc (suc (suc (suc (suc (suc (suc (suc (suc zero)))))))))) h = refl
roman_back (suc (suc (suc (suc (suc (suc (suc (suc (suc (suc (suc zero))))))))))) h = refl
roman_back (suc (suc (suc (suc (suc (suc (suc (suc (suc (suc (suc (suc zero)))))))))))) h = refl
roman_back (suc (suc (suc (suc (suc (suc (suc (suc (suc (suc (suc (suc (suc n))))))))))))) h =
    absurd (omega (arith, h.1))

republican_back : (m : ℕ) → IsInRange 1 13 m → slice_get republican_names (m - 1) ≡ Some (republican_name m)
republican_back zero h = absurd (omega (arith, h.0))
republican_back (suc zero) h = refl
republican_back (suc (suc zero)) h = refl
republican_back (suc (suc (suc zero))) h = refl
republican_back (suc (suc (suc (suc zero)))) h = refl
republican_back (suc (suc (suc (suc (suc zero))))) h = refl
republican_back (suc (suc (suc (suc (suc (suc zero)))))) h = refl
republican_back (suc (suc (suc (suc (suc (suc (suc zero))))))) h = refl
republican_back (suc (suc (suc (suc (suc (suc (suc (suc zero)))))))) h = refl
republican_back (suc (suc (suc (suc (suc (suc (suc (suc (suc zero))))))))) h = refl
republican_back (suc (suc (suc (suc (suc (suc (suc (suc (suc (suc zero)))))))))) h = refl
republican_back (suc (suc (suc (suc (suc (suc (suc (suc (suc (suc (suc zero))))))))))) h = refl
republican_back (suc (suc (suc (suc (suc (suc (suc (suc (suc (suc (suc (suc zero)))))))))))) h = refl
republican_back (suc (suc (suc (suc (suc (suc (suc (suc (suc (suc (suc (suc (suc zero))))))))))))) h = refl
republican_back (suc (suc (suc (suc (suc (suc (suc (suc (suc (suc (suc (suc (suc (suc n)))))))))))))) h =
    absurd (omega (arith, h.1))

month_back : (c : Calendar) (m : ℕ) → IsInRange 1 (last_month c) m → IsMonthWord c (month_name c m) m
month_back Gregorian m h = (month_name Gregorian m, h.0, roman_back m h, refl)
month_back Julian m h = (month_name Julian m, h.0, roman_back m h, refl)
month_back Republican m h = (month_name Republican m, h.0, republican_back m h, refl)

roman_word : (m : ℕ) → IsInRange 1 12 m → IsWord (roman_name m)
roman_word zero h = absurd (omega (arith, h.0))
roman_word (suc zero) h = (omega arith, refl)
roman_word (suc (suc zero)) h = (omega arith, refl)
roman_word (suc (suc (suc zero))) h = (omega arith, refl)
roman_word (suc (suc (suc (suc zero)))) h = (omega arith, refl)
roman_word (suc (suc (suc (suc (suc zero))))) h = (omega arith, refl)
roman_word (suc (suc (suc (suc (suc (suc zero)))))) h = (omega arith, refl)
roman_word (suc (suc (suc (suc (suc (suc (suc zero))))))) h = (omega arith, refl)
roman_word (suc (suc (suc (suc (suc (suc (suc (suc zero)))))))) h = (omega arith, refl)
roman_word (suc (suc (suc (suc (suc (suc (suc (suc (suc zero))))))))) h = (omega arith, refl)
roman_word (suc (suc (suc (suc (suc (suc (suc (suc (suc (suc zero)))))))))) h = (omega arith, refl)
roman_word (suc (suc (suc (suc (suc (suc (suc (suc (suc (suc (suc zero))))))))))) h = (omega arith, refl)
roman_word (suc (suc (suc (suc (suc (suc (suc (suc (suc (suc (suc (suc zero)))))))))))) h = (omega arith, refl)
roman_word (suc (suc (suc (suc (suc (suc (suc (suc (suc (suc (suc (suc (suc n))))))))))))) h =
    absurd (omega (arith, h.1))

republican_word : (m : ℕ) → IsInRange 1 13 m → IsWord (republican_name m)
republican_word zero h = absurd (omega (arith, h.0))
republican_word (suc zero) h = (omega arith, refl)
republican_word (suc (suc zero)) h = (omega arith, refl)
republican_word (suc (suc (suc zero))) h = (omega arith, refl)
republican_word (suc (suc (suc (suc zero)))) h = (omega arith, refl)
republican_word (suc (suc (suc (suc (suc zero))))) h = (omega arith, refl)
republican_word (suc (suc (suc (suc (suc (suc zero)))))) h = (omega arith, refl)
republican_word (suc (suc (suc (suc (suc (suc (suc zero))))))) h = (omega arith, refl)
republican_word (suc (suc (suc (suc (suc (suc (suc (suc zero)))))))) h = (omega arith, refl)
republican_word (suc (suc (suc (suc (suc (suc (suc (suc (suc zero))))))))) h = (omega arith, refl)
republican_word (suc (suc (suc (suc (suc (suc (suc (suc (suc (suc zero)))))))))) h = (omega arith, refl)
republican_word (suc (suc (suc (suc (suc (suc (suc (suc (suc (suc (suc zero))))))))))) h = (omega arith, refl)
republican_word (suc (suc (suc (suc (suc (suc (suc (suc (suc (suc (suc (suc zero)))))))))))) h = (omega arith, refl)
republican_word (suc (suc (suc (suc (suc (suc (suc (suc (suc (suc (suc (suc (suc zero))))))))))))) h =
    (omega arith, refl)
republican_word (suc (suc (suc (suc (suc (suc (suc (suc (suc (suc (suc (suc (suc (suc n)))))))))))))) h =
    absurd (omega (arith, h.1))

month_word : (c : Calendar) (m : ℕ) → IsInRange 1 (last_month c) m → IsWord (month_name c m)
month_word Gregorian m h = roman_word m h
month_word Julian m h = roman_word m h
month_word Republican m h = republican_word m h

-- a month has less than a hundred days
day_short : (c : Calendar) (y : Year) (d m : ℕ) → HasDay c (counted y) m d → d < 100
day_short c y d m h = omega (arith, month_days_bounds c (counted y) m, h.1.1)

-- dates
extent_back : (c : Calendar) (e : Extent) → IsExtent c e → IsExtentOf c (words (extent_text c e)) e
extent_back c (BeforeChrist n) h =
    let is = year_number_of n h.0.0 (omega (arith, h.0.1)) in
    let e = word_more (decimal n) (codes "B.C.") (number_word 4 (decimal n) n is)
    ∙ ap (λ (l : List (List ℕ)). decimal n ∷ l) (one_word (codes "B.C.") (omega arith, refl)) in
    (decimal n, codes "B.C.", inl e, is, refl)
extent_back c (Whole y) h = (year_text y, one_word (year_text y) (year_word y h.0), year_back y h.0)
extent_back c (Month m y) h =
    let e = word_more (month_name c m) (year_text y) (month_word c m h.1)
    ∙ ap (λ (l : List (List ℕ)). month_name c m ∷ l) (one_word (year_text y) (year_word y h.0)) in
    (month_name c m, year_text y, e, month_back c m h.1, year_back y h.0)
extent_back c (Day d m y) h =
    let is = day_number_of d h.1.1.0 (day_short c y d m h.1) in
    let front = word_more (decimal d) (month_name c m) (number_word 2 (decimal d) d is)
    ∙ ap (λ (l : List (List ℕ)). decimal d ∷ l) (one_word (month_name c m) (month_word c m h.1.0)) in
    let whole = words_append (decimal d ++ 32 ∷ month_name c m) (year_text y)
    ∙ ap (λ (l : List (List ℕ)). l ++ words (year_text y)) front
    ∙ ap (λ (l : List (List ℕ)). decimal d ∷ month_name c m ∷ l) (one_word (year_text y) (year_word y h.0)) in
    (decimal d, month_name c m, year_text y, whole, is, month_back c m h.1.0, year_back y h.0)

escape_words : words (codes "@#DFRENCH R@") ≡ codes "@#DFRENCH" ∷ codes "R@" ∷ []
unfolding words
escape_words = refl

date_back : (c : Calendar) (e : Extent) → IsExtent c e → IsDateOf (words (date_text c e))
    (record { calendar = c; extent = e })
date_back Gregorian e h = (words (extent_text Gregorian e), inl refl, extent_back Gregorian e h)
date_back Julian e h = (
  words (extent_text Julian e),
  (codes "@#DJULIAN@", word_more (codes "@#DJULIAN@") (extent_text Julian e) (omega arith, refl), refl),
  extent_back Julian e h,
)
date_back Republican e h = (
  words (extent_text Republican e),
  (
    codes "@#DFRENCH",
    codes "R@",
    words_append (codes "@#DFRENCH R@") (extent_text Republican e)
        ∙ ap (λ (l : List (List ℕ)). l ++ words (extent_text Republican e)) escape_words,
    refl,
    refl,
  ),
  extent_back Republican e h,
)

told_back : (d : Told) → Exists d → IsDateOf (words (told_text d)) d
told_back d h = date_back d.calendar d.extent h

-- forms
after_back : (k : List ℕ) (d : Told) → IsWord k → Exists d → IsAfterWord k (words (k ++ 32 ∷ told_text d)) d
after_back k d is h = (k, words (told_text d), word_more k (told_text d) is, refl, told_back d h)

two_back : (k j : List ℕ) (d e : Told) → IsWord k → IsWord j → Exists d → Exists e
    → IsAfterWords k j (words (k ++ 32 ∷ told_text d ++ 32 ∷ j ++ 32 ∷ told_text e)) d e
two_back k j d e is js h l =
    let front = k ++ 32 ∷ told_text d in
    let a = words_append (front ++ 32 ∷ j) (told_text e) in
    let b = words_append front j ∙ ap (λ (w : List (List ℕ)). w ++ words j) (word_more k (told_text d) is)
    ∙ ap (λ (w : List (List ℕ)). (k ∷ words (told_text d)) ++ w) (one_word j js) in
    let whole = a ∙ ap (λ (w : List (List ℕ)). w ++ words (told_text e)) b ∙ append_assoc (k ∷ words (told_text d))
    (j ∷ []) (words (told_text e)) in
    (k, words (told_text d), j, words (told_text e), whole, refl, told_back d h, refl, told_back e l)

near_word : (how : Approximation) → IsWord (approximation_text how)
near_word About = (omega arith, refl)
near_word Calculated = (omega arith, refl)
near_word Estimated = (omega arith, refl)

-- the front of a phrase
front_words : (x : List ℕ) → words (x ++ 32 ∷ []) ≡ words x
unfolding words
front_words x = words_append x [] ∙ append-nil (words x)

int_back : (d : Told) (phrase : List ℕ) → Exists d → (front : List ℕ)
    × IsPhrased (codes "INT" ++ 32 ∷ told_text d ++ 32 ∷ phrase_text phrase) front phrase
    × IsAfterWord (codes "INT") (words front) d
int_back d phrase h =
    let x = codes "INT" ++ 32 ∷ told_text d in
    let after = subst (λ (l : List (List ℕ)). IsAfterWord (codes "INT") l d) (sym (front_words x))
    (after_back (codes "INT") d (omega arith, refl) h) in
    let bare = sym (words_any (x ++ 32 ∷ [])) ∙ after_bare Interpreted (words (x ++ 32 ∷ [])) d refl after in
    let parts : x ++ 32 ∷ phrase_text phrase ≡ (x ++ 32 ∷ []) ++ 40 ∷ phrase ++ 41 ∷ [] =
    sym (append_assoc x (32 ∷ []) (phrase_text phrase)) ∙ sym (append_assoc (x ++ 32 ∷ []) (40 ∷ phrase) (41 ∷ [])) in (
      x ++ 32 ∷ [],
      record {
        after = [];
        parts = parts;
        first = without_is 40 is_bracket refl (x ++ 32 ∷ []) bare;
        spaces = refl;
      },
      after,
    )

phrase_back : (phrase : List ℕ) → (front : List ℕ) × IsPhrased (phrase_text phrase) front phrase × (words front ≡ [])
unfolding words
phrase_back phrase = ([], record { after = []; parts = refl; first = λ i h e. omega arith; spaces = refl }, refl)

-- what is no kept text
abbrev pub IsRead : Form → Type 0
IsRead (VerbatimText t) = ⊥
IsRead f = Unit {0}

pub form_back : (f : Form) → IsRead f → IsGood f → IsOfForm (spelling f) f
unfolding spelling IsOfForm
form_back (OnDate d) r h = told_back d h
form_back (NearDate how d) r h = after_back (approximation_text how) d (near_word how) h
form_back (BeforeDate d) r h = after_back (codes "BEF") d (omega arith, refl) h
form_back (AfterDate d) r h = after_back (codes "AFT") d (omega arith, refl) h
form_back (BetweenDates d e) r h = two_back (codes "BET") (codes "AND") d e (omega arith, refl)
    (omega arith, refl) h.0 h.1
form_back (SinceDate d) r h = after_back (codes "FROM") d (omega arith, refl) h
form_back (UntilDate d) r h = after_back (codes "TO") d (omega arith, refl) h
form_back (FromToDates d e) r h = two_back (codes "FROM") (codes "TO") d e (omega arith, refl)
    (omega arith, refl) h.0 h.1
form_back (InterpretedDate d phrase) r h = int_back d phrase h.0
form_back (PhraseAlone phrase) r h = phrase_back phrase
form_back (VerbatimText t) r h = absurd r
