-- Each text has a value: whether it fits a form is decided.
use Rattle.std.proofs.Common.{
  ◌≡◌,
  ◌⊎◌,
  inl,
  inr,
  ℕ,
  zero,
  suc,
  ◌<◌,
  ◌≤◌,
  true,
  List,
  [],
  ◌∷◌,
  ◌++◌,
  length,
  slice_index,
  append_assoc,
  Option,
  Some,
  None,
  refl,
  ap,
  sym,
  subst,
  ◌∙◌,
  arith,
  ℤ,
  ◌<ℤ◌,
  ◌≤ℤ◌,
}
use Rattle.std.specs.Int.{IsInRange}
use Rattle.std.specs.List.{list_all}
use Rattle.jiff_core.proofs.SignedLemmas.{signed_arith}
use Rattle.calendar_days.specs.Calendars.{
  HasDay,
  HasYearsBefore,
  IsCounted,
  IsExtent,
  IsYearOf,
  counted,
  last_month,
  month_days,
}
use Rattle.gedcom_date.specs.Words.{words, is_space, Without}
use Rattle.calendar_days.specs.Told.{Told, Exists}
use Rattle.gedcom_date.specs.Order.{IsOrdered}
use Rattle.gedcom_date.specs.Form.{
  Form,
  OnDate,
  NearDate,
  BeforeDate,
  AfterDate,
  BetweenDates,
  SinceDate,
  UntilDate,
  FromToDates,
  InterpretedDate,
  PhraseAlone,
  VerbatimText,
}
use Rattle.gedcom_date.specs.Spelling.{spelling}
use Rattle.gedcom_date.specs.Grammar.{IsPhrased, IsOfForm, IsShort, IsGood, Says}
use Rattle.gedcom_date.specs.Reading.{word_form, phrase_form}
use Rattle.calendar_days.specs.declared.calendar.Calendar.{Calendar}
use Rattle.calendar_days.specs.declared.calendar.Calendar.TheVariants.{Gregorian, Julian, Republican}
use Rattle.calendar_days.specs.declared.calendar.Year.{Year}
use Rattle.calendar_days.specs.declared.calendar.Year.TheVariants.{Single, Double}
use Rattle.calendar_days.specs.declared.calendar.Extent.{Extent}
use Rattle.calendar_days.specs.declared.calendar.Extent.TheVariants.{BeforeChrist, Whole, Month, Day}
use Rattle.calendar_days.proofs.Ends.{least_of, greatest_of}
use Rattle.gedcom_date.proofs.Spans.{joined, ordered_by}
use Rattle.gedcom_date.proofs.Phrases.{no_phrase, no_end, NotEnded, NotBracketed}
use Rattle.gedcom_date.proofs.Fitting.{one_form, either, apart, of_phrase, of_words, same_phrasal, word_is, word_only}

-- it holds, or it does not
abbrev Decided : Type 0 → Type 0
Decided P = P ⊎ (¬ P)

both : (P Q : Type 0) → Decided P → Decided Q → Decided (P × Q)
both P Q (inl p) (inl q) = inl (p, q)
both P Q (inl p) (inr lacks) = inr (λ h. lacks h.1)
both P Q (inr lacks) q = inr (λ h. lacks h.0)

at_most : (a b : ℕ) → Decided (a ≤ b)
at_most a b = grind arith

in_range : (a b n : ℕ) → Decided (IsInRange a b n)
in_range a b n = both (a ≤ n) (n ≤ b) (at_most a n) (at_most n b)

-- days, months and years
year_decided : (y : Year) → Decided (IsCounted y)
year_decided (Single n) = in_range 1 9999 n
year_decided (Double n) = in_range 1 9998 n

of_decided : (c : Calendar) (y : Year) → Decided (IsYearOf c y)
of_decided Gregorian y = inl tt
of_decided Julian y = inl tt
of_decided Republican (Single n) = at_most n 14
of_decided Republican (Double n) = inr (λ h. h)

before_decided : (c : Calendar) → Decided (HasYearsBefore c)
before_decided Gregorian = inl tt
before_decided Julian = inl tt
before_decided Republican = inr (λ h. h)

all_three : (P Q R : Type 0) → Decided P → Decided Q → Decided R → Decided (P × Q × R)
all_three P Q R (inl p) (inl q) (inl r) = inl (p, q, r)
all_three P Q R (inl p) (inl q) (inr lacks) = inr (λ h. lacks h.2)
all_three P Q R (inl p) (inr lacks) r = inr (λ h. lacks h.1)
all_three P Q R (inr lacks) q r = inr (λ h. lacks h.0)

extent_decided : (c : Calendar) (e : Extent) → Decided (IsExtent c e)
extent_decided c (BeforeChrist n) = both (IsInRange 1 9999 n) (HasYearsBefore c) (in_range 1 9999 n)
    (before_decided c)
extent_decided c (Whole y) = both (IsCounted y) (IsYearOf c y) (year_decided y) (of_decided c y)
extent_decided c (Month m y) = all_three (IsCounted y) (IsInRange 1 (last_month c) m) (IsYearOf c y)
    (year_decided y) (in_range 1 (last_month c) m) (of_decided c y)
extent_decided c (Day d m y) = all_three (IsCounted y) (HasDay c (counted y) m d) (IsYearOf c y)
    (year_decided y)
    (both (IsInRange 1 (last_month c) m) (IsInRange 1 (month_days c (counted y) m) d) (in_range 1 (last_month c) m)
    (in_range 1 (month_days c (counted y) m) d)) (of_decided c y)

exists_decided : (d : Told) → Decided (Exists d)
exists_decided d = extent_decided d.calendar d.extent

order : (a b : ℤ) → (a ≤ℤ b) ⊎ (b <ℤ a)
order a b = grind (arith, signed_arith)

after : (a b : ℤ) → b <ℤ a → a ≤ℤ b → ⊥
after a b h k = absurd (omega (arith, signed_arith))

ordered_decided : (d e : Told) → Exists d → Exists e → Decided (IsOrdered d e)
ordered_decided d e h k =
    let lo = least_of d d.extent refl h in
    let hi = greatest_of e e.extent refl k in
    elim (order lo.0 hi.0) [
      | inl l ↦ inl (ordered_by d e lo.0 hi.0 lo.1 hi.1 l)
      | inr l ↦ inr (λ ordered. after lo.0 hi.0 l (joined d e lo.0 hi.0 ordered lo.1 hi.1))
    ]

period_decided : (d e : Told) → Decided (Exists d) → Decided (Exists e) → Decided (Exists d × Exists e × IsOrdered d e)
period_decided d e (inr lacks) k = inr (λ h. lacks h.0)
period_decided d e (inl h) (inr lacks) = inr (λ h. lacks h.1)
period_decided d e (inl h) (inl k) = elim (ordered_decided d e h k) [
  | inl o ↦ inl (h, k, o)
  | inr lacks ↦ inr (λ h. lacks h.2)
]

short_decided : (f : Form) → Decided (IsShort f)
unfolding IsShort
short_decided f = at_most (length (spelling f)) 1048576

good_decided : (f : Form) → Decided (IsGood f)
good_decided (OnDate d) = exists_decided d
good_decided (NearDate how d) = exists_decided d
good_decided (BeforeDate d) = exists_decided d
good_decided (AfterDate d) = exists_decided d
good_decided (BetweenDates d e) = period_decided d e (exists_decided d) (exists_decided e)
good_decided (SinceDate d) = exists_decided d
good_decided (UntilDate d) = exists_decided d
good_decided (FromToDates d e) = period_decided d e (exists_decided d) (exists_decided e)
good_decided (InterpretedDate d phrase) = both (Exists d) (IsShort (InterpretedDate d phrase)) (exists_decided d)
    (short_decided (InterpretedDate d phrase))
good_decided (PhraseAlone phrase) = short_decided (PhraseAlone phrase)
good_decided (VerbatimText t) = inl tt

-- a text without the spaces at its end
record Trimmed (text : List ℕ) : Type 0 where
  trim : List ℕ
  after : List ℕ
  parts : text ≡ trim ++ after
  spaces : list_all is_space after ≡ true
  ends : NotEnded trim

none_ended : (front : List ℕ) → [] ≡ front ++ 32 ∷ [] → ⊥
none_ended [] e = absurd cc
none_ended (x ∷ xs) e = absurd cc

first_space : (b : ℕ) → Decided (b ≡ 32)
first_space b = grind arith

-- one more byte in front of a text that was trimmed
more_ended : (b x : ℕ) (xs front : List ℕ) → NotEnded (x ∷ xs) → b ∷ (x ∷ xs) ≡ front ++ 32 ∷ [] → ⊥
more_ended b x xs [] none e = absurd cc
more_ended b x xs (f ∷ fs) none e = none fs (let h : x ∷ xs ≡ fs ++ 32 ∷ [] = cc in h)

one_ended : (b : ℕ) (front : List ℕ) → (b ≡ 32 → ⊥) → b ∷ [] ≡ front ++ 32 ∷ [] → ⊥
one_ended b [] lacks e = lacks cc
one_ended b (f ∷ []) lacks e = absurd cc
one_ended b (f ∷ g ∷ gs) lacks e = absurd cc

trim_by : (b : ℕ) (bs trim after : List ℕ) → bs ≡ trim ++ after → list_all is_space after ≡ true → NotEnded trim
    → Decided (b ≡ 32) → Trimmed (b ∷ bs)
trim_by b bs [] after parts spaces ends (inl e) = record {
  trim = [];
  after = b ∷ after;
  parts = ap (λ (l : List ℕ). b ∷ l) parts;
  spaces = rw e spaces;
  ends = none_ended;
}
trim_by b bs [] after parts spaces ends (inr lacks) = record {
  trim = b ∷ [];
  after = after;
  parts = ap (λ (l : List ℕ). b ∷ l) parts;
  spaces = spaces;
  ends = λ front e. one_ended b front lacks e;
}
trim_by b bs (x ∷ xs) after parts spaces ends d = record {
  trim = b ∷ (x ∷ xs);
  after = after;
  parts = ap (λ (l : List ℕ). b ∷ l) parts;
  spaces = spaces;
  ends = λ front e. more_ended b x xs front ends e;
}

trim_cons : (b : ℕ) (bs : List ℕ) → Trimmed bs → Trimmed (b ∷ bs)
trim_cons b bs t = trim_by b bs t.trim t.after t.parts t.spaces t.ends (first_space b)

trimmed : (text : List ℕ) → Trimmed text
trimmed [] = record { trim = []; after = []; parts = refl; spaces = refl; ends = none_ended }
trimmed (b ∷ bs) = trim_cons b bs (trimmed bs)

-- a byte at its first place, or nowhere
record FirstAt (c : ℕ) (text : List ℕ) : Type 0 where
  front : List ℕ
  rest : List ℕ
  parts : text ≡ front ++ c ∷ rest
  first : Without c front

same : (a b : ℕ) → Decided (a ≡ b)
same a b = grind arith

cons_at : (c b : ℕ) (bs : List ℕ) → (b ≡ c → ⊥) → Without c bs → (i : ℕ) → i < length (b ∷ bs)
    → slice_index (b ∷ bs) i ≡ c → ⊥
cons_at c b bs h none zero k e = h e
cons_at c b bs h none (suc i) k e = none i (omega arith) e

without_cons : (c b : ℕ) (bs : List ℕ) → (b ≡ c → ⊥) → Without c bs → Without c (b ∷ bs)
without_cons c b bs h none = λ i k e. cons_at c b bs h none i k e

first_cons : (c b : ℕ) (bs : List ℕ) → Decided (b ≡ c) → FirstAt c bs ⊎ Without c bs → FirstAt c (b ∷ bs)
    ⊎ Without c (b ∷ bs)
first_cons c b bs (inl e) h =
    inl (record { front = []; rest = bs; parts = ap (λ (x : ℕ). x ∷ bs) e; first = λ i k l. omega arith })
first_cons c b bs (inr lacks) (inl at) =
    inl (record {
      front = b ∷ at.front;
      rest = at.rest;
      parts = ap (λ (l : List ℕ). b ∷ l) at.parts;
      first = without_cons c b at.front lacks at.first;
    })
first_cons c b bs (inr lacks) (inr none) = inr (without_cons c b bs lacks none)

first_at : (c : ℕ) (text : List ℕ) → FirstAt c text ⊎ Without c text
first_at c [] = inr (λ i k e. omega arith)
first_at c (b ∷ bs) = first_cons c b bs (same b c) (first_at c bs)

-- a list that ends with a bracket, or does not
none_bracketed : (front : List ℕ) → [] ≡ front ++ 41 ∷ [] → ⊥
none_bracketed [] e = absurd cc
none_bracketed (x ∷ xs) e = absurd cc

one_bracketed : (b : ℕ) (front : List ℕ) → (b ≡ 41 → ⊥) → b ∷ [] ≡ front ++ 41 ∷ [] → ⊥
one_bracketed b [] lacks e = lacks cc
one_bracketed b (f ∷ []) lacks e = absurd cc
one_bracketed b (f ∷ g ∷ gs) lacks e = absurd cc

more_bracketed : (b x : ℕ) (xs front : List ℕ) → NotBracketed (x ∷ xs) → b ∷ (x ∷ xs) ≡ front ++ 41 ∷ [] → ⊥
more_bracketed b x xs [] none e = absurd cc
more_bracketed b x xs (f ∷ fs) none e = none fs (let h : x ∷ xs ≡ fs ++ 41 ∷ [] = cc in h)

bracket_cons : (b : ℕ) (bs : List ℕ) → Decided (b ≡ 41) → ((front : List ℕ) × (bs ≡ front ++ 41 ∷ [])) ⊎ NotBracketed bs
    → ((front : List ℕ) × (b ∷ bs ≡ front ++ 41 ∷ [])) ⊎ NotBracketed (b ∷ bs)
bracket_cons b bs d (inl end) = inl (b ∷ end.0, ap (λ (l : List ℕ). b ∷ l) end.1)
bracket_cons b [] (inl e) (inr lacks) = inl ([], ap (λ (x : ℕ). x ∷ []) e)
bracket_cons b [] (inr not) (inr lacks) = inr (λ front e. one_bracketed b front not e)
bracket_cons b (x ∷ xs) d (inr lacks) = inr (λ front e. more_bracketed b x xs front lacks e)

bracket_end : (text : List ℕ) → ((front : List ℕ) × (text ≡ front ++ 41 ∷ [])) ⊎ NotBracketed text
bracket_end [] = inr none_bracketed
bracket_end (b ∷ bs) = bracket_cons b bs (same b 41) (bracket_end bs)

-- whether a text has a phrase
abbrev HasPhrase : List ℕ → Type 0
HasPhrase text = (front : List ℕ) × (phrase : List ℕ) × IsPhrased text front phrase

made_parts : (text trim after front rest phrase : List ℕ) → text ≡ trim ++ after → trim ≡ front ++ 40 ∷ rest
    → rest ≡ phrase ++ 41 ∷ [] → text ≡ front ++ 40 ∷ phrase ++ 41 ∷ after
made_parts text trim after front rest phrase e f g =
    let cut : trim ≡ (front ++ 40 ∷ phrase) ++ 41 ∷ [] = f ∙ ap (λ (l : List ℕ). front ++ 40 ∷ l) g
    ∙ sym (append_assoc front (40 ∷ phrase) (41 ∷ [])) in
    e ∙ ap (λ (l : List ℕ). l ++ after) cut ∙ append_assoc (front ++ 40 ∷ phrase) (41 ∷ []) after

phrase_decided : (text : List ℕ) → Decided (HasPhrase text)
phrase_decided text =
    let t = trimmed text in
    elim (first_at 40 t.trim) [
      | inr none ↦ inr (λ h. no_phrase text t.trim t.after h.0 h.1 t.parts t.spaces none h.2)
      | inl at ↦ elim (bracket_end at.rest) [
        | inr lacks ↦ inr (λ h. no_end text t.trim t.after at.front at.rest h.0 h.1 t.parts t.spaces t.ends at.parts
            at.first lacks h.2)
        | inl end ↦ inl (
          at.front,
          end.0,
          record {
            after = t.after;
            parts = made_parts text t.trim t.after at.front at.rest end.0 t.parts at.parts
                end.1;
            first = at.first;
            spaces = t.spaces;
          },
        )
      ]
    ]

-- what is said of a text that has a form
said : (text : List ℕ) (f : Form) → IsOfForm text f → ((g : Form) → IsOfForm text g → f ≡ g) → Decided (IsGood f)
    → (f : Form) × Says text f
said text f is one (inl good) = (f, inl (is, good))
said text f is one (inr lacks) =
    (VerbatimText text, inr (refl, λ g fits. lacks (subst IsGood (sym (one g fits.0)) fits.1)))

unsaid : (text : List ℕ) → ((g : Form) → IsOfForm text g → ⊥) → (f : Form) × Says text f
unsaid text lacks = (VerbatimText text, inr (refl, λ g fits. lacks g fits.0))

by_words : (text : List ℕ) (o : Option Form) → word_form (words text) ≡ o → ¬ (HasPhrase text)
    → (f : Form) × Says text f
by_words text None e lacks = unsaid text (λ g is. elim (either text g is) [
  | inl worded ↦ absurd (let h = word_only (words text) g worded in cc)
  | inr h ↦ lacks (h.0, h.1, h.2)
])
by_words text (Some f) e lacks = said text f (of_words text f (word_is (words text) f e))
    (λ g is. one_form text f g (of_words text f (word_is (words text) f e)) is) (good_decided f)

by_phrase : (text front phrase : List ℕ) (o : Option Form) → IsPhrased text front phrase
    → phrase_form (words front) phrase ≡ o → (f : Form) × Says text f
by_phrase text front phrase None is e = unsaid text (λ g of. elim (either text g of) [
  | inl worded ↦ apart text front phrase g worded is
  | inr h ↦ absurd (let k = same_phrasal text front phrase g is h in cc)
])
by_phrase text front phrase (Some f) is e = said text f (of_phrase text front phrase f is e)
    (λ g of. one_form text f g (of_phrase text front phrase f is e) of) (good_decided f)

by_cases : (text : List ℕ) → Decided (HasPhrase text) → (f : Form) × Says text f
by_cases text (inl h) = by_phrase text h.0 h.1 (phrase_form (words h.0) h.1) h.2 refl
by_cases text (inr lacks) = by_words text (word_form (words text)) refl lacks

-- each text has a value
pub some_value : (text : List ℕ) → (f : Form) × Says text f
some_value text = by_cases text (phrase_decided text)
