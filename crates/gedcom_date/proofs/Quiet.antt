-- The words of a date are no keywords, and hold no bracket.
use Rattle.std.proofs.Common.{
  ◌≡◌,
  ◌⊎◌,
  inl,
  inr,
  ℕ,
  suc,
  zero,
  ◌-◌,
  Bool,
  true,
  false,
  ◌||◌,
  ◌==◌,
  nat_lt,
  nat_eq,
  List,
  [],
  ◌∷◌,
  ◌++◌,
  map,
  codes,
  not,
  ◌&&◌,
  Option,
  Some,
  None,
  refl,
  ap,
  sym,
  subst,
  ◌∙◌,
  arith,
}
use Rattle.std.specs.Char.{is_ascii_digit, to_ascii_lowercase}
use Rattle.std.specs.List.{list_all, list_any, slice_get}
use Rattle.std.proofs.lemmas.Bool.Decides.{nat_tests}
use Rattle.std.proofs.lemmas.Bool.{and_parts}
use Rattle.gedcom_date.specs.Words.{Reads}
use Rattle.calendar_days.specs.Told.{Told}
use Rattle.gedcom_date.specs.Grammar.{
  IsNumber,
  IsYearWord,
  IsMonthWord,
  IsExtentOf,
  IsEscape,
  IsDateOf,
  months,
  month_names,
  republican_names,
}
use Rattle.gedcom_date.specs.Reading.{reads, keyword_of, is_and, is_to}
use Rattle.calendar_days.specs.declared.calendar.Calendar.{Calendar}
use Rattle.calendar_days.specs.declared.calendar.Calendar.TheVariants.{Gregorian, Julian, Republican}
use Rattle.calendar_days.specs.declared.calendar.Year.{Year}
use Rattle.calendar_days.specs.declared.calendar.Year.TheVariants.{Single, Double}
use Rattle.calendar_days.specs.declared.calendar.Extent.{Extent}
use Rattle.calendar_days.specs.declared.calendar.Extent.TheVariants.{BeforeChrist, Whole, Month, Day}
use Rattle.gedcom_date.specs.declared.keyword.Keyword.{Keyword}
use Rattle.gedcom_date.proofs.Names.{reads_as, keyword_as}

abbrev pub is_bracket : ℕ → Bool
is_bracket b = b == 40

-- no keyword and no bracket
pub record Silent (w : List ℕ) : Type 0 where
  pub key : keyword_of w ≡ None
  pub joining : is_and w ≡ false
  pub closing : is_to w ≡ false
  pub bare : list_any is_bracket w ≡ false

-- and no escape
pub record Quiet (w : List ℕ) : Type 0 where
  pub key : keyword_of w ≡ None
  pub gregorian : reads w (codes "@#DGREGORIAN@") ≡ false
  pub julian : reads w (codes "@#DJULIAN@") ≡ false
  pub republican : reads w (codes "@#DFRENCH") ≡ false
  pub joining : is_and w ≡ false
  pub closing : is_to w ≡ false
  pub bare : list_any is_bracket w ≡ false

silent : (w : List ℕ) → Quiet w → Silent w
silent w q = record { key = q.key; joining = q.joining; closing = q.closing; bare = q.bare }

-- brackets among letters of either case
lower_bracket : (b : ℕ) → is_bracket (to_ascii_lowercase b) ≡ is_bracket b
lower_bracket b = grind (arith, nat_tests)

lower_bare : (w : List ℕ) → list_any is_bracket (map to_ascii_lowercase w) ≡ list_any is_bracket w
lower_bare [] = refl
lower_bare (b ∷ bs) = rw (lower_bracket b, lower_bare bs) refl

pub bare_as : (w name : List ℕ) → Reads w name → list_any is_bracket w ≡ list_any is_bracket name
bare_as w name h = sym (lower_bare w) ∙ ap (list_any is_bracket) h ∙ lower_bare name

-- a word that reads as a quiet one
quiet_as : (w name : List ℕ) → Reads w name → Quiet name → Quiet w
quiet_as w name h q = record {
  key = keyword_as w name h ∙ q.key;
  gregorian = reads_as w name (codes "@#DGREGORIAN@") h ∙ q.gregorian;
  julian = reads_as w name (codes "@#DJULIAN@") h ∙ q.julian;
  republican = reads_as w name (codes "@#DFRENCH") h ∙ q.republican;
  joining = reads_as w name (codes "AND") h ∙ q.joining;
  closing = reads_as w name (codes "TO") h ∙ q.closing;
  bare = bare_as w name h ∙ q.bare;
}

silent_as : (w name : List ℕ) → Reads w name → Silent name → Silent w
silent_as w name h q = record {
  key = keyword_as w name h ∙ q.key;
  joining = reads_as w name (codes "AND") h ∙ q.joining;
  closing = reads_as w name (codes "TO") h ∙ q.closing;
  bare = bare_as w name h ∙ q.bare;
}

-- a word that begins with a digit
digit_apart : (d k : ℕ) → is_ascii_digit d ≡ true → nat_lt 57 (to_ascii_lowercase k) ≡ true
    → nat_eq (to_ascii_lowercase d) (to_ascii_lowercase k) ≡ false
digit_apart d k h j = grind (arith, nat_tests)

pub digit_reads : (d : ℕ) (ds : List ℕ) (k : ℕ) (ks : List ℕ) → is_ascii_digit d ≡ true
    → nat_lt 57 (to_ascii_lowercase k) ≡ true → reads (d ∷ ds) (k ∷ ks) ≡ false
digit_reads d ds k ks h j = rw (digit_apart d k h j) refl

digit_key : (d : ℕ) (ds : List ℕ) → is_ascii_digit d ≡ true → keyword_of (d ∷ ds) ≡ None
unfolding keyword_of
digit_key d ds h =
    let no = λ (k : ℕ) (ks : List ℕ) (j : nat_lt 57 (to_ascii_lowercase k) ≡ true). digit_reads d ds k ks h j in
    rw (
      no 65 (codes "BT") refl,
      no 67 (codes "AL") refl,
      no 69 (codes "ST") refl,
      no 66 (codes "EF") refl,
      no 65 (codes "FT") refl,
      no 66 (codes "ET") refl,
      no 65 (codes "ND") refl,
      no 70 (codes "ROM") refl,
      no 84 (codes "O") refl,
      no 73 (codes "NT") refl,
    ) refl

digit_quiet : (d : ℕ) (ds : List ℕ) → is_ascii_digit d ≡ true → list_any is_bracket (d ∷ ds) ≡ false → Quiet (d ∷ ds)
digit_quiet d ds h bare = record {
  key = digit_key d ds h;
  gregorian = digit_reads d ds 64 (codes "#DGREGORIAN@") h refl;
  julian = digit_reads d ds 64 (codes "#DJULIAN@") h refl;
  republican = digit_reads d ds 64 (codes "#DFRENCH") h refl;
  joining = digit_reads d ds 65 (codes "ND") h refl;
  closing = digit_reads d ds 84 (codes "O") h refl;
  bare = bare;
}

-- digits hold no bracket
digit_bracket : (d : ℕ) → is_ascii_digit d ≡ true → is_bracket d ≡ false
digit_bracket d h = grind (arith, nat_tests)

digits_bare : (ds : List ℕ) → list_all is_ascii_digit ds ≡ true → list_any is_bracket ds ≡ false
digits_bare [] h = refl
digits_bare (d ∷ ds) h = rw (
  digit_bracket d (and_parts (is_ascii_digit d) (list_all is_ascii_digit ds) h).0,
  digits_bare ds (and_parts (is_ascii_digit d) (list_all is_ascii_digit ds) h).1,
) refl

any_cons : (p : ℕ → Bool) (x : ℕ) (xs ys : List ℕ) (b : Bool) → (b || list_any p xs) ≡ false
    → (list_any p xs ≡ false → list_any p (xs ++ ys) ≡ false) → (b || list_any p (xs ++ ys)) ≡ false
any_cons p x xs ys true h more = absurd cc
any_cons p x xs ys false h more = more h

pub any_append : (p : ℕ → Bool) (xs ys : List ℕ) → list_any p xs ≡ false → list_any p ys ≡ false
    → list_any p (xs ++ ys) ≡ false
any_append p [] ys h k = k
any_append p (x ∷ xs) ys h k = any_cons p x xs ys (p x) h (λ e. any_append p xs ys e k)

number_quiet : (most : ℕ) (ds : List ℕ) (n : ℕ) → IsNumber most ds n → Quiet ds
number_quiet most [] n h = absurd (omega (arith, h.1.0))
number_quiet most (d ∷ ds) n h = digit_quiet d ds (and_parts (is_ascii_digit d) (list_all is_ascii_digit ds) h.0).0
    (digits_bare (d ∷ ds) h.0)

-- a number and more
behind_quiet : (most : ℕ) (ds rest : List ℕ) (n : ℕ) → IsNumber most ds n → list_any is_bracket rest ≡ false
    → Quiet (ds ++ rest)
behind_quiet most [] rest n h bare = absurd (omega (arith, h.1.0))
behind_quiet most (d ∷ ds) rest n h bare = digit_quiet d (ds ++ rest)
    (and_parts (is_ascii_digit d) (list_all is_ascii_digit ds) h.0).0
    (any_append is_bracket (d ∷ ds) rest (digits_bare (d ∷ ds) h.0) bare)

pub year_quiet : (w : List ℕ) (y : Year) → IsYearWord w y → Quiet w
year_quiet w (Single n) h = number_quiet 4 w n h
year_quiet w (Double n) h = subst Quiet (sym h.3)
    (behind_quiet 4 h.0 (47 ∷ h.1 ∷ h.2 ∷ []) n h.4 (digits_bare (h.1 ∷ h.2 ∷ []) h.6))

-- all words of a list
abbrev pub AllQuiet : List (List ℕ) → Type 0
AllQuiet [] = Unit {0}
AllQuiet (w ∷ ws) = Quiet w × AllQuiet ws

abbrev pub AllSilent : List (List ℕ) → Type 0
AllSilent [] = Unit {0}
AllSilent (w ∷ ws) = Silent w × AllSilent ws

-- words that are written out: a test, and what it says
abbrev is_none : Option Keyword → Bool
is_none None = true
is_none (Some k) = false

none_is : (o : Option Keyword) → is_none o ≡ true → o ≡ None
none_is None h = refl
none_is (Some k) h = absurd cc

abbrev is_quiet : List ℕ → Bool
is_quiet w =
    is_none (keyword_of w) && (not (reads w (codes "@#DGREGORIAN@")) && not (reads w (codes "@#DJULIAN@")) && not
    (reads w (codes "@#DFRENCH")) && not (is_and w) && not (is_to w) && not (list_any is_bracket w))

six_false : (a b c d e f : Bool) → (not a && not b && not c && not d && not e && not f) ≡ true → (a ≡ false)
    × (b ≡ false) × (c ≡ false) × (d ≡ false) × (e ≡ false) × (f ≡ false)
six_false false false false false false false h = (refl, refl, refl, refl, refl, refl)
six_false false false false false false true h = absurd cc
six_false false false false false true f h = absurd cc
six_false false false false true e f h = absurd cc
six_false false false true d e f h = absurd cc
six_false false true c d e f h = absurd cc
six_false true b c d e f h = absurd cc

quiet_if : (w : List ℕ) → is_quiet w ≡ true → Quiet w
quiet_if w h =
    let at = and_parts (is_none (keyword_of w)) _ h in
    let is = six_false (reads w (codes "@#DGREGORIAN@")) (reads w (codes "@#DJULIAN@")) (reads w (codes "@#DFRENCH"))
    (is_and w) (is_to w) (list_any is_bracket w) at.1 in
    record {
      key = none_is (keyword_of w) at.0;
      gregorian = is.0;
      julian = is.1;
      republican = is.2;
      joining = is.3;
      closing = is.4;
      bare = is.5;
    }

all_quiet_if : (ws : List (List ℕ)) → list_all is_quiet ws ≡ true → AllQuiet ws
all_quiet_if [] h = tt
all_quiet_if (w ∷ ws) h =
    let at = and_parts (is_quiet w) (list_all is_quiet ws) h in (quiet_if w at.0, all_quiet_if ws at.1)

pub mark_quiet : (w : List ℕ) → Reads w (codes "B.C.") → Quiet w
unfolding keyword_of
mark_quiet w h = quiet_as w (codes "B.C.") h (quiet_if (codes "B.C.") refl)

-- names of months
names_quiet : (c : Calendar) → AllQuiet (months c)
unfolding keyword_of
names_quiet Gregorian = all_quiet_if month_names refl
names_quiet Julian = all_quiet_if month_names refl
names_quiet Republican = all_quiet_if republican_names refl

one_quiet : (names : List (List ℕ)) (i : ℕ) (name : List ℕ) → AllQuiet names → slice_get names i ≡ Some name
    → Quiet name
one_quiet [] i name q h = absurd cc
one_quiet (n ∷ names) zero name q h = let s : n ≡ name = cc in subst Quiet s q.0
one_quiet (n ∷ names) (suc i) name q h = one_quiet names i name q.1 h

pub month_quiet : (c : Calendar) (w : List ℕ) (m : ℕ) → IsMonthWord c w m → Quiet w
month_quiet c w m h = quiet_as w h.0 h.3 (one_quiet (months c) (m - 1) h.0 (names_quiet c) h.2)

all_silent : (ws : List (List ℕ)) → AllQuiet ws → AllSilent ws
all_silent [] q = tt
all_silent (w ∷ ws) q = (silent w q.0, all_silent ws q.1)

before_quiet : (ws : List (List ℕ)) (year mark : List ℕ) (n : ℕ) → (ws ≡ year ∷ mark ∷ []) ⊎ (ws ≡ (year ++ mark) ∷ [])
    → IsNumber 4 year n → Reads mark (codes "B.C.") → AllQuiet ws
before_quiet ws year mark n (inl e) number reads = subst AllQuiet (sym e) (
  number_quiet 4 year n number,
  (mark_quiet mark reads, tt),
)
before_quiet ws year mark n (inr e) number reads = subst AllQuiet (sym e)
    (behind_quiet 4 year mark n number (mark_quiet mark reads).bare, tt)

pub extent_quiet : (c : Calendar) (ws : List (List ℕ)) (e : Extent) → IsExtentOf c ws e → AllQuiet ws
extent_quiet c ws (BeforeChrist n) h = before_quiet ws h.0 h.1 n h.2 h.3 h.4
extent_quiet c ws (Whole y) h = subst AllQuiet (sym h.1) (year_quiet h.0 y h.2, tt)
extent_quiet c ws (Month m y) h = subst AllQuiet (sym h.2) (month_quiet c h.0 m h.3, (year_quiet h.1 y h.4, tt))
extent_quiet c ws (Day d m y) h = subst AllQuiet (sym h.3) (
  number_quiet 2 h.0 d h.4,
  (month_quiet c h.1 m h.5, (year_quiet h.2 y h.6, tt)),
)

escape_silent : (c : Calendar) (ws rest : List (List ℕ)) → IsEscape c ws rest → AllSilent rest → AllSilent ws
unfolding keyword_of
escape_silent Gregorian ws rest (inl e) q = subst AllSilent (sym e) q
escape_silent Gregorian ws rest (inr h) q = subst AllSilent (sym h.1)
    (silent_as h.0 (codes "@#DGREGORIAN@") h.2 (record { key = refl; joining = refl; closing = refl; bare = refl }), q)
escape_silent Julian ws rest h q = subst AllSilent (sym h.1)
    (silent_as h.0 (codes "@#DJULIAN@") h.2 (record { key = refl; joining = refl; closing = refl; bare = refl }), q)
escape_silent Republican ws rest h q = subst AllSilent (sym h.2) (
  silent_as h.0 (codes "@#DFRENCH") h.3 (record { key = refl; joining = refl; closing = refl; bare = refl }),
  (silent_as h.1 (codes "R@") h.4 (record { key = refl; joining = refl; closing = refl; bare = refl }), q),
)

pub date_silent : (ws : List (List ℕ)) (d : Told) → IsDateOf ws d → AllSilent ws
date_silent ws d h = escape_silent d.calendar ws h.0 h.1 (all_silent h.0 (extent_quiet d.calendar h.0 d.extent h.2))

-- what is so of no word
pub no_and : (ws : List (List ℕ)) → AllSilent ws → list_any is_and ws ≡ false
no_and [] q = refl
no_and (w ∷ ws) q = rw (q.0.joining, no_and ws q.1) refl

pub no_to : (ws : List (List ℕ)) → AllSilent ws → list_any is_to ws ≡ false
no_to [] q = refl
no_to (w ∷ ws) q = rw (q.0.closing, no_to ws q.1) refl

pub no_bracket : (ws : List (List ℕ)) → AllSilent ws → list_any (list_any is_bracket) ws ≡ false
no_bracket [] q = refl
no_bracket (w ∷ ws) q = rw (q.0.bare, no_bracket ws q.1) refl
