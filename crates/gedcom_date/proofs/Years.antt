-- Years, days and the mark B.C.: what is read is what the words spell, both ways.
use Rattle.std.proofs.Common.{
  ◌≡◌,
  ℕ,
  suc,
  ◌+◌,
  ◌*◌,
  ◌-◌,
  ◌%◌,
  ◌≤◌,
  ◌<◌,
  Bool,
  true,
  false,
  ◌&&◌,
  not,
  ◌==◌,
  cond,
  nat_lt,
  nat_le,
  List,
  [],
  ◌∷◌,
  ◌++◌,
  length,
  get_or,
  take,
  drop,
  map,
  codes,
  length-append,
  Option,
  Some,
  None,
  option_map,
  refl,
  ap,
  sym,
  subst,
  ◌∙◌,
  arith,
}
use Rattle.std.specs.Char.{is_ascii_digit, to_ascii_lowercase}
use Rattle.std.specs.List.{list_all, position_or_len, before_first, after_first}
use Rattle.std.proofs.lemmas.Bool.Decides.{nat_tests}
use Rattle.std.proofs.lemmas.List.{take-append-drop}
use Rattle.std.proofs.lemmas.List.Sums.{split_at_first}
use Rattle.std.proofs.Math.Seq.{take-append_seam, drop-append_seam}
use Rattle.std.proofs.lemmas.Bool.{and_parts}
use Rattle.gedcom_date.specs.Words.{Reads}
use Rattle.gedcom_date.specs.Grammar.{IsNumber, IsYearWord, value_from}
use Rattle.gedcom_date.specs.Reading.{reads, number_of, double_of, year_of, day_of, joined_before_christ}
use Rattle.calendar_days.specs.declared.calendar.Year.{Year}
use Rattle.calendar_days.specs.declared.calendar.Year.TheVariants.{Single, Double}
use Rattle.gedcom_date.proofs.Numbers.{number_only, number_is, longer}
use Rattle.gedcom_date.proofs.Names.{reads_is, reads_only}

pub day_only : (w : List ℕ) (n : ℕ) → IsNumber 2 w n → day_of w ≡ Some n
unfolding day_of
day_only w n h = let short : nat_le (length w) 2 ≡ true = grind (arith, nat_tests, h.1.1) in
    rw short (number_only w n (longer w n h))

if_some : (b : Bool) (o : Option ℕ) (n : ℕ) → cond b o None ≡ Some n → (b ≡ true) × (o ≡ Some n)
if_some true o n h = (refl, h)
if_some false o n h = absurd cc

pub day_is : (w : List ℕ) (n : ℕ) → day_of w ≡ Some n → IsNumber 2 w n
unfolding day_of
day_is w n h =
    let at = if_some (nat_le (length w) 2) (number_of w) n h in
    let is = number_is w n at.1 in
    let short : length w ≤ 2 = grind (arith, nat_tests, at.0) in
    (is.0, (is.1.0, short), is.2, is.3)

-- digits hold no stroke
digit_no_stroke : (d : ℕ) → is_ascii_digit d ≡ true → (d == 47) ≡ false
digit_no_stroke d h = grind (arith, nat_tests)

pub no_stroke : (ds : List ℕ) → list_all is_ascii_digit ds ≡ true → position_or_len (λ b. b == 47) ds ≡ length ds
no_stroke [] h = refl
no_stroke (d ∷ ds) h =
    let here = digit_no_stroke d (and_parts (is_ascii_digit d) (list_all is_ascii_digit ds) h).0 in
    let more = no_stroke ds (and_parts (is_ascii_digit d) (list_all is_ascii_digit ds) h).1 in
    rw here (omega (arith, more))

stroke_at : (ds rest : List ℕ) → list_all is_ascii_digit ds ≡ true → position_or_len (λ b. b == 47)
    (ds ++ 47 ∷ rest) ≡ length ds
stroke_at [] rest h = refl
stroke_at (d ∷ ds) rest h =
    let here = digit_no_stroke d (and_parts (is_ascii_digit d) (list_all is_ascii_digit ds) h).0 in
    let more = stroke_at ds rest (and_parts (is_ascii_digit d) (list_all is_ascii_digit ds) h).1 in
    rw here (omega (arith, more))

same_length : (w : List ℕ) → (length w == length w) ≡ true
same_length w = grind (arith, nat_tests)

drop_past : (ds : List ℕ) (x : ℕ) (rest : List ℕ) → drop (length ds + 1) (ds ++ x ∷ rest) ≡ rest
drop_past [] x rest = refl
drop_past (d ∷ ds) x rest = let e : suc (length ds) + 1 ≡ suc (length ds + 1) = omega arith in
    rw e (drop_past ds x rest)

-- the last two digits
two_only : (n t o : ℕ) → n ≤ 9998 → list_all is_ascii_digit (t ∷ o ∷ []) ≡ true → value_from 0 (t ∷ o ∷ [])
    ≡ (n + 1) % 100 → double_of (Some n) (t ∷ o ∷ []) ≡ Some (Double n)
two_only n t o high digits value =
    let td = (and_parts (is_ascii_digit t) (list_all is_ascii_digit (o ∷ [])) digits).0 in
    let od = (and_parts (is_ascii_digit o) true
    (and_parts (is_ascii_digit t) (list_all is_ascii_digit (o ∷ [])) digits).1).0 in
    let le : nat_le n 9998 ≡ true = grind (arith, nat_tests) in
    let eq : (10 * (t - 48) + (o - 48) == (n + 1) % 100) ≡ true = grind (arith, nat_tests) in
    rw (td, od, le, eq) refl

pub year_only : (w : List ℕ) (y : Year) → IsYearWord w y → year_of w ≡ Some y
unfolding year_of
year_only w (Single n) h = rw (no_stroke w h.0, same_length w, number_only w n h) refl
year_only w (Double n) h =
    let front = h.0 in
    let tail = 47 ∷ h.1 ∷ h.2 ∷ [] in
    let at = stroke_at front (h.1 ∷ h.2 ∷ []) h.4.0 in
    let apart : (length front == length (front ++ tail)) ≡ false = grind (arith, nat_tests, length-append front tail) in
    rw (h.3, at, apart, take-append_seam front tail, drop_past front 47 (h.1 ∷ h.2 ∷ []), number_only front n h.4)
    (two_only n h.1 h.2 h.5 h.6 h.7)

-- a double year, by its parts
abbrev IsDouble : Option ℕ → List ℕ → Year → Type 0
IsDouble first back y = (n : ℕ) × (t : ℕ) × (o : ℕ) × (first ≡ Some n) × (back ≡ t ∷ o ∷ []) × (y ≡ Double n)
    × (n ≤ 9998) × (list_all is_ascii_digit (t ∷ o ∷ []) ≡ true) × (value_from 0 (t ∷ o ∷ []) ≡ (n + 1) % 100)

four_true : (a b c d : Bool) (y z : Year) → cond (a && b && c && d) (Some y) None ≡ Some z
    → (a ≡ true) × (b ≡ true) × (c ≡ true) × (d ≡ true) × (y ≡ z)
four_true true true true true y z h = (refl, refl, refl, refl, cc)
four_true true true true false y z h = absurd cc
four_true true true false d y z h = absurd cc
four_true true false c d y z h = absurd cc
four_true false b c d y z h = absurd cc

double_is : (first : Option ℕ) (back : List ℕ) (y : Year) → double_of first back ≡ Some y → IsDouble first back y
double_is None back y h = absurd cc
double_is (Some n) [] y h = absurd cc
double_is (Some n) (a ∷ []) y h = absurd cc
double_is (Some n) (t ∷ o ∷ []) y h =
    let at = four_true (is_ascii_digit t) (is_ascii_digit o) (nat_le n 9998) (10 * (t - 48) + (o - 48) == (n + 1) % 100)
    (Double n) y h in
    let high : n ≤ 9998 = grind (arith, nat_tests, at.2) in
    let value : value_from 0 (t ∷ o ∷ []) ≡ (n + 1) % 100 = grind (arith, nat_tests, at.3) in
    let digits : list_all is_ascii_digit (t ∷ o ∷ []) ≡ true = rw (at.0, at.1) refl in
    (n, t, o, refl, refl, sym at.4, high, digits, value)
double_is (Some n) (a ∷ b ∷ c ∷ more) y h = absurd cc

single_is : (w : List ℕ) (o : Option ℕ) (y : Year) → o ≡ number_of w → option_map Single o ≡ Some y → IsYearWord w y
single_is w None y e h = absurd cc
single_is w (Some n) y e h = let s : Single n ≡ y = cc in rw (← s) (number_is w n (sym e))

-- the first stroke is one
stroke_cons : (d : ℕ) (ds : List ℕ) (b : Bool) → (d == 47) ≡ b
    → (position_or_len (λ b. b == 47) ds < length ds → get_or ds (position_or_len (λ b. b == 47) ds) 0 ≡ 47)
    → cond (not b) (1 + position_or_len (λ b. b == 47) ds) 0 < suc (length ds)
    → get_or (d ∷ ds) (cond (not b) (1 + position_or_len (λ b. b == 47) ds) 0) 0 ≡ 47
stroke_cons d ds true e more h = grind (arith, nat_tests)
stroke_cons d ds false e more h = let s : 1 + position_or_len (λ b. b == 47) ds ≡ suc
    (position_or_len (λ b. b == 47) ds) = omega arith in rw s (more (omega arith))

stroke_is : (w : List ℕ) → position_or_len (λ b. b == 47) w < length w
    → get_or w (position_or_len (λ b. b == 47) w) 0 ≡ 47
stroke_is [] h = absurd (omega arith)
stroke_is (d ∷ ds) h = stroke_cons d ds (d == 47) refl (stroke_is ds) h

most_cons : (d : ℕ) (ds : List ℕ) (b : Bool) → position_or_len (λ b. b == 47) ds ≤ length ds
    → cond (not b) (1 + position_or_len (λ b. b == 47) ds) 0 ≤ suc (length ds)
most_cons d ds true h = omega arith
most_cons d ds false h = omega arith

at_most : (w : List ℕ) → position_or_len (λ b. b == 47) w ≤ length w
at_most [] = omega arith
at_most (d ∷ ds) = most_cons d ds (d == 47) (at_most ds)

year_by : (w : List ℕ) (y : Year) (b : Bool) → (position_or_len (λ b. b == 47) w == length w) ≡ b
    → cond b (option_map Single (number_of w))
    (double_of (number_of (before_first (λ b. b == 47) w)) (after_first (λ b. b == 47) w)) ≡ Some y → IsYearWord w y
year_by w y true e h = single_is w (number_of w) y refl h
year_by w y false e h =
    let short : position_or_len (λ b. b == 47) w < length w = grind (arith, nat_tests, at_most w) in
    let is = double_is (number_of (before_first (λ b. b == 47) w)) (after_first (λ b. b == 47) w) y h in
    let parts = split_at_first (λ b. b == 47) w 0 short in
    let stroke = stroke_is w short in
    let whole : w ≡ before_first (λ b. b == 47) w ++ 47 ∷ is.1 ∷ is.2 ∷ [] =
    parts ∙ ap (λ (x : ℕ). before_first (λ b. b == 47) w ++ x ∷ after_first (λ b. b == 47) w) stroke
    ∙ ap (λ (l : List ℕ). before_first (λ b. b == 47) w ++ 47 ∷ l) is.4 in
    subst (IsYearWord w) (sym is.5) (
      before_first (λ b. b == 47) w,
      is.1,
      is.2,
      whole,
      number_is (before_first (λ b. b == 47) w) is.0 is.3,
      is.6,
      is.7,
      is.8,
    )

pub year_is : (w : List ℕ) (y : Year) → year_of w ≡ Some y → IsYearWord w y
unfolding year_of
year_is w y h = year_by w y (position_or_len (λ b. b == 47) w == length w) refl h

-- B.C. in the same word
lower_length : (w : List ℕ) → length (map to_ascii_lowercase w) ≡ length w
lower_length [] = refl
lower_length (b ∷ bs) = ap suc (lower_length bs)

mark_length : (mark : List ℕ) → Reads mark (codes "B.C.") → length mark ≡ 4
mark_length mark h = let e : length (map to_ascii_lowercase mark) ≡ 4 = ap length h in omega (arith, lower_length mark)

pub joined_only : (year mark : List ℕ) (n : ℕ) → IsNumber 4 year n → Reads mark (codes "B.C.")
    → joined_before_christ (year ++ mark) ≡ Some n
unfolding joined_before_christ
joined_only year mark n number reads =
    let four = mark_length mark reads in
    let whole = length-append year mark in
    let at : length (year ++ mark) - 4 ≡ length year = omega arith in
    let long : nat_lt 4 (length (year ++ mark)) ≡ true = grind (arith, nat_tests, number.1.0) in
    rw (at, long, drop-append_seam year mark, take-append_seam year mark, reads_only mark (codes "B.C.") reads)
    (number_only year n number)

if_both : (a b : Bool) (o : Option ℕ) (n : ℕ) → cond (a && b) o None ≡ Some n → (a ≡ true) × (b ≡ true) × (o ≡ Some n)
if_both true true o n h = (refl, refl, h)
if_both true false o n h = absurd cc
if_both false b o n h = absurd cc

pub joined_is : (w : List ℕ) (n : ℕ) → joined_before_christ w ≡ Some n → (year : List ℕ) × (mark : List ℕ)
    × (w ≡ year ++ mark) × IsNumber 4 year n × Reads mark (codes "B.C.")
unfolding joined_before_christ
joined_is w n h =
    let at = if_both (nat_lt 4 (length w)) (reads (drop (length w - 4) w) (codes "B.C."))
    (number_of (take (length w - 4) w)) n h in (
      take (length w - 4) w,
      drop (length w - 4) w,
      sym (take-append-drop (length w - 4) w),
      number_is (take (length w - 4) w) n at.2,
      reads_is (drop (length w - 4) w) (codes "B.C.") at.1,
    )
