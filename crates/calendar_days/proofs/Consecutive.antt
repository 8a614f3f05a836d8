-- Days follow one another: the next day has the next number, and each number is one day.
use Rattle.std.proofs.Common.{
  ◌≡◌,
  ◌⊎◌,
  inl,
  inr,
  ℕ,
  zero,
  suc,
  ◌+◌,
  ◌*◌,
  ◌-◌,
  ◌/◌,
  ◌<◌,
  ◌≤◌,
  refl,
  ap,
  sym,
  subst,
  ◌∙◌,
  arith,
  ℤ,
  pos,
  negsuc,
  unsigned_abs,
  ◌+ℤ◌,
  ◌-ℤ◌,
  ◌<ℤ◌,
  ◌≤ℤ◌,
}
use Rattle.jiff_core.proofs.SignedLemmas.{signed_arith}
use Rattle.calendar_days.specs.Calendars.{
  last_month,
  month_days,
  days_of_months,
  days_of_years,
  day_count,
  day_zero,
  day_number,
  HasDay,
}
use Rattle.std.specs.Int.{IsInRange}
use Rattle.jiff_core.specs.Calendar.{days_from_civil}
use Rattle.calendar_days.specs.Laws.{IsNext, IsReckoned, julian_formula, republican_formula}
use Rattle.calendar_days.specs.declared.calendar.Calendar.{Calendar}
use Rattle.calendar_days.specs.declared.calendar.Calendar.TheVariants.{Gregorian, Julian, Republican}
use Rattle.calendar_days.proofs.Counts.{
  month_days_bounds,
  some_month,
  days_of_months_more,
  days_of_months_mono,
  day_count-in_year,
  year_holds,
  day_count-first,
  days_of_years-suc,
}
use Rattle.calendar_days.proofs.Julians.{years_closed, zero_closed, julian_floor}
use Rattle.calendar_days.proofs.Civil.{civil_number}

-- a year from -10000 on, counted from there
whole : (z : ℤ) → pos 0 ≤ℤ z → z ≡ pos (unsigned_abs z)
whole (pos n) h = refl
whole (negsuc n) h = absurd (omega (arith, signed_arith))

shift : (x : ℤ) → IsReckoned x → x +ℤ pos 10000 ≡ pos (unsigned_abs (x +ℤ pos 10000))
shift x h = whole (x +ℤ pos 10000) (omega (arith, signed_arith))

year_turn : (c : Calendar) (x : ℤ) → IsReckoned x → day_count c (x +ℤ pos 1) 1 1 ≡ day_count c x 1 1
    + days_of_months c x (last_month c)
year_turn c x h =
    let n = unsigned_abs (x +ℤ pos 10000) in
    let here = shift x h in
    let there : (x +ℤ pos 1) +ℤ pos 10000 ≡ pos (suc n) = omega (arith, signed_arith) in
    let same : pos n -ℤ pos 10000 ≡ x = omega (arith, signed_arith) in
    omega (
      arith,
      day_count-first c x n here,
      day_count-first c (x +ℤ pos 1) (suc n) there,
      rw same at (days_of_years-suc c n),
    )

next_day : (c : Calendar) (x : ℤ) (k e : ℕ) → 1 ≤ e → day_count c x k (e + 1) ≡ day_count c x k e + 1
next_day c x k e h = omega (arith, day_count-in_year c x k e, day_count-in_year c x k (e + 1))

next_month : (c : Calendar) (x : ℤ) (k e : ℕ) → 1 ≤ k → 1 ≤ e → e ≡ month_days c x k
    → day_count c x (k + 1) 1 ≡ day_count c x k e + 1
next_month c x k e low first last =
    let back : k + 1 - 1 ≡ k = omega arith in
    omega (
      arith,
      day_count-in_year c x k e,
      rw back at (day_count-in_year c x (k + 1) 1),
      days_of_months_more c x k low,
    )

next_year : (c : Calendar) (x : ℤ) (e : ℕ) → IsReckoned x → 1 ≤ e → e ≡ month_days c x (last_month c)
    → day_count c (x +ℤ pos 1) 1 1 ≡ day_count c x (last_month c) e + 1
next_year c x e h first last = omega (
  arith,
  year_turn c x h,
  day_count-in_year c x (last_month c) e,
  days_of_months_more c x (last_month c) (some_month c),
)

count_next : (c : Calendar) (x : ℤ) (k e : ℕ) (y : ℤ) (m d : ℕ) → IsReckoned x → HasDay c x k e → IsNext c x k e y m d
    → day_count c y m d ≡ day_count c x k e + 1
count_next c x k e y m d r has (inl n) = rw (n.0, n.1, n.2) (next_day c x k e has.1.0)
count_next c x k e y m d r has (inr (inl n)) = rw (n.0, n.1, n.3) (next_month c x k e has.0.0 has.1.0 n.2)
count_next c x k e y m d r has (inr (inr n)) = rw (n.0, n.1, n.2, n.4)
    (next_year c x e r has.1.0 (n.3 ∙ ap (month_days c x) n.1))

-- the next day has the next number
pub number_next : (c : Calendar) (x : ℤ) (k e : ℕ) (y : ℤ) (m d : ℕ) → IsReckoned x → HasDay c x k e
    → IsNext c x k e y m d → day_number c y m d ≡ day_number c x k e +ℤ pos 1
unfolding day_number
number_next c x k e y m d r has next = omega (arith, signed_arith, count_next c x k e y m d r has next)

-- earlier days have smaller counts
months_apart : (c : Calendar) (x : ℤ) (k e m d : ℕ) → HasDay c x k e → HasDay c x m d → k < m
    → day_count c x k e < day_count c x m d
months_apart c x k e m d has later h = omega (
  arith,
  day_count-in_year c x k e,
  day_count-in_year c x m d,
  days_of_months_more c x k has.0.0,
  days_of_months_mono c x k (m - 1) (omega arith),
  has.1.0,
  has.1.1,
)

years_add : (c : Calendar) (n k : ℕ) → days_of_years c n ≤ days_of_years c (k + n)
years_add c n zero = let same : 0 + n ≡ n = omega arith in rw same (omega arith)
years_add c n (suc k) = let same : suc k + n ≡ suc (k + n) = omega arith in
    rw same (omega (arith, years_add c n k, days_of_years-suc c (k + n)))

years_mono : (c : Calendar) (n m : ℕ) → n ≤ m → days_of_years c n ≤ days_of_years c m
years_mono c n m h = let same : m - n + n ≡ m = omega arith in rw same at (years_add c n (m - n))

years_apart : (c : Calendar) (x : ℤ) (k e : ℕ) (y : ℤ) (m d : ℕ) → IsReckoned x → IsReckoned y → HasDay c x k e
    → HasDay c y m d → x <ℤ y → day_count c x k e < day_count c y m d
years_apart c x k e y m d r s has later h =
    let a = unsigned_abs (x +ℤ pos 10000) in
    let b = unsigned_abs (y +ℤ pos 10000) in
    let low : suc a ≤ b = omega (arith, signed_arith, shift x r, shift y s) in
    let there : (x +ℤ pos 1) +ℤ pos 10000 ≡ pos (suc a) = omega (arith, signed_arith, shift x r) in
    omega (
      arith,
      (year_holds c x k e has).1,
      (year_holds c y m d later).0,
      next_year c x (month_days c x (last_month c)) r (omega (arith, month_days_bounds c x (last_month c))) refl,
      day_count-first c (x +ℤ pos 1) (suc a) there,
      day_count-first c y b (shift y s),
      years_mono c (suc a) b low,
    )

order : (a b : ℤ) → (a <ℤ b) ⊎ ((a ≡ b) ⊎ (b <ℤ a))
order a b = grind (arith, signed_arith)

less : (a b : ℕ) → (a < b) ⊎ ((a ≡ b) ⊎ (b < a))
less a b = grind arith

same_month : (c : Calendar) (x : ℤ) (k e m d : ℕ) → HasDay c x k e → HasDay c x m d
    → day_count c x k e ≡ day_count c x m d → (k ≡ m) × (e ≡ d)
same_month c x k e m d has later h = elim (less k m) [
  | inl l ↦ absurd (omega (arith, months_apart c x k e m d has later l))
  | inr (inl s) ↦ (
    s,
    omega (
      arith,
      day_count-in_year c x k e,
      day_count-in_year c x m d,
      ap (λ (z : ℕ). days_of_months c x (z - 1)) s,
      has.1.0,
      later.1.0,
    ),
  )
  | inr (inr l) ↦ absurd (omega (arith, months_apart c x m d k e later has l))
]

same_count : (c : Calendar) (x : ℤ) (k e : ℕ) (y : ℤ) (m d : ℕ) → IsReckoned x → IsReckoned y → HasDay c x k e
    → HasDay c y m d → day_count c x k e ≡ day_count c y m d → (x ≡ y) × (k ≡ m) × (e ≡ d)
same_count c x k e y m d r s has later h = elim (order x y) [
  | inl l ↦ absurd (omega (arith, years_apart c x k e y m d r s has later l))
  | inr (inl t) ↦ (
      let is = same_month c x k e m d has (subst (λ (z : ℤ). HasDay c z m d) (sym t) later)
      (h ∙ ap (λ (z : ℤ). day_count c z m d) (sym t)) in
      (t, is.0, is.1))
  | inr (inr l) ↦ absurd (omega (arith, years_apart c y m d x k e s r later has l))
]

-- a number is the number of one day
pub number_one : (c : Calendar) (x : ℤ) (k e : ℕ) (y : ℤ) (m d : ℕ) → IsReckoned x → IsReckoned y → HasDay c x k e
    → HasDay c y m d → day_number c x k e ≡ day_number c y m d → (x ≡ y) × (k ≡ m) × (e ≡ d)
unfolding day_number
number_one c x k e y m d r s has later h = same_count c x k e y m d r s has later (omega (arith, signed_arith))

-- and each number from the first year on has its day
record Counted (c : Calendar) (k : ℕ) : Type 0 where
  year : ℤ
  month : ℕ
  day : ℕ
  reckoned : IsReckoned year
  has : HasDay c year month day
  count : day_count c year month day ≡ k

first_of : (c : Calendar) (y : ℤ) (m : ℕ) → 1 ≤ m → m ≤ last_month c → HasDay c y m 1
first_of c y m low high = ((low, high), (omega arith, omega (arith, month_days_bounds c y m)))

first_count : (c : Calendar) → day_count c (negsuc 9999) 1 1 ≡ 0
unfolding days_of_years
first_count c = day_count-first c (negsuc 9999) 0 refl

follow : (c : Calendar) (k : ℕ) → Counted c k → Counted c (suc k)
follow c k at = elim (less at.day (month_days c at.year at.month)) [
  | inl l ↦ record {
    year = at.year;
    month = at.month;
    day = at.day + 1;
    reckoned = at.reckoned;
    has = (at.has.0, (omega arith, omega arith));
    count = omega (arith, next_day c at.year at.month at.day at.has.1.0, at.count);
  }
  | inr (inl s) ↦ elim (less at.month (last_month c)) [
    | inl l ↦ record {
      year = at.year;
      month = at.month + 1;
      day = 1;
      reckoned = at.reckoned;
      has = first_of c at.year (at.month + 1) (omega arith) (omega arith);
      count = omega (arith, next_month c at.year at.month at.day at.has.0.0 at.has.1.0 s, at.count);
    }
    | inr (inl t) ↦ record {
      year = at.year +ℤ pos 1;
      month = 1;
      day = 1;
      reckoned = omega (arith, signed_arith, at.reckoned);
      has = first_of c (at.year +ℤ pos 1) 1 (omega arith)
          (some_month c);
      count =
          omega (
            arith,
            next_year c at.year at.day at.reckoned at.has.1.0 (s ∙ ap (month_days c at.year) t),
            rw t at at.count,
          );
    }
    | inr (inr l) ↦ absurd (omega (arith, at.has.0.1))
  ]
  | inr (inr l) ↦ absurd (omega (arith, at.has.1.1))
]

counted : (c : Calendar) (k : ℕ) → Counted c k
counted c zero = record {
  year = negsuc 9999;
  month = 1;
  day = 1;
  reckoned = omega (arith, signed_arith);
  has = first_of c (negsuc 9999) 1 (omega arith) (some_month c);
  count = first_count c;
}
counted c (suc k) = follow c k (counted c k)

pub number_every : (c : Calendar) (n : ℤ) → day_number c (negsuc 9999) 1 1 ≤ℤ n → (y : ℤ) × (m : ℕ) × (d : ℕ)
    × IsReckoned y × HasDay c y m d × (n ≡ day_number c y m d)
unfolding day_number
number_every c n h =
    let k = unsigned_abs (n +ℤ pos (day_zero c)) in
    let at = counted c k in
    let up : pos 0 ≤ℤ (n +ℤ pos (day_zero c)) = omega (arith, signed_arith, first_count c) in
    let is = whole (n +ℤ pos (day_zero c)) up in
    let e : n ≡ pos k -ℤ pos (day_zero c) = omega (arith, signed_arith, is) in
    (at.year, at.month, at.day, at.reckoned, at.has, e ∙ ap (λ (k : ℕ). pos k -ℤ pos (day_zero c)) (sym at.count))

-- the Julian rule
pub julian_rule : (y m d : ℕ) → 1 ≤ y → 1 ≤ d → day_number Julian (pos y) m d ≡ pos
    (365 * (y - 1) + (y - 1) / 4 + (days_of_months Julian (pos y) (m - 1) + d)) -ℤ pos 719165
unfolding day_number
julian_rule y m d h k =
    let n : pos y +ℤ pos 10000 ≡ pos (y + 10000) = omega (arith, signed_arith) in
    omega (
      arith,
      signed_arith,
      day_count-in_year Julian (pos y) m d,
      day_count-first Julian (pos y) (y + 10000) n,
      years_closed (y + 10000),
      zero_closed,
    )

pub julian_rule_both_ways : (y : ℤ) (m d : ℕ) → IsReckoned y → 1 ≤ d → day_number Julian y m d
    ≡ julian_formula y (days_of_months Julian y (m - 1) + d)
julian_rule_both_ways y m d r k = julian_floor y (unsigned_abs (y +ℤ pos 10000)) m d (shift y r) k

-- a Republican day is a Gregorian one
-- only December has 31 days
years_many : (n : ℕ) → 31 * n ≤ days_of_years Gregorian n
years_many zero = omega arith
years_many (suc n) =
    let y = pos n -ℤ pos 10000 in
    let december : month_days Gregorian y 12 ≡ 31 = refl in
    omega (
      arith,
      years_many n,
      days_of_years-suc Gregorian n,
      days_of_months_more Gregorian y 12 (omega arith),
      december,
    )

first_before : (n m d : ℕ) → day_number Gregorian (negsuc 9999) 1 1 ≤ℤ republican_formula n m d
unfolding day_number day_zero
first_before n m d = omega (
  arith,
  signed_arith,
  first_count Gregorian,
  day_count-first Gregorian (pos 1970) 11970 refl,
  years_many 11970,
)

pub republican_civil : (n m d : ℕ) → IsInRange 1 14 n → HasDay Republican (pos n) m d
    → (y : ℤ) × (k : ℕ) × (e : ℕ) × HasDay Gregorian y k e × (republican_formula n m d ≡ days_from_civil y k e)
republican_civil n m d range has =
    let low : day_number Gregorian (negsuc 9999) 1 1 ≤ℤ republican_formula n m d = first_before n m d in
    let at = number_every Gregorian (republican_formula n m d) low in
    (at.0, at.1, at.2, at.4, at.5 ∙ sym (civil_number at.0 at.1 at.2 at.4.1.0))
