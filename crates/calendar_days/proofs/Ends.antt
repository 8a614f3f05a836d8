-- The first and the last day of a date.
use Rattle.std.proofs.Common.{◌≡◌, ◌⊎◌, inl, inr, ℕ, ◌+◌, ◌≤◌, refl, arith, ℤ, pos, ◌-ℤ◌, Some}
use Rattle.calendar_days.specs.Calendars.{
  last_month,
  month_days,
  day_count,
  day_number,
  HasDay,
  IsExtent,
  Covers,
  counted,
  opening,
}
use Rattle.calendar_days.specs.Within.{IsIn}
use Rattle.calendar_days.specs.Bounds.{IsLeast, IsGreatest}
use Rattle.calendar_days.proofs.Counts.{
  year_holds,
  month_holds,
  next_year,
  number_le,
  month_days_bounds,
  some_month,
  end_count,
}
use Rattle.calendar_days.specs.declared.calendar.Calendar.{Calendar}
use Rattle.calendar_days.specs.Told.{Told, Exists}
use Rattle.calendar_days.specs.declared.calendar.Year.{Year}
use Rattle.calendar_days.specs.declared.calendar.Year.TheVariants.{Single, Double}
use Rattle.calendar_days.specs.declared.calendar.Extent.{Extent}
use Rattle.calendar_days.specs.declared.calendar.Extent.TheVariants.{BeforeChrist, Whole, Month, Day}

-- a day that the date covers, and that no day of it precedes, is the least
least_at : (date : Told) (r : ℤ) (y : ℤ) (m d : ℕ) → HasDay date.calendar y m d → Covers date.extent y m d
    → r ≡ day_number date.calendar y m d → ((z : ℤ) (k e : ℕ) → HasDay date.calendar z k e → Covers date.extent z k e
    → day_count date.calendar y m d ≤ day_count date.calendar z k e) → IsLeast (IsIn date) (Some r)
least_at date r y m d has covers e before = (
  record { year = y; month = m; day = d; has = has; covers = covers; number = e },
  λ n i. rw (e, i.number)
      (number_le date.calendar y i.year m d i.month i.day (before i.year i.month i.day i.has i.covers)),
)

greatest_at : (date : Told) (r : ℤ) (y : ℤ) (m d : ℕ) → HasDay date.calendar y m d → Covers date.extent y m d
    → r ≡ day_number date.calendar y m d → ((z : ℤ) (k e : ℕ) → HasDay date.calendar z k e → Covers date.extent z k e
    → day_count date.calendar z k e ≤ day_count date.calendar y m d) → IsGreatest (IsIn date) (Some r)
greatest_at date r y m d has covers e after = (
  record { year = y; month = m; day = d; has = has; covers = covers; number = e },
  λ n i. rw e (rw i.number
      (number_le date.calendar i.year y i.month i.day m d (after i.year i.month i.day i.has i.covers))),
)

-- each month has a first day, each December a last one
new_year : (c : Calendar) (y : ℤ) → HasDay c y 1 1
new_year c y = ((omega arith, some_month c), (omega arith, omega (arith, month_days_bounds c y 1)))

year_end : (c : Calendar) (y : ℤ) → HasDay c y (last_month c) (month_days c y (last_month c))
year_end c y = ((some_month c, omega arith), (omega (arith, month_days_bounds c y (last_month c)), omega arith))

-- the number of the last day of a year
abbrev pub end_number : Calendar → ℤ → ℤ
end_number c y = day_number c y (last_month c) (month_days c y (last_month c))

pub least_before : (date : Told) (r : ℤ) (n : ℕ) → date.extent ≡ BeforeChrist n
    → r ≡ day_number date.calendar (pos 1 -ℤ pos n) 1 1 → IsLeast (IsIn date) (Some r)
least_before date r n is e = least_at date r (pos 1 -ℤ pos n) 1 1 (new_year date.calendar (pos 1 -ℤ pos n))
    (rw is refl) e (λ z k f has cov. let at = rw is at cov in
    rw at ((year_holds date.calendar (pos 1 -ℤ pos n) k f (rw at at has)).0))

pub greatest_before : (date : Told) (r : ℤ) (n : ℕ) → date.extent ≡ BeforeChrist n
    → r ≡ end_number date.calendar (pos 1 -ℤ pos n) → IsGreatest (IsIn date) (Some r)
greatest_before date r n is e = greatest_at date r (pos 1 -ℤ pos n) (last_month date.calendar)
    (month_days date.calendar (pos 1 -ℤ pos n) (last_month date.calendar)) (year_end date.calendar (pos 1 -ℤ pos n))
    (rw is refl) e (λ z k f has cov. let at = rw is at cov in
    rw at ((year_holds date.calendar (pos 1 -ℤ pos n) k f (rw at at has)).1))

pub least_month : (date : Told) (r : ℤ) (m : ℕ) (year : Year) → date.extent ≡ Month m year
    → IsExtent date.calendar date.extent → r ≡ day_number date.calendar (counted year) m 1
    → IsLeast (IsIn date) (Some r)
least_month date r m year is ex e = let has = rw is at ex in
    least_at date r (counted year) m 1
    (has.1, (omega arith, omega (arith, month_days_bounds date.calendar (counted year) m))) (rw is (refl, refl)) e
    (λ z k f day cov. let at = rw is at cov in rw (at.0, at.1) (month_holds date.calendar (counted year) m 1 f day.1.0))

pub greatest_month : (date : Told) (r : ℤ) (m : ℕ) (year : Year) → date.extent ≡ Month m year
    → IsExtent date.calendar date.extent → r ≡ day_number date.calendar (counted year) m
    (month_days date.calendar (counted year) m) → IsGreatest (IsIn date) (Some r)
greatest_month date r m year is ex e = let has = rw is at ex in
    greatest_at date r (counted year) m (month_days date.calendar (counted year) m)
    (has.1, (omega (arith, month_days_bounds date.calendar (counted year) m), omega arith)) (rw is (refl, refl)) e
    (λ z k f day cov. let at = rw is at cov in
    rw (at.0, at.1) (month_holds date.calendar (counted year) m f (month_days date.calendar (counted year) m)
    (rw (at.0, at.1) at day.1.1)))

pub least_day : (date : Told) (r : ℤ) (d m : ℕ) (year : Year) → date.extent ≡ Day d m year
    → IsExtent date.calendar date.extent → r ≡ day_number date.calendar (counted year) m d
    → IsLeast (IsIn date) (Some r)
least_day date r d m year is ex e = let has = rw is at ex in
    least_at date r (counted year) m d has.1 (rw is (refl, refl, refl)) e (λ z k f _ cov. let at = rw is at cov in
    rw (at.0, at.1, at.2) (omega arith))

pub greatest_day : (date : Told) (r : ℤ) (d m : ℕ) (year : Year) → date.extent ≡ Day d m year
    → IsExtent date.calendar date.extent → r ≡ day_number date.calendar (counted year) m d
    → IsGreatest (IsIn date) (Some r)
greatest_day date r d m year is ex e = let has = rw is at ex in
    greatest_at date r (counted year) m d has.1 (rw is (refl, refl, refl)) e (λ z k f _ cov. let at = rw is at cov in
    rw (at.0, at.1, at.2) (omega arith))

-- the days of a year, double or not
both : (c : Calendar) (year : Year) (y : ℤ) (m d : ℕ) → HasDay c y m d → (y ≡ opening year) ⊎ (y ≡ counted year)
    → (day_count c (opening year) 1 1 ≤ day_count c y m d) × (day_count c y m d ≤ end_count c (counted year))
both c (Single n) y m d has (inl e) = rw e (year_holds c (pos n) m d (rw e at has))
both c (Single n) y m d has (inr e) = rw e (year_holds c (pos n) m d (rw e at has))
both c (Double n) y m d has (inl e) = rw e (
    let h = year_holds c (pos n) m d (rw e at has) in
    let after = year_holds c (pos (n + 1)) (last_month c) (month_days c (pos (n + 1)) (last_month c))
    (year_end c (pos (n + 1))) in
    (omega arith, omega (arith, next_year c n)))
both c (Double n) y m d has (inr e) = rw e (
    let h = year_holds c (pos (n + 1)) m d (rw e at has) in
    let before = year_holds c (pos n) (last_month c) (month_days c (pos n) (last_month c)) (year_end c (pos n)) in
    (omega (arith, next_year c n), omega arith))

pub least_year : (date : Told) (r : ℤ) (year : Year) → date.extent ≡ Whole year
    → r ≡ day_number date.calendar (opening year) 1 1 → IsLeast (IsIn date) (Some r)
least_year date r year is e = least_at date r (opening year) 1 1 (new_year date.calendar (opening year))
    (rw is (inl refl)) e (λ z k f has cov. (both date.calendar year z k f has (rw is at cov)).0)

pub greatest_year : (date : Told) (r : ℤ) (year : Year) → date.extent ≡ Whole year
    → r ≡ end_number date.calendar (counted year) → IsGreatest (IsIn date) (Some r)
greatest_year date r year is e = greatest_at date r (counted year) (last_month date.calendar)
    (month_days date.calendar (counted year) (last_month date.calendar)) (year_end date.calendar (counted year))
    (rw is (inr refl)) e (λ z k f has cov. (both date.calendar year z k f has (rw is at cov)).1)

-- a date has a first and a last day
pub least_of : (d : Told) (e : Extent) → d.extent ≡ e → Exists d → (lo : ℤ) × IsLeast (IsIn d) (Some lo)
least_of d (BeforeChrist n) is h = (
  day_number d.calendar (pos 1 -ℤ pos n) 1 1,
  least_before d (day_number d.calendar (pos 1 -ℤ pos n) 1 1) n is refl,
)
least_of d (Whole y) is h = (
  day_number d.calendar (opening y) 1 1,
  least_year d (day_number d.calendar (opening y) 1 1) y is refl,
)
least_of d (Month m y) is h = (
  day_number d.calendar (counted y) m 1,
  least_month d (day_number d.calendar (counted y) m 1) m y is h refl,
)
least_of d (Day k m y) is h = (
  day_number d.calendar (counted y) m k,
  least_day d (day_number d.calendar (counted y) m k) k m y is h refl,
)

pub greatest_of : (d : Told) (e : Extent) → d.extent ≡ e → Exists d → (hi : ℤ) × IsGreatest (IsIn d) (Some hi)
greatest_of d (BeforeChrist n) is h = (
  end_number d.calendar (pos 1 -ℤ pos n),
  greatest_before d (end_number d.calendar (pos 1 -ℤ pos n)) n is refl,
)
greatest_of d (Whole y) is h =
    (end_number d.calendar (counted y), greatest_year d (end_number d.calendar (counted y)) y is refl)
greatest_of d (Month m y) is h = (
  day_number d.calendar (counted y) m (month_days d.calendar (counted y) m),
  greatest_month d (day_number d.calendar (counted y) m (month_days d.calendar (counted y) m)) m y is h refl,
)
greatest_of d (Day k m y) is h = (
  day_number d.calendar (counted y) m k,
  greatest_day d (day_number d.calendar (counted y) m k) k m y is h refl,
)
