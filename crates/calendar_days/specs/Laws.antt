-- The laws of days.
use Rattle.std.specs.Prelude.{◌≡◌, ◌⊎◌, ℕ, ◌+◌, ◌-◌, ◌*◌, ◌/◌, ◌≤◌, ℤ, pos, negsuc, ◌+ℤ◌, ◌-ℤ◌, ◌*ℤ◌, ◌≤ℤ◌}
use Rattle.std.specs.Int.{IsInRange, int_div_euclid}
use Rattle.jiff_core.specs.Calendar.{days_from_civil}
use Rattle.calendar_days.specs.Calendars.{HasDay, last_month, month_days, days_of_months, day_number}
use Rattle.calendar_days.specs.declared.calendar.Calendar.{Calendar}
use Rattle.calendar_days.specs.declared.calendar.Calendar.TheVariants.{Gregorian, Julian, Republican}

-- the day d of the month m of the year y follows the day e of the month k of the year x: it is the next of the
-- same month, or the first of the next month after the last of a month, or of the next year after the last of a year
abbrev pub IsNext : Calendar → ℤ → ℕ → ℕ → ℤ → ℕ → ℕ → Type 0
IsNext c x k e y m d =
    ((y ≡ x) × (m ≡ k) × (d ≡ e + 1))
    ⊎ ((y ≡ x) × (m ≡ k + 1) × (e ≡ month_days c x k) × (d ≡ 1))
    ⊎ ((y ≡ x +ℤ pos 1) × (k ≡ last_month c) × (m ≡ 1) × (e ≡ month_days c x k) × (d ≡ 1))

-- the days are counted from the year -10000 on, which is 10001 B.C.
abbrev pub IsReckoned : ℤ → Type 0
IsReckoned y = negsuc 9999 ≤ℤ y

-- the next day has the next number
abbrev pub IsConsecutive : Calendar → Type 0
IsConsecutive c =
    (x : ℤ) (k e : ℕ) (y : ℤ) (m d : ℕ) → IsReckoned x → HasDay c x k e → IsNext c x k e y m d
    → day_number c y m d ≡ day_number c x k e +ℤ pos 1

-- no two days have one number
abbrev pub IsApart : Calendar → Type 0
IsApart c =
    (x : ℤ) (k e : ℕ) (y : ℤ) (m d : ℕ) → IsReckoned x → IsReckoned y → HasDay c x k e → HasDay c y m d
    → day_number c x k e ≡ day_number c y m d → (x ≡ y) × (k ≡ m) × (e ≡ d)

-- each number from the first day on is the number of a day
abbrev pub IsComplete : Calendar → Type 0
IsComplete c =
    (n : ℤ) → day_number c (negsuc 9999) 1 1 ≤ℤ n
    → (y : ℤ) × (m : ℕ) × (d : ℕ) × IsReckoned y × HasDay c y m d × (n ≡ day_number c y m d)

-- the civil count of `jiff` is the Gregorian one
abbrev pub CivilCounts : Type 0
CivilCounts = (y : ℤ) (m d : ℕ) → 1 ≤ d → days_from_civil y m d ≡ day_number Gregorian y m d

-- of the Julian calendar, for the years of our era: 365 days for each year that is over, one more for each
-- fourth of them, and the days of the year itself
abbrev pub JulianCounts : Type 0
JulianCounts =
    (y m d : ℕ) → 1 ≤ y → 1 ≤ d
    → day_number Julian (pos y) m d ≡ pos (365 * (y - 1) + (y - 1) / 4 + (days_of_months Julian (pos y) (m - 1) + d)) -ℤ
    pos 719165

-- The number of the n-th day of the Julian year y, in years before Christ too, of which n B.C. is the year 1 - n:
-- 365(y - 1) + (y - 1) / 4 + n - 2 - 719163, where the division rounds down.
abbrev pub julian_formula : ℤ → ℕ → ℤ
julian_formula y n = pos 365 *ℤ (y -ℤ pos 1) +ℤ int_div_euclid (y -ℤ pos 1) (pos 4) +ℤ pos n -ℤ pos 2 -ℤ pos 719163

-- the formula is the Julian count both ways, in each year that is reckoned
abbrev pub JulianCountsBothWays : Type 0
JulianCountsBothWays =
    (y : ℤ) (m d : ℕ) → IsReckoned y → 1 ≤ d
    → day_number Julian y m d ≡ julian_formula y (days_of_months Julian y (m - 1) + d)

-- The number of the day d of the month m, 1 to 13, of the French Republican year n:
-- -64748 + 365(n - 1) + n / 4 + 30(m - 1) + d - 1, where the division rounds down.
abbrev pub republican_formula : ℕ → ℕ → ℕ → ℤ
republican_formula n m d = pos (365 * (n - 1) + n / 4 + 30 * (m - 1) + (d - 1)) -ℤ pos 64748

-- the formula is the count in the years that the calendar has
abbrev pub RepublicanCounts : Type 0
RepublicanCounts =
    (n m d : ℕ) → IsInRange 1 14 n → HasDay Republican (pos n) m d
    → day_number Republican (pos n) m d ≡ republican_formula n m d

-- each day of these years is a Gregorian day, by the formula of the one calendar and the civil count of `jiff`
abbrev pub RepublicanDaysAreCivil : Type 0
RepublicanDaysAreCivil =
    (n m d : ℕ) → IsInRange 1 14 n → HasDay Republican (pos n) m d
    → (y : ℤ) × (k : ℕ) × (e : ℕ) × HasDay Gregorian y k e × (republican_formula n m d ≡ days_from_civil y k e)
