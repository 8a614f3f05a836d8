-- The Julian count in closed form.
use Rattle.std.proofs.Common.{
  ◌≡◌,
  ℕ,
  zero,
  suc,
  ◌+◌,
  ◌-◌,
  ◌*◌,
  ◌/◌,
  ◌%◌,
  ◌<◌,
  ◌≤◌,
  ◌==◌,
  ◌&&◌,
  nat_lt,
  cond,
  refl,
  arith,
  ℤ,
  pos,
  negsuc,
  ◌+ℤ◌,
  ◌-ℤ◌,
}
use Rattle.std.proofs.lemmas.Bool.Decides.{nat_tests}
use Rattle.jiff_core.proofs.SignedLemmas.{signed_arith}
use Rattle.calendar_days.specs.Calendars.{
  leap,
  days_of_months,
  days_of_years,
  day_count,
  day_zero,
  day_number,
  days_before_month,
}
use Rattle.calendar_days.specs.Laws.{julian_formula}
use Rattle.calendar_days.specs.declared.calendar.Calendar.TheVariants.{Julian}
use Rattle.calendar_days.proofs.Counts.{days_of_years-suc, day_count-first, day_count-in_year}

abbrev pub leap_day : ℤ → ℕ
leap_day y = cond (leap Julian y) 1 0

-- the rule does not change when the years are counted from -10000
leap_day-shift : (y : ℤ) (n : ℕ) → y +ℤ pos 10000 ≡ pos n → leap_day y ≡ cond (n % 4 == 0) 1 0
leap_day-shift (pos a) n e = let h : a + 10000 ≡ n = omega (arith, signed_arith) in grind (arith, nat_tests)
leap_day-shift (negsuc a) n e = let h : n + suc a ≡ 10000 = omega (arith, signed_arith) in grind (arith, nat_tests)

-- the table of the days before each month
pub days_of_months_table : (y : ℤ) (n : ℕ) → n < 13 → days_of_months Julian y n ≡ days_before_month n + cond
    (nat_lt 1 n) (leap_day y) 0
unfolding days_of_months days_before_month
days_of_months_table y zero h = grind arith
days_of_months_table y (suc zero) h = grind arith
days_of_months_table y (suc (suc zero)) h = grind arith
days_of_months_table y (suc (suc (suc zero))) h = grind arith
days_of_months_table y (suc (suc (suc (suc zero)))) h = grind arith
days_of_months_table y (suc (suc (suc (suc (suc zero))))) h = grind arith
days_of_months_table y (suc (suc (suc (suc (suc (suc zero)))))) h = grind arith
days_of_months_table y (suc (suc (suc (suc (suc (suc (suc zero))))))) h = grind arith
days_of_months_table y (suc (suc (suc (suc (suc (suc (suc (suc zero)))))))) h = grind arith
days_of_months_table y (suc (suc (suc (suc (suc (suc (suc (suc (suc zero))))))))) h = grind arith
days_of_months_table y (suc (suc (suc (suc (suc (suc (suc (suc (suc (suc zero)))))))))) h = grind arith
days_of_months_table y (suc (suc (suc (suc (suc (suc (suc (suc (suc (suc (suc zero))))))))))) h = grind arith
days_of_months_table y (suc (suc (suc (suc (suc (suc (suc (suc (suc (suc (suc (suc zero)))))))))))) h = grind arith
days_of_months_table y (suc (suc (suc (suc (suc (suc (suc (suc (suc (suc (suc (suc (suc n))))))))))))) h =
    absurd (omega arith)

year_days : (y : ℤ) → days_of_months Julian y 12 ≡ 365 + leap_day y
unfolding days_before_month
year_days y = days_of_months_table y 12 (omega arith)

-- each fourth year from -10000 on is leap
fourth : (n : ℕ) → (suc n + 3) / 4 ≡ (n + 3) / 4 + cond (n % 4 == 0) 1 0
fourth n = grind (arith, nat_tests)

pub years_closed : (n : ℕ) → days_of_years Julian n ≡ 365 * n + (n + 3) / 4
years_closed zero = unfold days_of_years in refl
years_closed (suc n) =
    let y = pos n -ℤ pos 10000 in
    omega (
      arith,
      years_closed n,
      days_of_years-suc Julian n,
      year_days y,
      leap_day-shift y n (omega (arith, signed_arith)),
      fourth n,
    )

pub zero_closed : day_zero Julian ≡ 4372030
unfolding day_zero
zero_closed = omega (arith, day_count-first Julian (pos 1) 10001 refl, years_closed 10001)

-- the number of a day of the year n - 10000
pub julian_closed : (y : ℤ) (n m d : ℕ) → y +ℤ pos 10000 ≡ pos n → 1 ≤ m → m ≤ 12 → 1 ≤ d
    → day_number Julian y m d ≡ pos (365 * n + (n + 3) / 4 + days_before_month (m - 1) + cond
    (nat_lt 2 m && (n % 4 == 0)) 1 0 + d - 1) -ℤ pos 4372030
unfolding day_number
julian_closed y n m d e low high first =
    let count : day_count Julian y m d ≡ 365 * n + (n + 3) / 4 + days_before_month (m - 1) + cond
    (nat_lt 2 m && (n % 4 == 0)) 1 0 + d - 1 =
    let t = days_of_months_table y (m - 1) (omega arith) in
    let s = leap_day-shift y n e in
    let k : cond (nat_lt 1 (m - 1)) (leap_day y) 0 ≡ cond (nat_lt 2 m && (n % 4 == 0)) 1 0 =
    rw s (grind (arith, nat_tests)) in
    omega (arith, day_count-in_year Julian y m d, day_count-first Julian y n e, years_closed n) in
    rw (count, zero_closed) refl

-- the same by the formula of the year itself
pub julian_floor : (y : ℤ) (n m d : ℕ) → y +ℤ pos 10000 ≡ pos n → 1 ≤ d → day_number Julian y m d
    ≡ julian_formula y (days_of_months Julian y (m - 1) + d)
unfolding day_number
julian_floor y n m d e k = omega (
  arith,
  signed_arith,
  day_count-in_year Julian y m d,
  day_count-first Julian y n e,
  years_closed n,
  zero_closed,
)
