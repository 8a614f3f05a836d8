-- The French Republican count in closed form.
use Rattle.std.proofs.Common.{
  ◌≡◌,
  ℕ,
  zero,
  suc,
  ◌+◌,
  ◌-◌,
  ◌*◌,
  ◌/◌,
  ◌<◌,
  ◌≤◌,
  ◌==◌,
  ◌||◌,
  Bool,
  cond,
  if◌then◌else◌,
  nat_le,
  refl,
  ap,
  arith,
  ℤ,
  pos,
  negsuc,
  ◌+ℤ◌,
  ◌-ℤ◌,
}
use Rattle.std.proofs.lemmas.Bool.Decides.{nat_tests}
use Rattle.jiff_core.proofs.SignedLemmas.{signed_arith}
use Rattle.calendar_days.specs.Calendars.{
  is_sextile,
  sextile_years,
  month_days,
  days_of_months,
  days_of_years,
  day_count,
  day_zero,
  day_number,
}
use Rattle.calendar_days.specs.Laws.{republican_formula}
use Rattle.calendar_days.specs.declared.calendar.Calendar.TheVariants.{Republican}
use Rattle.calendar_days.proofs.Counts.{
  days_of_months-zero,
  days_of_months_more,
  days_of_years-suc,
  day_count-first,
  day_count-in_year,
}

-- the sextile years when the years are counted from -10000
abbrev counted_sextile : ℕ → Bool
counted_sextile n = (n == 10003) || (n == 10007) || (n == 10011)

sextile-shift : (y : ℤ) (n : ℕ) → y +ℤ pos 10000 ≡ pos n → is_sextile y ≡ counted_sextile n
sextile-shift (pos a) n e = let h : a + 10000 ≡ n = omega (arith, signed_arith) in grind (arith, nat_tests)
sextile-shift (negsuc a) n e = let h : n + suc a ≡ 10000 = omega (arith, signed_arith) in grind (arith, nat_tests)

-- and how many of them are over
abbrev passed : ℕ → ℕ
passed n = if nat_le n 10003 then 0 else if nat_le n 10007 then 1 else if nat_le n 10011 then 2 else 3

passed-shift : (y : ℤ) (n : ℕ) → y +ℤ pos 10000 ≡ pos n → sextile_years y ≡ passed n
passed-shift (pos a) n e = let h : a + 10000 ≡ n = omega (arith, signed_arith) in grind (arith, nat_tests)
passed-shift (negsuc a) n e = let h : n + suc a ≡ 10000 = omega (arith, signed_arith) in grind (arith, nat_tests)

passed-suc : (n : ℕ) → passed (suc n) ≡ passed n + cond (counted_sextile n) 1 0
passed-suc n = grind (arith, nat_tests)

-- twelve months of thirty days
thirty : (y : ℤ) (m : ℕ) → m < 13 → month_days Republican y m ≡ 30
thirty y m h = grind (arith, nat_tests)

months_closed : (y : ℤ) (n : ℕ) → n < 13 → days_of_months Republican y n ≡ 30 * n
months_closed y zero h = days_of_months-zero Republican y
months_closed y (suc n) h = let back : suc n - 1 ≡ n = omega arith in
    omega (
      arith,
      months_closed y n (omega arith),
      rw back at (days_of_months_more Republican y (suc n) (omega arith)),
      thirty y (suc n) h,
    )

year_days : (y : ℤ) → days_of_months Republican y 13 ≡ 365 + cond (is_sextile y) 1 0
year_days y = let last : month_days Republican y 13 ≡ 5 + cond (is_sextile y) 1 0 = grind (arith, nat_tests) in
    omega (arith, months_closed y 12 (omega arith), days_of_months_more Republican y 13 (omega arith), last)

years_closed : (n : ℕ) → days_of_years Republican n ≡ 365 * n + passed n
years_closed zero = unfold days_of_years in refl
years_closed (suc n) =
    let y = pos n -ℤ pos 10000 in
    omega (
      arith,
      years_closed n,
      days_of_years-suc Republican n,
      year_days y,
      ap {B = ℕ} (λ (b : Bool). cond b 1 0) (sextile-shift y n (omega (arith, signed_arith))),
      passed-suc n,
    )

zero_closed : day_zero Republican ≡ 3715113
unfolding day_zero
zero_closed = omega (arith, day_count-first Republican (pos 1) 10001 refl, years_closed 10001)

-- the number of a day of the year n - 10000
pub republican_closed : (y : ℤ) (n m d : ℕ) → y +ℤ pos 10000 ≡ pos n → 1 ≤ m → m ≤ 13 → 1 ≤ d
    → day_number Republican y m d ≡ pos (365 * n + sextile_years y + 30 * (m - 1) + d - 1) -ℤ pos 3715113
unfolding day_number
republican_closed y n m d e low high first =
    let count : day_count Republican y m d ≡ 365 * n + sextile_years y + 30 * (m - 1) + d - 1 =
    omega (
      arith,
      day_count-in_year Republican y m d,
      day_count-first Republican y n e,
      years_closed n,
      passed-shift y n e,
      months_closed y (m - 1) (omega arith),
    ) in
    rw (count, zero_closed) refl

-- the same by the formula, in the years 1 to 14
quarter : (n : ℕ) → 1 ≤ n → n ≤ 14 → sextile_years (pos n) ≡ n / 4
quarter n low high = grind (arith, nat_tests)

pub republican_rule : (n m d : ℕ) → 1 ≤ n → n ≤ 14 → 1 ≤ m → m ≤ 13 → 1 ≤ d
    → day_number Republican (pos n) m d ≡ republican_formula n m d
republican_rule n m d low high first last day =
    let here : pos n +ℤ pos 10000 ≡ pos (n + 10000) = omega (arith, signed_arith) in
    omega (
      arith,
      signed_arith,
      republican_closed (pos n) (n + 10000) m d here first last day,
      quarter n low high,
    )
