-- The ends of each kind of value, from those of its dates.
use Rattle.std.proofs.Common.{
  ◌≡◌,
  ◌⊎◌,
  inl,
  inr,
  ◌+◌,
  arith,
  ℤ,
  pos,
  neg_ℤ,
  ◌+ℤ◌,
  ◌-ℤ◌,
  ◌<ℤ◌,
  ◌≤ℤ◌,
  unsigned_abs,
  Some,
  None,
}
use Rattle.jiff_core.proofs.SignedLemmas.{signed_arith}
use Rattle.calendar_days.specs.Within.{IsIn}
use Rattle.gedcom_date.specs.Order.{IsOrdered}
use Rattle.gedcom_date.specs.Days.{IsDayOf, Lies}
use Rattle.calendar_days.specs.Bounds.{IsLeast, IsGreatest}
use Rattle.calendar_days.specs.Told.{Told}
use Rattle.gedcom_date.specs.Form.{Form, BeforeDate, AfterDate, BetweenDates, SinceDate, UntilDate, FromToDates}
use Rattle.list_laws.proofs.Numbers.{through}

-- a number below two
abbrev below : ℤ → ℤ → ℤ
below a b = neg_ℤ (pos (unsigned_abs a + unsigned_abs b + 1))

abbrev above : ℤ → ℤ → ℤ
above a b = pos (unsigned_abs a + unsigned_abs b + 1)

below-first : (a b : ℤ) → below a b <ℤ a
below-first a b = omega (arith, signed_arith)

below-second : (a b : ℤ) → below a b <ℤ b
below-second a b = omega (arith, signed_arith)

above-first : (a b : ℤ) → a <ℤ above a b
above-first a b = omega (arith, signed_arith)

above-second : (a b : ℤ) → b <ℤ above a b
above-second a b = omega (arith, signed_arith)

lt_le : (a b c : ℤ) → a <ℤ b → b ≤ℤ c → a <ℤ c
lt_le a b c h k = omega (arith, signed_arith)

le_lt : (a b c : ℤ) → a ≤ℤ b → b <ℤ c → a <ℤ c
le_lt a b c h k = omega (arith, signed_arith)

lt-le : (a b : ℤ) → a <ℤ b → a ≤ℤ b
lt-le a b h = omega (arith, signed_arith)

pub before_lo : (v : Form) (d : Told) (lo : ℤ) → v ≡ BeforeDate d → IsLeast (IsIn d) (Some lo)
    → IsLeast (IsDayOf v) None
before_lo v d lo is least =
    rw is (λ n. (
      below n lo,
      (λ day i. lt_le (below n lo) lo day (below-second n lo) (least.1 day i)),
      below-first n lo,
    ))

pub before_hi : (v : Form) (d : Told) (lo r : ℤ) → v ≡ BeforeDate d → IsLeast (IsIn d) (Some lo) → r ≡ lo -ℤ pos 1
    → IsGreatest (IsDayOf v) (Some r)
before_hi v d lo r is least e =
    let down : r <ℤ lo = omega (arith, signed_arith) in
    let up : (n : ℤ) → n <ℤ lo → n ≤ℤ r = λ n h. omega (arith, signed_arith) in
    rw is ((λ day i. lt_le r lo day down (least.1 day i)), (λ n h. up n (h lo least.0)))

pub after_lo : (v : Form) (d : Told) (hi r : ℤ) → v ≡ AfterDate d → IsGreatest (IsIn d) (Some hi) → r ≡ hi +ℤ pos 1
    → IsLeast (IsDayOf v) (Some r)
after_lo v d hi r is greatest e =
    let up : hi <ℤ r = omega (arith, signed_arith) in
    let down : (n : ℤ) → hi <ℤ n → r ≤ℤ n = λ n h. omega (arith, signed_arith) in
    rw is ((λ day i. le_lt day hi r (greatest.1 day i) up), (λ n h. down n (h hi greatest.0)))

pub after_hi : (v : Form) (d : Told) (hi : ℤ) → v ≡ AfterDate d → IsGreatest (IsIn d) (Some hi)
    → IsGreatest (IsDayOf v) None
after_hi v d hi is greatest =
    rw is (λ n. (
      above n hi,
      (λ day i. le_lt day hi (above n hi) (greatest.1 day i) (above-second n hi)),
      above-first n hi,
    ))

pub from_hi : (v : Form) (d : Told) (lo : ℤ) → v ≡ SinceDate d → IsLeast (IsIn d) (Some lo)
    → IsGreatest (IsDayOf v) None
from_hi v d lo is least =
    rw is (λ n. (above n lo, (lo, least.0, lt-le lo (above n lo) (above-second n lo)), above-first n lo))

pub to_lo : (v : Form) (d : Told) (hi : ℤ) → v ≡ UntilDate d → IsGreatest (IsIn d) (Some hi) → IsLeast (IsDayOf v) None
to_lo v d hi is greatest =
    rw is (λ n. (below n hi, (hi, greatest.0, lt-le (below n hi) hi (below-second n hi)), below-first n hi))

-- a text without days may mean every day
pub all_lo : (v : Form) → ((n : ℤ) → IsDayOf v n) → IsLeast (IsDayOf v) None
all_lo v each = λ n. (below n n, each (below n n), below-first n n)

pub all_hi : (v : Form) → ((n : ℤ) → IsDayOf v n) → IsGreatest (IsDayOf v) None
all_hi v each = λ n. (above n n, each (above n n), above-first n n)

order : (a b : ℤ) → (a ≤ℤ b) ⊎ (b <ℤ a)
order a b = grind (arith, signed_arith)

-- the first day of the one is at most the last of the other
pub joined : (first last : Told) (lo hi : ℤ) → IsOrdered first last → IsLeast (IsIn first) (Some lo)
    → IsGreatest (IsIn last) (Some hi) → lo ≤ℤ hi
joined first last lo hi ordered least greatest = elim (order lo hi) [
  | inl h ↦ h
  | inr h ↦ absurd (ordered (λ a b i j. lt_le b lo a (le_lt b hi lo (greatest.1 b j) h) (least.1 a i)))
]

pub lies_lo : (first last : Told) (lo hi : ℤ) → IsOrdered first last → IsLeast (IsIn first) (Some lo)
    → IsGreatest (IsIn last) (Some hi) → IsLeast (Lies first last) (Some lo)
lies_lo first last lo hi ordered least greatest =
    let both = joined first last lo hi ordered least greatest in
    let same : lo ≤ℤ lo = omega (arith, signed_arith) in
    ((lo, hi, least.0, greatest.0, same, both), (λ n l. through lo l.0 n (least.1 l.0 l.2) l.4))

pub lies_hi : (first last : Told) (lo hi : ℤ) → IsOrdered first last → IsLeast (IsIn first) (Some lo)
    → IsGreatest (IsIn last) (Some hi) → IsGreatest (Lies first last) (Some hi)
lies_hi first last lo hi ordered least greatest =
    let both = joined first last lo hi ordered least greatest in
    let same : hi ≤ℤ hi = omega (arith, signed_arith) in
    ((lo, hi, least.0, greatest.0, both, same), (λ n l. through n l.1 hi l.5 (greatest.1 l.1 l.3)))

pub period_lo : (v : Form) (first last : Told) (lo hi : ℤ) → (v ≡ BetweenDates first last)
    ⊎ (v ≡ FromToDates first last) → IsOrdered first last → IsLeast (IsIn first) (Some lo)
    → IsGreatest (IsIn last) (Some hi) → IsLeast (IsDayOf v) (Some lo)
period_lo v first last lo hi (inl is) ordered least greatest = rw is (lies_lo first last lo hi ordered least greatest)
period_lo v first last lo hi (inr is) ordered least greatest = rw is (lies_lo first last lo hi ordered least greatest)

pub period_hi : (v : Form) (first last : Told) (lo hi : ℤ) → (v ≡ BetweenDates first last)
    ⊎ (v ≡ FromToDates first last) → IsOrdered first last → IsLeast (IsIn first) (Some lo)
    → IsGreatest (IsIn last) (Some hi) → IsGreatest (IsDayOf v) (Some hi)
period_hi v first last lo hi (inl is) ordered least greatest = rw is (lies_hi first last lo hi ordered least greatest)
period_hi v first last lo hi (inr is) ordered least greatest = rw is (lies_hi first last lo hi ordered least greatest)

-- two dates whose days are so
pub ordered_by : (first last : Told) (lo hi : ℤ) → IsLeast (IsIn first) (Some lo) → IsGreatest (IsIn last) (Some hi)
    → lo ≤ℤ hi → IsOrdered first last
ordered_by first last lo hi least greatest h = λ all. let k = all lo hi least.0 greatest.0 in
    absurd (omega (arith, signed_arith))
