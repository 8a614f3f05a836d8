-- Archives that hold the same records, up to their numbers: a rule of our own.
use Rattle.std.specs.Prelude.{ℕ, ◌≡◌, ◌<◌, Some}
use Rattle.std.specs.FinMap.{get}
use Rattle.record_kinds.specs.declared.record.Record.{Record}
use Rattle.archive_state.specs.Content.{Records}
use Rattle.archive_state.specs.Merging.{record_with}
use Rattle.round_trip.specs.OrderLaws.{AreOrdered}

-- The map carries the records of m onto those of n, each to one of its own, with the numbers in it changed alike; so
-- it keeps their kinds.
pub record IsCarriedBy (f : ℕ → ℕ) (m n : Records) : Type 0 where
  pub carries : (k : ℕ) (r : Record) → get m k ≡ Some r → get n (f k) ≡ Some (record_with f r)
  pub one_to_one : (k j : ℕ) (r q : Record) → get m k ≡ Some r → get m j ≡ Some q → f k ≡ f j → k ≡ j
  pub onto : (j : ℕ) (q : Record) → get n j ≡ Some q → (k : ℕ) × (r : Record) × (get m k ≡ Some r) × (f k ≡ j)

-- it keeps the orders that count too
pub record IsSameBy (f : ℕ → ℕ) (m n : Records) : Type 0 where
  pub carried : IsCarriedBy f m n
  pub orders : (k j : ℕ) (r q : Record) → get m k ≡ Some r → get m j ≡ Some q → AreOrdered r q → k < j → f k < f j

abbrev pub AreSame : Records → Records → Type 0
AreSame m n = (f : ℕ → ℕ) × IsSameBy f m n
