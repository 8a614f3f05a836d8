-- How far an import is: what is said of its stages, each of which writes 256 rows, or all that were left. Rules of our
-- own.
use Rattle.std.specs.Prelude.{◌≡◌, ◌≤◌, ◌<◌, ◌+◌, ◌*◌, ◌-◌, ◌^◌, ℕ, zero, suc, min}
use Rattle.staging.specs.declared.progress.RowCount.{RowCount as Declared}

-- how many rows are written, and how many there are
abbrev pub RowCount : Type 0
RowCount = Declared

-- a stage more
abbrev pub a_stage_more : RowCount → RowCount
a_stage_more rows = record rows { written = min (rows.written + 256) rows.all }

-- so many stages of an import of so many rows are written; each number stops at 2^64 - 1
abbrev pub after_stages : ℕ → ℕ → RowCount
after_stages all n = record { written = min (256 * n) (min all (2 ^ 64 - 1)); all = min all (2 ^ 64 - 1) }

module _ {P : Type 0} (Tells : P → RowCount → P → Type 0) (all : ℕ) where
  -- between the two it got that no row is written, and then after each stage, to this one, how many are
  abbrev pub TellsStages : ℕ → P → P → Type 0
  TellsStages zero a b = Tells a (after_stages all 0) b
  TellsStages (suc n) a b = (mid : P) × TellsStages n a mid × Tells mid (after_stages all (suc n)) b

  -- it got of stages that each wrote something
  abbrev pub TellsSome : P → P → Type 0
  TellsSome a b = (n : ℕ) × (256 * n < all + 256) × TellsStages n a b

  -- it got of all stages: the last one wrote the last row
  abbrev pub TellsAll : P → P → Type 0
  TellsAll a b = (n : ℕ) × (all ≤ 256 * n) × (256 * n < all + 256) × TellsStages n a b
