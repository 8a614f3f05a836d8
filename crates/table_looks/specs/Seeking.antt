-- When the records of an archive are looked for by what they have among some rows: rules of our own.
use Rattle.std.specs.Prelude.{ℕ, List, Option}
use Rattle.std.specs.FinMap.{get}
use Rattle.archive_state.specs.Content.{Content}
use Rattle.store_tables.specs.Rows.{SoughtRow}
use Rattle.store_rows.specs.Sought.{IsSought, Sought, sought_at}

-- the record of the number, where there is one, is looked for by what it has, or has nothing that it is looked for by
abbrev pub HasSought : Content → (ℕ → Option Sought) → ℕ → Type 0
HasSought c look n = IsSought (get c.records n) (look n)

-- what these rows have of a number, of two rows the first one
abbrev pub soughts_in : List SoughtRow → ℕ → Option Sought
soughts_in ss n = sought_at n ss

-- each record is; rows of numbers without a record are not looked at
abbrev pub HaveSoughts : List SoughtRow → Content → Type 0
HaveSoughts ss c = (n : ℕ) → HasSought c (soughts_in ss) n
