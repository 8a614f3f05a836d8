-- What an archive holds: finite maps, and the next number.
use Rattle.std.specs.Prelude.{ℕ, List, map}
use Rattle.std.specs.Ordering.{nat_cmp}
use Rattle.std.specs.Cmp.Lexicographic.{slice_cmp}
use Rattle.std.specs.FinMap.{FinMap, empty, from_entries}
use Rattle.std.specs.String.{string_bytes}
use Rattle.std.specs.declared.string.String.{String}
use Rattle.record_kinds.specs.declared.record.Record.{Record}
use Rattle.receipts.specs.declared.answer.Receipt.{Receipt}
use Rattle.archive_state.specs.Slips.{Slip}

-- from numbers to records
abbrev pub Records : Type 0
Records = FinMap nat_cmp Record

-- from tokens to the digest of a command and its answer
abbrev pub Receipts : Type 0
Receipts = FinMap (slice_cmp nat_cmp) Receipt

-- from numbers to slips
abbrev pub Slips : Type 0
Slips = FinMap nat_cmp Slip

pub record Content : Type 0 where
  pub records : Records
  -- the next number that a record or a slip gets
  pub next : ℕ
  pub receipts : Receipts
  pub slips : Slips

-- what a new archive holds
abbrev pub nothing : Content
nothing = record { records = empty; next = 1; receipts = empty; slips = empty }

-- the map of entries whose keys are words
abbrev pub receipts_of : {Z : Type 0} → List (String Z × Receipt) → Receipts
receipts_of es = from_entries (map (λ e. (string_bytes e.0, e.1)) es)
