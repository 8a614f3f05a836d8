-- When the records of an archive have their links among some rows: rules of our own.
use Rattle.std.specs.Prelude.{ℕ, ◌≡◌, Bool, true, false, List, Option, Some, None}
use Rattle.std.specs.FinMap.{get}
use Rattle.std.specs.Ordering.{nat_cmp, ordering_then}
use Rattle.std.specs.declared.cmp.Ordering.{Ordering}
use Rattle.stored_lines.specs.Line.{Label}
use Rattle.record_kinds.specs.declared.record.Record.{Record}
use Rattle.archive_state.specs.Links.{is_among, links}
use Rattle.archive_state.specs.Stored.{some_line_names}
use Rattle.record_shapes.specs.Lists.{EachOf}
use Rattle.records.specs.Stored.{stored}
use Rattle.archive_state.specs.Content.{Content}
use Rattle.store_tables.specs.Rows.{LinkRow}
use Rattle.store_rows.specs.Links.{AreLinked, has_link}

-- each record has its own of these links; others are not looked at
abbrev pub HaveLinks : List LinkRow → Content → Type 0
HaveLinks ls c = (n : ℕ) → AreLinked n (get c.records n) ls

-- the record of the first number names the second one, and none of these links says so
abbrev pub LacksLink : Content → List LinkRow → ℕ → ℕ → Type 0
LacksLink c ls n target = (r : Record) × (get c.records n ≡ Some r) × (is_among target (links r) ≡ true)
    × (has_link target n ls ≡ false)

-- ---- as the code finds them, by a look that says whether there is a link of a pair
-- a pair is the number that is named, and that of the record
abbrev pub pair_order : ℕ × ℕ → ℕ × ℕ → Ordering
pair_order a b = ordering_then (nat_cmp a.0 b.0) (nat_cmp a.1 b.1)

abbrev pub is_line_linked : (ℕ × ℕ → Bool) → ℕ → Option ℕ → Bool
is_line_linked look n None = true
is_line_linked look n (Some target) = look (target, n)

-- lines of a number
abbrev pub AreLinesLinked : (ℕ × ℕ → Bool) → ℕ → List (ℕ × Label) → Type 0
AreLinesLinked look n = EachOf (λ (l : ℕ × Label). is_line_linked look n l.1.target ≡ true)

abbrev pub NamesUnlinked : (ℕ × ℕ → Bool) → ℕ → List (ℕ × Label) → ℕ → Type 0
NamesUnlinked look n ls target = (some_line_names target ls ≡ true) × (look (target, n) ≡ false)

-- the record of a number
abbrev pub IsLinked : (ℕ × ℕ → Bool) → ℕ → Option Record → Type 0
IsLinked look n None = Unit {0}
IsLinked look n (Some r) = AreLinesLinked look n (stored r)

abbrev pub LacksLine : (ℕ × ℕ → Bool) → ℕ → Option Record → ℕ → Type 0
LacksLine look n None target = ⊥
LacksLine look n (Some r) target = NamesUnlinked look n (stored r) target
