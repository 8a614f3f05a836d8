-- The records of some kinds. Rules of our own.
use Rattle.std.specs.Prelude.{ℕ, Bool, true, false, List, Option, Some, None, filter}
use Rattle.std.specs.FinMap.{get, keys}
use Rattle.archive_state.specs.Content.{Content}
use Rattle.record_kinds.specs.declared.record.Record.{Record}
use Rattle.record_kinds.specs.declared.record.Record.TheVariants as kind
use Rattle.kind_views.specs.declared.kinds.Kinds.{Kinds}
use Rattle.kind_views.specs.declared.kinds.Kinds.TheVariants as of

-- whether a record is of one of these kinds
abbrev pub is_among : Kinds → Record → Bool
is_among of.Persons (kind.Person x) = true
is_among of.Families (kind.Family x) = true
is_among of.Events (kind.Event x) = true
is_among of.Places (kind.Place x) = true
is_among of.Repositories (kind.Repo x) = true
is_among of.Sources (kind.Source x) = true
is_among of.Citations (kind.Citation x) = true
is_among of.Entries (kind.Entry x) = true
is_among of.Others (kind.Other x) = true
is_among of.Named (kind.Person x) = true
is_among of.Named (kind.Entry x) = true
is_among of.Named (kind.Place x) = true
is_among of.Named (kind.Repo x) = true
is_among of.Named (kind.Source x) = true
is_among _ _ = false

-- whether what is at a number is such a record
abbrev pub is_at : Kinds → Option Record → Bool
is_at kinds None = false
is_at kinds (Some r) = is_among kinds r

-- the numbers of these records, ascending
abbrev pub numbers_of : Kinds → Content → List ℕ
numbers_of kinds c = filter (λ n. is_at kinds (get c.records n)) (keys c.records)
