-- What an archive's records are looked for by: a place by its name, an entry by its key and its source. What the rows
-- have of it, and what is written of it with the changes of a request. Rules of our own.
use Rattle.std.specs.Prelude.{◌≡◌, ◌==◌, ℕ, cond, List, [], ◌∷◌, Option, Some, None}
use Rattle.std.specs.FinMap.{get}
use Rattle.record_kinds.specs.declared.record.Record.{Record}
use Rattle.record_kinds.specs.declared.record.Record.TheVariants as kind
use Rattle.records.specs.Stored.{key_words}
use Rattle.archive_state.specs.Content.{Content}
use Rattle.archive_state.specs.declared.changes.Numbered.{Numbered}
use Rattle.store_tables.specs.Rows.{Rows, SoughtRow, with_sought, without_sought}

-- a text, and the number that may go with it
abbrev pub Sought : Type 0
Sought = List ℕ × Option ℕ

-- what a record is looked for by, where it is looked for
abbrev pub sought_of : Record → Option Sought
sought_of (kind.Place p) = Some (p.name, None)
sought_of (kind.Entry e) = Some (key_words e.item e.page, Some e.source)
sought_of _ = None

-- what a number is looked for by, where it has a row
abbrev pub sought_at : ℕ → List SoughtRow → Option Sought
sought_at n [] = None
sought_at n (s ∷ ss) = cond (s.no == n) (Some (s.text, s.target)) (sought_at n ss)

-- a record has the row of what it is looked for by, and none where it is not looked for
abbrev pub IsSought : Option Record → Option Sought → Type 0
IsSought None found = Unit {0}
IsSought (Some r) found = found ≡ sought_of r

-- so each record of the content; what the rows have of numbers without a record is not looked at
abbrev pub KeepsSought : Rows → Content → Type 0
KeepsSought rows c = (n : ℕ) → IsSought (get c.records n) (sought_at n rows.soughts)

-- ---- what is written of it
abbrev pub with_sought_if : ℕ → Option Sought → Rows → Rows
with_sought_if n None rows = rows
with_sought_if n (Some s) rows = with_sought n s.0 s.1 rows

abbrev pub with_sought_anew : ℕ → Option Sought → Rows → Rows
with_sought_anew n found rows = with_sought_if n found (without_sought n rows)

-- what the records that are put are looked for by, each in place of what its number was looked for by
abbrev pub with_all_sought : List Numbered → Rows → Rows
with_all_sought [] rows = rows
with_all_sought (p ∷ ps) rows = with_all_sought ps (with_sought_anew p.number (sought_of p.«record») rows)

abbrev pub without_all_sought : List ℕ → Rows → Rows
without_all_sought [] rows = rows
without_all_sought (n ∷ ns) rows = without_all_sought ns (without_sought n rows)
