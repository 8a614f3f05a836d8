-- Values of before, written with the changes of a request. Rules of our own.
use Rattle.std.specs.Prelude.{◌≡◌, ℕ, pos, true, List, [], ◌∷◌, ◌++◌, Option, Some, None}
use Rattle.earlier_values.specs.Earlier.{past}
use Rattle.sqlite.specs.State.{State}
use Rattle.archive_state.specs.Changes.{Changes}
use Rattle.archive_state.specs.declared.changes.Kept.{Kept}
use Rattle.archive_state.specs.declared.changes.Numbered.{Numbered}
use Rattle.store_tables.specs.Calls.{Inside}
use Rattle.store_tables.specs.Conversion.{EachWith}
use Rattle.store_tables.specs.Rows.{PastRow, Rows, with_past}
use Rattle.store_rows.specs.Spans.{AreDrawn, Drawn, with_dated_changes}

-- a row for each of these records under a token, after all rows that there are
abbrev pub with_all_pasts : List ℕ → List Numbered → Rows → Rows
with_all_pasts token [] rows = rows
with_all_pasts token (p ∷ ps) rows = with_all_pasts token ps (with_past p.number token (past p.«record») rows)

-- under the token that the request is kept under; none where nothing is kept of it
abbrev pub with_pasts_written : Option Kept → List Numbered → Rows → Rows
with_pasts_written None ps rows = rows
with_pasts_written (Some kept) ps rows = with_all_pasts kept.token ps rows

-- all changes of a request, with all that goes with what it puts and removes, and with values of before
abbrev pub with_all_changes : Changes → Drawn → List Numbered → Rows → Rows
with_all_changes changes drawn pasts rows =
    with_pasts_written changes.kept pasts (with_dated_changes changes drawn rows)

-- calls in a transaction over tables that have spans: they write all this, and commit nothing
abbrev pub FollowsAll : State → State → Changes → List Numbered → Type 0
FollowsAll old new changes pasts = (rows : Rows) → rows.has_spans ≡ true → Inside old rows
    → (drawn : Drawn) × AreDrawn changes.puts drawn × Inside new (with_all_changes changes drawn pasts rows)
    × (new.committed ≡ old.committed)

-- the row is of this record, under this token
abbrev pub IsPastRow : List ℕ → Numbered → PastRow → Type 0
IsPastRow token p row = (row.no ≡ pos p.number) × (row.token ≡ token) × (row.text ≡ past p.«record»)

-- all rows that there were are as they were, and these come after them
abbrev pub HasMorePasts : Rows → Rows → List PastRow → Type 0
HasMorePasts rows after more = after.pasts ≡ rows.pasts ++ more

-- one row of each of these records is new, where something is kept of the request; else none is
abbrev pub AddsPasts : Option Kept → List Numbered → Rows → Rows → Type 0
AddsPasts None ps rows after = HasMorePasts rows after []
AddsPasts (Some kept) ps rows after =
    (more : List PastRow) × EachWith (IsPastRow kept.token) ps more × HasMorePasts rows after more
