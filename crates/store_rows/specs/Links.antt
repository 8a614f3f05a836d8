-- The links of an archive's records: for each record and each number that it names, a row. What the rows have of them,
-- and what is written of them with the records that are put. Rules of our own.
use Rattle.std.specs.Prelude.{◌≡◌, ℕ, Bool, true, false, List, [], ◌∷◌, map, filter, Option, Some, None}
use Rattle.std.specs.List.{list_any}
use Rattle.std.specs.FinMap.{get}
use Rattle.stored_lines.specs.Line.{Label}
use Rattle.record_kinds.specs.declared.record.Record.{Record}
use Rattle.archive_state.specs.Links.{is_among, links}
use Rattle.records.specs.Stored.{stored}
use Rattle.archive_state.specs.Content.{Content}
use Rattle.archive_state.specs.declared.changes.Numbered.{Numbered}
use Rattle.store_tables.specs.Rows.{Rows, LinkRow, is_pair, with_link, without_link}

-- whether the rows say that a number names another one, the target
abbrev pub has_link : ℕ → ℕ → List LinkRow → Bool
has_link target n = list_any (is_pair target n)

-- each number that a record names has a row with it
abbrev pub AreLinked : ℕ → Option Record → List LinkRow → Type 0
AreLinked n None ls = Unit {0}
AreLinked n (Some r) ls = (target : ℕ) → is_among target (links r) ≡ true → has_link target n ls ≡ true

-- each record of the content has its links in the rows; what these have beside is not looked at
abbrev pub KeepsLinks : Rows → Content → Type 0
KeepsLinks rows c = (n : ℕ) → AreLinked n (get c.records n) rows.links

-- ---- what is found by them
-- whether a record that may be missing names a number
abbrev pub names_at : ℕ → Option Record → Bool
names_at n None = false
names_at n (Some r) = is_among n (links r)

-- the numbers of these links whose records name a number
abbrev pub linked_naming : ℕ → Content → List LinkRow → List ℕ
linked_naming n c ls = filter (λ m. names_at n (get c.records m)) (map (λ (l : LinkRow). l.no) ls)

-- ---- what is written of them
abbrev pub with_link_anew : ℕ → ℕ → Rows → Rows
with_link_anew target n rows = with_link target n (without_link target n rows)

abbrev pub with_link_if : ℕ → Option ℕ → Rows → Rows
with_link_if n None rows = rows
with_link_if n (Some target) rows = with_link_anew target n rows

-- a number names what these lines name
abbrev pub with_links : ℕ → List (ℕ × Label) → Rows → Rows
with_links n [] rows = rows
with_links n (l ∷ ls) rows = with_links n ls (with_link_if n l.1.target rows)

-- the links of the records that are put; those that their numbers had before stay
abbrev pub with_all_links : List Numbered → Rows → Rows
with_all_links [] rows = rows
with_all_links (p ∷ ps) rows = with_all_links ps (with_links p.number (stored p.«record») rows)

-- these are removed
abbrev pub without_all_links : List LinkRow → Rows → Rows
without_all_links [] rows = rows
without_all_links (l ∷ ls) rows = without_all_links ls (without_link l.target l.no rows)
