-- The rows of an import that is removed again. Rules of our own.
use Rattle.std.specs.Prelude.{ℕ, ◌≡◌, ◌==◌, Bool, true, false, List, [], ◌∷◌, filter}
use Rattle.std.specs.List.{list_any}
use Rattle.record_shapes.specs.Lists.{EachOf}
use Rattle.store_tables.specs.Rows.{LinkRow, Rows, lines_of, without_batch_row}
use Rattle.store_rows.specs.Links.{has_link, without_all_links}
use Rattle.store_rows.specs.Meaning.{has_record, is_closed}
use Rattle.store_rows.specs.Sought.{sought_at}
use Rattle.store_rows.specs.Spans.{span_at, without_all_of}
use Rattle.store_rows.specs.Writing.{without_records}
use Rattle.staged_rows.specs.Staging.{StagedRow, a_link}

-- ---- the links of a batch
-- those among rows of an import
abbrev pub links_among : List StagedRow → List LinkRow
links_among [] = []
links_among (a_link l ∷ rs) = l ∷ links_among rs
links_among (_ ∷ rs) = links_among rs

-- whether a link is from one of these numbers
abbrev pub is_from : List ℕ → LinkRow → Bool
is_from ns l = list_any (λ n. n == l.no) ns

-- those of the rows that are
abbrev pub links_from : List ℕ → Rows → List LinkRow
links_from ns rows = filter (is_from ns) rows.links

-- each of these links is
abbrev pub AreOf : List ℕ → List LinkRow → Type 0
AreOf ns = EachOf (λ (l : LinkRow). is_from ns l ≡ true)

-- ---- a batch
-- what goes first: the spans of its numbers and what they are looked for by, and then these links
abbrev pub without_later : List ℕ → List LinkRow → Rows → Rows
without_later ns ls rows = without_all_links ls (without_all_of ns rows)

-- a batch is removed: then the lines of its numbers go, then their rows in `record`, then its own row
abbrev pub without_batch : ℕ → List ℕ → List LinkRow → Rows → Rows
without_batch batch ns ls rows = without_batch_row batch (without_records ns (without_later ns ls rows))

-- none of these numbers has a record
abbrev pub AreAside : List ℕ → Rows → Type 0
AreAside ns rows = EachOf (λ n. has_record n rows ≡ false) ns

-- no number has a record that one of these links is from
abbrev pub AreLinksAside : List LinkRow → Rows → Type 0
AreLinksAside ls rows = EachOf (λ (l : LinkRow). has_record l.no rows ≡ false) ls

-- the same is seen of other rows: the same records, each kept as the same lines with the same span and the same links,
-- and looked for by the same; and all else but the batches
pub record IsSeenAs (rows other : Rows) : Type 0 where
  pub version : other.version ≡ rows.version
  pub has_spans : other.has_spans ≡ rows.has_spans
  pub next : other.next ≡ rows.next
  pub society : other.society ≡ rows.society
  pub receipts : other.receipts ≡ rows.receipts
  pub slips : other.slips ≡ rows.slips
  pub slip_lines : other.slip_lines ≡ rows.slip_lines
  pub slip_packs : other.slip_packs ≡ rows.slip_packs
  pub pasts : other.pasts ≡ rows.pasts
  pub batch : is_closed 0 other.batches ≡ is_closed 0 rows.batches
  pub recorded : (n : ℕ) → has_record n other ≡ has_record n rows
  pub lines : (n : ℕ) → has_record n rows ≡ true → lines_of n other ≡ lines_of n rows
  pub spans : (n : ℕ) → has_record n rows ≡ true → span_at n other.spans ≡ span_at n rows.spans
  pub links : (n target : ℕ) → has_record n rows ≡ true → has_link target n other.links ≡ has_link target n rows.links
  pub soughts : (n : ℕ) → has_record n rows ≡ true → sought_at n other.soughts ≡ sought_at n rows.soughts
