-- The rows of a batch that a page is on an archive: its entries, each with the number of its place. Where one has none,
-- there is no row at all.
use Rattle.std.specs.Prelude.{
  ℕ,
  ◌+◌,
  List,
  [],
  ◌∷◌,
  ◌++◌,
  nat_le,
  slice_get,
  codes,
  Option,
  Some,
  None,
  Result,
  Ok,
  Err,
  if◌then◌else◌,
}
use Rattle.record_text.specs.declared.refusal.RefusalKind.{RefusalKind}
use Rattle.record_text.specs.declared.refusal.RefusalKind.TheVariants.{NoSuch}
use Rattle.archive_state.specs.Content.{Content}
use Rattle.commands.specs.Bytes.{or_empty}
use Rattle.commands.specs.declared.entry_row.EntryRow.{EntryRow}
use Rattle.page_entries.specs.Entries.{and_then}
use Rattle.page_entries.specs.declared.entries.PageEntry.{PageEntry}
use Rattle.page_entries.specs.declared.places.PagePlace.{PagePlace}
use Rattle.page_entries.specs.declared.places.PagePlace.TheVariants.{Path}
use Rattle.page_checks.specs.Refusing.{refused_line}
use Rattle.page_batches.specs.Digests.{place_words}
use Rattle.page_batches.specs.Looks.{Found, looks_of}
use Rattle.page_batches.specs.declared.rows.BatchRefusal.{BatchRefusal}

-- the number of a row as a refusal has it: the greatest of 32 bits where it is above that
abbrev pub row_place : ℕ → ℕ
row_place number = if nat_le number 4294967295 then number else 4294967295

-- a refusal of no row
abbrev pub unplaced : RefusalKind → BatchRefusal
unplaced kind = record { refusal = record { kind = kind; at = None }; line = [] }

-- what to do, where no place has a path
abbrev pub path_hint : Option PagePlace → List ℕ
path_hint (Some (Path path)) = codes "  no place has this path; --make-places makes it" ++ 10 ∷ []
path_hint place = []

abbrev pub hint_of : Option PagePlace → RefusalKind → List ℕ
hint_of place NoSuch = path_hint place
hint_of place kind = []

-- the row of the sheet, and the line of its place
abbrev pub refused : PageEntry → RefusalKind → BatchRefusal
refused e kind = record {
  refusal = record { kind = kind; at = Some (row_place e.row) };
  line = refused_line e.row kind (codes "place") (or_empty place_words e.place) ++ hint_of e.place kind;
}

abbrev pub with_place : PageEntry → Option ℕ → EntryRow
with_place e place = record {
  kind = e.kind;
  page = e.page;
  item = e.item;
  date = e.date.given;
  place = place;
  text = e.text;
  mentions = e.mentions;
}

abbrev pub row_of : PageEntry → Found → Result EntryRow BatchRefusal
row_of e (Ok place) = Ok (with_place e place)
row_of e (Err kind) = Err (refused e kind)

-- where nothing was found there is no place
abbrev pub or_nothing : Option Found → Found
or_nothing None = Ok None
or_nothing (Some found) = found

abbrev pub found_at : List Found → ℕ → Found
found_at found at = or_nothing (slice_get found at)

-- the rows of entries, of which the first has the place at `at`; or the refusal of the first without a place
abbrev pub with_places : List Found → ℕ → List PageEntry → Result (List EntryRow) BatchRefusal
with_places found at [] = Ok []
with_places found at (e ∷ entries) = and_then (row_of e (found_at found at)) (λ row.
    and_then (with_places found (at + 1) entries) (λ more. Ok (row ∷ more)))

abbrev pub rows_by : List PageEntry → Result (List Found) RefusalKind → Result (List EntryRow) BatchRefusal
rows_by entries (Ok found) = with_places found 0 entries
rows_by entries (Err kind) = Err (unplaced kind)

-- the rows of a page for a source of an archive
abbrev pub rows_on : Content → List ℕ → ℕ → List PageEntry → Result (List EntryRow) BatchRefusal
rows_on c token source entries = rows_by entries (looks_of c token source entries)

-- ---- for the proofs: the rows after these
abbrev pub after : List EntryRow → Result (List EntryRow) BatchRefusal → Result (List EntryRow) BatchRefusal
after rows (Ok more) = Ok (rows ++ more)
after rows (Err e) = Err e
