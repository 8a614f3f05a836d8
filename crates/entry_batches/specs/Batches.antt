-- What a batch of register entries of one source makes of an archive, or its refusal with the place of the row: the
-- source is looked at first, then each row as the command of one entry would be after the rows before it. Rules of our
-- own.
use Rattle.std.specs.Prelude.{
  ℕ,
  ◌+◌,
  List,
  [],
  ◌∷◌,
  ◌++◌,
  length,
  Bool,
  false,
  not,
  ◌&&◌,
  ◌==◌,
  bytes_eq,
  nat_le,
  nat_lt,
  Some,
  None,
  Result,
  Ok,
  Err,
  if◌then◌else◌,
}
use Rattle.std.specs.List.{list_any}
use Rattle.record_text.specs.declared.refusal.Refusal.{Refusal}
use Rattle.record_text.specs.declared.refusal.RefusalKind.{RefusalKind}
use Rattle.record_text.specs.declared.refusal.RefusalKind.TheVariants.{DuplicateEntry, Full, WrongKind}
use Rattle.record_fields.specs.Words.{entry_kind_word}
use Rattle.record_kinds.specs.Model as model
use Rattle.record_kinds.specs.declared.record.Record.{Record}
use Rattle.record_kinds.specs.declared.record.Record.TheVariants as kind
use Rattle.archive_state.specs.Applied.{with_puts}
use Rattle.archive_state.specs.Content.{Content}
use Rattle.archive_state.specs.declared.changes.Numbered.{Numbered}
use Rattle.commands.specs.Rows.{and_then}
use Rattle.commands.specs.declared.entry_row.EntryRow.{EntryRow}
use Rattle.command_checks.specs.Checks.{demanded_at, each, need, passed, said_place_at}
use Rattle.command_checks.specs.Entries.{key_is_free, texts_fit}
use Rattle.command_checks.specs.declared.kinds.Demand.TheVariants as demand
use Rattle.archive_steps.specs.Steps.{entry_of}
use Rattle.entry_batches.specs.Placed.{Step, onward, placed}

-- ---- one row, after those that made these entries
-- a number that one of so many rows has got
abbrev pub is_drawn : ℕ → ℕ → ℕ → Bool
is_drawn next count n = nat_le next n && nat_lt n (next + count)

-- a place that an entry may have; what a row before has made is an entry, and no place
abbrev pub place_behind : Content → ℕ → ℕ → Result (Unit {0}) RefusalKind
place_behind c count n = if is_drawn c.next count n then Err WrongKind else said_place_at c n

-- an entry of the same kind, page and item; all that a batch makes are of one source
abbrev pub is_like_row : model.Entry → Record → Bool
is_like_row e (kind.Entry f) =
    bytes_eq (entry_kind_word f.kind) (entry_kind_word e.kind) &&
    (bytes_eq f.page e.page && f.item.number == e.item.number)
is_like_row e _ = false

-- none of the rows before has made one
abbrev pub key_is_new : List Numbered → model.Entry → Result (Unit {0}) RefusalKind
key_is_new made e = need (not (list_any (λ (p : Numbered). is_like_row e p.«record») made)) DuplicateEntry

-- after so many rows a number is left. The second half says nothing of a sound archive, where the next number is above
-- that of a source, and so 2 at least
abbrev pub is_left : ℕ → ℕ → Bool
is_left next count = nat_le (next + count) 4_294_967_295 && nat_le count 4_294_967_293

abbrev pub number_behind : ℕ → ℕ → Result ℕ RefusalKind
number_behind next count = if is_left next count then Ok (next + count) else Err Full

-- the entry of a row
abbrev pub row_entry : Content → ℕ → List Numbered → EntryRow → Result model.Entry RefusalKind
row_entry c source made row =
    and_then (texts_fit row) (λ _.
    and_then (passed (each (place_behind c (length made)) row.place)) (λ _.
    and_then (entry_of source row) (λ e.
    and_then (key_is_free c.records source e.kind e.page e.item) (λ _.
    and_then (key_is_new made e) (λ _.
    Ok e)))))

-- ---- all rows
-- what was made with one entry more, at the number after
abbrev pub with_entry : ℕ → List Numbered → model.Entry → Result (List Numbered) RefusalKind
with_entry next made e = and_then (number_behind next (length made))
    (λ n. Ok (made ++ (record { number = n; «record» = kind.Entry e } ∷ [])))

-- the same of a row, or its refusal: the first row has place 1
abbrev pub with_row : Content → ℕ → List Numbered → EntryRow → Result (List Numbered) Refusal
with_row c source made row = placed (Some (length made + 1))
    (and_then (row_entry c source made row) (with_entry c.next made))

-- one row after the other
abbrev pub with_rows : Content → ℕ → List Numbered → List EntryRow → Result (List Numbered) Refusal
with_rows c source made [] = Ok made
with_rows c source made (row ∷ rows) = onward (with_row c source made row) (λ more. with_rows c source more rows)

-- the archive with what was made
abbrev pub with_made : Content → List Numbered → Content
with_made c made = record c { records = with_puts c.records made; next = c.next + length made }

-- the first number of a batch
abbrev pub first_number : ℕ → Result ℕ RefusalKind
first_number next = if nat_le next 4_294_967_295 then Ok next else Err Full

-- the answer has the next number of before, also where no row is; so such a batch, too, needs that there is one
abbrev pub batch_step : Content → ℕ → List EntryRow → Step
batch_step c source rows =
    onward (placed None (demanded_at c demand.Source source)) (λ _.
    onward (with_rows c source [] rows) (λ made.
    onward (placed None (first_number c.next)) (λ n.
    Ok (with_made c made, record { first = n; count = length made }))))
