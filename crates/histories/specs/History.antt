-- The history of a number, as it is shown to whoever keeps the archive: rules of our own.
use Rattle.std.specs.Prelude.{
  ℕ,
  ◌-◌,
  List,
  [],
  ◌∷◌,
  ◌++◌,
  codes,
  decimal,
  length,
  slice_get,
  unsigned_abs,
  Option,
  Some,
  None,
}
use Rattle.std.specs.List.{flat_map}
use Rattle.std.specs.FinMap.{get}
use Rattle.record_kinds.specs.declared.record.Record.{Record}
use Rattle.archive_state.specs.Content.{Records}
use Rattle.past_values.specs.declared.reading.PastValue.{PastValue}
use Rattle.put_back.specs.Back.{rows_back}
use Rattle.showing.specs.Values.{value}
use Rattle.histories.specs.Remarks.{remarks}
use Rattle.histories.specs.Rows.{front, rows}

-- a value of before, after a line with the key of its row and the token of the request
abbrev pub head : PastValue → List ℕ
head p = decimal (unsigned_abs p.id) ++ (codes " " ++ (p.token ++ codes "\n"))

abbrev pub past_part : Records → ℕ → PastValue → List ℕ
past_part m n p = head p ++ value m n p.«record»

-- the value of now, or that the record is removed
abbrev pub this_part : Records → ℕ → Record → List ℕ
this_part m n r = codes "now\n" ++ value m n r

abbrev pub now_part : Records → ℕ → Option Record → List ℕ
now_part m n None = codes "removed\n"
now_part m n (Some r) = this_part m n r

-- the rows that put back the last value of before, and what they do not put back; no row does that of a removed record
abbrev pub back_to : ℕ → ℕ → PastValue → Option Record → List ℕ
back_to answers n last None = codes "no row puts back a removed record\n"
back_to answers n last (Some r) = rows (front answers n) 1 (rows_back n last.«record» r) ++ remarks last.«record» r

abbrev pub back_at : ℕ → ℕ → Option PastValue → Option Record → List ℕ
back_at answers n None now = []
back_at answers n (Some last) now = back_to answers n last now

abbrev pub back_part : ℕ → ℕ → List PastValue → Option Record → List ℕ
back_part answers n values now = back_at answers n (slice_get values (length values - 1)) now

-- the values of before, by their keys, the value of now, and the rows
abbrev pub whole : ℕ → Records → ℕ → List PastValue → Option Record → List ℕ
whole answers m n values now =
    flat_map (past_part m n) values ++ (now_part m n now ++ back_part answers n values now)

-- nothing where there is no value, before or now
abbrev pub history_of : ℕ → Records → ℕ → List PastValue → Option Record → Option (List ℕ)
history_of answers m n [] None = None
history_of answers m n [] (Some r) = Some (whole answers m n [] (Some r))
history_of answers m n (v ∷ vs) now = Some (whole answers m n (v ∷ vs) now)

abbrev pub history : ℕ → Records → ℕ → List PastValue → Option (List ℕ)
history answers m n values = history_of answers m n values (get m n)
