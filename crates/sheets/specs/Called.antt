-- Who is called by a surname, as an index of surnames has it.
use Rattle.std.specs.Prelude.{ℕ, ◌≡◌, Bool, false, if◌then◌else◌, List, [], Option, Some}
use Rattle.std.specs.FinMap.{get}
use Rattle.std.specs.List.{filter, list_any}
use Rattle.record_kinds.specs.declared.record.Record.{Record}
use Rattle.record_kinds.specs.declared.record.Record.TheVariants as kind
use Rattle.archive_state.specs.Content.{Records}
use Rattle.sheet_lines.specs.Words.{display_of}
use Rattle.sheet_lines.specs.Lines as lines
use Rattle.sheet_lines.specs.Numbers.{under, with_last}
use Rattle.sheet_lines.specs.declared.index.SurnameIndex.{SurnameIndex}
use Rattle.sheets.specs.Gathered.{gathered}
use Rattle.sheets.specs.Pages.{has_key}

-- the record is a person one of whose names has a surname of that key
abbrev pub is_called : List ℕ → Option Record → Bool
is_called key (Some (kind.Person p)) = list_any (has_key key) p.names
is_called key _ = false

-- under each key are the numbers of the persons who are called so, by number
abbrev pub AreCalled : Records → SurnameIndex → Type 0
AreCalled m s =
    (key : List ℕ) → under s.numbers key ≡ filter (λ n. is_called key (get m n)) (gathered m).persons

-- the number after others, where it is of one who is called so
abbrev pub with_called : List ℕ → ℕ → Option Record → List ℕ → List ℕ
with_called key n r ks = if is_called key r then with_last n ks else ks

-- the line of a person
abbrev pub line_in : ℕ → Option Record → List ℕ
line_in n (Some (kind.Person p)) = lines.surname_line n (display_of p.names)
line_in n _ = []
