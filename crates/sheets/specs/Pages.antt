-- The index, and the page of a surname: rules of our own.
use Rattle.std.specs.Prelude.{ℕ, Bool, if◌then◌else◌, List, [], length, bytes_eq, Option, Some}
use Rattle.std.specs.List.{flat_map, list_any}
use Rattle.record_kinds.specs.Model as model
use Rattle.record_kinds.specs.declared.record.Record.{Record}
use Rattle.record_kinds.specs.declared.record.Record.TheVariants as kind
use Rattle.record_text.specs.Naming.{key_of, surname_of}
use Rattle.archive_state.specs.Content.{Records}
use Rattle.sheet_lines.specs.Words.{display_of}
use Rattle.sheet_lines.specs.Lines as lines
use Rattle.sheets.specs.Gathered.{Gathered, gathered}

-- how many persons, families and registers there are
abbrev pub index_text : Gathered → List ℕ
index_text g = lines.index_page (length g.persons) (length g.families) (length g.sources)

abbrev pub index_page : Records → List ℕ
index_page m = index_text (gathered m)

-- the surname of the name has that key
abbrev pub has_key : List ℕ → model.Name → Bool
has_key key x = bytes_eq (key_of (surname_of x.text)) key

-- the line of a person one of whose names has a surname of that key
abbrev pub surname_in : List ℕ → ℕ → Option Record → List ℕ
surname_in key n (Some (kind.Person p)) =
    if list_any (has_key key) p.names then lines.surname_line n (display_of p.names) else []
surname_in key n _ = []

abbrev pub surname_text : Gathered → List ℕ → List ℕ
surname_text g key = flat_map (λ n. surname_in key n (g.at n)) g.persons

-- all persons one of whose names has a surname with the key of that surname, by number
abbrev pub surname_page : Records → List ℕ → List ℕ
surname_page m surname = surname_text (gathered m) (key_of surname)
