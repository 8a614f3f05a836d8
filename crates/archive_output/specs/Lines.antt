-- The lines of what is found between two days: rules of our own.
use Rattle.std.specs.Prelude.{ℕ, Bool, true, false, List, [], ◌++◌, codes, decimal, Option, Some, None, option_map}
use Rattle.std.specs.List.{flat_map}
use Rattle.std.specs.FinMap.{get}
use Rattle.record_fields.specs.declared.date.Date.{Date}
use Rattle.record_fields.specs.Words.{entry_kind_word}
use Rattle.record_kinds.specs.Model as model
use Rattle.record_kinds.specs.declared.record.Record.{Record}
use Rattle.record_kinds.specs.declared.record.Record.TheVariants as kind
use Rattle.archive_state.specs.Content.{Records}
use Rattle.archive_state.specs.Known.{path_of}
use Rattle.sheet_lines.specs.Words.{dated, line, printed}

-- the number of the place of an event
abbrev pub place_number : Option model.EventPlace → Option ℕ
place_number place = option_map (λ (p : model.EventPlace). p.place) place

-- the path of the place that is named, where it has one
abbrev pub path_at : Records → Option ℕ → Option (List ℕ)
path_at m None = None
path_at m (Some n) = path_of m n

-- a text after two spaces, where there is one
abbrev pub behind : Option (List ℕ) → List ℕ
behind None = []
behind (Some text) = codes "  " ++ printed text

-- what it is, its date, and the path of its place, each after two spaces
abbrev pub parts : Records → List ℕ → Option Date → Option ℕ → List ℕ
parts m word date place = codes "  " ++ (word ++ (dated (codes "  ") date ++ behind (path_at m place)))

-- an event is named by its tag, a register entry by the word of its kind; other records are never found
abbrev pub told : Records → Option Record → List ℕ
told m (Some (kind.Event e)) = parts m e.tag e.date (place_number e.place)
told m (Some (kind.Entry e)) = parts m (entry_kind_word e.kind) e.date e.place
told m _ = []

-- only the number, or what is said of its record after it
abbrev pub number_line : ℕ → List ℕ
number_line n = line (decimal n)

abbrev pub told_line : Records → ℕ → List ℕ
told_line m n = line (decimal n ++ told m (get m n))

-- a line for each number that is found
abbrev pub found_text : Bool → Records → List ℕ → List ℕ
found_text false m found = flat_map number_line found
found_text true m found = flat_map (told_line m) found
