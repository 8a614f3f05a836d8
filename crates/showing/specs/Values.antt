-- A value that a record has, or had before, as it is shown: rules of our own.
use Rattle.std.specs.Prelude.{ℕ, List, ◌++◌, codes, decimal, Option, Some, None}
use Rattle.std.specs.List.{flat_map}
use Rattle.std.specs.FinMap.{get}
use Rattle.record_kinds.specs.declared.record.Record.{Record}
use Rattle.archive_state.specs.Content.{Records}
use Rattle.showing.specs.Fields.{fields}
use Rattle.showing.specs.Heads.{head}
use Rattle.showing.specs.Named.{named}
use Rattle.showing.specs.Shown.{shown_page}

abbrev pub names_word : List ℕ
names_word = codes "names: "

-- a number with what stands there, or that it is removed
abbrev pub at_number : ℕ → Option Record → List ℕ
at_number n None = decimal n ++ codes "  removed\n"
at_number n (Some r) = head n r

abbrev pub named_line : Records → ℕ → List ℕ
named_line m n = names_word ++ at_number n (get m n)

-- its line, its fields, and what they name by a line each
abbrev pub whole_value : Records → ℕ → Record → List ℕ
whole_value m n r = head n r ++ (fields r ++ flat_map (named_line m) (named r))

abbrev pub value : Records → ℕ → Record → List ℕ
value m n r = shown_page (whole_value m n r)
