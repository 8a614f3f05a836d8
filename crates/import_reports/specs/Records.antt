-- What a report of an import says of the records of a file. Rules of our own.
use Rattle.std.specs.Prelude.{
  ℕ,
  ◌+◌,
  List,
  [],
  ◌∷◌,
  ◌++◌,
  codes,
  decimal,
  Option,
  Some,
  None,
  slice_index_or,
}
use Rattle.stored_lines.specs.Tree.{label}
use Rattle.import_definitions.specs.Kinds.{kind_named}
use Rattle.import_definitions.specs.Nodes.{FileLine, FileNode}
use Rattle.import_definitions.specs.declared.kinds.RootKind.{RootKind}
use Rattle.import_definitions.specs.declared.kinds.RootKind.TheVariants as kind

-- what a record is called; a register entry and one of no own kind are only records
abbrev pub kind_word : RootKind → List ℕ
kind_word kind.Place = codes "place"
kind_word kind.Repo = codes "repository"
kind_word kind.Source = codes "source"
kind_word kind.Person = codes "person"
kind_word kind.Family = codes "family"
kind_word kind.Other = codes "record"

-- `line 7: @I1@ is person 12`
abbrev pub named_line : ℕ → List ℕ → List ℕ → ℕ → List ℕ
named_line line name tag number = codes "line " ++ (decimal line ++ (codes ": " ++ (name ++ (codes " is "
    ++ (kind_word (kind_named tag) ++ (codes " " ++ (decimal number ++ 10 ∷ [])))))))

-- of a node with a cross reference
abbrev pub line_named : ℕ → FileLine → Option (List ℕ) → List ℕ
line_named number l None = []
line_named number l (Some name) = named_line l.line name l.tag number

abbrev pub record_line : ℕ → FileLine → List ℕ
record_line number l = line_named number l l.xref

-- the number of a position; 0 where there is none
abbrev pub number_at : List ℕ → ℕ → ℕ
number_at numbers at = slice_index_or numbers at 0

-- the nodes from this position on
abbrev pub records_from : List ℕ → ℕ → List FileNode → List ℕ
records_from numbers at [] = []
records_from numbers at (t ∷ ts) = record_line (number_at numbers at) (label t) ++ records_from numbers (at + 1) ts
