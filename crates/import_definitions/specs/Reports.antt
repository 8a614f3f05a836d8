-- What is reported of lines that are left out, and of values that are dropped, in the order of lines.
use Rattle.std.specs.Prelude.{Bool, true, false, List, [], ◌∷◌, ◌++◌, Option, is_some, if◌then◌else◌, ℕ}
use Rattle.std.specs.List.{flat_map}
use Rattle.stored_lines.specs.Tree.{Forest, node, none, more, label}
use Rattle.gedcom_line.specs.Value.{Meaning, Text, Pointer}
use Rattle.receipts.specs.declared.report.ReportLine.{ReportLine}
use Rattle.receipts.specs.declared.report.ReportWord.TheVariants as word
use Rattle.import_definitions.specs.Kinds.{kind_named, is_other}
use Rattle.import_definitions.specs.Nodes.{FileLine, FileNode}
use Rattle.import_definitions.specs.Roots.{is_kept}
use Rattle.import_definitions.specs.Lines.{resolve}

abbrev pub dangles : FileLine → ReportLine
dangles l = record { line = l.line; word = word.Dangling }

-- no value and an empty text are the same
abbrev pub is_empty : Meaning → Bool
is_empty (Text []) = true
is_empty (Text (b ∷ bs)) = false
is_empty (Pointer name) = false

-- the value of a node of an own kind, where it has one
abbrev pub dropped : FileLine → List ReportLine
dropped l = if is_other (kind_named l.tag) then [] else (if is_empty l.value then []
    else record { line = l.line; word = word.ValueDropped } ∷ [])

-- of nodes of level 0: those that become no records, and the values that these drop
abbrev pub said_of_root : List FileNode → FileNode → List ReportLine
said_of_root ts t = if is_kept ts t then dropped (label t) else dangles (label t) ∷ []

abbrev pub said_of_roots : List FileNode → List ReportLine
said_of_roots ts = flat_map (said_of_root ts) ts

-- of lines below: those whose pointers name nothing; no line below one of these is reported
abbrev pub dangling : (List ℕ → Option ℕ) → Forest FileLine → List ReportLine
dangling place none = []
dangling place (more (node l f) ts) =
    (if is_some (resolve place l.value) then dangling place f else dangles l ∷ []) ++ dangling place ts
