-- The second of two entries of a file that have one source, kind, page and item.
use Rattle.std.specs.Prelude.{ℕ, ◌+◌, List, [], ◌∷◌, Option, Some, None, Result, Ok, Err, if◌then◌else◌}
use Rattle.std.specs.List.{list_any}
use Rattle.stored_lines.specs.Tree.{label}
use Rattle.record_kinds.specs.Model as model
use Rattle.record_kinds.specs.declared.record.Record.TheVariants as kind
use Rattle.record_text.specs.declared.refusal.Refusal.{Refusal}
use Rattle.record_text.specs.declared.refusal.RefusalKind.TheVariants.{DuplicateEntry}
use Rattle.record_shapes.specs.Reading as reading
use Rattle.node_reading.specs.Trees.{draft_tree}
use Rattle.node_reading.specs.declared.drafts.Draft.{Draft}
use Rattle.import_definitions.specs.Nodes.{FileNode}
use Rattle.import_definitions.specs.Lines.{roots}
use Rattle.import_definitions.specs.Made.{line_of, same_key, second}

-- the position of the first entry of a key that one before it has
abbrev pub second_position : List FileNode → Option ℕ
second_position ks = second (roots ks) 0 [] (roots ks)

-- 60, at its line
abbrev pub refused_second : List FileNode → Option ℕ → Result (Unit {0}) Refusal
refused_second ks None = Ok tt
refused_second ks (Some k) = Err (record { kind = DuplicateEntry; at = line_of ks k })

-- ---- among what nodes are read as
abbrev pub said_of : Draft → reading.Draft
said_of d = label (draft_tree d)

-- the position, from k on, of the first that is an entry of a key that one before it has
abbrev pub second_among : ℕ → List reading.Draft → List reading.Draft → Option ℕ
second_among k before [] = None
second_among k before (d ∷ behind) =
    if list_any (λ b. same_key b d) before then Some k else second_among (k + 1) (d ∷ before) behind

-- the entry that a draft is
abbrev pub entry_in : reading.Draft → Option model.Entry
entry_in (reading.read (kind.Entry e) path) = Some e
entry_in _ = None
