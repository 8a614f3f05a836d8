-- What a forest makes of an archive: a batch of new records, or a refusal. Rules of our own.
use Rattle.std.specs.Prelude.{
  ℕ,
  ◌+◌,
  ◌&&◌,
  ◌==◌,
  nat_lt,
  Bool,
  false,
  List,
  [],
  ◌∷◌,
  map,
  Option,
  Some,
  None,
  option_map,
  bytes_eq,
  if◌then◌else◌,
  Result,
  Ok,
  Err,
}
use Rattle.std.specs.List.{filter, list_any, slice_get}
use Rattle.std.specs.FinMap.{entries}
use Rattle.stored_lines.specs.Tree.{label}
use Rattle.stored_lines.specs.Line.{Lines}
use Rattle.record_kinds.specs.Model as model
use Rattle.record_kinds.specs.declared.record.Record.{Record}
use Rattle.record_kinds.specs.declared.record.Record.TheVariants as kind
use Rattle.record_fields.specs.Words.{entry_kind_word}
use Rattle.record_text.specs.declared.refusal.Refusal.{Refusal}
use Rattle.record_text.specs.declared.refusal.RefusalKind.TheVariants.{DuplicateEntry, Full}
use Rattle.record_shapes.specs.Picking.{first}
use Rattle.record_shapes.specs.Reading.{Draft, has_path, read}
use Rattle.archive_state.specs.Changes.{Batch}
use Rattle.archive_state.specs.Content.{Content, Records}
use Rattle.archive_state.specs.Known.{path_of}
use Rattle.gedcom_tree.specs.Forest.{Item}
use Rattle.import_definitions.specs.Nodes.{FileNode}
use Rattle.import_definitions.specs.Roots.{candidates, kept}
use Rattle.import_definitions.specs.Lines.{roots}
use Rattle.import_definitions.specs.Positions.{paths, position_of}
use Rattle.import_definitions.specs.Sides.{draft_at}
use Rattle.import_definitions.specs.Numbers.{Drawing, Places, begun, draw_roots, results}

-- the lowest number of a place with the path
unfoldable pub lowest_place : Records → List ℕ → Option ℕ
lowest_place m path =
    first (filter (λ n. has_path path (path_of m n)) (map (λ (e : ℕ × Record). e.0) (entries m)))

-- ---- two entries of one source, kind, page and item
abbrev pub has_key_of : model.Entry → model.Entry → Bool
has_key_of e g = e.source == g.source && (bytes_eq (entry_kind_word e.kind) (entry_kind_word g.kind)
    && (bytes_eq e.page g.page && e.item.number == g.item.number))

abbrev pub same_key : Draft → Draft → Bool
same_key (read (kind.Entry e) p) (read (kind.Entry g) q) = has_key_of e g
same_key _ _ = false

-- the position, from k on, of the first node that is read as an entry of a key that one before it has
abbrev pub second : Lines → ℕ → List Draft → Lines → Option ℕ
second rs k before [] = None
second rs k before (r ∷ behind) =
    let d : Draft = label (draft_at rs k r) in
    (if list_any (λ b. same_key b d) before then Some k else second rs (k + 1) (d ∷ before) behind)

-- ---- the batch
abbrev pub places : (List ℕ → Option ℕ) → Lines → Places
places archive rs = record { archive = archive; file = λ path. position_of path 0 (paths rs) }

abbrev pub drawing : ℕ → Places → Lines → Drawing
drawing next w rs = draw_roots rs w 0 (begun next) rs

abbrev pub batch : Places → Drawing → Batch
batch w d = record { records = results w d; next = d.next }

-- 63, where a number above 4,294,967,295 would be needed
abbrev pub unless_full : Places → Drawing → Result Batch Refusal
unless_full w d = if nat_lt 4294967296 d.next then Err (record { kind = Full; at = None }) else Ok (batch w d)

abbrev pub line_of : List FileNode → ℕ → Option ℕ
line_of ks k = option_map (λ (t : FileNode). (label t).line) (slice_get ks k)

-- 60, at the line of the second of two entries of one key
abbrev pub unless_second : List FileNode → Option ℕ → Result Batch Refusal → Result Batch Refusal
unless_second ks None batch = batch
unless_second ks (Some k) batch = Err (record { kind = DuplicateEntry; at = line_of ks k })

-- what these nodes make, where the archive has that next number and these places
abbrev pub made_of : ℕ → (List ℕ → Option ℕ) → List FileNode → Result Batch Refusal
made_of next archive ks =
    let rs : Lines = roots ks in
    let w : Places = places archive rs in
    unless_second ks (second rs 0 [] rs) (unless_full w (drawing next w rs))

-- of what an archive holds, only the next number and the places count
unfoldable pub made : Content → List Item → Result Batch Refusal
made c f = made_of c.next (lowest_place c.records) (kept (candidates f))
