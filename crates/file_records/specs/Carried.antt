-- What a person carries on a membership, found by the sides of one family.
use Rattle.std.specs.Prelude.{ℕ, ◌==◌, ◌<◌, ◌^◌, List, [], ◌∷◌, Option, Some, None, option_map, if◌then◌else◌}
use Rattle.std.specs.BTreeMap as tree
use Rattle.std.specs.BTreeMap.{BTreeMap}
use Rattle.std.specs.List.{AllByRecursion, filter, slice_get}
use Rattle.std.specs.Ordering.{nat_cmp}
use Rattle.stored_lines.specs.Line.{Lines}
use Rattle.record_kinds.specs.Model as model
use Rattle.record_shapes.specs.Picking.{first}
use Rattle.import_definitions.specs.Nodes.{FileNode}
use Rattle.file_records.specs.Lookups.{lines_of, nodes_below}
use Rattle.file_records.specs.declared.sides.Side.{Side}

-- which line of the person's node is the side: that of the first side of the person
abbrev pub line_among : List Side → ℕ → Option ℕ
line_among ss n = option_map (λ (s : Side). s.line) (first (filter (λ (s : Side). s.person == n) ss))

abbrev pub node_at : List FileNode → Option ℕ → Option FileNode
node_at cs None = None
node_at cs (Some i) = slice_get cs i

-- the lines below the line of the person at a position, by which line it is of each; none, where there is no such line
abbrev pub carried_at : List FileNode → (ℕ → Option ℕ) → ℕ → Lines
carried_at ks lines n = lines_of ks (node_at (nodes_below (slice_get ks n)) (lines n))

-- ---- a member with these lines
abbrev pub partner_told : List FileNode → (ℕ → Option ℕ) → model.Partner → model.Partner
partner_told ks lines p = record p { carried_by_person = carried_at ks lines p.person }

abbrev pub child_told : List FileNode → (ℕ → Option ℕ) → model.Child → model.Child
child_told ks lines c = record c { carried_by_person = carried_at ks lines c.person }

abbrev pub late_told : List FileNode → (ℕ → Option ℕ) → Side → model.Child
late_told ks lines s = record { person = s.person; carried = []; carried_by_person = carried_at ks lines s.person }

abbrev pub late_told_if : List FileNode → (ℕ → Option ℕ) → Side → List model.Child
late_told_if ks lines s = if s.is_late then late_told ks lines s ∷ [] else []

-- the sides of persons whom the family does not name
abbrev pub late_sides : List Side → List Side
late_sides ss = filter (λ (s : Side). s.is_late) ss

-- ---- the code's map
abbrev pub line_kept : BTreeMap ℕ ℕ → ℕ → Option ℕ
line_kept m n = tree.get nat_cmp m n

abbrev pub line_on : Side → ℕ → Option ℕ
line_on s n = if s.person == n then Some s.line else None

-- each person has a number of 32 bits
abbrev pub AreFew : List Side → Type 0
AreFew ss = AllByRecursion (λ (s : Side). s.person < 2 ^ 32) ss
