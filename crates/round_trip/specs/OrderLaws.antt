-- What holds of the places of records in an export: rules of our own.
use Rattle.std.specs.Prelude.{ℕ, ◌≡◌, ◌<◌, ◌==◌, true, List, map, Some}
use Rattle.std.specs.List.{list_any}
use Rattle.std.specs.FinMap.{get}
use Rattle.stored_lines.specs.Tree.{Tree, relabel}
use Rattle.record_kinds.specs.declared.record.Record.{Record}
use Rattle.record_kinds.specs.declared.record.Record.TheVariants as kind
use Rattle.record_shapes.specs.Lists.{IsOnce}
use Rattle.record_shapes.specs.Shapes.{Around, Side, shape}
use Rattle.archive_state.specs.Content.{Content}
use Rattle.archive_state.specs.Merging.{line_with, lines_with, record_with}
use Rattle.archive_state.specs.Sound.{IsSound}
use Rattle.gedcom_tree.specs.Forest.{Item}
use Rattle.gedcom_tree.specs.Text.{IsSame}
use Rattle.import_definitions.specs.Lines.{roots}
use Rattle.import_definitions.specs.Roots.{candidates, kept}
use Rattle.gedcom_export.specs.Forest.{exported}
use Rattle.gedcom_export.specs.Order.{households, rank}
use Rattle.round_trip.specs.Positions.{new_number, nodes_by_position, numbers_in}

-- two records whose order counts: of one kind of level 0, or two events or two citations of one owner
abbrev pub AreOrdered : Record → Record → Type 0
AreOrdered (kind.Event e) (kind.Event g) = e.owner ≡ g.owner
AreOrdered (kind.Citation c) (kind.Citation d) = c.owner ≡ d.owner
AreOrdered r q = (0 < rank r) × (rank r ≡ rank q)

-- every record of a sound archive stands once in its export
abbrev pub HouseholdsHaveAll : Type 0
HouseholdsHaveAll = (c : Content) → IsSound c → IsOnce (numbers_in (households c.records))
    × ((n : ℕ) (r : Record) → get c.records n ≡ Some r
    → list_any (λ k. k == n) (numbers_in (households c.records)) ≡ true)

-- of two records whose order counts, the one with the smaller number stands first
abbrev pub OrdersAreKept : Type 0
OrdersAreKept = (c : Content) → IsSound c → (n k : ℕ) (r q : Record) → get c.records n ≡ Some r
    → get c.records k ≡ Some q → AreOrdered r q → n < k → new_number c.records n < new_number c.records k

-- what is shown of other records is the same, up to numbers that f changes
abbrev pub side_with : (ℕ → ℕ) → Side → Side
side_with f s = record { family = f s.family; carried = lines_with f s.carried }

pub record IsAroundWith (f : ℕ → ℕ) (a b : Around) : Type 0 where
  pub paths : (n : ℕ) → b.path (f n) ≡ a.path n
  pub child_in : (n : ℕ) → b.child_in (f n) ≡ map (side_with f) (a.child_in n)
  pub partner_in : (n : ℕ) → b.partner_in (f n) ≡ map (side_with f) (a.partner_in n)

-- the lines of records whose numbers are changed are the lines of those records, with their numbers changed alike
abbrev pub IsRenamed : Type 0
IsRenamed = (f : ℕ → ℕ) (a b : Around) (n : ℕ) (t : Tree Record) → IsAroundWith f a b
    → relabel (line_with f) (shape a n t) ≡ shape b (f n) (relabel (record_with f) t)

-- from a file with the forest of an export the nodes of the export are found, and a pointer is the position of the one
-- that it names
abbrev pub NodesAreFound : Type 0
NodesAreFound = (c : Content) (society : List ℕ) (f : List Item) → IsSound c
    → IsSame f (exported c.records society) → roots (kept (candidates f)) ≡ nodes_by_position c.records
