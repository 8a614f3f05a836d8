-- What a file with the forest of an export is read as: rules of our own.
use Rattle.std.specs.Prelude.{ℕ, ◌≡◌, map, None, Some}
use Rattle.std.specs.FinMap.{get}
use Rattle.stored_lines.specs.Tree.{relabel}
use Rattle.record_kinds.specs.Model as model
use Rattle.record_kinds.specs.declared.record.Record.TheVariants as kind
use Rattle.record_shapes.specs.Laws.{apart_child, apart_partner}
use Rattle.record_shapes.specs.Reading.{read}
use Rattle.archive_state.specs.Content.{Content}
use Rattle.archive_state.specs.Known.{known_of}
use Rattle.archive_state.specs.Merging.{family_with, record_with}
use Rattle.archive_state.specs.Sound.{IsSound}
use Rattle.import_definitions.specs.Positions.{known}
use Rattle.import_definitions.specs.Sides.{family_with_sides}
use Rattle.gedcom_export.specs.Order.{Numbered, households}
use Rattle.round_trip.specs.Positions.{node_position, nodes_by_position}
use Rattle.round_trip.specs.Drafts.{drafts, without_owner}

-- each record has in the file the tag and the path that it has in the archive
pub record IsKnownAgain (c : Content) : Type 0 where
  pub tags : (n : ℕ) → (known (nodes_by_position c.records)).tag (node_position c.records n)
      ≡ (known_of c.records).tag n
  pub paths : (n : ℕ) → (known (nodes_by_position c.records)).path (node_position c.records n)
      ≡ (known_of c.records).path n

-- a family as its own node tells it
abbrev pub apart_family : model.Family → model.Family
apart_family f = record f { partners = map apart_partner f.partners; children = map apart_child f.children }

-- it gets both sides of each membership again
abbrev pub SidesComeBack : Type 0
SidesComeBack = (c : Content) (n : ℕ) (f : model.Family) → IsSound c → get c.records n ≡ Some (kind.Family f)
    → family_with_sides (nodes_by_position c.records) (node_position c.records n)
    (apart_family (family_with (node_position c.records) f)) ≡ family_with (node_position c.records) f

-- the nodes are read as the records, with positions for numbers
abbrev pub DraftsComeBack : Type 0
DraftsComeBack = (c : Content) → IsSound c → drafts (nodes_by_position c.records)
    ≡ map (relabel (λ (e : Numbered). read (without_owner (record_with (node_position c.records) e.1)) None))
    (households c.records)
