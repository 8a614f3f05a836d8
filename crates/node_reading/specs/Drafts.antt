-- Events, persons and families with what they own, as drafts of records; and what lines of an event tell.
use Rattle.std.specs.Prelude.{ℕ, List, [], ◌∷◌, ◌++◌, map, Option, Some, None, option_map, string_bytes}
use Rattle.stored_lines.specs.Tree.{Tree, node, none, forest_of}
use Rattle.stored_lines.specs.Line.{Lines}
use Rattle.record_kinds.specs.Model as model
use Rattle.record_kinds.specs.declared.record.Record.TheVariants as kind
use Rattle.record_shapes.specs.Forms.{Known, is_some}
use Rattle.record_shapes.specs.Fields.{a_date, a_participant, a_place, event_field}
use Rattle.record_shapes.specs.Picking.{all_of, first}
use Rattle.record_shapes.specs.Reading.{
  Draft,
  below_event,
  dated,
  event_place_from,
  participant_from,
  read,
  read_by,
  sought,
  sought_on,
}
use Rattle.node_reading.specs.Partly.{left_with, or_told, text_or, unless}
use Rattle.node_reading.specs.declared.events.EventDraft.{EventDraft}
use Rattle.node_reading.specs.declared.events.EventLines.{EventLines}
use Rattle.node_reading.specs.declared.events.EventPart.{EventPart}
use Rattle.node_reading.specs.declared.events.EventPart.TheVariants as part

-- ---- what an event owns
abbrev pub part_draft : EventPart → Tree Draft
part_draft (part.Citation c) = node (read (kind.Citation c) None) none
part_draft (part.Sought path) = node (sought (string_bytes path)) none

-- the path that is sought
abbrev pub path_in : List EventPart → Option (List ℕ)
path_in [] = None
path_in (part.Citation c ∷ ps) = path_in ps
path_in (part.Sought path ∷ ps) = Some (string_bytes path)

-- an event with what it owns
abbrev pub event_tree : EventDraft → Tree Draft
event_tree d = node (read (kind.Event d.event) (path_in d.parts.items)) (forest_of (map part_draft d.parts.items))

-- ---- what lines of an event tell
pub record EventTold : Type 0 where
  pub date : Option (List ℕ)
  pub place : Option model.EventPlace
  pub participants : List model.Participant
  pub carried : Lines
  pub path : Option (List ℕ)
  pub drafts : List (Tree Draft)

abbrev pub seen : EventLines → EventTold
seen e = record {
  date = e.date;
  place = e.place;
  participants = e.participants.items;
  carried = e.carried.items;
  path = path_in e.parts.items;
  drafts = map part_draft e.parts.items;
}

abbrev pub none_seen : EventTold
none_seen = record { date = None; place = None; participants = []; carried = []; path = None; drafts = [] }

-- nothing where there is a place already
abbrev pub unless_placed : Option model.EventPlace → Option (List ℕ) → Option (List ℕ)
unless_placed None path = path
unless_placed (Some p) path = None

-- what is known with the lines that are left
abbrev pub event_with : Known → EventTold → Lines → EventTold
event_with known e ts = record {
  date = text_or (event_field known) a_date e.date ts;
  place = or_told e.place (option_map (event_place_from known) (first (all_of (event_field known) a_place ts)));
  participants = e.participants ++ map participant_from (all_of (event_field known) a_participant ts);
  carried = e.carried ++ left_with (event_field known) (a_date ∷ a_place ∷ [])
      (unless e.date a_date ++ unless e.place a_place) ts;
  path = or_told e.path (unless_placed e.place (sought_on known (first (all_of (event_field known) a_place ts))));
  drafts = e.drafts ++ below_event known (is_some e.place) ts;
}

-- the event of a tag and a text with what lines tell
abbrev pub told_tree : List ℕ → List ℕ → EventTold → Tree Draft
told_tree tag text e = node (read (kind.Event (record {
  owner = 0;
  tag = tag;
  value = text;
  date = read_by dated e.date;
  place = e.place;
  participants = e.participants;
  carried = e.carried;
})) e.path) (forest_of e.drafts)
