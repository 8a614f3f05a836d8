-- All carried lines of a record, as they are shown, those of one part after those of the other. Rules of our own.
use Rattle.std.specs.Prelude.{ℕ, List, [], ◌++◌, Option, Some, None}
use Rattle.std.specs.List.{flat_map}
use Rattle.stored_lines.specs.Line.{Lines}
use Rattle.record_kinds.specs.Model as model
use Rattle.record_kinds.specs.declared.record.Record.{Record}
use Rattle.record_kinds.specs.declared.record.Record.TheVariants as kind
use Rattle.showing.specs.Fields.{carried}

abbrev pub part : Lines → List ℕ
part lines = carried 1 lines

abbrev pub of_name : model.Name → List ℕ
of_name x = part x.carried

-- the two sides of a membership
abbrev pub of_partner : model.Partner → List ℕ
of_partner p = part p.carried ++ part p.carried_by_person

abbrev pub of_child : model.Child → List ℕ
of_child c = part c.carried ++ part c.carried_by_person

abbrev pub of_event_place : Option model.EventPlace → List ℕ
of_event_place None = []
of_event_place (Some p) = part p.carried

abbrev pub of_participant : model.Participant → List ℕ
of_participant p = part p.carried

abbrev pub of_holding : model.Holding → List ℕ
of_holding h = part h.carried

abbrev pub carried_text : Record → List ℕ
carried_text (kind.Person p) = flat_map of_name p.names ++ part p.carried
carried_text (kind.Family f) = flat_map of_partner f.partners ++ (flat_map of_child f.children ++ part f.carried)
carried_text (kind.Event e) = of_event_place e.place ++ (flat_map of_participant e.participants ++ part e.carried)
carried_text (kind.Place p) = part p.carried
carried_text (kind.Repo r) = part r.carried
carried_text (kind.Source s) = flat_map of_holding s.holdings ++ part s.carried
carried_text (kind.Citation c) = part c.carried
carried_text (kind.Entry e) = []
carried_text (kind.Other o) = part o.carried
