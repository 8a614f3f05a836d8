-- The carried lines of each part of a record.
use Rattle.std.specs.Prelude.{Option, Some, None}
use Rattle.std.specs.List.{All}
use Rattle.stored_lines.specs.Levels.{AreShallow}
use Rattle.stored_lines.specs.Line.{Lines}
use Rattle.record_kinds.specs.Model as model
use Rattle.record_kinds.specs.declared.record.Record.{Record}
use Rattle.record_kinds.specs.declared.record.Record.TheVariants as kind

-- P holds of the carried lines of each part
module _ (P : Lines → Type 0) where
  abbrev pub InHolding : model.Holding → Type 0
  InHolding h = P h.carried

  abbrev pub InSource : model.Source → Type 0
  InSource s = All InHolding s.holdings × P s.carried

  abbrev pub InName : model.Name → Type 0
  InName n = P n.carried

  abbrev pub InPerson : model.Person → Type 0
  InPerson p = All InName p.names × P p.carried

  abbrev pub InPartner : model.Partner → Type 0
  InPartner p = P p.carried × P p.carried_by_person

  abbrev pub InChild : model.Child → Type 0
  InChild c = P c.carried × P c.carried_by_person

  abbrev pub InFamily : model.Family → Type 0
  InFamily f = All InPartner f.partners × (All InChild f.children × P f.carried)

  abbrev pub InPlaceLine : Option model.EventPlace → Type 0
  InPlaceLine None = Unit {0}
  InPlaceLine (Some p) = P p.carried

  abbrev pub InParticipant : model.Participant → Type 0
  InParticipant p = P p.carried

  abbrev pub InEvent : model.Event → Type 0
  InEvent e = InPlaceLine e.place × (All InParticipant e.participants × P e.carried)

  abbrev pub InRecord : Record → Type 0
  InRecord (kind.Place p) = P p.carried
  InRecord (kind.Repo r) = P r.carried
  InRecord (kind.Source s) = InSource s
  InRecord (kind.Person p) = InPerson p
  InRecord (kind.Family f) = InFamily f
  InRecord (kind.Citation c) = P c.carried
  InRecord (kind.Event e) = InEvent e
  InRecord (kind.Entry e) = Unit {0}
  InRecord (kind.Other o) = P o.carried

-- all carried lines have at most 99 levels, as they have by their type: so each record of a program is shallow
abbrev pub IsShallow : Record → Type 0
IsShallow r = InRecord AreShallow r
