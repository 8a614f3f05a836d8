-- How deep the carried lines of a record may go, so that no line of it is below level 98 in a file: the levels of a
-- file go from 0 to 99 (The GEDCOM Standard Release 5.5.1, chapter 1, level), and the last is left for the lines that
-- continue a text.
use Rattle.std.specs.Prelude.{ℕ, ◌≤◌, Option, Some, IfSome}
use Rattle.stored_lines.specs.Tree.{forest_of}
use Rattle.stored_lines.specs.Line.{Lines}
use Rattle.stored_lines.specs.Levels.{forest_levels}
use Rattle.record_kinds.specs.Model as model
use Rattle.record_kinds.specs.declared.record.Record.{Record}
use Rattle.record_kinds.specs.declared.record.Record.TheVariants as kind
use Rattle.record_shapes.specs.Lists.{EachOf}

-- lines that have at most that many levels
abbrev pub AreWithin : ℕ → Lines → Type 0
AreWithin n ts = forest_levels (forest_of ts) ≤ n

-- how many levels are left below a citation, by what it is of: its line has the level 1 below a person or a family, and
-- 2 below an event
abbrev pub room_below : Option Record → ℕ
room_below (Some (kind.Event e)) = 96
room_below _ = 97

-- the carried lines of each part, of a record with that owner: those of a record of level 0 begin at level 1, those of
-- its fields, and of an event, at level 2, and those of the fields of an event at level 3
abbrev pub HasRoom : Option Record → Record → Type 0
HasRoom owner (kind.Place p) = AreWithin 98 p.carried
HasRoom owner (kind.Repo r) = AreWithin 98 r.carried
HasRoom owner (kind.Source s) = EachOf (λ (h : model.Holding). AreWithin 97 h.carried) s.holdings
    × AreWithin 98 s.carried
HasRoom owner (kind.Person p) = EachOf (λ (n : model.Name). AreWithin 97 n.carried) p.names × AreWithin 98 p.carried
HasRoom owner (kind.Family f) =
    EachOf (λ (p : model.Partner). AreWithin 97 p.carried × AreWithin 97 p.carried_by_person) f.partners
    × EachOf (λ (c : model.Child). AreWithin 97 c.carried × AreWithin 97 c.carried_by_person) f.children
    × AreWithin 98 f.carried
HasRoom owner (kind.Citation c) = AreWithin (room_below owner) c.carried
HasRoom owner (kind.Event e) = IfSome e.place (λ (p : model.EventPlace). AreWithin 96 p.carried)
    × EachOf (λ (p : model.Participant). AreWithin 96 p.carried) e.participants × AreWithin 97 e.carried
HasRoom owner (kind.Entry e) = Unit {0}
HasRoom owner (kind.Other o) = AreWithin 98 o.carried
