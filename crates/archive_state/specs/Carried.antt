-- The carried lines of a record, those of all its parts.
use Rattle.std.specs.Prelude.{ℕ, List, [], ◌∷◌, ◌++◌, Option, Some, None}
use Rattle.std.specs.List.{flat_map}
use Rattle.stored_lines.specs.Tree.{Tree, Forest, node, none, more}
use Rattle.stored_lines.specs.Line.{Line, Lines}
use Rattle.record_kinds.specs.Model as model
use Rattle.record_kinds.specs.declared.record.Record.{Record}
use Rattle.record_kinds.specs.declared.record.Record.TheVariants as kind

abbrev pub family_carried : model.Family → Lines
family_carried f = flat_map (λ (p : model.Partner). p.carried ++ p.carried_by_person) f.partners
    ++ (flat_map (λ (c : model.Child). c.carried ++ c.carried_by_person) f.children ++ f.carried)

abbrev pub place_line_carried : Option model.EventPlace → Lines
place_line_carried None = []
place_line_carried (Some p) = p.carried

abbrev pub event_carried : model.Event → Lines
event_carried e = place_line_carried e.place
    ++ (flat_map (λ (p : model.Participant). p.carried) e.participants ++ e.carried)

abbrev pub carried : Record → Lines
carried (kind.Place p) = p.carried
carried (kind.Repo r) = r.carried
carried (kind.Source s) = flat_map (λ (h : model.Holding). h.carried) s.holdings ++ s.carried
carried (kind.Person p) = flat_map (λ (n : model.Name). n.carried) p.names ++ p.carried
carried (kind.Family f) = family_carried f
carried (kind.Citation c) = c.carried
carried (kind.Event e) = event_carried e
carried (kind.Entry e) = []
carried (kind.Other o) = o.carried

abbrev mutual
  -- the tags of a line and of those below it
  pub tags : Tree Line → List (List ℕ)
  tags (node l ts) = l.tag ∷ forest_tags ts

  pub forest_tags : Forest Line → List (List ℕ)
  forest_tags none = []
  forest_tags (more t ts) = tags t ++ forest_tags ts

abbrev pub carried_tags : Record → List (List ℕ)
carried_tags r = flat_map tags (carried r)
