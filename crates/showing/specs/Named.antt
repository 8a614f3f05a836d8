-- The numbers that the fields of a record name, in order.
use Rattle.std.specs.Prelude.{ℕ, List, [], ◌∷◌, ◌++◌, map, Option, Some, None}
use Rattle.std.specs.List.{flat_map}
use Rattle.record_kinds.specs.Model as model
use Rattle.record_kinds.specs.declared.record.Record.{Record}
use Rattle.record_kinds.specs.declared.record.Record.TheVariants as kind

abbrev pub one : Option ℕ → List ℕ
one None = []
one (Some n) = n ∷ []

abbrev pub event_place : Option model.EventPlace → List ℕ
event_place None = []
event_place (Some p) = p.place ∷ []

abbrev pub linked : Option model.Link → List ℕ
linked None = []
linked (Some l) = l.person ∷ []

abbrev pub named : Record → List ℕ
named (kind.Family f) = map (λ (p : model.Partner). p.person) f.partners
    ++ map (λ (c : model.Child). c.person) f.children
named (kind.Event e) = e.owner ∷ (event_place e.place
    ++ map (λ (p : model.Participant). p.person) e.participants)
named (kind.Place p) = one p.parent
named (kind.Source s) = map (λ (h : model.Holding). h.repo) s.holdings
named (kind.Citation c) = c.owner ∷ c.source ∷ []
named (kind.Entry e) = e.source ∷ (one e.place ++ flat_map (λ (x : model.Mention). linked x.link) e.mentions)
named _ = []
