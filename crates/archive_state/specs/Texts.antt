-- The texts in a record.
use Rattle.std.specs.Prelude.{ℕ, List, [], ◌∷◌, ◌++◌, map, Option, Some, None}
use Rattle.std.specs.List.{flat_map}
use Rattle.stored_lines.specs.Tree.{Tree, Forest, node, none, more}
use Rattle.stored_lines.specs.Line.{Line}
use Rattle.stored_lines.specs.declared.carried.Value.{Value}
use Rattle.stored_lines.specs.declared.carried.Value.TheVariants as value
use Rattle.record_fields.specs.declared.date.Date.{Date}
use Rattle.record_kinds.specs.Model as model
use Rattle.record_kinds.specs.declared.record.Record.{Record}
use Rattle.record_kinds.specs.declared.record.Record.TheVariants as kind
use Rattle.archive_state.specs.Carried.{carried}

-- a text that may be missing
abbrev pub there : Option (List ℕ) → List (List ℕ)
there None = []
there (Some t) = t ∷ []

-- that of a date is its spelling
abbrev pub date_texts : Option Date → List (List ℕ)
date_texts None = []
date_texts (Some d) = d.text ∷ []

abbrev pub value_texts : Value → List (List ℕ)
value_texts (value.Text t) = t ∷ []
value_texts (value.Ref n) = []

-- title, author and publisher of a source, and its number where it is kept
abbrev pub source_texts : model.Source → List (List ℕ)
source_texts s = there s.title
    ++ (there s.author ++ (there s.publisher ++ flat_map (λ (h : model.Holding). there h.call_number) s.holdings))

abbrev pub event_texts : model.Event → List (List ℕ)
event_texts e = e.value ∷ (date_texts e.date ++ map (λ (p : model.Participant). p.role) e.participants)

-- why a mention is of a person
abbrev pub reason_texts : Option model.Link → List (List ℕ)
reason_texts None = []
reason_texts (Some l) = l.reason ∷ []

abbrev pub mention_texts : model.Mention → List (List ℕ)
mention_texts m = m.name ∷ reason_texts m.link

abbrev pub entry_texts : model.Entry → List (List ℕ)
entry_texts e = e.page ∷ (e.text ∷ (date_texts e.date ++ flat_map mention_texts e.mentions))

-- all texts in the fields of a record
abbrev pub own_texts : Record → List (List ℕ)
own_texts (kind.Place p) = p.name ∷ []
own_texts (kind.Repo r) = there r.name
own_texts (kind.Source s) = source_texts s
own_texts (kind.Person p) = map (λ (n : model.Name). n.text) p.names
own_texts (kind.Family f) = []
own_texts (kind.Citation c) = there c.page
own_texts (kind.Event e) = event_texts e
own_texts (kind.Entry e) = entry_texts e
own_texts (kind.Other o) = value_texts o.value

abbrev mutual
  -- the texts of a line and of those below it
  pub line_texts : Tree Line → List (List ℕ)
  line_texts (node l ts) = value_texts l.value ++ forest_texts ts

  pub forest_texts : Forest Line → List (List ℕ)
  forest_texts none = []
  forest_texts (more t ts) = line_texts t ++ forest_texts ts

-- all texts on its carried lines
abbrev pub carried_texts : Record → List (List ℕ)
carried_texts r = flat_map line_texts (carried r)
