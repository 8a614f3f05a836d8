-- The records of an export in their order, each with what it owns: a rule of our own. The standard lets the records of
-- a file stand in any order (The GEDCOM Standard Release 5.5.1, chapter 2, LINEAGE_LINKED_GEDCOM).
use Rattle.std.specs.Prelude.{ℕ, ◌==◌, Bool, false, List, [], ◌∷◌, ◌++◌, map}
use Rattle.std.specs.List.{filter, flat_map}
use Rattle.std.specs.FinMap.{entries}
use Rattle.stored_lines.specs.Tree.{Tree, node, none, forest_of}
use Rattle.record_kinds.specs.declared.record.Record.{Record}
use Rattle.record_kinds.specs.declared.record.Record.TheVariants as kind
use Rattle.archive_state.specs.Content.{Records}

-- a record with its number, as the map of an archive has them
abbrev pub Numbered : Type 0
Numbered = ℕ × Record

-- ---- the records of level 0
-- the place of a kind in an export; 0: its lines stand below another record
abbrev pub rank : Record → ℕ
rank (kind.Place p) = 1
rank (kind.Repo r) = 2
rank (kind.Source s) = 3
rank (kind.Person p) = 4
rank (kind.Family f) = 5
rank (kind.Entry e) = 6
rank (kind.Other o) = 7
rank (kind.Event e) = 0
rank (kind.Citation c) = 0

-- those of one kind, by number where the records are by number
abbrev pub of_rank : List Numbered → ℕ → List Numbered
of_rank es k = filter (λ (e : Numbered). rank e.1 == k) es

-- places, repositories, sources, persons, families, entries, others
abbrev pub in_order : List Numbered → List Numbered
in_order es = flat_map (of_rank es) (1 ∷ 2 ∷ 3 ∷ 4 ∷ 5 ∷ 6 ∷ 7 ∷ [])

-- ---- what a record owns
abbrev pub is_event_of : ℕ → Record → Bool
is_event_of n (kind.Event e) = e.owner == n
is_event_of n _ = false

abbrev pub is_citation_of : ℕ → Record → Bool
is_citation_of n (kind.Citation c) = c.owner == n
is_citation_of n _ = false

-- the citations of a record by number
abbrev pub citations_of : List Numbered → ℕ → List (Tree Numbered)
citations_of es n = map (λ (e : Numbered). node e none) (filter (λ (e : Numbered). is_citation_of n e.1) es)

-- the events of a record by number, each with its citations
abbrev pub events_of : List Numbered → ℕ → List (Tree Numbered)
events_of es n =
    map (λ (e : Numbered). node e (forest_of (citations_of es e.0))) (filter (λ (e : Numbered). is_event_of n e.1) es)

-- a record with its events, and then its citations
abbrev pub household : List Numbered → Numbered → Tree Numbered
household es e = node e (forest_of (events_of es e.0 ++ citations_of es e.0))

-- the records of level 0 in the order of an export, each with what it owns
abbrev pub households : Records → List (Tree Numbered)
households m = map (household (entries m)) (in_order (entries m))
