-- The text of an export as it is put together, piece by piece: as the index and the records have it.
use Rattle.std.specs.Prelude.{ℕ, ◌==◌, List, [], ◌∷◌, ◌++◌, Option, Some, None}
use Rattle.std.specs.List.{filter, flat_map}
use Rattle.std.specs.FinMap.{get}
use Rattle.stored_lines.specs.Tree.{Tree, node, none, forest_of}
use Rattle.record_kinds.specs.declared.record.Record.{Record}
use Rattle.record_kinds.specs.declared.record.Record.TheVariants as kind
use Rattle.record_shapes.specs.Shapes.{shape_of}
use Rattle.gedcom_tree.specs.Text.{line_text, trailer}
use Rattle.node_writing.specs.Header.{header}
use Rattle.node_writing.specs.Pages.{nodes_text, record_page}
use Rattle.archive_state.specs.Content.{Records}
use Rattle.gedcom_export.specs.Index.{Index, numbers_in}
use Rattle.gedcom_export.specs.Shown.{around_in, names_in}
use Rattle.gedcom_export.specs.declared.index_owned.Owned.{Owned}
use Rattle.gedcom_export.specs.declared.rank.Rank.{Rank}
use Rattle.gedcom_export.specs.declared.rank.Rank.TheVariants as rank

-- ---- what a record owns
-- a citation, with nothing below it; of another record nothing
abbrev pub alone : Option Record → List (Tree Record)
alone (Some (kind.Citation c)) = node (kind.Citation c) none ∷ []
alone _ = []

abbrev pub those_at : Records → List Owned → List (Tree Record)
those_at m os = flat_map (λ (o : Owned). alone (get m o.number)) os

-- what is listed for an owner
abbrev pub listed : ℕ → List Owned → List Owned
listed n os = filter (λ (o : Owned). o.owner == n) os

-- an event with its citations; of another record nothing
abbrev pub with_citations : Records → Index → ℕ → Option Record → List (Tree Record)
with_citations m i n (Some (kind.Event e)) = node (kind.Event e) (forest_of (those_at m (listed n i.citations))) ∷ []
with_citations m i n _ = []

abbrev pub events_at : Records → Index → List Owned → List (Tree Record)
events_at m i os = flat_map (λ (o : Owned). with_citations m i o.number (get m o.number)) os

-- all that a record owns
abbrev pub below_at : Records → Index → ℕ → List (Tree Record)
below_at m i n = events_at m i (listed n i.events) ++ those_at m (listed n i.citations)

-- ---- the text of records
-- of what stands at a number, where it is of level 0
abbrev pub text_of : Records → Index → ℕ → Option Record → List ℕ
text_of m i n None = []
text_of m i n (Some (kind.Event e)) = []
text_of m i n (Some (kind.Citation c)) = []
text_of m i n (Some r) = record_page (names_in i) n (shape_of (around_in i) n r (below_at m i n))

abbrev pub text_at : Records → Index → ℕ → List ℕ
text_at m i n = text_of m i n (get m n)

-- of all of a kind
abbrev pub kind_text : Records → Index → Rank → List ℕ
kind_text m i k = flat_map (text_at m i) (numbers_in i k)

abbrev pub kinds_text : Records → Index → List Rank → List ℕ
kinds_text m i ks = flat_map (kind_text m i) ks

-- the kinds in the order of an export
abbrev pub ranks : List Rank
ranks = rank.Places ∷ rank.Repos ∷ rank.Sources ∷ rank.Persons ∷ rank.Families ∷ rank.Entries ∷ rank.Others ∷ []

-- of all records, with the header and the trailer
abbrev pub whole_text : Records → Index → List ℕ → List ℕ
whole_text m i society = nodes_text 0 (header society) ++ (kinds_text m i ranks ++ line_text trailer)
