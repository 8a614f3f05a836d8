-- The records whose stored lines begin with one of some tags, as those of a kind do with the word of the kind. Rules of
-- our own.
use Rattle.std.specs.Prelude.{ℕ, Bool, false, List, [], ◌∷◌, Option, Some, None, codes, filter}
use Rattle.std.specs.FinMap.{get, keys}
use Rattle.record_kinds.specs.declared.record.Record.{Record}
use Rattle.records.specs.Stored.{stored}
use Rattle.archive_state.specs.Content.{Content}
use Rattle.kind_views.specs.declared.kinds.Kinds.{Kinds}
use Rattle.kind_views.specs.declared.kinds.Kinds.TheVariants as of
use Rattle.store_tables.specs.Keyed.{begin_with}

-- whether what is at a number is a record that begins so
abbrev pub is_tagged : List (List ℕ) → Option Record → Bool
is_tagged tags None = false
is_tagged tags (Some r) = begin_with tags (stored r)

-- the numbers of these records, ascending
abbrev pub numbers_tagged : List (List ℕ) → Content → List ℕ
numbers_tagged tags c = filter (λ n. is_tagged tags (get c.records n)) (keys c.records)

abbrev pub five : List ℕ → List (List ℕ)
five tag = tag ∷ tag ∷ tag ∷ tag ∷ tag ∷ []

-- the words of some kinds, five in all
abbrev pub tags_of : Kinds → List (List ℕ)
tags_of of.Persons = five (codes "person")
tags_of of.Families = five (codes "family")
tags_of of.Events = five (codes "event")
tags_of of.Places = five (codes "place")
tags_of of.Repositories = five (codes "repo")
tags_of of.Sources = five (codes "source")
tags_of of.Citations = five (codes "citation")
tags_of of.Entries = five (codes "entry")
tags_of of.Others = five (codes "other")
tags_of of.Named = codes "person" ∷ codes "entry" ∷ codes "place" ∷ codes "repo" ∷ codes "source" ∷ []
