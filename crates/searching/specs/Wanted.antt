-- Which records are listed and found: rules of our own.
use Rattle.std.specs.Prelude.{ℕ, Bool, true, false, ◌&&◌, ◌==◌, List, [], ◌∷◌, map, chars, Option, Some, None}
use Rattle.std.specs.List.{list_any}
use Rattle.record_kinds.specs.Model as model
use Rattle.record_kinds.specs.declared.record.Record.{Record}
use Rattle.record_kinds.specs.declared.record.Record.TheVariants as kind
use Rattle.searching.specs.Folding.{folded_name, folded_text}
use Rattle.searching.specs.Words.{all_occur}
use Rattle.searching.specs.declared.wanted.Kind.{Kind}
use Rattle.searching.specs.declared.wanted.Kind.TheVariants as of
use Rattle.searching.specs.declared.wanted.Wanted.{Wanted}

-- the record is of that kind
abbrev pub is_kind : Kind → Record → Bool
is_kind of.Persons (kind.Person p) = true
is_kind of.Families (kind.Family f) = true
is_kind of.Events (kind.Event e) = true
is_kind of.Places (kind.Place p) = true
is_kind of.Repositories (kind.Repo r) = true
is_kind of.Sources (kind.Source s) = true
is_kind of.Citations (kind.Citation c) = true
is_kind of.Entries (kind.Entry e) = true
is_kind of.Others (kind.Other o) = true
is_kind _ _ = false

-- the record is of that kind, where one is given
abbrev pub is_of : Option Kind → Record → Bool
is_of None r = true
is_of (Some k) r = is_kind k r

-- the record is an entry of that source, where one is given
abbrev pub is_from : Option ℕ → Record → Bool
is_from None r = true
is_from (Some n) (kind.Entry e) = e.source == n
is_from (Some n) _ = false

-- a text that may be missing, folded
abbrev pub folded_option : Option (List ℕ) → List (List ℕ)
folded_option None = []
folded_option (Some text) = folded_text (chars text) ∷ []

-- the names by which a record is found, as a search compares them: of persons, mentions, places and repositories, and
-- the titles of sources
abbrev pub names_of : Record → List (List ℕ)
names_of (kind.Person p) = map (λ (x : model.Name). folded_name (chars x.text)) p.names
names_of (kind.Entry e) = map (λ (x : model.Mention). folded_name (chars x.name)) e.mentions
names_of (kind.Place p) = folded_text (chars p.name) ∷ []
names_of (kind.Repo r) = folded_option r.name
names_of (kind.Source s) = folded_option s.title
names_of _ = []

-- all the words occur in one of the names
abbrev pub is_named : List (List ℕ) → Record → Bool
is_named words r = list_any (all_occur words) (names_of r)

-- without words each record is meant
abbrev pub is_meant : List (List ℕ) → Record → Bool
is_meant [] r = true
is_meant (word ∷ words) r = is_named (word ∷ words) r

abbrev pub is_wanted : Wanted → Record → Bool
is_wanted w r = is_of w.kind r && (is_from w.source r && is_meant w.words r)
