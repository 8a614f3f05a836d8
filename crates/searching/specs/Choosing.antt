-- Which records are read to find those that are wanted. No clause of a public call names this.
use Rattle.std.specs.Prelude.{ℕ, List, [], ◌∷◌, Option, Some, None}
use Rattle.std.specs.FinMap.{keys}
use Rattle.archive_state.specs.Content.{Content}
use Rattle.kind_views.specs.Kinds.{numbers_of}
use Rattle.kind_views.specs.declared.kinds.Kinds.{Kinds}
use Rattle.kind_views.specs.declared.kinds.Kinds.TheVariants as kinds
use Rattle.searching.specs.declared.wanted.Kind.{Kind}
use Rattle.searching.specs.declared.wanted.Kind.TheVariants as of
use Rattle.searching.specs.declared.wanted.Wanted.{Wanted}

abbrev pub kinds_of : Kind → Kinds
kinds_of of.Persons = kinds.Persons
kinds_of of.Families = kinds.Families
kinds_of of.Events = kinds.Events
kinds_of of.Places = kinds.Places
kinds_of of.Repositories = kinds.Repositories
kinds_of of.Sources = kinds.Sources
kinds_of of.Citations = kinds.Citations
kinds_of of.Entries = kinds.Entries
kinds_of of.Others = kinds.Others

-- where words are searched for, those that have names
abbrev pub named_only : List (List ℕ) → Option Kinds
named_only [] = None
named_only (word ∷ words) = Some kinds.Named

-- the kinds of which all are, by the kind, the source and the words that are asked for
abbrev pub kinds_by : Option Kind → Option ℕ → List (List ℕ) → Option Kinds
kinds_by (Some kind) source words = Some (kinds_of kind)
kinds_by None (Some source) words = Some kinds.Entries
kinds_by None None words = named_only words

abbrev pub kinds_wanted : Wanted → Option Kinds
kinds_wanted w = kinds_by w.kind w.source w.words

-- the numbers of these, or of all
abbrev pub chosen : Option Kinds → Content → List ℕ
chosen None c = keys c.records
chosen (Some k) c = numbers_of k c
