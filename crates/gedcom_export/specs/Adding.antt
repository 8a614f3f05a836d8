-- How an index grows by one record.
use Rattle.std.specs.Prelude.{ℕ, ◌∷◌, [], ◌++◌, List, map, fold, Option, Some, None}
use Rattle.std.specs.FinMap.{empty, insert}
use Rattle.record_kinds.specs.Model as model
use Rattle.record_kinds.specs.declared.record.Record.{Record}
use Rattle.record_kinds.specs.declared.record.Record.TheVariants as kind
use Rattle.gedcom_export.specs.Index.{Index}
use Rattle.gedcom_export.specs.declared.membership.Membership.{Membership}
use Rattle.gedcom_export.specs.declared.index_owned.Owned.{Owned}
use Rattle.gedcom_export.specs.declared.rank.Rank.TheVariants as rank

-- nothing gathered yet
abbrev pub nothing : Index
nothing = record {
  ranks = empty;
  names = empty;
  events = [];
  citations = [];
  child_in = [];
  partner_in = [];
  places = [];
  repos = [];
  sources = [];
  persons = [];
  families = [];
  entries = [];
  others = [];
}

abbrev pub owned : ℕ → ℕ → List Owned
owned owner n = record { owner = owner; number = n } ∷ []

abbrev pub children_of : ℕ → List model.Child → List Membership
children_of k cs = map
    (λ (c : model.Child). record { person = c.person; side = record { family = k; carried = c.carried_by_person } }) cs

abbrev pub partners_of : ℕ → List model.Partner → List Membership
partners_of k ps = map
    (λ (p : model.Partner). record { person = p.person; side = record { family = k; carried = p.carried_by_person } })
    ps

-- with a place more
abbrev pub with_place : ℕ → model.Place → Index → Index
with_place n p i = record i {
  ranks = insert i.ranks n rank.Places;
  names = insert i.names n (record { name = p.name; parent = p.parent });
  places = i.places ++ n ∷ [];
}

-- with a family more
abbrev pub with_family : ℕ → model.Family → Index → Index
with_family n f i = record i {
  ranks = insert i.ranks n rank.Families;
  child_in = i.child_in ++ children_of n f.children;
  partner_in = i.partner_in ++ partners_of n f.partners;
  families = i.families ++ n ∷ [];
}

-- with one more of what no more is shown of than a letter
abbrev pub with_repo : ℕ → Index → Index
with_repo n i = record i { ranks = insert i.ranks n rank.Repos; repos = i.repos ++ n ∷ [] }

abbrev pub with_source : ℕ → Index → Index
with_source n i = record i { ranks = insert i.ranks n rank.Sources; sources = i.sources ++ n ∷ [] }

abbrev pub with_person : ℕ → Index → Index
with_person n i = record i { ranks = insert i.ranks n rank.Persons; persons = i.persons ++ n ∷ [] }

abbrev pub with_entry : ℕ → Index → Index
with_entry n i = record i { ranks = insert i.ranks n rank.Entries; entries = i.entries ++ n ∷ [] }

abbrev pub with_other : ℕ → Index → Index
with_other n i = record i { others = i.others ++ n ∷ [] }

-- with one more of what a record owns
abbrev pub with_event : ℕ → ℕ → Index → Index
with_event owner n i = record i { events = i.events ++ owned owner n }

abbrev pub with_citation : ℕ → ℕ → Index → Index
with_citation owner n i = record i { citations = i.citations ++ owned owner n }

-- with a record more
abbrev pub added : ℕ → Record → Index → Index
added n (kind.Place p) i = with_place n p i
added n (kind.Repo r) i = with_repo n i
added n (kind.Source s) i = with_source n i
added n (kind.Person p) i = with_person n i
added n (kind.Family f) i = with_family n f i
added n (kind.Entry e) i = with_entry n i
added n (kind.Other o) i = with_other n i
added n (kind.Event e) i = with_event e.owner n i
added n (kind.Citation c) i = with_citation c.owner n i

-- with what stands at a number
abbrev pub with_found : ℕ → Option Record → Index → Index
with_found n None i = i
with_found n (Some r) i = added n r i

-- with what stands at these numbers, one after the other
abbrev pub gathered_of : (ℕ → Option Record) → List ℕ → Index
gathered_of at = fold (λ i n. with_found n (at n) i) nothing
