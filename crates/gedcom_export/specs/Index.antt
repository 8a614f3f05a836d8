-- What the lines of an export show of other records, and what each record owns, gathered from all records.
use Rattle.std.specs.Prelude.{ℕ, ◌≡◌, List, codes, map, Option, Some, None}
use Rattle.std.specs.FinMap.{FinMap, find, get}
use Rattle.std.specs.Ordering.{nat_cmp}
use Rattle.std.specs.List.{filter, flat_map}
use Rattle.std.specs.List.Sorted.{IsNonDecreasingBy}
use Rattle.record_kinds.specs.declared.record.Record.{Record}
use Rattle.record_kinds.specs.declared.record.Record.TheVariants as kind
use Rattle.gedcom_export.specs.Around.{child_sides, partner_sides}
use Rattle.gedcom_export.specs.Names.{letter_at}
use Rattle.gedcom_export.specs.Order.{Numbered, is_event_of, is_citation_of, of_rank}
use Rattle.gedcom_export.specs.Owned.{numbers_by, sides_by}
use Rattle.gedcom_export.specs.declared.membership.Membership.{Membership}
use Rattle.gedcom_export.specs.declared.index_owned.Owned.{Owned}
use Rattle.gedcom_export.specs.declared.place_name.PlaceName.{PlaceName}
use Rattle.gedcom_export.specs.declared.rank.Rank.{Rank}
use Rattle.gedcom_export.specs.declared.rank.Rank.TheVariants as rank

pub record Index : Type 0 where
  -- the kind of each number that has a letter of its own
  pub ranks : FinMap nat_cmp Rank
  -- the places
  pub names : FinMap nat_cmp PlaceName
  -- what each record owns
  pub events : List Owned
  pub citations : List Owned
  -- the families of each person
  pub child_in : List Membership
  pub partner_in : List Membership
  -- the numbers of each kind of level 0
  pub places : List ℕ
  pub repos : List ℕ
  pub sources : List ℕ
  pub persons : List ℕ
  pub families : List ℕ
  pub entries : List ℕ
  pub others : List ℕ

-- the letter of a kind; `X` is that of all without one
abbrev pub letter_of : Rank → List ℕ
letter_of rank.Places = codes "P"
letter_of rank.Repos = codes "R"
letter_of rank.Sources = codes "S"
letter_of rank.Persons = codes "I"
letter_of rank.Families = codes "F"
letter_of rank.Entries = codes "E"
letter_of rank.Others = codes "X"

abbrev pub letter_with : Option Rank → List ℕ
letter_with None = codes "X"
letter_with (Some k) = letter_of k

abbrev pub letter_in : Index → ℕ → List ℕ
letter_in i n = letter_with (get i.ranks n)

-- what is kept of a record where it is a place
abbrev pub place_name : Option Record → Option PlaceName
place_name (Some (kind.Place p)) = Some (record { name = p.name; parent = p.parent })
place_name _ = None

-- the numbers of records
abbrev pub numbers : List Numbered → List ℕ
numbers es = map (λ (e : Numbered). e.0) es

-- the numbers of a kind
abbrev pub numbers_in : Index → Rank → List ℕ
numbers_in i rank.Places = i.places
numbers_in i rank.Repos = i.repos
numbers_in i rank.Sources = i.sources
numbers_in i rank.Persons = i.persons
numbers_in i rank.Families = i.families
numbers_in i rank.Entries = i.entries
numbers_in i rank.Others = i.others

-- the place of a kind in an export
abbrev pub place_in_export : Rank → ℕ
place_in_export rank.Places = 1
place_in_export rank.Repos = 2
place_in_export rank.Sources = 3
place_in_export rank.Persons = 4
place_in_export rank.Families = 5
place_in_export rank.Entries = 6
place_in_export rank.Others = 7

-- the index shows these records, in whatever order it has the owners
pub record IsGathered (es : List Numbered) (i : Index) : Type 0 where
  pub letters : (n : ℕ) → letter_in i n ≡ letter_at (find nat_cmp n es)
  pub names : (n : ℕ) → get i.names n ≡ place_name (find nat_cmp n es)
  pub events : (n : ℕ) → numbers_by n i.events ≡ numbers (filter (λ (e : Numbered). is_event_of n e.1) es)
  pub citations : (n : ℕ) → numbers_by n i.citations ≡ numbers (filter (λ (e : Numbered). is_citation_of n e.1) es)
  pub child_in : (n : ℕ) → sides_by n i.child_in ≡ flat_map (child_sides n) es
  pub partner_in : (n : ℕ) → sides_by n i.partner_in ≡ flat_map (partner_sides n) es
  pub places : i.places ≡ numbers (of_rank es 1)
  pub repos : i.repos ≡ numbers (of_rank es 2)
  pub sources : i.sources ≡ numbers (of_rank es 3)
  pub persons : i.persons ≡ numbers (of_rank es 4)
  pub families : i.families ≡ numbers (of_rank es 5)
  pub entries : i.entries ≡ numbers (of_rank es 6)
  pub others : i.others ≡ numbers (of_rank es 7)

-- the owners ascend, so that what one of them owns is found without a search through all
pub record IsArranged (i : Index) : Type 0 where
  pub events : IsNonDecreasingBy (λ (o : Owned). o.owner) i.events
  pub citations : IsNonDecreasingBy (λ (o : Owned). o.owner) i.citations
  pub child_in : IsNonDecreasingBy (λ (x : Membership). x.person) i.child_in
  pub partner_in : IsNonDecreasingBy (λ (x : Membership). x.person) i.partner_in

-- the index of these records
pub record IsIndexOf (es : List Numbered) (i : Index) : Type 0 where
  pub gathered : IsGathered es i
  pub arranged : IsArranged i
