-- The first number in a record that does not name what it has to name.
use Rattle.std.specs.Prelude.{◌≡◌, ◌⊎◌, Bool, true, false, List, [], ◌∷◌, Option, Some, None, option_map, if◌then◌else◌}
use Rattle.std.specs.FinMap.{get}
use Rattle.archive_state.specs.Links.{
  Link,
  Wanted,
  a_place,
  a_repo,
  a_source,
  a_person,
  a_holder,
  a_cited,
  at_level_0,
  is_wanted,
}
use Rattle.archive_state.specs.Content.{Records}
use Rattle.archive_state.specs.Sound.{Stands, StandsIfThere}
use Rattle.sound_records.specs.declared.demand.Demand.{Demand}
use Rattle.sound_records.specs.declared.demand.Demand.TheVariants as demand
use Rattle.sound_records.specs.declared.demand.Unmet.{Unmet}

-- what each demand is
abbrev pub wanted_of : Demand → Wanted
wanted_of demand.Place = a_place
wanted_of demand.Repo = a_repo
wanted_of demand.Source = a_source
wanted_of demand.Person = a_person
wanted_of demand.Holder = a_holder
wanted_of demand.Cited = a_cited
wanted_of demand.Level0 = at_level_0

abbrev pub link_of : Unmet → Link
link_of u = (u.number, wanted_of u.demand)

-- what a link names is there and of the kind that is demanded; where it may be missing, it is of that kind if it is
-- there
abbrev pub Meets : Bool → Records → Link → Type 0
Meets true m link = StandsIfThere m link
Meets false m link = Stands m link

-- the same as a test
abbrev pub met : Bool → Option Bool → Bool
met may_miss None = may_miss
met may_miss (Some is) = is

abbrev pub meets : Bool → Records → Link → Bool
meets may_miss m link = met may_miss (option_map (is_wanted link.1) (get m link.0))

-- the first of two
abbrev pub first_of : Option Link → Option Link → Option Link
first_of None other = other
first_of (Some link) other = Some link

module _ (may_miss : Bool) (m : Records) where
  abbrev pub unmet : Link → Option Link
  unmet link = if meets may_miss m link then None else Some link

  -- the first that is not met
  abbrev pub first_unmet : List Link → Option Link
  first_unmet [] = None
  first_unmet (link ∷ links) = first_of (unmet link) (first_unmet links)

  -- one of a list
  abbrev pub IsOne : Link → List Link → Type 0
  IsOne link [] = ⊥
  IsOne link (l ∷ ls) = (l ≡ link) ⊎ IsOne link ls

  -- the link is one of these, and is not met
  abbrev pub IsUnmet : List Link → Link → Type 0
  IsUnmet links link = IsOne link links × ¬ (Meets may_miss m link)
