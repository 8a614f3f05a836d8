-- What the links of a page go to.
use Rattle.std.specs.Prelude.{ℕ, ◌≡◌, List, [], ◌∷◌, Option, Some}
use Rattle.record_kinds.specs.Model as model
use Rattle.record_kinds.specs.declared.record.Record.{Record}
use Rattle.record_kinds.specs.declared.record.Record.TheVariants as kind
use Rattle.html_parts.specs.declared.part.Part.{Part}
use Rattle.html_parts.specs.declared.part.Part.TheVariants as part
use Rattle.html_parts.specs.declared.route.Route.{Route}
use Rattle.html_parts.specs.declared.route.Route.TheVariants as route

-- a person, a family, a source stands at the number
abbrev pub IsPersonAt : (ℕ → Option Record) → ℕ → Type 0
IsPersonAt at n = (p : model.Person) × (at n ≡ Some (kind.Person p))

abbrev pub IsFamilyAt : (ℕ → Option Record) → ℕ → Type 0
IsFamilyAt at n = (f : model.Family) × (at n ≡ Some (kind.Family f))

abbrev pub IsSourceAt : (ℕ → Option Record) → ℕ → Type 0
IsSourceAt at n = (s : model.Source) × (at n ≡ Some (kind.Source s))

-- what the route is of is shown
abbrev pub IsShown : (ℕ → Option Record) → Route → Type 0
IsShown at route.Home = Unit {0}
IsShown at (route.Person n) = IsPersonAt at n
IsShown at (route.Family n) = IsFamilyAt at n
IsShown at (route.Pedigree n) = IsPersonAt at n
IsShown at (route.Register n) = IsSourceAt at n
IsShown at (route.RegisterPage n page) = IsSourceAt at n
IsShown at (route.Surname surname) = Unit {0}
IsShown at (route.SurnamePage surname page) = Unit {0}
IsShown at (route.Search words) = Unit {0}
IsShown at (route.SearchPage words page) = Unit {0}

abbrev pub LeadsToShown : (ℕ → Option Record) → Part → Type 0
LeadsToShown at (part.Link r) = IsShown at r
LeadsToShown at _ = Unit {0}

-- each link of these parts goes to what is shown
abbrev pub LeadToShown : (ℕ → Option Record) → List Part → Type 0
LeadToShown at [] = Unit {0}
LeadToShown at (p ∷ ps) = LeadsToShown at p × LeadToShown at ps
