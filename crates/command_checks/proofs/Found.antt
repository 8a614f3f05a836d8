-- What a look at a number has found.
use Rattle.std.proofs.Common.{◌≡◌, Bool, true, false, refl, ap}
use Rattle.std.specs.Prelude.{Option, Some, None, Result, Ok, Err, option_map}
use Rattle.record_text.specs.declared.refusal.RefusalKind.{RefusalKind}
use Rattle.record_text.specs.declared.refusal.RefusalKind.TheVariants.{WrongKind}
use Rattle.record_kinds.specs.Model as model
use Rattle.record_kinds.specs.declared.record.Record.{Record}
use Rattle.record_kinds.specs.declared.record.Record.TheVariants as kind
use Rattle.archive_state.specs.Links.{a_person, a_place, a_holder, is_wanted}
use Rattle.record_shapes.specs.Tags.{event_tags}
use Rattle.command_checks.specs.Checks.{
  person_in,
  family_in,
  event_in,
  place_in,
  owner_in,
  need,
  wanted_of,
  demanded_in,
  passed,
  tags_of,
}
use Rattle.command_checks.specs.declared.kinds.Demand.{Demand}
use Rattle.command_checks.specs.declared.looks.Owner.{Owner}
use Rattle.command_checks.specs.declared.looks.Owner.TheVariants as owner

pub person_found : (o : Option Record) (x : model.Person) → person_in o ≡ Ok x → o ≡ Some (kind.Person x)
person_found None x e = absurd cc
person_found (Some (kind.Place y)) x e = absurd cc
person_found (Some (kind.Repo y)) x e = absurd cc
person_found (Some (kind.Source y)) x e = absurd cc
person_found (Some (kind.Person y)) x e = let same : y ≡ x = cc in ap (λ z. Some (kind.Person z)) same
person_found (Some (kind.Family y)) x e = absurd cc
person_found (Some (kind.Citation y)) x e = absurd cc
person_found (Some (kind.Event y)) x e = absurd cc
person_found (Some (kind.Entry y)) x e = absurd cc
person_found (Some (kind.Other y)) x e = absurd cc

pub family_found : (o : Option Record) (x : model.Family) → family_in o ≡ Ok x → o ≡ Some (kind.Family x)
family_found None x e = absurd cc
family_found (Some (kind.Place y)) x e = absurd cc
family_found (Some (kind.Repo y)) x e = absurd cc
family_found (Some (kind.Source y)) x e = absurd cc
family_found (Some (kind.Person y)) x e = absurd cc
family_found (Some (kind.Family y)) x e = let same : y ≡ x = cc in ap (λ z. Some (kind.Family z)) same
family_found (Some (kind.Citation y)) x e = absurd cc
family_found (Some (kind.Event y)) x e = absurd cc
family_found (Some (kind.Entry y)) x e = absurd cc
family_found (Some (kind.Other y)) x e = absurd cc

pub event_found : (o : Option Record) (x : model.Event) → event_in o ≡ Ok x → o ≡ Some (kind.Event x)
event_found None x e = absurd cc
event_found (Some (kind.Place y)) x e = absurd cc
event_found (Some (kind.Repo y)) x e = absurd cc
event_found (Some (kind.Source y)) x e = absurd cc
event_found (Some (kind.Person y)) x e = absurd cc
event_found (Some (kind.Family y)) x e = absurd cc
event_found (Some (kind.Citation y)) x e = absurd cc
event_found (Some (kind.Event y)) x e = let same : y ≡ x = cc in ap (λ z. Some (kind.Event z)) same
event_found (Some (kind.Entry y)) x e = absurd cc
event_found (Some (kind.Other y)) x e = absurd cc

pub place_found : (o : Option Record) (x : model.Place) → place_in o ≡ Ok x → o ≡ Some (kind.Place x)
place_found None x e = absurd cc
place_found (Some (kind.Place y)) x e = let same : y ≡ x = cc in ap (λ z. Some (kind.Place z)) same
place_found (Some (kind.Repo y)) x e = absurd cc
place_found (Some (kind.Source y)) x e = absurd cc
place_found (Some (kind.Person y)) x e = absurd cc
place_found (Some (kind.Family y)) x e = absurd cc
place_found (Some (kind.Citation y)) x e = absurd cc
place_found (Some (kind.Event y)) x e = absurd cc
place_found (Some (kind.Entry y)) x e = absurd cc
place_found (Some (kind.Other y)) x e = absurd cc

-- an owner that may have events is there, with the tags of its kind
pub owner_found : (o : Option Record) (x : Owner) → owner_in o ≡ Ok x → (old : Record) × (o ≡ Some old)
    × (is_wanted a_holder old ≡ true) × (event_tags old ≡ tags_of x)
owner_found None x e = absurd cc
owner_found (Some (kind.Place y)) x e = absurd cc
owner_found (Some (kind.Repo y)) x e = absurd cc
owner_found (Some (kind.Source y)) x e = absurd cc
owner_found (Some (kind.Person y)) x e = let same : owner.Person ≡ x = cc in
    (kind.Person y, refl, refl, ap tags_of same)
owner_found (Some (kind.Family y)) x e = let same : owner.Family ≡ x = cc in
    (kind.Family y, refl, refl, ap tags_of same)
owner_found (Some (kind.Citation y)) x e = absurd cc
owner_found (Some (kind.Event y)) x e = absurd cc
owner_found (Some (kind.Entry y)) x e = absurd cc
owner_found (Some (kind.Other y)) x e = absurd cc

-- ---- what stands there is what a link demands
pub person_stands : (o : Option Record) (x : model.Person) → person_in o ≡ Ok x
    → option_map (is_wanted a_person) o ≡ Some true
person_stands o x e = ap (option_map (is_wanted a_person)) (person_found o x e)

pub place_stands : (o : Option Record) (x : model.Place) → place_in o ≡ Ok x
    → option_map (is_wanted a_place) o ≡ Some true
place_stands o x e = ap (option_map (is_wanted a_place)) (place_found o x e)

-- a check that has passed holds
pub needed : (b : Bool) (k : RefusalKind) (u : Unit {0}) → need b k ≡ Ok u → b ≡ true
needed true k u e = refl
needed false k u e = absurd cc

pub demanded_stands : (d : Demand) (o : Option Record) (u : Unit {0}) → demanded_in d o ≡ Ok u
    → option_map (is_wanted (wanted_of d)) o ≡ Some true
demanded_stands d None u e = absurd cc
demanded_stands d (Some r) u e = ap Some (needed (is_wanted (wanted_of d) r) WrongKind u e)

-- a check that has passed has found something
pub passes : {A : Type 0} (r : Result A RefusalKind) (u : Unit {0}) → passed r ≡ Ok u → (a : A) × (r ≡ Ok a)
passes (Ok a) u e = (a, refl)
passes (Err k) u e = absurd cc
