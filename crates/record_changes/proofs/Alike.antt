-- Records of one kind are alike, whatever is in them.
use Rattle.std.proofs.Common.{◌≡◌, refl}
use Rattle.record_kinds.specs.Model as model
use Rattle.record_kinds.specs.declared.record.Record.TheVariants as kind
use Rattle.archive_state.specs.Links.{
  Wanted,
  a_place,
  a_repo,
  a_source,
  a_person,
  a_holder,
  a_cited,
  at_level_0,
  is_wanted,
}
use Rattle.archive_state.proofs.Keeping.{IsAlike}

wanted_place : (w : Wanted) (p q : model.Place) → is_wanted w (kind.Place p) ≡ is_wanted w (kind.Place q)
wanted_place a_place p q = refl
wanted_place a_repo p q = refl
wanted_place a_source p q = refl
wanted_place a_person p q = refl
wanted_place a_holder p q = refl
wanted_place a_cited p q = refl
wanted_place at_level_0 p q = refl

pub places_alike : (p q : model.Place) → IsAlike (kind.Place p) (kind.Place q)
places_alike p q = record { wanted = λ w. wanted_place w p q; events = refl; written = refl; room = refl }

wanted_repo : (w : Wanted) (p q : model.Repo) → is_wanted w (kind.Repo p) ≡ is_wanted w (kind.Repo q)
wanted_repo a_place p q = refl
wanted_repo a_repo p q = refl
wanted_repo a_source p q = refl
wanted_repo a_person p q = refl
wanted_repo a_holder p q = refl
wanted_repo a_cited p q = refl
wanted_repo at_level_0 p q = refl

pub repos_alike : (p q : model.Repo) → IsAlike (kind.Repo p) (kind.Repo q)
repos_alike p q = record { wanted = λ w. wanted_repo w p q; events = refl; written = refl; room = refl }

wanted_source : (w : Wanted) (p q : model.Source) → is_wanted w (kind.Source p) ≡ is_wanted w (kind.Source q)
wanted_source a_place p q = refl
wanted_source a_repo p q = refl
wanted_source a_source p q = refl
wanted_source a_person p q = refl
wanted_source a_holder p q = refl
wanted_source a_cited p q = refl
wanted_source at_level_0 p q = refl

pub sources_alike : (p q : model.Source) → IsAlike (kind.Source p) (kind.Source q)
sources_alike p q = record { wanted = λ w. wanted_source w p q; events = refl; written = refl; room = refl }

wanted_person : (w : Wanted) (p q : model.Person) → is_wanted w (kind.Person p) ≡ is_wanted w (kind.Person q)
wanted_person a_place p q = refl
wanted_person a_repo p q = refl
wanted_person a_source p q = refl
wanted_person a_person p q = refl
wanted_person a_holder p q = refl
wanted_person a_cited p q = refl
wanted_person at_level_0 p q = refl

pub persons_alike : (p q : model.Person) → IsAlike (kind.Person p) (kind.Person q)
persons_alike p q = record { wanted = λ w. wanted_person w p q; events = refl; written = refl; room = refl }

wanted_family : (w : Wanted) (p q : model.Family) → is_wanted w (kind.Family p) ≡ is_wanted w (kind.Family q)
wanted_family a_place p q = refl
wanted_family a_repo p q = refl
wanted_family a_source p q = refl
wanted_family a_person p q = refl
wanted_family a_holder p q = refl
wanted_family a_cited p q = refl
wanted_family at_level_0 p q = refl

pub families_alike : (p q : model.Family) → IsAlike (kind.Family p) (kind.Family q)
families_alike p q = record { wanted = λ w. wanted_family w p q; events = refl; written = refl; room = refl }

wanted_citation : (w : Wanted) (p q : model.Citation) → is_wanted w (kind.Citation p) ≡ is_wanted w (kind.Citation q)
wanted_citation a_place p q = refl
wanted_citation a_repo p q = refl
wanted_citation a_source p q = refl
wanted_citation a_person p q = refl
wanted_citation a_holder p q = refl
wanted_citation a_cited p q = refl
wanted_citation at_level_0 p q = refl

pub citations_alike : (p q : model.Citation) → IsAlike (kind.Citation p) (kind.Citation q)
citations_alike p q = record { wanted = λ w. wanted_citation w p q; events = refl; written = refl; room = refl }

wanted_event : (w : Wanted) (p q : model.Event) → is_wanted w (kind.Event p) ≡ is_wanted w (kind.Event q)
wanted_event a_place p q = refl
wanted_event a_repo p q = refl
wanted_event a_source p q = refl
wanted_event a_person p q = refl
wanted_event a_holder p q = refl
wanted_event a_cited p q = refl
wanted_event at_level_0 p q = refl

pub events_alike : (p q : model.Event) → IsAlike (kind.Event p) (kind.Event q)
events_alike p q = record { wanted = λ w. wanted_event w p q; events = refl; written = refl; room = refl }

wanted_entry : (w : Wanted) (p q : model.Entry) → is_wanted w (kind.Entry p) ≡ is_wanted w (kind.Entry q)
wanted_entry a_place p q = refl
wanted_entry a_repo p q = refl
wanted_entry a_source p q = refl
wanted_entry a_person p q = refl
wanted_entry a_holder p q = refl
wanted_entry a_cited p q = refl
wanted_entry at_level_0 p q = refl

pub entries_alike : (p q : model.Entry) → IsAlike (kind.Entry p) (kind.Entry q)
entries_alike p q = record { wanted = λ w. wanted_entry w p q; events = refl; written = refl; room = refl }
