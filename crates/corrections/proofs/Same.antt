-- Two corrections of one field differ in the value only.
use Rattle.std.specs.Prelude.{◌≡◌, ℕ, List, Option}
use Rattle.std.proofs.Common.{subst, sym}
use Rattle.record_fields.specs.declared.date.Date.{Date}
use Rattle.record_fields.specs.declared.item.Item.{Item}
use Rattle.record_fields.specs.declared.words.Quality.{Quality}
use Rattle.record_fields.specs.declared.words.Sex.{Sex}
use Rattle.corrections.specs.Fields.{field_of}
use Rattle.corrections.specs.declared.correction.Correction.{Correction}
use Rattle.corrections.specs.declared.correction.Correction.TheVariants as value
use Rattle.corrections.specs.declared.field.Field.TheVariants as field
use Rattle.corrections.specs.declared.field.TextField.{TextField}

pub of_sex : (P : Correction → Type 0) → ((a : Option Sex) → P (value.Sex a)) → (d : Correction) → field_of d
    ≡ field.Sex → P d
of_sex P h (value.Sex a) e = h a
of_sex P h (value.Tag a) e = absurd cc
of_sex P h (value.Date a) e = absurd cc
of_sex P h (value.Place a) e = absurd cc
of_sex P h (value.Repository a) e = absurd cc
of_sex P h (value.Quality a) e = absurd cc
of_sex P h (value.Item a) e = absurd cc
of_sex P h (value.Text g a) e = absurd cc

pub of_tag : (P : Correction → Type 0) → ((a : List ℕ) → P (value.Tag a)) → (d : Correction) → field_of d
    ≡ field.Tag → P d
of_tag P h (value.Sex a) e = absurd cc
of_tag P h (value.Tag a) e = h a
of_tag P h (value.Date a) e = absurd cc
of_tag P h (value.Place a) e = absurd cc
of_tag P h (value.Repository a) e = absurd cc
of_tag P h (value.Quality a) e = absurd cc
of_tag P h (value.Item a) e = absurd cc
of_tag P h (value.Text g a) e = absurd cc

pub of_date : (P : Correction → Type 0) → ((a : Option Date) → P (value.Date a)) → (d : Correction) → field_of d
    ≡ field.Date → P d
of_date P h (value.Sex a) e = absurd cc
of_date P h (value.Tag a) e = absurd cc
of_date P h (value.Date a) e = h a
of_date P h (value.Place a) e = absurd cc
of_date P h (value.Repository a) e = absurd cc
of_date P h (value.Quality a) e = absurd cc
of_date P h (value.Item a) e = absurd cc
of_date P h (value.Text g a) e = absurd cc

pub of_place : (P : Correction → Type 0) → ((a : Option ℕ) → P (value.Place a)) → (d : Correction) → field_of d
    ≡ field.Place → P d
of_place P h (value.Sex a) e = absurd cc
of_place P h (value.Tag a) e = absurd cc
of_place P h (value.Date a) e = absurd cc
of_place P h (value.Place a) e = h a
of_place P h (value.Repository a) e = absurd cc
of_place P h (value.Quality a) e = absurd cc
of_place P h (value.Item a) e = absurd cc
of_place P h (value.Text g a) e = absurd cc

pub of_repository : (P : Correction → Type 0) → ((a : Option ℕ) → P (value.Repository a)) → (d : Correction)
    → field_of d ≡ field.Repository → P d
of_repository P h (value.Sex a) e = absurd cc
of_repository P h (value.Tag a) e = absurd cc
of_repository P h (value.Date a) e = absurd cc
of_repository P h (value.Place a) e = absurd cc
of_repository P h (value.Repository a) e = h a
of_repository P h (value.Quality a) e = absurd cc
of_repository P h (value.Item a) e = absurd cc
of_repository P h (value.Text g a) e = absurd cc

pub of_quality : (P : Correction → Type 0) → ((a : Option Quality) → P (value.Quality a)) → (d : Correction)
    → field_of d ≡ field.Quality → P d
of_quality P h (value.Sex a) e = absurd cc
of_quality P h (value.Tag a) e = absurd cc
of_quality P h (value.Date a) e = absurd cc
of_quality P h (value.Place a) e = absurd cc
of_quality P h (value.Repository a) e = absurd cc
of_quality P h (value.Quality a) e = h a
of_quality P h (value.Item a) e = absurd cc
of_quality P h (value.Text g a) e = absurd cc

pub of_item : (P : Correction → Type 0) → ((a : Item) → P (value.Item a)) → (d : Correction) → field_of d
    ≡ field.Item → P d
of_item P h (value.Sex a) e = absurd cc
of_item P h (value.Tag a) e = absurd cc
of_item P h (value.Date a) e = absurd cc
of_item P h (value.Place a) e = absurd cc
of_item P h (value.Repository a) e = absurd cc
of_item P h (value.Quality a) e = absurd cc
of_item P h (value.Item a) e = h a
of_item P h (value.Text g a) e = absurd cc

pub of_text : (f : TextField) (P : Correction → Type 0) → ((t : List ℕ) → P (value.Text f t)) → (d : Correction)
    → field_of d ≡ field.Text f → P d
of_text f P h (value.Sex a) e = absurd cc
of_text f P h (value.Tag a) e = absurd cc
of_text f P h (value.Date a) e = absurd cc
of_text f P h (value.Place a) e = absurd cc
of_text f P h (value.Repository a) e = absurd cc
of_text f P h (value.Quality a) e = absurd cc
of_text f P h (value.Item a) e = absurd cc
of_text f P h (value.Text g a) e = let same : g ≡ f = cc in subst (λ (x : TextField). P (value.Text x a))
    (sym same) (h a)
