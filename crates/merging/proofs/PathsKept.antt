-- Paths of places: a person has none, and in a part of the records no place has another one than in all.
use Rattle.std.proofs.Common.{◌≡◌, ◌⊎◌, ℕ, ◌+◌, zero, suc, List, [], ◌∷◌, refl, sym, ap, ◌∙◌, inl, inr}
use Rattle.std.specs.Prelude.{Bool, true, false, Option, Some, None, if◌then◌else◌}
use Rattle.std.specs.FinMap.{get}
use Rattle.record_kinds.specs.Model as model
use Rattle.record_kinds.specs.declared.record.Record.{Record}
use Rattle.record_kinds.specs.declared.record.Record.TheVariants as kind
use Rattle.archive_state.specs.Links.{a_place, a_source, is_wanted}
use Rattle.archive_state.specs.Content.{Records}
use Rattle.archive_state.specs.Known.{path_with, path_by, path_of}
use Rattle.archive_state.specs.Paths.{Climbs, HasPath}
use Rattle.archive_state.proofs.Known.{path_known}

person_path_by : (steps : ℕ) (m : Records) (n : ℕ) (p : model.Person) → get m n ≡ Some (kind.Person p)
    → path_by steps m n ≡ None
person_path_by zero m n p at = refl
person_path_by (suc steps) m n p at = ap (path_with n (path_by steps m)) at

pub no_person_path : (m : Records) (n : ℕ) (p : model.Person) → get m n ≡ Some (kind.Person p) → path_of m n ≡ None
unfolding path_of
no_person_path m n p at = person_path_by (n + 1) m n p at

pub no_place_person : (p : model.Person) → is_wanted a_place (kind.Person p) ≡ true → ⊥
no_place_person p e = let none : false ≡ true = e in absurd cc

pub no_source_person : (p : model.Person) → is_wanted a_source (kind.Person p) ≡ true → ⊥
no_source_person p e = let none : false ≡ true = e in absurd cc

pub either_none : (b : Bool) (o : Option (List ℕ)) → o ≡ None → (if b then o else None) ≡ None
either_none true o e = e
either_none false o e = refl

-- ---- a part of the records
module _ (part all : Records) (within : (n : ℕ) (r : Record) → get part n ≡ Some r → get all n ≡ Some r) where
  climbs_within : (n : ℕ) (names : List (List ℕ)) → Climbs part n names → Climbs all n names
  climbs_within n [] h = h
  climbs_within n (name ∷ []) (p, at, is, alone) = (p, within n (kind.Place p) at, is, alone)
  climbs_within n (name ∷ (above ∷ names)) (p, at, is, (u, parent, less, more)) =
      (p, within n (kind.Place p) at, is, (u, parent, less, climbs_within u (above ∷ names) more))

  pub path_within : (n : ℕ) (path : List ℕ) → HasPath part n path → HasPath all n path
  path_within n path (names, climbs, e) = (names, climbs_within n names climbs, e)

  -- a place has no path that is known there, or the same
  pub path_or_none : (n : ℕ) → (path_of part n ≡ None) ⊎ (path_of part n ≡ path_of all n)
  path_or_none n = by (path_of part n) refl
    where
      by : (o : Option (List ℕ)) → path_of part n ≡ o → (path_of part n ≡ None) ⊎ (path_of part n ≡ path_of all n)
      by None e = inl e
      by (Some path) e = inr (e ∙ sym ((path_known all n path).0 (path_within n path ((path_known part n path).1 e))))
