-- The path of a place, from its record and the path of the place that it is within.
use Rattle.std.proofs.Common.{◌≡◌, ℕ, ◌<◌, ◌≤◌, List, refl, sym, ap, ◌∙◌, subst, arith}
use Rattle.std.specs.Prelude.{Option, Some, None, Result, nat_lt, false, true, option_map, if◌then◌else◌}
use Rattle.std.proofs.lemmas.Bool.Decides.{nat_tests}
use Rattle.std.specs.FinMap.{get}
use Rattle.record_text.specs.declared.refusal.RefusalKind.{RefusalKind}
use Rattle.record_kinds.specs.Model as model
use Rattle.record_kinds.specs.declared.record.Record.{Record}
use Rattle.record_kinds.specs.declared.record.Record.TheVariants as kind
use Rattle.record_shapes.specs.Fields.{path_below}
use Rattle.archive_state.specs.Content.{Content, Records}
use Rattle.archive_state.specs.Known.{path_of, path_under, path_with}
use Rattle.archive_state.specs.Looks.{Agrees, is_stop}
use Rattle.archive_state.proofs.PathsAlike.{path_there}
use Rattle.command_checks.specs.Fits.{new_path}
use Rattle.place_names.specs.Naming.{place_in}
use Rattle.place_names.specs.Steps.{name_passes, path_passes, with_path_passes}

pub no_place : (n : ℕ) (above : ℕ → Option (List ℕ)) (found : Option Record) → place_in found ≡ None
    → path_with n above found ≡ None
no_place n above None e = refl
no_place n above (Some (kind.Place p)) e = absurd cc
no_place n above (Some (kind.Repo x)) e = refl
no_place n above (Some (kind.Source x)) e = refl
no_place n above (Some (kind.Person x)) e = refl
no_place n above (Some (kind.Family x)) e = refl
no_place n above (Some (kind.Event x)) e = refl
no_place n above (Some (kind.Citation x)) e = refl
no_place n above (Some (kind.Entry x)) e = refl
no_place n above (Some (kind.Other x)) e = refl

pub a_place : (n : ℕ) (above : ℕ → Option (List ℕ)) (found : Option Record) (p : model.Place) → place_in found ≡ Some p
    → path_with n above found ≡ path_under n above p.name p.parent
a_place n above (Some (kind.Place x)) p e =
    let same : x ≡ p = cc in ap (λ (y : model.Place). path_under n above y.name y.parent) same
a_place n above None p e = absurd cc
a_place n above (Some (kind.Repo x)) p e = absurd cc
a_place n above (Some (kind.Source x)) p e = absurd cc
a_place n above (Some (kind.Person x)) p e = absurd cc
a_place n above (Some (kind.Family x)) p e = absurd cc
a_place n above (Some (kind.Event x)) p e = absurd cc
a_place n above (Some (kind.Citation x)) p e = absurd cc
a_place n above (Some (kind.Entry x)) p e = absurd cc
a_place n above (Some (kind.Other x)) p e = absurd cc

less : (q n : ℕ) → q < n → nat_lt q n ≡ true
less q n h = grind (arith, nat_tests)

not_less : (q n : ℕ) → n ≤ q → nat_lt q n ≡ false
not_less q n h = grind (arith, nat_tests)

module _ (m : Records) (n : ℕ) where
  at_place : (p : model.Place) → place_in (get m n) ≡ Some p → path_of m n ≡ path_under n (path_of m) p.name p.parent
  at_place p e = path_there m n ∙ a_place n (path_of m) (get m n) p e

  -- where no place is
  pub path_none : place_in (get m n) ≡ None → None ≡ path_of m n
  path_none e = sym (path_there m n ∙ no_place n (path_of m) (get m n) e)

  -- a place within none
  pub path_top : (p : model.Place) → place_in (get m n) ≡ Some p → p.parent ≡ None → Some p.name ≡ path_of m n
  path_top p e top = sym (at_place p e ∙ ap (path_under n (path_of m) p.name) top)

  -- one within a place of no smaller number
  pub path_not_below : (p : model.Place) (q : ℕ) → place_in (get m n) ≡ Some p → p.parent ≡ Some q → n ≤ q
      → None ≡ path_of m n
  path_not_below p q e within h =
      sym (at_place p e ∙ ap (path_under n (path_of m) p.name) within
      ∙ ap (λ b. if b then option_map (path_below p.name) (path_of m q) else None) (not_less q n h))

  -- one within a place of that path, or of none
  pub path_within : (p : model.Place) (q : ℕ) (above : Option (List ℕ)) → place_in (get m n) ≡ Some p
      → p.parent ≡ Some q → q < n → above ≡ path_of m q → option_map (path_below p.name) above ≡ path_of m n
  path_within p q above e within h is =
      ap (option_map (path_below p.name)) is
      ∙ sym (at_place p e ∙ ap (path_under n (path_of m) p.name) within
      ∙ ap (λ b. if b then option_map (path_below p.name) (path_of m q) else None) (less q n h))

-- ---- the path of a place of a new name
module _ (c : Content) where
  pub by_new : (n : ℕ) (p : model.Place) (path : List ℕ) (r : Result (Unit {0}) RefusalKind)
      → new_path c.records p.name p.parent ≡ Some path → Agrees is_stop r (with_path_passes c n p path)
      → Agrees is_stop r (name_passes c n p)
  by_new n p path r e h = subst (λ o. Agrees is_stop r (path_passes c n p o)) (sym e) h

  pub new_top : (p : model.Place) (path : List ℕ) → p.parent ≡ None → path ≡ p.name
      → new_path c.records p.name p.parent ≡ Some path
  new_top p path top is = ap (new_path c.records p.name) top ∙ ap Some (sym is)

  pub new_within : (p : model.Place) (q : ℕ) (above path : List ℕ) → p.parent ≡ Some q
      → Some above ≡ path_of c.records q → path ≡ path_below p.name above
      → new_path c.records p.name p.parent ≡ Some path
  new_within p q above path within is made =
      ap (new_path c.records p.name) within ∙ ap (option_map (path_below p.name)) (sym is) ∙ ap Some (sym made)
