-- The first number that is not met, of lists that were put together.
use Rattle.std.proofs.Common.{
  ◌≡◌,
  ℕ,
  List,
  [],
  ◌∷◌,
  ◌++◌,
  ◌+◌,
  ◌<◌,
  length,
  drop,
  get_or,
  true≢false,
  IfSome,
  Bool,
  true,
  false,
  refl,
  sym,
  ap,
  ◌∙◌,
  inl,
  inr,
  subst,
}
use Rattle.std.specs.Prelude.{Option, Some, None, option_map, if◌then◌else◌, MatchOption}
use Rattle.std.specs.Bool.{Decides}
use Rattle.std.specs.List.{flat_map}
use Rattle.std.proofs.lemmas.List.{drop_more}
use Rattle.std.specs.FinMap.{get}
use Rattle.record_kinds.specs.declared.record.Record.{Record}
use Rattle.archive_state.specs.Links.{Link, Wanted, is_wanted}
use Rattle.record_shapes.specs.Lists.{EachOf}
use Rattle.archive_state.specs.Content.{Records}
use Rattle.sound_records.specs.declared.demand.Unmet.{Unmet}
use Rattle.sound_records.specs.Standing.{IsUnmet, Meets, first_of, first_unmet, link_of, meets, met, unmet}

first_three : (a b c : Option Link) → first_of a (first_of b c) ≡ first_of (first_of a b) c
first_three None b c = refl
first_three (Some l) b c = refl

pub first_both : (may_miss : Bool) (m : Records) (ls ks : List Link) → first_unmet may_miss m (ls ++ ks)
    ≡ first_of (first_unmet may_miss m ls) (first_unmet may_miss m ks)
first_both may_miss m [] ks = refl
first_both may_miss m (l ∷ ls) ks = ap (first_of (unmet may_miss m l)) (first_both may_miss m ls ks)
    ∙ first_three (unmet may_miss m l) (first_unmet may_miss m ls) (first_unmet may_miss m ks)

-- ---- one element more
module _ {A : Type 0} (f : A → List Link) (may_miss : Bool) (m : Records) where
  pub one_more : (xs : List A) (i : ℕ) (x : A) → i < length xs → x ≡ get_or xs i x
      → first_unmet may_miss m (flat_map f (drop i xs))
      ≡ first_of (first_unmet may_miss m (f x)) (first_unmet may_miss m (flat_map f (drop (i + 1) xs)))
  one_more xs i x less is =
      ap (λ ys. first_unmet may_miss m (flat_map f ys)) (drop_more xs i x less)
      ∙ ap (λ y. first_unmet may_miss m (f y ++ flat_map f (drop (i + 1) xs))) (sym is)
      ∙ first_both may_miss m (f x) (flat_map f (drop (i + 1) xs))

  pub found_at : (xs : List A) (i : ℕ) (x : A) (all : Option Link) (found : Link) → i < length xs → x ≡ get_or xs i x
      → first_unmet may_miss m (flat_map f (drop i xs)) ≡ all → Some found ≡ first_unmet may_miss m (f x)
      → Some found ≡ all
  found_at xs i x all found less is before here =
      ap (λ o. first_of o (first_unmet may_miss m (flat_map f (drop (i + 1) xs)))) here
      ∙ sym (one_more xs i x less is) ∙ before

  pub passed_by : (xs : List A) (i : ℕ) (x : A) (all : Option Link) → i < length xs → x ≡ get_or xs i x
      → first_unmet may_miss m (flat_map f (drop i xs)) ≡ all → None ≡ first_unmet may_miss m (f x)
      → first_unmet may_miss m (flat_map f (drop (i + 1) xs)) ≡ all
  passed_by xs i x all less is before here =
      ap (λ o. first_of o (first_unmet may_miss m (flat_map f (drop (i + 1) xs)))) here
      ∙ sym (one_more xs i x less is) ∙ before

-- ---- what the first says
if_there : (w : Wanted) (o : Option Record) → Decides (met true (option_map (is_wanted w) o))
    (IfSome o (λ r. is_wanted w r ≡ true))
if_there w None = (λ _. tt, λ _. refl)
if_there w (Some r) = (λ e. e, λ e. e)

there : (w : Wanted) (o : Option Record) → Decides (met false (option_map (is_wanted w) o))
    (option_map (is_wanted w) o ≡ Some true)
there w None = (λ e. absurd (true≢false (sym e)), λ e. absurd cc)
there w (Some r) = (λ e. ap Some e, λ e. cc)

pub decides : (may_miss : Bool) (m : Records) (l : Link) → Decides (meets may_miss m l) (Meets may_miss m l)
decides true m l = if_there l.1 (get m l.0)
decides false m l = there l.1 (get m l.0)

module _ (may_miss : Bool) (m : Records) where
  all_met : (ls : List Link) → first_unmet may_miss m ls ≡ None → EachOf (Meets may_miss m) ls
  all_met [] e = tt
  all_met (l ∷ ls) e = elim (meets may_miss m l) as (λ b. meets may_miss m l ≡ b
      → first_of (if b then None else Some l) (first_unmet may_miss m ls) ≡ None
      → Meets may_miss m l × EachOf (Meets may_miss m) ls) [
        | true ↦ λ is rest. ((decides may_miss m l).0 is, all_met ls rest)
        | false ↦ λ is rest. absurd cc
      ] refl e

  one_unmet : (ls : List Link) (k : Link) → first_unmet may_miss m ls ≡ Some k → IsUnmet may_miss m ls k
  one_unmet [] k e = absurd cc
  one_unmet (l ∷ ls) k e = elim (meets may_miss m l) as (λ b. meets may_miss m l ≡ b
      → first_of (if b then None else Some l) (first_unmet may_miss m ls) ≡ Some k
      → IsUnmet may_miss m (l ∷ ls) k) [
        | true ↦ λ is rest. let h = one_unmet ls k rest in (inr h.0, h.1)
        | false ↦ λ is found.
            let same : l ≡ k = cc in (
              inl same,
              subst (λ x. ¬ (Meets may_miss m x)) same
                  (λ h. true≢false (sym ((decides may_miss m l).1 h) ∙ is)),
            )
      ] refl e

  pub first_says : (ls : List Link) (r : Option Unmet) → option_map link_of r ≡ first_unmet may_miss m ls
      → MatchOption r (EachOf (Meets may_miss m) ls) (λ u. IsUnmet may_miss m ls (link_of u))
  first_says ls None e = all_met ls (sym e)
  first_says ls (Some u) e = one_unmet ls (link_of u) (sym e)
