-- The path of a place is what is known of it.
use Rattle.std.proofs.Common.{
  ◌≡◌,
  ℕ,
  ◌+◌,
  zero,
  suc,
  ◌<◌,
  List,
  [],
  ◌∷◌,
  ◌++◌,
  refl,
  sym,
  ap,
  ◌∙◌,
  ◌↔◌,
  true,
  false,
  nat_lt,
  arith,
}
use Rattle.std.specs.Prelude.{Option, Some, None, option_map, codes, if◌then◌else◌}
use Rattle.std.specs.FinMap.{get}
use Rattle.std.proofs.lemmas.Bool.{lt-ltb, ltb-true}
use Rattle.record_kinds.specs.Model as model
use Rattle.record_kinds.specs.declared.record.Record.{Record}
use Rattle.record_kinds.specs.declared.record.Record.TheVariants as kind
use Rattle.record_shapes.specs.Paths.{joined}
use Rattle.record_shapes.specs.Fields.{path_below}
use Rattle.archive_state.specs.Content.{Records}
use Rattle.archive_state.specs.Paths.{IsPlaceAt, Climbs, HasPath}
use Rattle.archive_state.specs.Known.{path_under, path_with, path_by, path_of}
use Rattle.archive_state.proofs.Climbing.{goes_path}

-- ---- a path is known
known_climbs : (steps : ℕ) (m : Records) (n : ℕ) (names : List (List ℕ)) → n < steps → Climbs m n names
    → path_by steps m n ≡ Some (joined names)
known_climbs zero m n names less h = absurd (omega arith)
known_climbs (suc steps) m n [] less h = absurd h
known_climbs (suc steps) m n (name ∷ []) less (p, at, is, alone) =
    ap (path_with n (path_by steps m)) at ∙ ap (path_under n (path_by steps m) p.name) alone ∙ ap Some is
known_climbs (suc steps) m n (name ∷ (above ∷ names)) less (p, at, is, (q, up, lower, climbs)) =
    let nearer : q < steps = omega arith in
    ap (path_with n (path_by steps m)) at ∙ ap (path_under n (path_by steps m) p.name) up
    ∙ ap (λ b. if b then option_map (path_below p.name) (path_by steps m q) else None) (lt-ltb q n lower)
    ∙ ap (option_map (path_below p.name)) (known_climbs steps m q (above ∷ names) nearer climbs)
    ∙ ap (λ t. Some (t ++ (codes ", " ++ joined (above ∷ names)))) is

-- ---- what is known is a path
from_above : (m : Records) (n q : ℕ) (p : model.Place) → IsPlaceAt m n p → p.parent ≡ Some q → q < n
    → (o : Option (List ℕ)) → ((rest : List ℕ) → o ≡ Some rest → HasPath m q rest)
    → (path : List ℕ) → option_map (path_below p.name) o ≡ Some path → HasPath m n path
from_above m n q p at is less None up path e = absurd cc
from_above m n q p at is less (Some rest) up path e =
    let same : path_below p.name rest ≡ path = cc in
    goes_path m n p path (Some q) at is (less, (rest, sym same, up rest refl))

module _ (m : Records) (n : ℕ) (above : ℕ → Option (List ℕ)) (up : (q : ℕ) (rest : List ℕ) → above q ≡ Some rest
    → HasPath m q rest) where
  from_parent : (p : model.Place) → IsPlaceAt m n p → (o : Option ℕ) → p.parent ≡ o → (path : List ℕ)
      → path_under n above p.name o ≡ Some path → HasPath m n path
  from_parent p at None is path e = let same : p.name ≡ path = cc in goes_path m n p path None at is (sym same)
  from_parent p at (Some q) is path e =
      elim (nat_lt q n) as (λ b. nat_lt q n ≡ b → (if b then option_map (path_below p.name) (above q) else None)
      ≡ Some path → HasPath m n path) [
        | true ↦ λ less f. from_above m n q p at is (ltb-true q n less) (above q) (up q) path f
        | false ↦ λ less f. absurd cc
      ] refl e

  from_record : (o : Option Record) → get m n ≡ o → (path : List ℕ) → path_with n above o ≡ Some path → HasPath m n path
  from_record None at path e = absurd cc
  from_record (Some (kind.Place p)) at path e = from_parent p at p.parent refl path e
  from_record (Some _) at path e = absurd cc

climbs_known : (steps : ℕ) (m : Records) (n : ℕ) (path : List ℕ) → path_by steps m n ≡ Some path → HasPath m n path
climbs_known zero m n path e = absurd cc
climbs_known (suc steps) m n path e = from_record m n (path_by steps m) (λ q rest f. climbs_known steps m q rest f)
    (get m n) refl path e

pub path_known : (m : Records) (n : ℕ) (path : List ℕ) → HasPath m n path ↔ (path_of m n ≡ Some path)
unfolding path_of
path_known m n path = (
  λ h. known_climbs (n + 1) m n h.0 (omega arith) h.1 ∙ ap Some h.2,
  λ e. climbs_known (n + 1) m n path e,
)

-- ---- the same places have the same paths
same_by : (steps : ℕ) (m other : Records)
    → ((n : ℕ) (above : ℕ → Option (List ℕ)) → path_with n above (get other n) ≡ path_with n above (get m n)) → (n : ℕ)
    → path_by steps other n ≡ path_by steps m n
same_by zero m other h n = refl
same_by (suc steps) m other h n = h n (path_by steps other) ∙ ap (λ up. path_with n up (get m n))
    (λ i k. same_by steps m other h k i)

pub path_same : (m other : Records)
    → ((n : ℕ) (above : ℕ → Option (List ℕ)) → path_with n above (get other n) ≡ path_with n above (get m n)) → (n : ℕ)
    → path_of other n ≡ path_of m n
unfolding path_of
path_same m other h n = same_by (n + 1) m other h n
