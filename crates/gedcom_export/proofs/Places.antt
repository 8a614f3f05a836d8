-- The path of a place, name by name.
use Rattle.std.proofs.Common.{
  ◌≡◌,
  ℕ,
  zero,
  suc,
  ◌+◌,
  ◌≤◌,
  ◌<◌,
  List,
  [],
  ◌++◌,
  refl,
  sym,
  ap,
  ◌∙◌,
  arith,
  lt-ltb,
  le-ltb,
}
use Rattle.std.specs.Prelude.{Option, Some, None, option_map, codes, if◌then◌else◌}
use Rattle.std.specs.Option.{unwrap_or}
use Rattle.std.specs.FinMap.{get, entries, get-entries}
use Rattle.record_kinds.specs.declared.record.Record.{Record}
use Rattle.record_kinds.specs.declared.record.Record.TheVariants as kind
use Rattle.record_shapes.specs.Fields.{path_below}
use Rattle.archive_state.specs.Content.{Records}
use Rattle.archive_state.specs.Known as known
use Rattle.archive_state.specs.Known.{path_under}
use Rattle.gedcom_export.specs.Index.{Index, IsGathered, place_name}
use Rattle.gedcom_export.specs.Paths.{path_at, path_by, path_with, path_in}
use Rattle.gedcom_export.specs.declared.place_name.PlaceName.{PlaceName}
use Rattle.archive_state.proofs.PathsAlike.{under_alike}
use Rattle.record_shapes.proofs.Climbed.{goes_on, lost, so_far, ends}
use Rattle.list_laws.proofs.Numbers.{one_more}

abbrev Way : Type 0
Way = ℕ → Option (List ℕ)

with_alike : (n : ℕ) (f g : Way) (o : Option PlaceName) → ((q : ℕ) → q < n → f q ≡ g q)
    → path_with n f o ≡ path_with n g o
with_alike n f g None h = refl
with_alike n f g (Some p) h = under_alike n f g p.name p.parent h

enough : (k j : ℕ) (at : ℕ → Option PlaceName) (n : ℕ) → n < k → n < j → path_by k at n ≡ path_by j at n
enough zero j at n h i = absurd (omega arith)
enough (suc k) zero at n h i = absurd (omega arith)
enough (suc k) (suc j) at n h i = with_alike n (path_by k at) (path_by j at) (at n)
    (λ q less. enough k j at q (omega arith) (omega arith))

path_there : (at : ℕ → Option PlaceName) (n : ℕ) → path_at at n ≡ path_with n (path_at at) (at n)
unfolding path_at
path_there at n = ap (λ s. path_by s at n) (one_more n)
    ∙ with_alike n (path_by n at) (λ q. path_by (q + 1) at q) (at n)
    (λ q less. enough n (q + 1) at q less (omega arith))

-- ---- case by case
none_there : (at : ℕ → Option PlaceName) (n : ℕ) → at n ≡ None → path_at at n ≡ None
none_there at n e = path_there at n ∙ ap (path_with n (path_at at)) e

under_is : (at : ℕ → Option PlaceName) (n : ℕ) (p : PlaceName) → at n ≡ Some p
    → path_at at n ≡ path_under n (path_at at) p.name p.parent
under_is at n p e = path_there at n ∙ ap (path_with n (path_at at)) e

alone : (at : ℕ → Option PlaceName) (n : ℕ) (p : PlaceName) → at n ≡ Some p → p.parent ≡ None
    → path_at at n ≡ Some p.name
alone at n p e none = under_is at n p e ∙ ap (path_under n (path_at at) p.name) none

not_below : (at : ℕ → Option PlaceName) (n : ℕ) (p : PlaceName) (q : ℕ) → at n ≡ Some p → p.parent ≡ Some q → n ≤ q
    → path_at at n ≡ None
not_below at n p q e is le =
    under_is at n p e ∙ ap (path_under n (path_at at) p.name) is
    ∙ ap (λ b. if b then option_map (path_below p.name) (path_at at q) else None) (le-ltb q n le)

above : (at : ℕ → Option PlaceName) (n : ℕ) (p : PlaceName) (q : ℕ) → at n ≡ Some p → p.parent ≡ Some q → q < n
    → path_at at n ≡ option_map (path_below p.name) (path_at at q)
above at n p q e is less =
    under_is at n p e ∙ ap (path_under n (path_at at) p.name) is
    ∙ ap (λ b. if b then option_map (path_below p.name) (path_at at q) else None) (lt-ltb q n less)

-- ---- what is put together so far, and what is above

-- there is no place
pub lost_there : (at : ℕ → Option PlaceName) (n : ℕ) (front : List ℕ) → at n ≡ None → so_far front (path_at at n) ≡ None
lost_there at n front e = lost front (path_at at n) (none_there at n e)

-- the place above has no smaller number
pub lost_above : (at : ℕ → Option PlaceName) (n : ℕ) (front : List ℕ) (p : PlaceName) (q : ℕ) → at n ≡ Some p
    → p.parent ≡ Some q → n ≤ q → so_far front (path_at at n) ≡ None
lost_above at n front p q e is le = lost front (path_at at n) (not_below at n p q e is le)

-- there is none above
pub ends_here : (at : ℕ → Option PlaceName) (n : ℕ) (front : List ℕ) (p : PlaceName) → at n ≡ Some p → p.parent ≡ None
    → so_far front (path_at at n) ≡ Some (front ++ p.name)
ends_here at n front p e is = ends front (path_at at n) p.name (alone at n p e is)

-- it goes on with the place above
pub climbs : (at : ℕ → Option PlaceName) (n : ℕ) (front : List ℕ) (p : PlaceName) (q : ℕ) → at n ≡ Some p
    → p.parent ≡ Some q → q < n
    → so_far front (path_at at n) ≡ so_far ((front ++ p.name) ++ codes ", ") (path_at at q)
climbs at n front p q e is less =
    ap (so_far front) (above at n p q e is less) ∙ goes_on front p.name (path_at at q)

-- ---- the places of an index
same_way : (n : ℕ) (f g : Way) (o : Option Record) → ((q : ℕ) → f q ≡ g q)
    → path_with n f (place_name o) ≡ known.path_with n g o
same_way n f g (Some (kind.Place p)) h = under_alike n f g p.name p.parent (λ q less. h q)
same_way n f g None h = refl
same_way n f g (Some (kind.Repo p)) h = refl
same_way n f g (Some (kind.Source p)) h = refl
same_way n f g (Some (kind.Person p)) h = refl
same_way n f g (Some (kind.Family p)) h = refl
same_way n f g (Some (kind.Citation p)) h = refl
same_way n f g (Some (kind.Event p)) h = refl
same_way n f g (Some (kind.Entry p)) h = refl
same_way n f g (Some (kind.Other p)) h = refl

same_by : (m : Records) (at : ℕ → Option PlaceName) → ((q : ℕ) → at q ≡ place_name (get m q)) → (k n : ℕ)
    → path_by k at n ≡ known.path_by k m n
same_by m at h zero n = refl
same_by m at h (suc k) n =
    ap (path_with n (path_by k at)) (h n) ∙ same_way n (path_by k at) (known.path_by k m) (get m n) (same_by m at h k)

pub paths_are : (m : Records) (i : Index) → IsGathered (entries m) i → (n : ℕ)
    → path_in i n ≡ unwrap_or (known.path_of m n) []
unfolding path_at known.path_of
paths_are m i h n =
    ap (λ o. unwrap_or o [])
    (same_by m (get i.names) (λ q. h.names q ∙ ap place_name (sym (get-entries m q))) (n + 1) n)
