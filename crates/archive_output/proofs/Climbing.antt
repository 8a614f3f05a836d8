-- The path of a place, name by name.
use Rattle.std.proofs.Common.{◌≡◌, ℕ, ◌+◌, ◌≤◌, ◌<◌, List, ◌++◌, refl, sym, ap, ◌∙◌, arith, lt-ltb, le-ltb}
use Rattle.std.specs.Prelude.{Option, Some, None, option_map, codes, if◌then◌else◌}
use Rattle.std.specs.FinMap.{get}
use Rattle.record_kinds.specs.Model as model
use Rattle.record_kinds.specs.declared.record.Record.{Record}
use Rattle.record_kinds.specs.declared.record.Record.TheVariants as kind
use Rattle.record_shapes.specs.Fields.{path_below}
use Rattle.archive_state.specs.Content.{Records}
use Rattle.archive_state.specs.Known.{path_by, path_of, path_under, path_with}
use Rattle.archive_output.specs.Places.{place_in}
use Rattle.archive_state.proofs.PathsAlike.{under_alike, enough}
use Rattle.record_shapes.proofs.Climbed.{goes_on, lost, so_far, ends}
use Rattle.list_laws.proofs.Numbers.{one_more}

abbrev Way : Type 0
Way = ℕ → Option (List ℕ)

-- by the place that a record is
by_place : ℕ → Way → Option model.Place → Option (List ℕ)
by_place n above None = None
by_place n above (Some p) = path_under n above p.name p.parent

is_by_place : (n : ℕ) (f : Way) (o : Option Record) → path_with n f o ≡ by_place n f (place_in o)
unfolding by_place
is_by_place n f (Some (kind.Place p)) = refl
is_by_place n f None = refl
is_by_place n f (Some (kind.Repo p)) = refl
is_by_place n f (Some (kind.Source p)) = refl
is_by_place n f (Some (kind.Person p)) = refl
is_by_place n f (Some (kind.Family p)) = refl
is_by_place n f (Some (kind.Citation p)) = refl
is_by_place n f (Some (kind.Event p)) = refl
is_by_place n f (Some (kind.Entry p)) = refl
is_by_place n f (Some (kind.Other p)) = refl

by_alike : (n : ℕ) (f g : Way) (o : Option model.Place) → ((q : ℕ) → q < n → f q ≡ g q)
    → by_place n f o ≡ by_place n g o
unfolding by_place
by_alike n f g None h = refl
by_alike n f g (Some p) h = under_alike n f g p.name p.parent h

with_alike : (n : ℕ) (f g : Way) (o : Option Record) → ((q : ℕ) → q < n → f q ≡ g q)
    → path_with n f o ≡ path_with n g o
with_alike n f g o h = is_by_place n f o ∙ by_alike n f g (place_in o) h ∙ sym (is_by_place n g o)

path_there : (m : Records) (n : ℕ) → path_of m n ≡ by_place n (path_of m) (place_in (get m n))
unfolding path_of
path_there m n = ap (λ s. path_by s m n) (one_more n)
    ∙ with_alike n (path_by n m) (λ q. path_by (q + 1) m q) (get m n)
    (λ q less. enough n (q + 1) m q less (omega arith))
    ∙ is_by_place n (λ q. path_by (q + 1) m q) (get m n)

-- ---- case by case
none_there : (m : Records) (n : ℕ) → place_in (get m n) ≡ None → path_of m n ≡ None
unfolding by_place
none_there m n e = path_there m n ∙ ap (by_place n (path_of m)) e

under_is : (m : Records) (n : ℕ) (p : model.Place) → place_in (get m n) ≡ Some p
    → path_of m n ≡ path_under n (path_of m) p.name p.parent
unfolding by_place
under_is m n p e = path_there m n ∙ ap (by_place n (path_of m)) e

alone : (m : Records) (n : ℕ) (p : model.Place) → place_in (get m n) ≡ Some p → p.parent ≡ None
    → path_of m n ≡ Some p.name
alone m n p e none = under_is m n p e ∙ ap (path_under n (path_of m) p.name) none

not_below : (m : Records) (n : ℕ) (p : model.Place) (q : ℕ) → place_in (get m n) ≡ Some p → p.parent ≡ Some q
    → n ≤ q → path_of m n ≡ None
not_below m n p q e is le =
    under_is m n p e ∙ ap (path_under n (path_of m) p.name) is
    ∙ ap (λ b. if b then option_map (path_below p.name) (path_of m q) else None) (le-ltb q n le)

above : (m : Records) (n : ℕ) (p : model.Place) (q : ℕ) → place_in (get m n) ≡ Some p → p.parent ≡ Some q → q < n
    → path_of m n ≡ option_map (path_below p.name) (path_of m q)
above m n p q e is less =
    under_is m n p e ∙ ap (path_under n (path_of m) p.name) is
    ∙ ap (λ b. if b then option_map (path_below p.name) (path_of m q) else None) (lt-ltb q n less)

-- ---- what is put together so far, and what is above

-- there is no place
pub lost_there : (m : Records) (n : ℕ) (front : List ℕ) → place_in (get m n) ≡ None → so_far front (path_of m n) ≡ None
lost_there m n front e = lost front (path_of m n) (none_there m n e)

-- the place above has no smaller number
pub lost_above : (m : Records) (n : ℕ) (front : List ℕ) (p : model.Place) (q : ℕ) → place_in (get m n) ≡ Some p
    → p.parent ≡ Some q → n ≤ q → so_far front (path_of m n) ≡ None
lost_above m n front p q e is le = lost front (path_of m n) (not_below m n p q e is le)

-- there is none above
pub ends_here : (m : Records) (n : ℕ) (front : List ℕ) (p : model.Place) → place_in (get m n) ≡ Some p
    → p.parent ≡ None → so_far front (path_of m n) ≡ Some (front ++ p.name)
ends_here m n front p e is = ends front (path_of m n) p.name (alone m n p e is)

-- it goes on with the place above
pub climbs : (m : Records) (n : ℕ) (front : List ℕ) (p : model.Place) (q : ℕ) → place_in (get m n) ≡ Some p
    → p.parent ≡ Some q → q < n
    → so_far front (path_of m n) ≡ so_far ((front ++ p.name) ++ codes ", ") (path_of m q)
climbs m n front p q e is less =
    ap (so_far front) (above m n p q e is less) ∙ goes_on front p.name (path_of m q)
