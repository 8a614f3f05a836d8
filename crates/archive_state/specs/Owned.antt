-- A record of an archive with what it owns, as it is written in a file, and what its lines show of others. Rules of our
-- own.
use Rattle.std.specs.Prelude.{ℕ, ◌≡◌, List, ◌++◌, Some}
use Rattle.std.specs.FinMap.{get}
use Rattle.stored_lines.specs.Tree.{Tree, node, none, list_of}
use Rattle.record_kinds.specs.Model as model
use Rattle.record_kinds.specs.declared.record.Record.{Record}
use Rattle.record_kinds.specs.declared.record.Record.TheVariants as kind
use Rattle.record_shapes.specs.Lists.{EachOf}
use Rattle.record_shapes.specs.Shapes.{Around, Side}
use Rattle.archive_state.specs.Content.{Records}
use Rattle.archive_state.specs.Paths.{HasPath}

-- a citation of that owner, with nothing below it
abbrev pub IsCitationOf : Records → ℕ → Tree Record → Type 0
IsCitationOf m owner (node (kind.Citation c) f) = (k : ℕ) × (get m k ≡ Some (kind.Citation c))
    × (c.owner ≡ owner) × (f ≡ none)
IsCitationOf m owner (node _ f) = ⊥

-- an event of that owner, with citations of the event below it
abbrev pub IsEventOf : Records → ℕ → Tree Record → Type 0
IsEventOf m owner (node (kind.Event e) f) =
    (k : ℕ) × (get m k ≡ Some (kind.Event e)) × (e.owner ≡ owner) × EachOf (IsCitationOf m k) (list_of f)
IsEventOf m owner (node _ f) = ⊥

-- events of that owner, and then citations of it
pub record AreOwned (m : Records) (owner : ℕ) (under : List (Tree Record)) : Type 0 where
  pub events : List (Tree Record)
  pub citations : List (Tree Record)
  pub all : under ≡ events ++ citations
  pub are_events : EachOf (IsEventOf m owner) events
  pub are_citations : EachOf (IsCitationOf m owner) citations

-- a record that is written at level 0, with what it owns: a person or a family has events and citations, no other has
-- any
abbrev pub IsWithOwned : Records → ℕ → Tree Record → Type 0
IsWithOwned m n (node (kind.Person p) f) = (get m n ≡ Some (kind.Person p)) × AreOwned m n (list_of f)
IsWithOwned m n (node (kind.Family x) f) = (get m n ≡ Some (kind.Family x)) × AreOwned m n (list_of f)
IsWithOwned m n (node (kind.Event e) f) = ⊥
IsWithOwned m n (node (kind.Citation c) f) = ⊥
IsWithOwned m n (node r f) = (get m n ≡ Some r) × (f ≡ none)

abbrev pub IsSideIn : Records → Side → Type 0
IsSideIn m s = (f : model.Family) × (get m s.family ≡ Some (kind.Family f))

-- what the lines of records show of others is so in the archive: the paths of places, and families that are there
pub record IsAround (m : Records) (a : Around) : Type 0 where
  pub paths : (n : ℕ) (path : List ℕ) → HasPath m n path → a.path n ≡ path
  pub child_in : (n : ℕ) → EachOf (IsSideIn m) (a.child_in n)
  pub partner_in : (n : ℕ) → EachOf (IsSideIn m) (a.partner_in n)
