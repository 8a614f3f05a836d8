-- The nodes of level 0 of a file that become records (The GEDCOM Standard Release 5.5.1, chapter 2,
-- LINEAGE_LINKED_GEDCOM). Those of an own kind do, whatever their value. A node of another tag keeps its value, and
-- does where this is a text or names one that becomes a record: they are the greatest set of which that can be said.
use Rattle.std.specs.Prelude.{
  ◌≡◌,
  ℕ,
  zero,
  suc,
  ◌&&◌,
  ◌||◌,
  not,
  Bool,
  true,
  false,
  List,
  [],
  ◌∷◌,
  length,
  codes,
  Option,
  Some,
  None,
  bytes_eq,
  if◌then◌else◌,
}
use Rattle.std.specs.List.{filter, list_any, list_all}
use Rattle.std.specs.Option.{option_map_or}
use Rattle.stored_lines.specs.Tree.{label}
use Rattle.gedcom_line.specs.Value.{Meaning, Text, Pointer}
use Rattle.gedcom_tree.specs.Forest.{Item}
use Rattle.import_definitions.specs.Kinds.{kind_named, is_other}
use Rattle.import_definitions.specs.Nodes.{FileLine, FileNode, nodes_of}

abbrev pub behind_first : {A : Type 0} → List A → List A
behind_first [] = []
behind_first (a ∷ rest) = rest

abbrev pub is_called : List ℕ → FileNode → Bool
is_called name t = option_map_or (bytes_eq name) (label t).xref false

-- the society of an archive's export, which is no record of it
abbrev pub is_society : FileNode → Bool
is_society t = bytes_eq (label t).tag (codes "SUBM") && is_called (codes "@SOCIETY@") t

-- the nodes of level 0 after the header, the society apart
abbrev pub candidates : List Item → List FileNode
candidates f = filter (λ t. not (is_society t)) (behind_first (nodes_of f))

-- ---- what a node at level 0 names by its value
abbrev pub pointer_in : Meaning → Option (List ℕ)
pointer_in (Text t) = None
pointer_in (Pointer name) = Some name

-- the value of a node of an own kind is not looked at
abbrev pub name_in : FileLine → Option (List ℕ)
name_in l = if is_other (kind_named l.tag) then pointer_in l.value else None

-- the name, where there is one, is that of a node that passes the test
abbrev pub names_one : (FileNode → Bool) → List FileNode → Option (List ℕ) → Bool
names_one P ts None = true
names_one P ts (Some name) = list_any (λ t. is_called name t && P t) ts

-- ---- what we mean: a set of nodes is given by a test
-- each node of the set that names one by its value names one of the set
abbrev pub IsClosed : List FileNode → (FileNode → Bool) → Type 0
IsClosed ts P = list_all (λ t. not (P t) || names_one P ts (name_in (label t))) ts ≡ true

-- each node of the one set is in the other
abbrev pub IsWithin : List FileNode → (FileNode → Bool) → (FileNode → Bool) → Type 0
IsWithin ts P Q = list_all (λ t. not (P t) || Q t) ts ≡ true

-- the greatest set that is closed
pub record IsGreatest (ts : List FileNode) (P : FileNode → Bool) : Type 0 where
  pub closed : IsClosed ts P
  pub greatest : (Q : FileNode → Bool) → IsClosed ts Q → IsWithin ts Q P

-- ---- the same by computing
-- so many steps from a node to the one that its value names can be taken
abbrev pub leads : List FileNode → ℕ → FileNode → Bool
leads ts zero t = true
leads ts (suc n) t = names_one (leads ts n) ts (name_in (label t))

-- No chain of such steps breaks off: one that does has no node twice, so no more steps than there are nodes.
unfoldable pub is_kept : List FileNode → FileNode → Bool
is_kept ts t = leads ts (length ts) t

-- the nodes that become records
abbrev pub kept : List FileNode → List FileNode
kept ts = filter (is_kept ts) ts
