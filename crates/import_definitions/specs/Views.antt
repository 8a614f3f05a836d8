-- What contracts see of the code's values.
use Rattle.std.specs.Prelude.{◌≡◌, ℕ, not, List, map, Option, Some, None, bytes_eq, if◌then◌else◌}
use Rattle.std.specs.BTreeMap.{BTreeMap, get_by_text}
use Rattle.std.specs.declared.string.String.{String}
use Rattle.std.specs.Global.{Global}
use Rattle.std.specs.List.{AllByRecursion}
use Rattle.stored_lines.specs.Tree.{label}
use Rattle.import_definitions.specs.Kinds.{kind_named}
use Rattle.import_definitions.specs.Nodes.{FileNode, IsInFile}
use Rattle.import_definitions.specs.Roots.{is_called, is_kept}
use Rattle.import_definitions.specs.Lines.{place_in}
use Rattle.import_definitions.specs.Steps.{breaks}
use Rattle.import_definitions.specs.declared.kinds.RootKind.{RootKind}
use Rattle.import_definitions.specs.declared.steps.Step.{Step}

-- the position that is kept of a name
abbrev pub Places : Type 0
Places = BTreeMap (String Global) ℕ

abbrev pub kept_at : Places → List ℕ → Option ℕ
kept_at m name = get_by_text m name

abbrev pub first_of : Option ℕ → Option ℕ → Option ℕ
first_of None b = b
first_of (Some a) b = Some a

-- the position of a name, kept where none was before
abbrev pub with_first : (List ℕ → Option ℕ) → List ℕ → ℕ → List ℕ → Option ℕ
with_first places name k q = first_of (places q) (if bytes_eq q name then Some k else None)

-- the position of a node, kept under its name
abbrev pub with_node : (List ℕ → Option ℕ) → FileNode → ℕ → List ℕ → Option ℕ
with_node places t k q = first_of (places q) (if is_called q t then Some k else None)

abbrev pub AreInFile : List FileNode → Type 0
AreInFile ts = AllByRecursion IsInFile ts

-- what is kept of roots
pub record AreRoots (ts : List FileNode) (kinds : List RootKind) (places : Places) : Type 0 where
  pub kinds_are : kinds ≡ map (λ (t : FileNode). kind_named (label t).tag) ts
  pub places_are : (name : List ℕ) → kept_at places name ≡ place_in ts name
  pub in_file : AreInFile ts

-- a chain breaks off exactly where its node is not kept
abbrev pub AreEnds : List FileNode → List Step → Type 0
AreEnds ts ends = map (λ s. not (breaks s)) ends ≡ map (is_kept ts) ts
