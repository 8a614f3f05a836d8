-- The lines of nodes that become records. A pointer is the position of the node that it names: the first has 0. A line
-- whose pointer names none is left out, with all below it. A cross reference below level 0 names nothing.
use Rattle.std.specs.Prelude.{ℕ, ◌+◌, Bool, List, [], ◌∷◌, map, Option, Some, None, option_map, if◌then◌else◌}
use Rattle.stored_lines.specs.Tree.{Tree, Forest, node, none, more, list_of, relabel, relabel_all}
use Rattle.stored_lines.specs.Line.{Line, Lines}
use Rattle.stored_lines.specs.declared.carried.Value.{Value}
use Rattle.stored_lines.specs.declared.carried.Value.TheVariants as value
use Rattle.gedcom_line.specs.Value.{Meaning, Text, Pointer}
use Rattle.import_definitions.specs.Kinds.{kind_named, is_other}
use Rattle.import_definitions.specs.Nodes.{FileLine, FileNode}
use Rattle.import_definitions.specs.Roots.{is_called}

-- the position of the first that passes the test, where the first of all has position k
abbrev pub position_from : {A : Type 0} → (A → Bool) → ℕ → List A → Option ℕ
position_from P k [] = None
position_from P k (a ∷ rest) = if P a then Some k else position_from P (k + 1) rest

-- the position of the node that has a name
abbrev pub place_in : List FileNode → List ℕ → Option ℕ
place_in ts name = position_from (is_called name) 0 ts

-- ---- lines, each with its number in the file
abbrev pub Lined : Type 0
Lined = ℕ × Line

-- nothing, where a pointer names nothing
abbrev pub resolve : (List ℕ → Option ℕ) → Meaning → Option Value
resolve place (Text t) = Some (value.Text t)
resolve place (Pointer name) = option_map value.Ref (place name)

-- a line with those below it in front of others, where its value is there
abbrev pub put : FileLine → Option Value → Forest Lined → Forest Lined → Forest Lined
put l None below behind = behind
put l (Some v) below behind = more (node (l.line, record { tag = l.tag; value = v }) below) behind

-- the lines without those whose pointers name nothing
abbrev pub resolved : (List ℕ → Option ℕ) → Forest FileLine → Forest Lined
resolved place none = none
resolved place (more (node l f) ts) = put l (resolve place l.value) (resolved place f) (resolved place ts)

-- without the numbers of lines
abbrev pub unlined : Tree Lined → Tree Line
unlined t = relabel (λ (l : Lined). l.1) t

abbrev pub lines_below : (List ℕ → Option ℕ) → Forest FileLine → Lines
lines_below place f = list_of (relabel_all (λ (l : Lined). l.1) (resolved place f))

-- ---- the nodes that become records, as lines
abbrev pub value_or_empty : Option Value → Value
value_or_empty None = value.Text []
value_or_empty (Some v) = v

-- the value of a node of an own kind is dropped
abbrev pub root_value : (List ℕ → Option ℕ) → FileLine → Value
root_value place l = if is_other (kind_named l.tag) then value_or_empty (resolve place l.value) else value.Text []

abbrev pub lined_root : (List ℕ → Option ℕ) → FileNode → Tree Lined
lined_root place (node l f) = node (l.line, record { tag = l.tag; value = root_value place l }) (resolved place f)

abbrev pub lined_roots : List FileNode → List (Tree Lined)
lined_roots ts = map (lined_root (place_in ts)) ts

unfoldable pub roots : List FileNode → Lines
roots ts = map unlined (lined_roots ts)
