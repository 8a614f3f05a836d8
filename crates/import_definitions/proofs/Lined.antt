-- The lines of nodes one after another.
use Rattle.std.proofs.Common.{
  ◌≡◌,
  ℕ,
  suc,
  ◌+◌,
  ◌<◌,
  ◌≤◌,
  List,
  [],
  ◌∷◌,
  ◌++◌,
  length,
  drop,
  get_or,
  refl,
  sym,
  ap,
  ◌∙◌,
  subst,
  arith,
  append_assoc,
  Option,
  Some,
  None,
  Vec,
}
use Rattle.std.specs.Global.{Global}
use Rattle.std.specs.Prelude.{is_some, if◌then◌else◌}
use Rattle.std.proofs.Math.Seq.{drop-cons}
use Rattle.receipts.specs.declared.report.ReportLine.{ReportLine}
use Rattle.stored_lines.specs.Tree.{Forest, node, none, more, forest_of, list_of, relabel_all}
use Rattle.stored_lines.specs.Levels.{forest_levels}
use Rattle.stored_lines.specs.Line.{Line, Lines}
use Rattle.stored_lines.specs.declared.carried.Value.{Value}
use Rattle.gedcom_tree.specs.Flat.{value_said}
use Rattle.gedcom_tree.specs.declared.node.Node.{Node}
use Rattle.gedcom_tree.specs.declared.node.Node.TheViews.{out-Node}
use Rattle.import_definitions.specs.Nodes.{FileLine, line_said, tree_of, trees_of, IsLine, HaveLines}
use Rattle.import_definitions.specs.Lines.{Lined, resolve, put, resolved, lines_below}
use Rattle.import_definitions.specs.Reports.{dangles, dangling}
use Rattle.import_definitions.proofs.Trees.{tree_out}
use Rattle.stored_lines.proofs.Listed.{forest_list}

abbrev pub below : Node → Forest FileLine
below n = forest_of (trees_of (out-Node n).children.items)

abbrev pub from : List Node → ℕ → Forest FileLine
from ns i = forest_of (trees_of (drop i ns))

-- the first node and those after it
pub front : (ns : List Node) (i : ℕ) (n : Node) → i < length ns → n ≡ get_or ns i n
    → from ns i ≡ more (node (line_said (out-Node n)) (below n)) (from ns (i + 1))
front ns i n h e =
    ap (λ (ms : List Node). forest_of (trees_of ms)) (drop-cons ns i n h ∙ ap (λ m. m ∷ drop (suc i) ns) (sym e))
    ∙ (let one : suc i ≡ i + 1 = omega arith in ap (λ k. more (tree_of n) (from ns k)) one)
    ∙ ap (λ t. more t (from ns (i + 1))) (tree_out n)

pub have_front : (ns : List Node) (i : ℕ) (n : Node) → i < length ns → n ≡ get_or ns i n → HaveLines (from ns i)
    → (IsLine (line_said (out-Node n)) × HaveLines (below n)) × HaveLines (from ns (i + 1))
have_front ns i n h e k = subst HaveLines (front ns i n h e) k

pub low_front : (ns : List Node) (i : ℕ) (n : Node) → i < length ns → n ≡ get_or ns i n → forest_levels (from ns i) ≤ 98
    → (forest_levels (below n) < 98) × (forest_levels (from ns (i + 1)) ≤ 98)
low_front ns i n h e k =
    let same = ap forest_levels (front ns i n h e) in
    (omega (arith, same), omega (arith, same))

-- ---- lines

abbrev pub bare : Lined → Line
bare l = l.1

put_some : (l : FileLine) (v : Value) (o : Option Value) (b r : Forest Lined) → Some v ≡ o
    → list_of (relabel_all bare (put l o b r)) ≡ node (record { tag = l.tag; value = v }) (relabel_all bare b)
    ∷ list_of (relabel_all bare r)
put_some l v None b r e = absurd cc
put_some l v (Some w) b r e =
    let same : w ≡ v = cc in
    ap (λ x. node (record { tag = l.tag; value = x }) (relabel_all bare b) ∷ list_of (relabel_all bare r)) same

put_none : (l : FileLine) (o : Option Value) (b r : Forest Lined) → None ≡ o → put l o b r ≡ r
put_none l None b r e = refl
put_none l (Some w) b r e = absurd cc

pub line_put : (place : List ℕ → Option ℕ) (ns : List Node) (i : ℕ) (n : Node) (tag : List ℕ) (v : Value) (cs : Lines)
    (old new whole : Lines) → i < length ns → n ≡ get_or ns i n → tag ≡ (out-Node n).tag
    → Some v ≡ resolve place (value_said (out-Node n).value) → cs ≡ lines_below place (below n)
    → new ≡ old ++ node (record { tag = tag; value = v }) (forest_of cs) ∷ []
    → old ++ lines_below place (from ns i) ≡ whole → new ++ lines_below place (from ns (i + 1)) ≡ whole
line_put place ns i n tag v cs old new whole h e t r c is was =
    let rest : Lines = lines_below place (from ns (i + 1)) in
    ap (λ (xs : Lines). xs ++ rest) is
    ∙ append_assoc old (node (record { tag = tag; value = v }) (forest_of cs) ∷ []) rest
    ∙ ap (λ (f : Forest Line). old ++ (node (record { tag = tag; value = v }) f ∷ rest))
    (ap forest_of c ∙ forest_list (relabel_all bare (resolved place (below n))))
    ∙ ap (λ x. old ++ (node (record { tag = x; value = v }) (relabel_all bare (resolved place (below n))) ∷ rest)) t
    ∙ ap (λ (xs : Lines). old ++ xs)
    (sym (put_some (line_said (out-Node n)) v (resolve place (value_said (out-Node n).value)) (resolved place (below n))
    (resolved place (from ns (i + 1))) r))
    ∙ ap (λ (f : Forest FileLine). old ++ lines_below place f) (sym (front ns i n h e))
    ∙ was

pub line_left : (place : List ℕ → Option ℕ) (ns : List Node) (i : ℕ) (n : Node) (old whole : Lines) → i < length ns
    → n ≡ get_or ns i n → None ≡ resolve place (value_said (out-Node n).value)
    → old ++ lines_below place (from ns i) ≡ whole → old ++ lines_below place (from ns (i + 1)) ≡ whole
line_left place ns i n old whole h e r was =
    ap (λ (f : Forest Lined). old ++ list_of (relabel_all bare f))
    (sym (put_none (line_said (out-Node n)) (resolve place (value_said (out-Node n).value)) (resolved place (below n))
    (resolved place (from ns (i + 1))) r))
    ∙ ap (λ (f : Forest FileLine). old ++ lines_below place f) (sym (front ns i n h e))
    ∙ was

-- ---- what is reported
pub report_put : (place : List ℕ → Option ℕ) (ns : List Node) (i : ℕ) (n : Node) (v : Value)
    (old new whole : List ReportLine) → i < length ns → n ≡ get_or ns i n
    → Some v ≡ resolve place (value_said (out-Node n).value) → new ≡ old ++ dangling place (below n)
    → old ++ dangling place (from ns i) ≡ whole → new ++ dangling place (from ns (i + 1)) ≡ whole
report_put place ns i n v old new whole h e r is was =
    let rest : List ReportLine = dangling place (from ns (i + 1)) in
    ap (λ (xs : List ReportLine). xs ++ rest) is
    ∙ append_assoc old (dangling place (below n)) rest
    ∙ ap (λ o. old ++ ((if is_some o then dangling place (below n) else dangles (line_said (out-Node n)) ∷ []) ++ rest))
    r
    ∙ ap (λ (f : Forest FileLine). old ++ dangling place f) (sym (front ns i n h e))
    ∙ was

pub report_left : (place : List ℕ → Option ℕ) (ns : List Node) (i : ℕ) (n : Node) (old new whole : List ReportLine)
    → i < length ns → n ≡ get_or ns i n → None ≡ resolve place (value_said (out-Node n).value)
    → new ≡ old ++ dangles (line_said (out-Node n)) ∷ [] → old ++ dangling place (from ns i) ≡ whole
    → new ++ dangling place (from ns (i + 1)) ≡ whole
report_left place ns i n old new whole h e r is was =
    let rest : List ReportLine = dangling place (from ns (i + 1)) in
    ap (λ (xs : List ReportLine). xs ++ rest) is
    ∙ append_assoc old (dangles (line_said (out-Node n)) ∷ []) rest
    ∙ ap (λ (o : Option Value). old
    ++ ((if is_some o then dangling place (below n) else dangles (line_said (out-Node n)) ∷ []) ++ rest)) r
    ∙ ap (λ (f : Forest FileLine). old ++ dangling place f) (sym (front ns i n h e))
    ∙ was

-- ---- levels
pub resolved_low : (place : List ℕ → Option ℕ) (f : Forest FileLine)
    → forest_levels (relabel_all bare (resolved place f)) ≤ forest_levels f
resolved_low place none = omega arith
resolved_low place (more (node l f) ts) =
    put_low (resolve place l.value) (resolved_low place f) (resolved_low place ts)
  where
    put_low : (o : Option Value) → forest_levels (relabel_all bare (resolved place f)) ≤ forest_levels f
        → forest_levels (relabel_all bare (resolved place ts)) ≤ forest_levels ts
        → forest_levels (relabel_all bare (put l o (resolved place f) (resolved place ts)))
        ≤ forest_levels (more (node l f) ts)
    put_low None a b = omega arith
    put_low (Some v) a b = omega arith

pub below_low : (place : List ℕ → Option ℕ) (n : Node) (cs : Lines) → cs ≡ lines_below place (below n)
    → forest_levels (below n) < 98 → forest_levels (forest_of cs) < 99
below_low place n cs c h =
    let same : forest_levels (forest_of cs) ≡ forest_levels (relabel_all bare (resolved place (below n))) =
    ap forest_levels (ap forest_of c ∙ forest_list (relabel_all bare (resolved place (below n)))) in
    omega (arith, same, resolved_low place (below n))

pub items_same : {A : Type 0} (a b : Vec A Global) → a ≡ b → a.items ≡ b.items
items_same a b e = ap (λ v. v.items) e

pub less_front : (ns : List Node) (i : ℕ) (n : Node) (m : ℕ) → i < length ns → n ≡ get_or ns i n
    → forest_levels (from ns i) ≤ m → (forest_levels (below n) < m) × (forest_levels (from ns (i + 1)) ≤ m)
less_front ns i n m h e k =
    let same = ap forest_levels (front ns i n h e) in
    (omega (arith, same), omega (arith, same))
