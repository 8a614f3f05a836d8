-- The nodes of a forest: what their lines have, how deep they go, and that all stand at level 0.
use Rattle.std.proofs.Common.{
  ◌≡◌,
  ℕ,
  ◌+◌,
  ◌≤◌,
  ◌==◌,
  true,
  false,
  cond,
  List,
  [],
  ◌∷◌,
  map,
  refl,
  sym,
  ap,
  ◌∙◌,
  subst,
  arith,
}
use Rattle.std.specs.Prelude.{◌&&◌, nat_le, bytes_eq, codes}
use Rattle.std.proofs.lemmas.Bool.{and_parts, eqb-true, eqb-false}
use Rattle.std.proofs.lemmas.Bool.Decides.{nat_tests}
use Rattle.stored_lines.specs.Growing.{backs, fronts, grown}
use Rattle.stored_lines.specs.Levels.{forest_levels, levels}
use Rattle.stored_lines.specs.Tree.{Forest, node, none, more, forest_of, label}
use Rattle.record_shapes.specs.Lists.{EachOf}
use Rattle.gedcom_line.specs.Reading.{is_continuation}
use Rattle.gedcom_tree.specs.Forest.{Item}
use Rattle.gedcom_tree.specs.Text.{EachNode, IsForest, IsNodeValue, begins, is_tag, rises}
use Rattle.gedcom_tree.specs.Text.{behind_first as items_behind}
use Rattle.import_definitions.specs.Nodes.{FileLine, FileNode, leveled, nodes_of}
use Rattle.record_shapes.proofs.Each.{each_mapped}

-- what is so of a line of a forest
pub record IsFileLine (l : FileLine) : Type 0 where
  pub tag : is_tag l.tag ≡ true
  pub own : is_continuation l.tag ≡ false
  pub value : IsNodeValue l.value

abbrev mutual
  pub HasFileLines : FileNode → Type 0
  HasFileLines (node l f) = IsFileLine l × HaveFileLines f

  pub HaveFileLines : Forest FileLine → Type 0
  HaveFileLines none = Unit {0}
  HaveFileLines (more t f) = HasFileLines t × HaveFileLines f

abbrev Depth : Type 0
Depth = ℕ × FileNode

-- a node that stands at a depth
record IsTop (t : Depth) : Type 0 where
  lines : HasFileLines t.1
  low : levels t.1 + t.0 ≤ 99
  other : (t.0 == 0 && bytes_eq (label t.1).tag (codes "TRLR")) ≡ false

-- ---- lines and levels
front_lines : (d : ℕ) (ts : List Depth) → EachOf IsTop ts → HaveFileLines (forest_of (fronts d ts))
front_lines d [] h = tt
front_lines d (t ∷ ts) h = elim (t.0 == d) as (λ b. HaveFileLines (forest_of (cond b (t.1 ∷ fronts d ts) []))) [
  | true ↦ (h.0.lines, front_lines d ts h.1)
  | false ↦ tt
]

front_low : (d : ℕ) → d ≤ 99 → (ts : List Depth) → EachOf IsTop ts → forest_levels (forest_of (fronts d ts)) + d ≤ 99
front_low d less [] h = omega arith
front_low d less (t ∷ ts) h =
    elim (t.0 == d) as (λ b. (t.0 == d) ≡ b → forest_levels (forest_of (cond b (t.1 ∷ fronts d ts) [])) + d ≤ 99) [
      | true ↦ λ e.
          let same : t.0 ≡ d = eqb-true t.0 d e in
          let low : levels t.1 + t.0 ≤ 99 = h.0.low in
          let rest : forest_levels (forest_of (fronts d ts)) + d ≤ 99 = front_low d less ts h.1 in
          omega arith
      | false ↦ λ e. omega arith
    ] refl

back_tops : (d : ℕ) (ts : List Depth) → EachOf IsTop ts → EachOf IsTop (backs d ts)
back_tops d [] h = tt
back_tops d (t ∷ ts) h = elim (t.0 == d) as (λ b. EachOf IsTop (cond b (backs d ts) (t ∷ ts))) [
  | true ↦ back_tops d ts h.1
  | false ↦ h
]

all_tops : (f : List Item) → EachNode f → EachOf IsTop (grown (map leveled f))
all_tops [] h = tt
all_tops (i ∷ is) h =
    let rest : EachOf IsTop (grown (map leveled is)) = all_tops is h.1 in
    let own : i.level ≤ 98 = h.0.low in
    let deep : forest_levels (forest_of (fronts (i.level + 1) (grown (map leveled is)))) + (i.level + 1) ≤ 99 =
    front_low (i.level + 1) (omega arith) (grown (map leveled is)) rest in (
      record {
        lines = (
          record { tag = h.0.tag; own = h.0.own; value = h.0.value },
          front_lines (i.level + 1) (grown (map leveled is)) rest,
        );
        low = omega arith;
        other = h.0.other;
      },
      back_tops (i.level + 1) (grown (map leveled is)) rest,
    )

-- ---- all at level 0
-- depths that do not rise, the first of them at most n
abbrev Falls : ℕ → List Depth → Type 0
Falls n [] = Unit {0}
Falls n (t ∷ ts) = (t.0 ≤ n) × Falls t.0 ts

back_falls : (n : ℕ) (ts : List Depth) → Falls (n + 1) ts → Falls n (backs (n + 1) ts)
back_falls n [] h = tt
back_falls n (t ∷ ts) h =
    elim (t.0 == (n + 1)) as (λ b. (t.0 == (n + 1)) ≡ b → Falls n (cond b (backs (n + 1) ts) (t ∷ ts))) [
      | true ↦ λ e. back_falls n ts (subst (λ k. Falls k ts) (eqb-true t.0 (n + 1) e) h.1)
      | false ↦ λ e.
          let apart : t.0 ≡ n + 1 → ⊥ = eqb-false t.0 (n + 1) e in
          let low : t.0 ≤ n + 1 = h.0 in
          (below t.0 n low apart, h.1)
    ] refl
  where
    below : (a n : ℕ) → a ≤ n + 1 → (a ≡ n + 1 → ⊥) → a ≤ n
    below a n low apart = grind arith

all_fall : (n : ℕ) (f : List Item) → rises n f ≡ true → Falls (n + 1) (grown (map leveled f))
all_fall n [] e = tt
all_fall n (i ∷ is) e =
    let p = and_parts (nat_le i.level (n + 1)) (rises i.level is) e in
    (at_most i.level (n + 1) p.0, back_falls i.level (grown (map leveled is)) (all_fall i.level is p.1))
  where
    at_most : (a b : ℕ) → nat_le a b ≡ true → a ≤ b
    at_most a b e = grind (arith, nat_tests)

-- a node of level 0
pub record IsRoot (t : FileNode) : Type 0 where
  pub lines : HasFileLines t
  pub low : levels t ≤ 99
  pub other : bytes_eq (label t).tag (codes "TRLR") ≡ false

top_root : (t : Depth) → t.0 ≡ 0 → IsTop t → IsRoot t.1
top_root t e h =
    let low : levels t.1 + t.0 ≤ 99 = h.low in
    record {
      lines = h.lines;
      low = omega arith;
      other = ap (λ n. n == 0 && bytes_eq (label t.1).tag (codes "TRLR")) (sym e) ∙ h.other;
    }

tops_roots : (n : ℕ) → n ≡ 0 → (ts : List Depth) → Falls n ts → EachOf IsTop ts → EachOf (λ (t : Depth). IsRoot t.1) ts
tops_roots n e [] g h = tt
tops_roots n e (t ∷ ts) g h =
    let low : t.0 ≤ n = g.0 in
    let zero : t.0 ≡ 0 = omega arith in
    (top_root t zero h.0, tops_roots t.0 zero ts g.1 h.1)

pub all_roots : (f : List Item) → IsForest f → EachOf IsRoot (nodes_of f)
all_roots f h = each_mapped IsRoot (λ (t : Depth). t.1) (grown (map leveled f))
    (tops_roots 0 refl (grown (map leveled f)) (falls f h.head h.levels) (all_tops f h.nodes))
  where
    falls : (f : List Item) → begins f ≡ true → rises 0 (items_behind f) ≡ true → Falls 0 (grown (map leveled f))
    falls [] b r = tt
    falls (i ∷ is) b r =
        let p = and_parts (i.level == 0) (bytes_eq i.tag (codes "HEAD")) b in
        let zero : i.level ≡ 0 = eqb-true i.level 0 p.0 in
        let rest : Falls 1 (grown (map leveled is)) = all_fall 0 is r in (
          (omega arith),
          back_falls i.level (grown (map leveled is)) (subst (λ k. Falls k (grown (map leveled is)))
              (let one : 1 ≡ i.level + 1 = omega arith in one) rest),
        )
