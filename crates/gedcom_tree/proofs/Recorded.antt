-- The nodes of level 0 of a forest are its records and the header.
use Rattle.std.proofs.Common.{
  ◌≡◌,
  ℕ,
  ◌+◌,
  ◌-◌,
  Bool,
  true,
  false,
  cond,
  eqb,
  ltb,
  List,
  [],
  ◌∷◌,
  ◌++◌,
  length,
  refl,
  ap,
  ◌∙◌,
  arith,
}
use Rattle.std.specs.List.{count_by, fold, list_all}
use Rattle.std.proofs.lemmas.Bool.{ltb-true, and_parts}
use Rattle.gedcom_line.proofs.Steps.{eqb_false}
use Rattle.gedcom_tree.specs.declared.node.Node.{Node}
use Rattle.gedcom_tree.specs.declared.node.Node.TheViews.{out-Node}
use Rattle.gedcom_tree.specs.Forest.{Item}
use Rattle.gedcom_tree.specs.Flat.{flat, flats, said}
use Rattle.gedcom_tree.specs.Text.{IsForest, behind_first, record_count}
use Rattle.gedcom_tree.proofs.Grown.{flat_out, flats_deeper}

abbrev is_root : Item → Bool
is_root i = eqb i.level 0

counted_from : (is : List Item) (n : ℕ) → fold (λ a x. a + cond (is_root x) 1 0) n is ≡ n + count_by is_root is
counted_from [] n = omega arith
counted_from (i ∷ is) n = omega (
  arith,
  counted_from is (n + cond (is_root i) 1 0),
  counted_from is (0 + cond (is_root i) 1 0),
)

counted_cons : (i : Item) (is : List Item) → count_by is_root (i ∷ is) ≡ cond (is_root i) 1 0 + count_by is_root is
counted_cons i is = counted_from is (0 + cond (is_root i) 1 0) ∙ omega arith

counted_append : (a b : List Item) → count_by is_root (a ++ b) ≡ count_by is_root a + count_by is_root b
counted_append [] b = omega arith
counted_append (i ∷ is) b = omega (arith, counted_cons i (is ++ b), counted_cons i is, counted_append is b)

none_deeper : (is : List Item) → list_all (λ j. ltb 0 j.level) is ≡ true → count_by is_root is ≡ 0
none_deeper [] h = refl
none_deeper (i ∷ is) h =
    let r = and_parts (ltb 0 i.level) (list_all (λ j. ltb 0 j.level) is) h in
    let less = ltb-true 0 i.level r.0 in
    let one : ◌≡◌ {A = ℕ} (cond (is_root i) 1 0) 0 = rw (eqb_false i.level 0 (λ e. omega (arith, less, e))) refl in
    omega (arith, counted_cons i is, one, none_deeper is r.1)

below : (n : Node) → count_by is_root (flats 1 (out-Node n).children.items) ≡ 0
below n = none_deeper (flats 1 (out-Node n).children.items) (flats_deeper (out-Node n).children.items 0 1 (omega arith))

one_root : (n : Node) → count_by is_root (flat n 0) ≡ 1
one_root n = ap (count_by is_root) (flat_out n 0) ∙ counted_cons (said 0 n) (flats 1 (out-Node n).children.items)
    ∙ omega (arith, below n)

roots : (ns : List Node) → count_by is_root (flats 0 ns) ≡ length ns
roots [] = refl
roots (n ∷ ns) = omega (arith, counted_append (flat n 0) (flats 0 ns), one_root n, roots ns)

pub records_counted : (ns : List Node) (k : ℕ) → IsForest (flats 0 ns) → k ≡ length ns - 1
    → k ≡ record_count (flats 0 ns)
records_counted [] k h e = absurd (let bad : false ≡ true = h.head in cc)
records_counted (n ∷ ns) k h e =
    let first : flats 0 (n ∷ ns) ≡ said 0 n ∷ (flats 1 (out-Node n).children.items ++ flats 0 ns) = ap
    (λ (x : List Item). x ++ flats 0 ns) (flat_out n 0) in
    let all : record_count (flats 0 (n ∷ ns)) ≡ count_by is_root (flats 1 (out-Node n).children.items ++ flats 0 ns) =
    ap (λ (x : List Item). count_by is_root (behind_first x)) first in
    omega (arith, e, all, counted_append (flats 1 (out-Node n).children.items) (flats 0 ns), below n, roots ns)
