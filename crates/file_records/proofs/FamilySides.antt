-- The sides of one family, by persons.
use Rattle.std.proofs.Common.{
  ◌≡◌,
  ℕ,
  zero,
  suc,
  ◌+◌,
  ◌≤◌,
  ◌<◌,
  ◌^◌,
  Bool,
  true,
  false,
  List,
  [],
  ◌∷◌,
  ◌++◌,
  length,
  refl,
  sym,
  ap,
  ◌∙◌,
  subst,
  cond,
  map,
  arith,
  eq-eqb,
}
use Rattle.std.specs.Prelude.{◌&&◌, ◌==◌, Option, Some, None, option_map, bytes_eq, codes}
use Rattle.std.specs.List.{filter, slice_get}
use Rattle.std.proofs.lemmas.Bool.{eqb-true}
use Rattle.std.proofs.lemmas.List.{append-nil, map-append}
use Rattle.std.proofs.lemmas.List.Elements.{filter-append}
use Rattle.stored_lines.specs.Tree.{children, label, list_of}
use Rattle.record_shapes.specs.Picking.{first}
use Rattle.import_definitions.specs.Nodes.{FileNode}
use Rattle.import_definitions.specs.Lines.{roots}
use Rattle.import_definitions.specs.Positions.{positions, tag_at}
use Rattle.import_definitions.specs.Sides.{names_parents, side_line, side_of}
use Rattle.file_records.proofs.Tags.{tag_at_root, tag_in}
use Rattle.record_shapes.specs.Forms.{is_some}
use Rattle.file_records.specs.Lookups.{fit_tag, lines_in, lines_of, nodes_below}
use Rattle.file_records.specs.Taken.{is_none, named_in, sides, sides_by_members, sides_from, sides_on}
use Rattle.file_records.specs.declared.sides.Side.{Side}
use Rattle.file_records.proofs.Found.{side_is}
use Rattle.file_records.specs.Carried.{carried_at, late_sides, line_among, node_at, AreFew}
use Rattle.file_records.proofs.OfNode.{of_node}
use Rattle.file_records.proofs.Once.{IsOne, one_is}
use Rattle.list_laws.proofs.Numbers.{is_apart}

-- ---- lists
if_yes : {A : Type 0} (b : Bool) (x y : A) → b ≡ true → cond b x y ≡ x
if_yes b x y e = ap (λ c. cond c x y) e

if_no : {A : Type 0} (b : Bool) (x y : A) → b ≡ false → cond b x y ≡ y
if_no b x y e = ap (λ c. cond c x y) e

-- the order of two tests does not matter
two_tests : {A : Type 0} (p q : A → Bool) (xs : List A) → filter p (filter q xs) ≡ filter q (filter p xs)
two_tests p q [] = refl
two_tests {A} p q (x ∷ xs) =
    elim (p x) as (λ a. p x ≡ a → filter p (cond (q x) (x ∷ filter q xs) (filter q xs))
    ≡ filter q (cond a (x ∷ filter p xs) (filter p xs))) [
      | true ↦ λ e. elim (q x) as (λ b. filter p (cond b (x ∷ filter q xs) (filter q xs))
          ≡ cond b (x ∷ filter q (filter p xs)) (filter q (filter p xs))) [
            | true ↦ if_yes (p x) (x ∷ filter p (filter q xs)) (filter p (filter q xs)) e
                ∙ ap (λ us. x ∷ us) (two_tests p q xs)
            | false ↦ two_tests p q xs
          ]
      | false ↦ λ e. elim (q x) as (λ b. filter p (cond b (x ∷ filter q xs) (filter q xs)) ≡ filter q (filter p xs)) [
        | true ↦ if_no (p x) (x ∷ filter p (filter q xs)) (filter p (filter q xs)) e ∙ two_tests p q xs
        | false ↦ two_tests p q xs
      ]
    ] refl

module _ (ks : List FileNode) (member : ℕ → ℕ → Option Bool) where
  -- none after is of a position before
  none_behind : (ts : List FileNode) (j n : ℕ) → n < j
      → filter (λ (s : Side). s.person == n) (sides_from ks member j ts) ≡ []
  none_behind [] j n h = refl
  none_behind (t ∷ ts) j n h =
      let other : (j == n) ≡ false = turned j n (is_apart n j h) in
      filter-append (λ (s : Side). s.person == n) (sides_by_members ks member j t) (sides_from ks member (j + 1) ts)
      ∙ ap (λ us. us ++ filter (λ (s : Side). s.person == n) (sides_from ks member (j + 1) ts))
      (of_node ks (λ p. p == n) member j t ∙ if_no (j == n) (sides_by_members ks member j t) [] other)
      ∙ none_behind ts (j + 1) n (omega (arith, h))
    where
      turned : (a b : ℕ) → (b == a) ≡ false → (a == b) ≡ false
      turned a b e = elim (a == b) as (λ x. (a == b) ≡ x → x ≡ false) [
        | true ↦ λ f. absurd (let both : true ≡ false = sym (eq-eqb b a (sym (eqb-true a b f))) ∙ e in cc)
        | false ↦ λ f. refl
      ] refl

  -- those of one position are those of the node there
  at_position : (ts : List FileNode) (i j n : ℕ) (t : FileNode) → slice_get ts i ≡ Some t → n ≡ j + i
      → filter (λ (s : Side). s.person == n) (sides_from ks member j ts) ≡ sides_by_members ks member n t
  at_position [] i j n t e at = absurd cc
  at_position (u ∷ ts) zero j n t e at =
      let same : u ≡ t = cc in
      let here : j ≡ n = omega (arith, at) in
      filter-append (λ (s : Side). s.person == n) (sides_by_members ks member j u) (sides_from ks member (j + 1) ts)
      ∙ ap (λ us. us ++ filter (λ (s : Side). s.person == n) (sides_from ks member (j + 1) ts))
      (of_node ks (λ p. p == n) member j u ∙ if_yes (j == n) (sides_by_members ks member j u) [] (eq-eqb j n here))
      ∙ ap (λ us. sides_by_members ks member j u ++ us) (none_behind ts (j + 1) n (omega (arith, here)))
      ∙ append-nil (sides_by_members ks member j u)
      ∙ ap (λ k. sides_by_members ks member k u) here ∙ ap (sides_by_members ks member n) same
  at_position (u ∷ ts) (suc i) j n t e at =
      filter-append (λ (s : Side). s.person == n) (sides_by_members ks member j u) (sides_from ks member (j + 1) ts)
      ∙ ap (λ us. us ++ filter (λ (s : Side). s.person == n) (sides_from ks member (j + 1) ts))
      (of_node ks (λ p. p == n) member j u
      ∙ if_no (j == n) (sides_by_members ks member j u) [] (is_apart j n (omega (arith, at))))
      ∙ at_position ts i (j + 1) n t e (omega (arith, at))

-- ---- each position has 32 bits
few_append : (a b : List Side) → AreFew a → AreFew b → AreFew (a ++ b)
few_append [] b h g = g
few_append (s ∷ a) b h g = (h.0, few_append a b h.1 g)

few_kept : (q : Side → Bool) (ss : List Side) → AreFew ss → AreFew (filter q ss)
few_kept q [] h = tt
few_kept q (s ∷ ss) h = elim (q s) as (λ b. AreFew (cond b (s ∷ filter q ss) (filter q ss))) [
  | true ↦ (h.0, few_kept q ss h.1)
  | false ↦ few_kept q ss h.1
]

few_of : (n : ℕ) → n < 2 ^ 32 → (ss : List Side) → AreFew (filter (λ (s : Side). s.person == n) ss)
few_of n low [] = tt
few_of n low (s ∷ ss) =
    let rest : List Side = filter (λ (x : Side). x.person == n) ss in
    elim (s.person == n) as (λ b. (s.person == n) ≡ b → AreFew (cond b (s ∷ rest) rest)) [
      | true ↦ λ e. (subst (λ p. p < 2 ^ 32) (sym (eqb-true s.person n e)) low, few_of n low ss)
      | false ↦ λ e. few_of n low ss
    ] refl

few_from : (ks : List FileNode) (member : ℕ → ℕ → Option Bool) (ts : List FileNode) (j : ℕ)
    → j + length ts ≤ 2 ^ 32 → AreFew (sides_from ks member j ts)
few_from ks member [] j h = tt
few_from ks member (t ∷ ts) j h =
    few_append (sides_by_members ks member j t) (sides_from ks member (j + 1) ts)
    (subst AreFew (of_node ks (λ p. p == j) member j t
    ∙ if_yes (j == j) (sides_by_members ks member j t) [] (eq-eqb j j refl))
    (few_of j (omega (arith, h)) (sides_by_members ks member j t)))
    (few_from ks member ts (j + 1) (omega (arith, h)))

-- ---- the lines of a person's side in a family
by_first : (ks cs : List FileNode) (ss : List Side)
    → lines_of ks (node_at cs (option_map (λ (s : Side). s.line) (first ss))) ≡ lines_in ks cs ss
by_first ks cs [] = refl
by_first ks cs (s ∷ ss) = refl

abbrev pub sides_of : List FileNode → ℕ → List Side
sides_of ks k = filter (λ (s : Side). s.family == k) (sides ks)

pub person_sides : (ks : List FileNode) (n k : ℕ) (t : FileNode) → slice_get ks n ≡ Some t
    → filter (λ (s : Side). s.person == n) (sides_of ks k)
    ≡ filter (λ (s : Side). s.family == k) (sides_by_members ks (named_in ks) n t)
unfolding sides
person_sides ks n k t at =
    two_tests (λ (s : Side). s.person == n) (λ (s : Side). s.family == k) (sides_from ks (named_in ks) 0 ks)
    ∙ ap (filter (λ (s : Side). s.family == k)) (at_position ks (named_in ks) ks n 0 n t at (omega arith))

pub few_sides : (ks : List FileNode) (k : ℕ) → length ks < 2 ^ 32 → AreFew (sides_of ks k)
unfolding sides
few_sides ks k few = few_kept (λ (s : Side). s.family == k) (sides_from ks (named_in ks) 0 ks)
    (few_from ks (named_in ks) ks 0 (omega (arith, few)))

found_at : (ks : List FileNode) (n k : ℕ) (o : Option FileNode) → slice_get ks n ≡ o
    → bytes_eq (tag_in o) (codes "INDI") ≡ true
    → lines_of ks (node_at (nodes_below o) (line_among (sides_of ks k) n))
    ≡ side_of (roots ks) (fit_tag (named_in ks k n)) k n
found_at ks n k None at is = absurd cc
found_at ks n k (Some t) at is =
    ap (λ ss. lines_of ks (node_at (list_of (children t)) (option_map (λ (s : Side). s.line) (first ss))))
    (person_sides ks n k t at)
    ∙ by_first ks (list_of (children t))
    (filter (λ (s : Side). s.family == k) (sides_by_members ks (named_in ks) n t))
    ∙ side_is ks n k t at is

-- what a person carries is what an import reads there
pub carried_is : (ks : List FileNode) (n k : ℕ) → bytes_eq (tag_at (roots ks) n) (codes "INDI") ≡ true
    → carried_at ks (line_among (sides_of ks k)) n ≡ side_of (roots ks) (fit_tag (named_in ks k n)) k n
carried_is ks n k is = found_at ks n k (slice_get ks n) refl
    (ap (λ tag. bytes_eq tag (codes "INDI")) (sym (tag_at_root ks n)) ∙ is)

-- ---- the persons whom the family does not name
-- so many positions, from one on
abbrev from : ℕ → ℕ → List ℕ
from j zero = []
from j (suc l) = j ∷ from (j + 1) l

from_more : (l j : ℕ) → from j l ++ (j + l) ∷ [] ≡ from j (l + 1)
from_more zero j =
    let e : j + 0 ≡ j = omega arith in
    let one : 0 + 1 ≡ suc zero = omega arith in
    ap (λ x. x ∷ []) e ∙ ap (from j) (sym one)
from_more (suc l) j =
    let e : j + suc l ≡ (j + 1) + l = omega arith in
    let more : suc l + 1 ≡ suc (l + 1) = omega arith in
    ap (λ x. j ∷ (from (j + 1) l ++ x ∷ [])) e ∙ ap (λ us. j ∷ us) (from_more l (j + 1)) ∙ ap (from j) (sym more)

positions_are : (l : ℕ) → positions l ≡ from 0 l
positions_are zero = refl
positions_are (suc l) =
    let e : l + 1 ≡ suc l = omega arith in
    let z : 0 + l ≡ l = omega arith in
    ap (λ us. us ++ l ∷ []) (positions_are l) ∙ ap (λ x. from 0 l ++ x ∷ []) (sym z) ∙ from_more l 0 ∙ ap (from 0) e

module _ (ks : List FileNode) (k : ℕ) where
  -- the person is named by no line of the family, and names it as that of the parents
  abbrev pub is_late : ℕ → Bool
  is_late n = names_parents (roots ks) k n && is_none (named_in ks k n)

  -- the persons of late sides
  abbrev persons : List Side → List ℕ
  persons ss = map (λ (s : Side). s.person) (late_sides ss)

  persons_append : (a b : List Side) → persons (a ++ b) ≡ persons a ++ persons b
  persons_append a b = ap (map (λ (s : Side). s.person)) (filter-append (λ (s : Side). s.is_late) a b)
      ∙ map-append (λ (s : Side). s.person) (late_sides a) (late_sides b)

  and_no : (b : Bool) → (b && false) ≡ false
  and_no true = refl
  and_no false = refl

  one_late : (n : ℕ) (m : Option Bool) (h : Bool) (ss : List Side) → IsOne n m h ss
      → persons ss ≡ cond (h && is_none m) (n ∷ []) []
  one_late n m false ss o = ap persons (o.none refl)
  one_late n m true ss o =
      let s = o.one refl in
      ap persons s.alone ∙ ap (λ b. map (λ (x : Side). x.person) (cond b (s.side ∷ []) [])) s.late
      ∙ by_late s.side (is_none m) s.person
    where
      by_late : (s : Side) (b : Bool) → s.person ≡ n
          → map (λ (x : Side). x.person) (cond b (s ∷ []) []) ≡ cond b (n ∷ []) []
      by_late s true e = ap (λ x. x ∷ []) e
      by_late s false e = refl

  -- whom the family names is not late, whatever the tag
  by_tag : (n : ℕ) (m : Option Bool) → (is_some (side_line (roots ks) (fit_tag m) k n) && is_none m)
      ≡ (is_some (side_line (roots ks) (codes "FAMC") k n) && is_none m)
  by_tag n None = refl
  by_tag n (Some b) = and_no (is_some (side_line (roots ks) (fit_tag (Some b)) k n))
      ∙ sym (and_no (is_some (side_line (roots ks) (codes "FAMC") k n)))

  node_late : (n : ℕ) (t : FileNode) → slice_get ks n ≡ Some t
      → persons (filter (λ (s : Side). s.family == k) (sides_by_members ks (named_in ks) n t))
      ≡ cond (is_late n) (n ∷ []) []
  node_late n t at =
      let tag : tag_at (roots ks) n ≡ (label t).tag = tag_at_root ks n ∙ ap tag_in at in
      elim (bytes_eq (label t).tag (codes "INDI")) as (λ b. bytes_eq (label t).tag (codes "INDI") ≡ b
      → persons (filter (λ (s : Side). s.family == k)
      (cond b (sides_on ks n (λ q. named_in ks q n) (λ q. false) 0 (list_of (children t))) []))
      ≡ cond ((b && is_some (side_line (roots ks) (codes "FAMC") k n)) && is_none (named_in ks k n)) (n ∷ []) []) [
        | true ↦ λ is. one_late n (named_in ks k n)
            (is_some (side_line (roots ks) (fit_tag (named_in ks k n)) k n)) _
            (subst (λ ss. IsOne n (named_in ks k n) (is_some (side_line (roots ks) (fit_tag (named_in ks k n)) k n))
            (filter (λ (s : Side). s.family == k) ss))
            (if_yes (bytes_eq (label t).tag (codes "INDI"))
            (sides_on ks n (λ q. named_in ks q n) (λ q. false) 0 (list_of (children t))) [] is)
            (one_is ks n k t at is))
            ∙ ap (λ b. cond b (n ∷ []) []) (by_tag n (named_in ks k n))
        | false ↦ λ is. refl
      ] refl
      ∙ ap (λ g. cond ((bytes_eq g (codes "INDI") && is_some (side_line (roots ks) (codes "FAMC") k n))
      && is_none (named_in ks k n)) (n ∷ []) []) (sym tag)

  front : (b : Bool) (n : ℕ) (rest : List ℕ) → cond b (n ∷ []) [] ++ rest ≡ cond b (n ∷ rest) rest
  front true n rest = refl
  front false n rest = refl

  late_from : (ts : List FileNode) (j : ℕ) → ((i : ℕ) (n : ℕ) → n ≡ j + i → slice_get ts i ≡ slice_get ks n)
      → persons (filter (λ (s : Side). s.family == k) (sides_from ks (named_in ks) j ts))
      ≡ filter is_late (from j (length ts))
  late_from [] j at = refl
  late_from (t ∷ ts) j at =
      let a : List Side = sides_by_members ks (named_in ks) j t in
      let b : List Side = sides_from ks (named_in ks) (j + 1) ts in
      ap persons (filter-append (λ (s : Side). s.family == k) a b)
      ∙ persons_append (filter (λ (s : Side). s.family == k) a) (filter (λ (s : Side). s.family == k) b)
      ∙ ap (λ us. us ++ persons (filter (λ (s : Side). s.family == k) b))
      (node_late j t (sym (at 0 j (omega arith))))
      ∙ ap (λ us. cond (is_late j) (j ∷ []) [] ++ us)
      (late_from ts (j + 1) (λ i n e. at (suc i) n (omega (arith, e))))
      ∙ front (is_late j) j (filter is_late (from (j + 1) (length ts)))

  pub late_are : map (λ (s : Side). s.person) (late_sides (sides_of ks k))
      ≡ filter is_late (positions (length ks))
  unfolding sides
  late_are = late_from ks 0 (λ i n e. let z : i ≡ n = omega (arith, e) in ap (slice_get ks) z)
      ∙ ap (filter is_late) (sym (positions_are (length ks)))
