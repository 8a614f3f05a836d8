-- Nodes that are the same but for the numbers of their lines, one after another.
use Rattle.std.proofs.Common.{
  ◌≡◌,
  ◌↔◌,
  IsTrue,
  ℕ,
  suc,
  ◌+◌,
  ◌<◌,
  ◌≤◌,
  Bool,
  true,
  eqb,
  ltb,
  List,
  [],
  ◌∷◌,
  ◌++◌,
  map,
  length,
  get_or,
  drop,
  drop-cons,
  add-one,
  append-nil,
  refl,
  sym,
  ap,
  ◌∙◌,
  subst,
  arith,
}
use Rattle.std.proofs.Math.ListN.{drop_of_length-le}
use Rattle.std.specs.List.{list_all}
use Rattle.std.proofs.lemmas.Bool.{ltb-true, eqb-true, and_parts}
use Rattle.gedcom_tree.specs.Forest.{Item}
use Rattle.gedcom_tree.specs.Flat.{flat, flats, said}
use Rattle.gedcom_tree.specs.Text.{unnumbered, IsSame}
use Rattle.gedcom_tree.specs.declared.node.Node.{Node}
use Rattle.gedcom_tree.specs.declared.node.Node.TheViews.{out-Node}
use Rattle.gedcom_tree.proofs.Grown.{flat_out, flats_deeper}

-- none stands there, or one of that level does first
abbrev IsAt : ℕ → List Item → Type 0
IsAt k [] = Unit {0}
IsAt k (i ∷ is) = i.level ≡ k

abbrev are_deeper : ℕ → List Item → Bool
are_deeper k is = list_all (λ j. ltb k j.level) is

abbrev first_or : Item → List Item → Item
first_or d [] = d
first_or d (i ∷ is) = i

abbrev behind : List Item → List Item
behind [] = []
behind (i ∷ is) = is

pub heads : (i j : Item) (is js : List Item) → i ∷ is ≡ j ∷ js → i ≡ j
heads i j is js e = ap (first_or i) e

pub tails : (i j : Item) (is js : List Item) → i ∷ is ≡ j ∷ js → is ≡ js
tails i j is js e = ap behind e

apart : (k : ℕ) (i j : Item) → ltb k i.level ≡ true → j.level ≡ k → unnumbered i ≡ unnumbered j → ⊥
apart k i j d at e = omega (arith, ltb-true k i.level d, at, ap (λ (x : Item). x.level) e)

-- deeper nodes in front of one that is not deeper end where it stands
parted : (k : ℕ) (a b p q : List Item) → are_deeper k a ≡ true → are_deeper k b ≡ true → IsAt k p → IsAt k q
    → IsSame (a ++ p) (b ++ q) → IsSame a b × IsSame p q
parted k [] [] p q da db hp hq e = (refl, e)
parted k [] (j ∷ js) [] q da db hp hq e = absurd cc
parted k [] (j ∷ js) (i ∷ is) q da db hp hq e =
    absurd (apart k j i (and_parts (ltb k j.level) (are_deeper k js) db).0 hp
    (sym (heads (unnumbered i) (unnumbered j) (map unnumbered is) (map unnumbered (js ++ q)) e)))
parted k (i ∷ is) [] p [] da db hp hq e = absurd cc
parted k (i ∷ is) [] p (j ∷ js) da db hp hq e =
    absurd (apart k i j (and_parts (ltb k i.level) (are_deeper k is) da).0 hq
    (heads (unnumbered i) (unnumbered j) (map unnumbered (is ++ p)) (map unnumbered js) e))
parted k (i ∷ is) (j ∷ js) p q da db hp hq e =
    let first : unnumbered i ≡ unnumbered j = heads (unnumbered i) (unnumbered j) (map unnumbered (is ++ p))
    (map unnumbered (js ++ q)) e in
    let r = parted k is js p q (and_parts (ltb k i.level) (are_deeper k is) da).1
    (and_parts (ltb k j.level) (are_deeper k js) db).1 hp hq
    (tails (unnumbered i) (unnumbered j) (map unnumbered (is ++ p)) (map unnumbered (js ++ q)) e) in
    (ap (λ (x : Item). x ∷ map unnumbered is) first ∙ ap (λ (x : List Item). unnumbered j ∷ x) r.0, r.1)

joined : (a b p q : List Item) → IsSame a b → IsSame p q → IsSame (a ++ p) (b ++ q)
joined [] [] p q h e = e
joined [] (j ∷ js) p q h e = absurd cc
joined (i ∷ is) [] p q h e = absurd cc
joined (i ∷ is) (j ∷ js) p q h e =
    ap (λ (x : Item). x ∷ map unnumbered (is ++ p))
    (heads (unnumbered i) (unnumbered j) (map unnumbered is) (map unnumbered js) h)
    ∙ ap (λ (x : List Item). unnumbered j ∷ x)
    (joined is js p q (tails (unnumbered i) (unnumbered j) (map unnumbered is) (map unnumbered js) h) e)

at_level : (ns : List Node) (level : ℕ) → IsAt level (flats level ns)
at_level [] level = tt
at_level (n ∷ ns) level = subst (IsAt level) (sym (ap (λ (x : List Item). x ++ flats level ns) (flat_out n level))) refl

first_out : (n : Node) (ns : List Node) (level : ℕ) → flats level (n ∷ ns) ≡ said level n
    ∷ (flats (level + 1) (out-Node n).children.items ++ flats level ns)
first_out n ns level = ap (λ (x : List Item). x ++ flats level ns) (flat_out n level)

-- the first lines, what stands below them, and what follows
pub record Matched (level : ℕ) (a b : Node) (ns ms : List Node) : Type 0 where
  pub line : unnumbered (said level a) ≡ unnumbered (said level b)
  pub below : IsSame (flats (level + 1) (out-Node a).children.items) (flats (level + 1) (out-Node b).children.items)
  pub rest : IsSame (flats level ns) (flats level ms)

pub same_matched : (level : ℕ) (a b : Node) (ns ms : List Node) → IsSame (flats level (a ∷ ns)) (flats level (b ∷ ms))
    → Matched level a b ns ms
same_matched level a b ns ms e =
    let under : Node → List Item = λ n. flats (level + 1) (out-Node n).children.items in
    let open_ : IsSame (said level a ∷ (under a ++ flats level ns)) (said level b ∷ (under b ++ flats level ms)) = ap
    (map unnumbered) (sym (first_out a ns level)) ∙ e ∙ ap (map unnumbered) (first_out b ms level) in
    let one : unnumbered (said level a) ≡ unnumbered (said level b) = heads (unnumbered (said level a))
    (unnumbered (said level b)) (map unnumbered (under a ++ flats level ns))
    (map unnumbered (under b ++ flats level ms)) open_ in
    let more : IsSame (under a ++ flats level ns) (under b ++ flats level ms) = tails (unnumbered (said level a))
    (unnumbered (said level b)) (map unnumbered (under a ++ flats level ns))
    (map unnumbered (under b ++ flats level ms)) open_ in
    let r = parted level (under a) (under b) (flats level ns) (flats level ms)
    (flats_deeper (out-Node a).children.items level (level + 1) (omega arith))
    (flats_deeper (out-Node b).children.items level (level + 1) (omega arith)) (at_level ns level)
    (at_level ms level) more in
    record { line = one; below = r.0; rest = r.1 }

pub matched_same : (level : ℕ) (a b : Node) (ns ms : List Node) → Matched level a b ns ms
    → IsSame (flats level (a ∷ ns)) (flats level (b ∷ ms))
matched_same level a b ns ms m =
    let under : Node → List Item = λ n. flats (level + 1) (out-Node n).children.items in
    ap (map unnumbered) (first_out a ns level)
    ∙ ap (λ (x : Item). x ∷ map unnumbered (under a ++ flats level ns)) m.line
    ∙ ap (λ (x : List Item). unnumbered (said level b) ∷ x)
    (joined (under a) (under b) (flats level ns) (flats level ms) m.below m.rest)
    ∙ ap (map unnumbered) (sym (first_out b ms level))

-- One step of a comparison: the nodes from the place i on are compared with those that are left of the others.
module _ (i : ℕ) (ns rest more : List Node) (a b : Node) (lt : i < length ns) (at : a ≡ get_or ns i a)
    (cut : rest ≡ b ∷ more) where
  abbrev IsLeft : ℕ → Type 0
  IsLeft level = IsSame (flats level (drop i ns)) (flats level rest)

  taken : drop i ns ≡ a ∷ drop (i + 1) ns
  taken = drop-cons ns i a lt ∙ ap (λ (x : Node). x ∷ drop (suc i) ns) (sym at) ∙ ap (λ (k : ℕ). a ∷ drop k ns)
      (sym (add-one i))

  pub left_matched : (level : ℕ) → IsLeft level → Matched level a b (drop (i + 1) ns) more
  left_matched level h = same_matched level a b (drop (i + 1) ns) more
      (ap (λ (x : List Node). map unnumbered (flats level x)) (sym taken) ∙ h
      ∙ ap (λ (x : List Node). map unnumbered (flats level x)) cut)

  matched_left : (level : ℕ) → Matched level a b (drop (i + 1) ns) more → IsLeft level
  matched_left level m = ap (λ (x : List Node). map unnumbered (flats level x)) taken ∙ matched_same level a b
      (drop (i + 1) ns) more m ∙ ap (λ (x : List Node). map unnumbered (flats level x)) (sym cut)

  -- where the two nodes are the same, what follows decides
  pub left_next : (level : ℕ) → unnumbered (said level a) ≡ unnumbered (said level b)
      → IsSame (flats (level + 1) (out-Node a).children.items) (flats (level + 1) (out-Node b).children.items)
      → IsLeft level ↔ IsSame (flats level (drop (i + 1) ns)) (flats level more)
  left_next level one two = (
    (λ h. (left_matched level h).rest),
    (λ h. matched_left level (record { line = one; below = two; rest = h })),
  )

-- at the end none is left of the others
pub left_ends : (i : ℕ) (ns rest : List Node) (level : ℕ) (r : Bool) → length ns ≤ i → r ≡ eqb (length rest) 0
    → IsTrue r ↔ IsSame (flats level (drop i ns)) (flats level rest)
left_ends i ns [] level r le e =
    ((λ h. ap (λ (x : List Node). map unnumbered (flats level x)) (drop_of_length-le ns le)), (λ h. e))
left_ends i ns (m ∷ ms) level r le e =
    let none : IsSame (flats level (m ∷ ms)) []
    → ⊥ = λ h. (let bad : IsSame (said level m ∷ (flats (level + 1) (out-Node m).children.items ++ flats level ms))
    [] = ap (map unnumbered) (sym (first_out m ms level)) ∙ h in cc) in (
      (λ h. absurd (omega (arith, eqb-true (length (m ∷ ms)) 0 (sym e ∙ h)))),
      (λ h. absurd (none (sym h ∙ ap (λ (x : List Node). map unnumbered (flats level x)) (drop_of_length-le ns le)))),
    )

pub both_ways : {P Q R : Type 0} → (P ↔ Q) → (Q ↔ R) → P ↔ R
both_ways f g = ((λ p. g.0 (f.0 p)), (λ r. f.1 (g.1 r)))

pub same_lists : (level : ℕ) (a b c d : List Node) → a ≡ c → b ≡ d → IsSame (flats level c) (flats level d)
    → IsSame (flats level a) (flats level b)
same_lists level a b c d e f h = ap (λ (x : List Node). map unnumbered (flats level x)) e ∙ h
    ∙ ap (λ (x : List Node). map unnumbered (flats level x)) (sym f)

-- one node of each
alone : (n : Node) (level : ℕ) → flats level (n ∷ []) ≡ flat n level
alone n level = append-nil (flat n level)

pub one_matched : (level : ℕ) (a b : Node) → IsSame (flat a level) (flat b level) → Matched level a b [] []
one_matched level a b h = same_matched level a b [] []
    (ap (map unnumbered) (alone a level) ∙ h ∙ ap (map unnumbered) (sym (alone b level)))

pub matched_one : (level : ℕ) (a b : Node) → unnumbered (said level a) ≡ unnumbered (said level b)
    → IsSame (flats (level + 1) (out-Node a).children.items) (flats (level + 1) (out-Node b).children.items)
    → IsSame (flat a level) (flat b level)
matched_one level a b one two = ap (map unnumbered) (sym (alone a level)) ∙ matched_same level a b [] []
    (record { line = one; below = two; rest = refl }) ∙ ap (map unnumbered) (alone b level)
