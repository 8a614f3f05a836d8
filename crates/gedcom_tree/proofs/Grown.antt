-- A node with one more child has that child's nodes at the end of its own.
use Rattle.std.proofs.Common.{
  ◌≡◌,
  ℕ,
  zero,
  suc,
  ◌+◌,
  ◌<◌,
  true,
  false,
  eqb,
  ltb,
  subst,
  List,
  [],
  ◌∷◌,
  ◌++◌,
  map,
  length,
  get_or,
  set,
  refl,
  sym,
  ap,
  ◌∙◌,
  append_assoc,
  arith,
}
use Rattle.std.proofs.lemmas.List.{append-nil, map-append}
use Rattle.std.specs.List.{list_all}
use Rattle.std.proofs.lemmas.Bool.{lt-ltb, le-ltb, eq-eqb}
use Rattle.gedcom_tree.specs.Forest.{Item, longer, longer_node, extended}
use Rattle.gedcom_tree.specs.Flat.{value_said, flat, flats, flat_step, all_at, said, flat_open, built}
use Rattle.gedcom_tree.specs.declared.node.Node.{Node}
use Rattle.gedcom_tree.specs.declared.node.Node.TheViews.{out-Node, roll-Node, out-roll-Node}
use Rattle.gedcom_tree.specs.declared.node.Node.TheOpen.{Node-F}
use Rattle.gedcom_tree.specs.declared.node.Node.TheFolds.{fold_out-Node, ind-Node}
use Rattle.gedcom_tree.proofs.Joined.{extended_deeper}
use Rattle.std.proofs.Math.Bool.{and-false}
use Rattle.gedcom_line.proofs.Again.{all-append}

pub flat_out : (n : Node) (level : ℕ) → flat n level ≡ said level n ∷ flats (level + 1) (out-Node n).children.items
flat_out n level = ap (λ (f : ℕ → List Item). f level) (fold_out-Node (ℕ → List Item) flat_step n)

pub all_at-append : (level : ℕ) (a b : List (ℕ → List Item)) → all_at level (a ++ b) ≡ all_at level a ++ all_at level b
all_at-append level [] b = refl
all_at-append level (f ∷ fs) b = ap (λ (x : List Item). f level ++ x) (all_at-append level fs b)
    ∙ sym (append_assoc (f level) (all_at level fs) (all_at level b))

pub flats_push : (level : ℕ) (ns : List Node) (n : Node) → flats level (ns ++ n ∷ []) ≡ flats level ns ++ flat n level
flats_push level ns n = ap (all_at level) (map-append flat ns (n ∷ [])) ∙ all_at-append level (map flat ns)
    (flat n ∷ []) ∙ ap (λ (x : List Item). all_at level (map flat ns) ++ x) (append-nil (flat n level))

-- n is m with one more child
pub flat_grown : (m n child : Node) (level : ℕ) → said level n ≡ said level m → (out-Node n).children.items
    ≡ (out-Node m).children.items ++ child ∷ [] → flat n level ≡ flat m level ++ flat child (level + 1)
flat_grown m n child level same more =
    flat_out n level ∙ ap (λ (x : List Node). said level n ∷ flats (level + 1) x) more
    ∙ ap (λ (x : List Item). said level n ∷ x) (flats_push (level + 1) (out-Node m).children.items child)
    ∙ ap (λ (x : Item). x ∷ (flats (level + 1) (out-Node m).children.items ++ flat child (level + 1))) same
    ∙ ap (λ (x : List Item). x ++ flat child (level + 1)) (sym (flat_out m level))

-- closing the last open node
pub open_closed : (level : ℕ) (os : List Node) (m n child : Node)
    → ((l : ℕ) → flat n l ≡ flat m l ++ flat child (l + 1)) → flat_open level (os ++ n ∷ []) ≡ flat_open level
    (os ++ m ∷ child ∷ [])
open_closed level [] m n child h = append-nil (flat n level) ∙ h level ∙ ap (λ (x : List Item). flat m level ++ x)
    (sym (append-nil (flat child (level + 1))))
open_closed level (o ∷ os) m n child h = ap (λ (x : List Item). flat o level ++ x)
    (open_closed (level + 1) os m n child h)

-- the last of some
record Last (A : Type 0) (xs : List A) (n : ℕ) (m x : A) : Type 0 where
  front : List A
  was : xs ≡ front ++ m ∷ []
  now : set xs n x ≡ front ++ x ∷ []
  size : length front ≡ n

last_is : {A : Type 0} (xs : List A) (n : ℕ) (m x : A) → n + 1 ≡ length xs → m ≡ get_or xs n m → Last A xs n m x
last_is [] n m x e h = absurd (omega arith)
last_is (y ∷ []) zero m x e h = record { front = []; was = ap (λ z. z ∷ []) (sym h); now = refl; size = refl }
last_is (y ∷ []) (suc n) m x e h = absurd (omega arith)
last_is (y ∷ z ∷ zs) zero m x e h = absurd (omega arith)
last_is (y ∷ z ∷ zs) (suc n) m x e h =
    let r = last_is (z ∷ zs) n m x (omega arith) h in
    record { front = y ∷ r.front; was = ap (λ t. y ∷ t) r.was; now = ap (λ t. y ∷ t) r.now; size = ap suc r.size }

-- the last open node becomes the last child of the one before it
pub closed_below : (roots popped all : List Node) (child parent grown : Node) (n : ℕ) → all ≡ popped ++ child ∷ []
    → n + 1 ≡ length popped → parent ≡ get_or popped n parent → ((l : ℕ) → said l grown ≡ said l parent)
    → (out-Node grown).children.items ≡ (out-Node parent).children.items ++ child ∷ []
    → built roots (set popped n grown) ≡ built roots all
closed_below roots popped all child parent grown n e len at same more =
    let r = last_is popped n parent grown len at in
    let f : List Node = r.front in
    let whole : all ≡ f ++ parent ∷ child ∷ [] = e ∙ ap (λ (x : List Node). x ++ child ∷ []) r.was
    ∙ append_assoc f (parent ∷ []) (child ∷ []) in
    ap (built roots) r.now
    ∙ ap (λ (x : List Item). flats 0 roots ++ x)
    (open_closed 0 f parent grown child (λ l. flat_grown parent grown child l (same l) more))
    ∙ ap (built roots) (sym whole)

pub closed_rolled : (roots popped all : List Node) (child parent : Node) (r : Node-F Node) (n : ℕ)
    → all ≡ popped ++ child ∷ [] → n + 1 ≡ length popped → parent ≡ get_or popped n parent
    → r.line ≡ (out-Node parent).line → r.xref ≡ (out-Node parent).xref → r.tag ≡ (out-Node parent).tag
    → r.value ≡ (out-Node parent).value → r.children.items ≡ (out-Node parent).children.items ++ child ∷ []
    → built roots (set popped n (roll-Node r)) ≡ built roots all
closed_rolled roots popped all child parent r n e len at i x t v more =
    let o : out-Node (roll-Node r) ≡ r = out-roll-Node r in
    closed_below roots popped all child parent (roll-Node r) n e len at (λ l. rw (o, i, x, t, v) refl)
    (ap (λ (y : Node-F Node). y.children.items) o ∙ more)

-- the only open node becomes the last of level 0
pub closed_at_zero : (roots more popped all : List Node) (child : Node) → all ≡ popped ++ child ∷ [] → length popped ≡ 0
    → more ≡ roots ++ child ∷ [] → built more popped ≡ built roots all
closed_at_zero roots more [] all child e z m =
    append-nil (flats 0 more) ∙ ap (flats 0) m ∙ flats_push 0 roots child ∙ ap (λ (x : List Item). flats 0 roots ++ x)
    (sym (append-nil (flat child 0))) ∙ ap (built roots) (sym e)
closed_at_zero roots more (p ∷ ps) all child e z m = absurd (omega arith)

-- a node without children opens at the depth of the path
flat_leaf : (n : Node) (level : ℕ) → (out-Node n).children.items ≡ [] → flat n level ≡ said level n ∷ []
flat_leaf n level h = flat_out n level ∙ ap (λ (x : List Node). said level n ∷ flats (level + 1) x) h

open_push : (level : ℕ) (os : List Node) (n : Node) → flat_open level (os ++ n ∷ []) ≡ flat_open level os ++ flat n
    (level + length os)
open_push level [] n = append-nil (flat n level) ∙ ap (flat n) (zero_right level)
  where
    zero_right : (k : ℕ) → k ≡ k + 0
    zero_right k = omega arith
open_push level (o ∷ os) n =
    ap (λ (x : List Item). flat o level ++ x) (open_push (level + 1) os n)
    ∙ sym (append_assoc (flat o level) (flat_open (level + 1) os) (flat n (level + 1 + length os)))
    ∙ ap (λ (k : ℕ). (flat o level ++ flat_open (level + 1) os) ++ flat n k) (omega arith)

pub opened : (roots path more : List Node) (n : Node) (level : ℕ) → more ≡ path ++ n ∷ [] → length path ≡ level
    → (out-Node n).children.items ≡ [] → built roots more ≡ built roots path ++ said level n ∷ []
opened roots path more n level m d leaf =
    ap (built roots) m
    ∙ ap (λ (x : List Item). flats 0 roots ++ x)
    (open_push 0 path n ∙ ap (λ (k : ℕ). flat_open 0 path ++ flat n k) (omega arith)
    ∙ ap (λ (x : List Item). flat_open 0 path ++ x) (flat_leaf n level leaf))
    ∙ sym (append_assoc (flats 0 roots) (flat_open 0 path) (said level n ∷ []))

-- all nodes below a node are deeper
abbrev IsDeeper : Node → Type 0
IsDeeper n = (k level : ℕ) → k < level → list_all (λ j. ltb k j.level) (flat n level) ≡ true

children_deeper : (es : List ((n : Node) × IsDeeper n)) (k level : ℕ) → k < level
    → list_all (λ j. ltb k j.level) (flats level (map (λ e. e.0) es)) ≡ true
children_deeper [] k level h = refl
children_deeper (e ∷ es) k level h = all-append (λ j. ltb k j.level) (flat e.0 level) (flats level (map (λ d. d.0) es))
    (e.1 k level h) (children_deeper es k level h)

flat_deeper : (n : Node) → IsDeeper n
flat_deeper = ind-Node IsDeeper (λ x y is k level h.
    let below : list_all (λ j. ltb k j.level) (flats (level + 1) x.children.items) ≡ true = subst
    (λ (z : Node-F Node). list_all (λ j. ltb k j.level) (flats (level + 1) z.children.items) ≡ true) is
    (children_deeper y.children.items k (level + 1) (omega (arith, h))) in
    let o : out-Node (roll-Node x) ≡ x = out-roll-Node x in
    ap (λ (f : List Item). list_all (λ j. ltb k j.level) f) (flat_out (roll-Node x) level)
    ∙ ap (λ (c : Node-F Node). list_all (λ j. ltb k j.level)
    (said level (roll-Node x) ∷ flats (level + 1) c.children.items)) o
    ∙ rw (lt-ltb k level h) below)

pub flats_deeper : (ns : List Node) (k level : ℕ) → k < level → list_all (λ j. ltb k j.level) (flats level ns) ≡ true
flats_deeper [] k level h = refl
flats_deeper (n ∷ ns) k level h = all-append (λ j. ltb k j.level) (flat n level) (flats level ns)
    (flat_deeper n k level h) (flats_deeper ns k level h)

-- the last node of a level gets a longer text
not_all : (k : ℕ) (a b : List Item) (i : Item) → i.level ≡ k → list_all (λ j. ltb k j.level) (a ++ i ∷ b) ≡ false
not_all k [] b i h = rw (h, le-ltb k k (omega arith)) refl
not_all k (x ∷ xs) b i h = rw (not_all k xs b i h) (and-false (ltb k x.level))

extended_at : (k : ℕ) (t : List ℕ) (a b : List Item) (i : Item) → i.level ≡ k → list_all (λ j. ltb k j.level) b ≡ true
    → extended k t (a ++ i ∷ b) ≡ a ++ longer_node t i ∷ b
extended_at k t [] b i h d = rw (h, eq-eqb k k refl, d, extended_deeper k t b d) refl
extended_at k t (x ∷ xs) b i h d = rw (not_all k xs b i h, and-false (eqb x.level k), extended_at k t xs b i h d) refl

open_last : (roots front : List Node) (n : Node) → built roots (front ++ n ∷ []) ≡ (flats 0 roots ++ flat_open 0 front)
    ++ said (length front) n ∷ flats (length front + 1) (out-Node n).children.items
open_last roots front n =
    ap (λ (x : List Item). flats 0 roots ++ x)
    (open_push 0 front n ∙ ap (λ (x : List Item). flat_open 0 front ++ x)
    (ap (flat n) (omega arith) ∙ flat_out n (length front)))
    ∙ sym (append_assoc (flats 0 roots) (flat_open 0 front)
    (said (length front) n ∷ flats (length front + 1) (out-Node n).children.items))

pub joined_last : (roots path : List Node) (above longer : Node) (n : ℕ) (t : List ℕ) → n + 1 ≡ length path
    → above ≡ get_or path n above → said n longer ≡ longer_node t (said n above)
    → (out-Node longer).children.items ≡ (out-Node above).children.items → built roots (set path n longer)
    ≡ extended n t (built roots path)
joined_last roots path above longer n t len at same more =
    let r = last_is path n above longer len at in
    let f : List Node = r.front in
    let a : List Item = flats 0 roots ++ flat_open 0 f in
    let b : List Item = flats (length f + 1) (out-Node above).children.items in
    let deep : list_all (λ j. ltb (length f) j.level) b ≡ true = flats_deeper (out-Node above).children.items (length f)
    (length f + 1) (omega arith) in
    let said_same : said (length f) longer ≡ longer_node t (said (length f) above) = subst
    (λ (k : ℕ). said k longer ≡ longer_node t (said k above)) (sym r.size) same in
    ap (built roots) r.now
    ∙ open_last roots f longer
    ∙ ap (λ (x : List Node). a ++ said (length f) longer ∷ flats (length f + 1) x) more
    ∙ ap (λ (i : Item). a ++ i ∷ b) said_same
    ∙ sym (extended_at (length f) t a b (said (length f) above) refl deep)
    ∙ ap (extended (length f) t) (sym (open_last roots f above) ∙ ap (built roots) (sym r.was))
    ∙ ap (λ (k : ℕ). extended k t (built roots path)) r.size

pub joined_rolled : (roots path : List Node) (above : Node) (r : Node-F Node) (n : ℕ) (t : List ℕ) → n + 1 ≡ length path
    → above ≡ get_or path n above → r.line ≡ (out-Node above).line → r.xref ≡ (out-Node above).xref
    → r.tag ≡ (out-Node above).tag → value_said r.value ≡ longer t (value_said (out-Node above).value)
    → r.children.items ≡ (out-Node above).children.items → built roots (set path n (roll-Node r))
    ≡ extended n t (built roots path)
joined_rolled roots path above r n t len at i x g v more =
    let o : out-Node (roll-Node r) ≡ r = out-roll-Node r in
    joined_last roots path above (roll-Node r) n t len at (rw (o, i, x, g, v) refl)
    (ap (λ (y : Node-F Node). y.children.items) o ∙ more)

-- the same node but for the memory of its children
pub same_flat : (n : Node) (r : Node-F Node) → r.line ≡ (out-Node n).line → r.xref ≡ (out-Node n).xref
    → r.tag ≡ (out-Node n).tag → r.value ≡ (out-Node n).value → r.children.items ≡ (out-Node n).children.items
    → (level : ℕ) → flat (roll-Node r) level ≡ flat n level
same_flat n r i x t v same level =
    let o : out-Node (roll-Node r) ≡ r = out-roll-Node r in
    let said_same : said level (roll-Node r) ≡ said level n = rw (o, i, x, t, v) refl in
    let below : (out-Node (roll-Node r)).children.items ≡ (out-Node n).children.items = ap
    (λ (y : Node-F Node). y.children.items) o ∙ same in
    flat_out (roll-Node r) level
    ∙ ap (λ (y : Item). y ∷ flats (level + 1) (out-Node (roll-Node r)).children.items) said_same
    ∙ ap (λ (y : List Node). said level n ∷ flats (level + 1) y) below
    ∙ sym (flat_out n level)

pub same_last : (roots front : List Node) (a b : Node) → ((level : ℕ) → flat a level ≡ flat b level)
    → built roots (front ++ a ∷ []) ≡ built roots (front ++ b ∷ [])
same_last roots front a b h =
    ap (λ (x : List Item). flats 0 roots ++ x)
    (open_push 0 front a ∙ ap (λ (x : List Item). flat_open 0 front ++ x) (h (0 + length front))
    ∙ sym (open_push 0 front b))
