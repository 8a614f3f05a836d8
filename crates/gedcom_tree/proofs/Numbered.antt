-- The lines of a forest are read as the forest, each node with the number of its own line.
use Rattle.std.proofs.Common.{
  ◌≡◌,
  ℕ,
  ◌+◌,
  ◌<◌,
  true,
  false,
  cond,
  eqb,
  ltb,
  List,
  [],
  ◌∷◌,
  ◌++◌,
  length,
  map,
  refl,
  sym,
  ap,
  ◌∙◌,
  subst,
  inl,
  inr,
  arith,
  Some,
  None,
  codes,
  eq-eqb,
}
use Rattle.std.specs.List.{flat_map, list_any}
use Rattle.std.specs.Str.{bytes_eq}
use Rattle.std.proofs.lemmas.Bool.{ltb-true, lt-ltb, cases_Bool}
use Rattle.std.proofs.lemmas.List.{length-map}
use Rattle.gedcom_line.specs.Escape.{escaped, unescaped}
use Rattle.gedcom_line.specs.Reading.{Parts, is_continuation}
use Rattle.gedcom_line.specs.Spelling.{IsXref}
use Rattle.gedcom_line.specs.Split.{Part, canonical, between, added, joined}
use Rattle.gedcom_line.specs.Value.{Meaning, Text, Pointer, IsPointer}
use Rattle.gedcom_line.specs.declared.splitting.Mark.{Mark}
use Rattle.gedcom_line.specs.declared.splitting.Mark.TheVariants.{Conc, Cont}
use Rattle.gedcom_line.proofs.Steps.{eqb_false}
use Rattle.gedcom_line.proofs.Cuts.{joined-canonical}
use Rattle.gedcom_line.proofs.Doubled.{unescaped-escaped}
use Rattle.gedcom_line.proofs.Pointers.{escaped_no_pointer, pointer_is}
use Rattle.gedcom_rules.specs.Rules.{is_trailer}
use Rattle.gedcom_tree.specs.Forest.{
  Item,
  IsValue,
  Reads,
  mark_tag,
  part_line,
  first_text,
  rest_parts,
  own_raw,
  more_parts,
  node_lines,
  lines_of,
}
use Rattle.gedcom_rules.specs.Continuing.{belongs, adds}
use Rattle.gedcom_tree.specs.Text.{IsNodeValue, EachNode, unnumbered, IsSame}

-- the node with another number
abbrev pub renumbered : ℕ → Item → Item
renumbered n i = record { line = n; level = i.level; xref = i.xref; tag = i.tag; value = i.value }

-- each node with the number of its own line, where n is that of the first; continuations stand between them
abbrev pub numbered : ℕ → List Item → List Item
numbered n [] = []
numbered n (i ∷ is) = renumbered n i ∷ numbered (n + length (node_lines i)) is

pub numbered_same : (n : ℕ) (f : List Item) → IsSame f (numbered n f)
numbered_same n [] = refl
numbered_same n (i ∷ is) = ap (λ (x : List Item). unnumbered i ∷ x) (numbered_same (n + length (node_lines i)) is)

pub lines_nil : lines_of [] ≡ []
unfolding lines_of
lines_nil = refl

pub lines_cons : (i : Item) (is : List Item) → lines_of (i ∷ is) ≡ node_lines i ++ lines_of is
unfolding lines_of
lines_cons i is = refl

-- what a continuation is, and adds
pub mark_continues : (m : Mark) → is_continuation (mark_tag m) ≡ true
mark_continues Conc = refl
mark_continues Cont = refl

mark_adds : (m : Mark) → cond (bytes_eq (mark_tag m) (codes "CONT")) (10 ∷ []) [] ≡ between m
mark_adds Conc = refl
mark_adds Cont = refl

pub part_adds : (level : ℕ) (p : Part) → adds (part_line level p) ≡ added p
part_adds level p = rw (mark_adds p.mark, unescaped-escaped p.text) refl

parts_add : (level : ℕ) (ps : List Part) → flat_map adds (map (part_line level) ps) ≡ flat_map added ps
parts_add level [] = refl
parts_add level (p ∷ ps) = rw (part_adds level p, parts_add level ps) refl

pub joined_first : (ps : List Part) → first_text ps ++ flat_map added (rest_parts ps) ≡ joined ps
joined_first [] = refl
joined_first (p ∷ ps) = refl

-- the value is read again
pub marked_pointer : (p : List ℕ) → IsXref (Some p) → IsPointer p p
marked_pointer p h = record {
  front = [];
  inner = h.0;
  back = [];
  before = refl;
  named = h.1.0;
  marked = h.1.1.1;
  behind = refl;
  parts = h.1.1.1;
}

pub no_pointer : (t name : List ℕ) → ¬ (IsPointer (escaped t) name)
no_pointer t name h = let bad : None ≡ Some name = sym (escaped_no_pointer t) ∙ pointer_is (escaped t) name h in
    absurd cc

pub value_again : (level : ℕ) (v : Meaning) → IsNodeValue v → IsValue (own_raw v)
    (map (part_line level) (more_parts v)) v
value_again level (Text t) h =
    let parts : unescaped (own_raw (Text t)) ++ flat_map adds (map (part_line level) (more_parts (Text t)))
    ≡ first_text (canonical t) ++ flat_map added (rest_parts (canonical t)) =
    rw (unescaped-escaped (first_text (canonical t)), parts_add level (rest_parts (canonical t))) refl in
    (no_pointer (first_text (canonical t)), sym (parts ∙ joined_first (canonical t) ∙ joined-canonical t))
value_again level (Pointer p) h = (marked_pointer p h, refl)

-- its continuations belong to it, and no lines of later nodes do
belongs_parts : (level : ℕ) (ps : List Part) (rest : List Parts) → belongs level rest ≡ []
    → belongs level (map (part_line (level + 1)) ps ++ rest) ≡ map (part_line (level + 1)) ps
belongs_parts level [] rest h = h
belongs_parts level (p ∷ ps) rest h =
    let deep : ltb level (level + 1) ≡ true = lt-ltb level (level + 1) (omega arith) in
    let same : eqb (level + 1) (level + 1) ≡ true = eq-eqb (level + 1) (level + 1) refl in
    rw (deep, mark_continues p.mark, same, belongs_parts level ps rest h) refl

belongs_others : (level other : ℕ) (ps : List Part) (rest : List Parts) → level + 1 < other
    → belongs level (map (part_line other) ps ++ rest) ≡ belongs level rest
belongs_others level other [] rest h = refl
belongs_others level other (p ∷ ps) rest h =
    let deep : ltb level other ≡ true = lt-ltb level other (omega (arith, h)) in
    let apart : eqb other (level + 1) ≡ false = eqb_false other (level + 1) (λ e. absurd (omega (arith, h, e))) in
    rw (deep, mark_continues p.mark, apart) (belongs_others level other ps rest h)

belongs_later : (level : ℕ) (is : List Item) → EachNode is → belongs level (lines_of is) ≡ []
belongs_later level [] h = rw lines_nil refl
belongs_later level (j ∷ js) h = rw (lines_cons j js) (elim (cases_Bool (ltb level j.level)) [
  | inl e ↦ rw (e, h.0.own) (belongs_others level (j.level + 1) (more_parts j.value) (lines_of js)
      (omega (arith, ltb-true level j.level e)) ∙ belongs_later level js h.1)
  | inr e ↦ rw e refl
])

reads_parts : (level : ℕ) (ps : List Part) (n : ℕ) (rest : List Parts) (f : List Item) → Reads (n + length ps) rest f
    → Reads n (map (part_line level) ps ++ rest) f
reads_parts level [] n rest f h = let e : n + 0 ≡ n = omega arith in subst (λ (k : ℕ). Reads k rest f) e h
reads_parts level (p ∷ ps) n rest f h =
    let e : n + length (p ∷ ps) ≡ (n + 1) + length ps = omega arith in
    inl (mark_continues p.mark, reads_parts level ps (n + 1) rest f (subst (λ (k : ℕ). Reads k rest f) e h))

pub lines_read : (n : ℕ) (f : List Item) → EachNode f → Reads n (lines_of f) (numbered n f)
lines_read n [] h = rw lines_nil refl
lines_read n (i ∷ is) h =
    let ps : List Part = more_parts i.value in
    let next : ℕ = n + length (node_lines i) in
    let more : belongs i.level (map (part_line (i.level + 1)) ps ++ lines_of is) ≡ map (part_line (i.level + 1))
    ps = belongs_parts i.level ps (lines_of is) (belongs_later i.level is h.1) in
    let value : IsValue (own_raw i.value) (belongs i.level (map (part_line (i.level + 1)) ps ++ lines_of is))
    i.value = subst (λ (x : List Parts). IsValue (own_raw i.value) x i.value) (sym more)
    (value_again (i.level + 1) i.value h.0.value) in
    let at : next ≡ (n + 1) + length ps = omega (arith, length-map ps (part_line (i.level + 1))) in
    let rest : Reads ((n + 1) + length ps) (lines_of is) (numbered next is) = subst
    (λ (k : ℕ). Reads k (lines_of is) (numbered next is)) at (lines_read next is h.1) in
    rw (lines_cons i is) (inr (
      h.0.own,
      (
        renumbered n i,
        (
          numbered next is,
          (
            refl,
            (
              record { line = refl; level = refl; xref = refl; tag = refl; value = value },
              reads_parts (i.level + 1) ps (n + 1) (lines_of is) (numbered next is) rest,
            ),
          ),
        ),
      ),
    ))

-- the trailer is not among them
untrailed_parts : (level : ℕ) (ps : List Part) (rest : List Parts) → eqb level 0 ≡ false
    → list_any is_trailer rest ≡ false → list_any is_trailer (map (part_line level) ps ++ rest) ≡ false
untrailed_parts level [] rest h k = k
untrailed_parts level (p ∷ ps) rest h k = rw h (untrailed_parts level ps rest h k)

pub no_trailer : (f : List Item) → EachNode f → list_any is_trailer (lines_of f) ≡ false
no_trailer [] h = rw lines_nil refl
no_trailer (i ∷ is) h =
    let deep : eqb (i.level + 1) 0 ≡ false = eqb_false (i.level + 1) 0 (λ e. absurd (omega (arith, e))) in
    rw (lines_cons i is, h.0.other) (untrailed_parts (i.level + 1) (more_parts i.value) (lines_of is) deep
    (no_trailer is h.1))
