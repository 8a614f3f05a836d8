-- The forest that a file reads as is one: HEAD stands first, levels rise by one at most, and its nodes can be written.
use Rattle.std.proofs.Common.{
  ◌≡◌,
  ℕ,
  ◌+◌,
  ◌≤◌,
  true,
  false,
  eqb,
  ltb,
  leb,
  List,
  [],
  ◌∷◌,
  length,
  refl,
  sym,
  subst,
  inl,
  inr,
  arith,
  codes,
}
use Rattle.std.specs.List.{list_any}
use Rattle.std.specs.Str.{bytes_eq}
use Rattle.std.proofs.lemmas.Bool.{eqb-true, le-leb, lt-ltb, not-false, and_parts, cases_Bool}
use Rattle.std.proofs.lemmas.Slice.Eq.{bytes_eq-Decides}
use Rattle.gedcom_line.specs.Reading.{Parts, is_continuation}
use Rattle.gedcom_line.specs.Spelling.{IsLine}
use Rattle.gedcom_line.proofs.Steps.{eqb_no}
use Rattle.gedcom_rules.specs.Rules.{Progress, is_head, is_trailer}
use Rattle.gedcom_rules.specs.Faults.{Clean}
use Rattle.gedcom_tree.specs.File.{untrailed, ReadsFile}
use Rattle.gedcom_tree.specs.Forest.{Item, node_of, forest_of}
use Rattle.gedcom_rules.specs.Continuing.{belongs}
use Rattle.gedcom_rules.specs.Judging.{start, after}
use Rattle.gedcom_tree.specs.Text.{is_tag, IsNodeOf, EachNode, IsForest}
use Rattle.gedcom_rules.proofs.Unbroken.{unbroken}
use Rattle.gedcom_tree.proofs.Trailed.{untrailed_cons}
use Rattle.gedcom_tree.proofs.Computed.{reads_computed}
use Rattle.gedcom_tree.proofs.Fitting.{Fit, Fits, clean_fits}
use Rattle.gedcom_tree.proofs.Valued.{fit_value}
use Rattle.gedcom_tree.proofs.Named.{fits_rises, fits_distinct}
use Rattle.gedcom_tree.proofs.Headed.{fits_header}
use Rattle.gedcom_line.proofs.Whole.{is_continuation_of}

low_level : (l : Parts) → IsLine l → is_continuation l.tag ≡ false → l.level ≤ 98
low_level l i own = elim (cases_Bool (eqb l.level 99)) [
  | inl e ↦ let c : is_continuation l.tag ≡ true = is_continuation_of l.tag (i.high (eqb-true l.level 99 e)) in
      absurd cc
  | inr e ↦ let n : l.level ≡ 99 → ⊥ = eqb_no l.level 99 e in omega (arith, i.level, n)
]

tag_kept : (l : Parts) → IsLine l → is_tag l.tag ≡ true
tag_kept l i =
    let some : ltb 0 (length l.tag) ≡ true = lt-ltb 0 (length l.tag) i.some in
    let short : leb (length l.tag) 31 ≡ true = le-leb (length l.tag) 31 i.short in
    rw (i.tag, some, short) refl

fit_node : (n : ℕ) (q : Progress) (l : Parts) (ls : List Parts) → Fit q l → Fits (after q l) ls
    → is_continuation l.tag ≡ false → IsNodeOf (node_of n l (belongs l.level ls))
fit_node n q l ls f g own = record {
  low = low_level l f.line own;
  tag = tag_kept l f.line;
  own = own;
  other = f.other;
  xref = f.line.xref;
  value = fit_value q l ls f g;
}

fits_nodes : (n : ℕ) (q : Progress) (ls : List Parts) → Fits q ls → EachNode (forest_of n ls)
unfolding forest_of
fits_nodes n q [] f = tt
fits_nodes n q (l ∷ ls) f = elim (cases_Bool (is_continuation l.tag)) [
  | inl c ↦ rw c (fits_nodes (n + 1) (after q l) ls f.1)
  | inr c ↦ rw c (fit_node n q l ls f.0 f.1 c, fits_nodes (n + 1) (after q l) ls f.1)
]

-- the first line
record First (l : Parts) : Type 0 where
  level : l.level ≡ 0
  tag : l.tag ≡ codes "HEAD"

first_is : (l : Parts) → is_head l ≡ true → First l
first_is l h =
    let r = and_parts (eqb l.level 0) (bytes_eq l.tag (codes "HEAD")) h in
    record { level = eqb-true l.level 0 r.0; tag = (bytes_eq-Decides l.tag (codes "HEAD")).0 r.1 }

head_own : (l : Parts) → is_head l ≡ true → is_continuation l.tag ≡ false
head_own l h = rw (first_is l h).tag refl

head_other : (l : Parts) → is_head l ≡ true → is_trailer l ≡ false
head_other l h = rw ((first_is l h).level, (first_is l h).tag) refl

shaped_lines : (l : Parts) (ls : List Parts) → Fits start (l ∷ ls) → IsForest (forest_of 1 (l ∷ ls))
unfolding forest_of
shaped_lines l ls f =
    let head : is_head l ≡ true = not-false (is_head l) f.0.rules.head in
    let own : is_continuation l.tag ≡ false = head_own l head in
    let low : l.level ≤ 0 = omega (arith, (first_is l head).level) in
    let nodes : EachNode (forest_of 1 (l ∷ ls)) = fits_nodes 1 start (l ∷ ls) f in
    let names = fits_distinct 1 start (l ∷ ls) f in
    rw own (record {
      head = head;
      nodes = (fit_node 1 start l ls f.0 f.1 own, fits_nodes (1 + 1) (after start l) ls f.1);
      levels = fits_rises (1 + 1) 0 (after start l) ls (inl low) f.1;
      names = rw own at names;
      header = fits_header (1 + 1) (after start l) ls false refl (λ h on. absurd cc) f.1;
    })

-- clean pieces begin with HEAD
same_first : (l m : Parts) (ls ms : List Parts) → l ∷ ls ≡ m ∷ ms → l ≡ m
same_first l m ls ms e = cc

clean_head : (ps : List (List ℕ)) (l : Parts) (ls : List Parts) → Clean [] ps (l ∷ ls) → is_head l ≡ true
clean_head [] l ls h = absurd cc
clean_head (p ∷ ps) l ls (s, inl h) = clean_head ps l ls h.1
clean_head (p ∷ ps) l ls (s, inr h) =
    let r = clean_fits (h.0 ∷ []) ps (l ∷ ls) h.1.1.1 in
    let first : l ≡ h.0 = same_first l h.0 ls r.0 r.1.0 in
    let head : is_head h.0 ≡ true = not-false (is_head h.0) (unbroken start h.0 h.1.1.0).head in
    subst (λ (m : Parts). is_head m ≡ true) (sym first) head

lines_shaped : (ps : List (List ℕ)) (ls : List Parts) → Clean [] ps ls → Fits start (untrailed ls)
    → list_any is_trailer ls ≡ true → IsForest (forest_of 1 (untrailed ls))
lines_shaped ps [] c f t = absurd cc
lines_shaped ps (l ∷ ls) c f t =
    let same : untrailed (l ∷ ls) ≡ l ∷ untrailed ls = untrailed_cons l ls (head_other l (clean_head ps l ls c)) in
    subst (λ (ms : List Parts). IsForest (forest_of 1 ms)) (sym same)
    (shaped_lines l (untrailed ls) (subst (Fits start) same f))

pub reads_forest : (b : List ℕ) (f : List Item) → ReadsFile b f → IsForest f
reads_forest b f h =
    let c = clean_fits [] _ h.lines h.clean in
    let fits : Fits start (untrailed h.lines) = subst (λ (ls : List Parts). Fits start (untrailed ls))
    (sym c.1.0) c.1.1 in
    subst IsForest (reads_computed 1 (untrailed h.lines) f h.forest) (lines_shaped _ h.lines h.clean fits h.ended)
