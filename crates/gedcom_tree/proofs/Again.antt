-- The text of a forest is read as that forest, but for the numbers of its lines.
use Rattle.std.proofs.Common.{
  ◌≡◌,
  ℕ,
  ◌+◌,
  ◌≤◌,
  Bool,
  true,
  false,
  eqb,
  leb,
  not,
  ◌&&◌,
  ◌||◌,
  List,
  [],
  ◌∷◌,
  ◌++◌,
  length,
  map,
  refl,
  sym,
  ap,
  ◌∙◌,
  subst,
  arith,
  append_assoc,
  append-nil,
  Option,
  Some,
  None,
  codes,
}
use Rattle.std.specs.Option.{option_map_or}
use Rattle.std.specs.List.{flat_map, list_any}
use Rattle.std.specs.Str.{bytes_eq}
use Rattle.std.proofs.lemmas.Bool.{eqb-true, leb-true, le-ltb, not-true, and_parts}
use Rattle.gedcom_line.specs.Reading.{Parts}
use Rattle.gedcom_line.specs.Spelling.{spelling}
use Rattle.gedcom_line.proofs.Again.{inner_nil}
use Rattle.gedcom_line.proofs.Counts.{char_count-nil}
use Rattle.gedcom_rules.specs.Pieces.{all_pieces}
use Rattle.gedcom_rules.specs.Rules.{Progress, role_of, is_trailer, is_continued, names_set, names_version}
use Rattle.gedcom_rules.specs.Faults.{max_file, Clean}
use Rattle.gedcom_tree.specs.File.{untrailed, ReadsFile}
use Rattle.gedcom_tree.specs.Forest.{Item, part_line, more_parts, own_line, node_lines, lines_of, Reads}
use Rattle.gedcom_rules.specs.Judging.{start, after}
use Rattle.gedcom_tree.specs.Text.{
  line_text,
  trailer,
  text,
  IsNodeOf,
  EachNode,
  rises,
  is_charset_node,
  is_version_node,
  keeps_header,
  is_called,
  are_distinct,
  IsForest,
  IsSame,
}
use Rattle.gedcom_rules.proofs.Unbroken.{Unbroken}
use Rattle.gedcom_tree.proofs.Trailed.{untrailed-push}
use Rattle.gedcom_tree.proofs.Lines.{Keeps, keeps_clean, lines_pieces, text_lines}
use Rattle.gedcom_tree.proofs.Numbered.{numbered, numbered_same, lines_nil, lines_cons, lines_read, no_trailer}
use Rattle.gedcom_tree.proofs.Parted.{Written, own_written}
use Rattle.gedcom_tree.proofs.Roles.{own_role}
use Rattle.gedcom_rules.proofs.Bools.{counted}
use Rattle.gedcom_tree.proofs.Kept.{
  Stands,
  role_at,
  above_own,
  name_apart,
  head_after,
  gedcom_after,
  own_stands,
  no_set,
  no_version,
  Heads,
  own_unbroken,
}
use Rattle.gedcom_tree.proofs.Continued.{keeps_line, more_keeps}

-- what keeps_header says of the first node, there and after its own line
guarded : (a b : Bool) → not (a && not b) ≡ true → a ≡ true → b ≡ true
guarded true true h e = refl
guarded true false h e = absurd cc
guarded false b h e = absurd cc

header_heads : (h u : Bool) (i : Item) (is : List Item) → keeps_header h u (i ∷ is) ≡ true
    → Heads h u i × (keeps_header (head_after h i) (gedcom_after u i) is ≡ true)
header_heads h u i is k =
    let a = and_parts _ (keeps_header (head_after h i) (gedcom_after u i) is) k in
    let b = and_parts _ _ a.0 in (
      record {
        charset = guarded (h && eqb i.level 1 && bytes_eq i.tag (codes "CHAR")) (is_charset_node i.value) b.0;
        version = guarded (h && eqb i.level 2 && bytes_eq i.tag (codes "VERS") && u) (is_version_node i.value) b.1;
      },
      a.1,
    )

heads_after : (h u : Bool) (i : Item) → Heads h u i → Heads (head_after h i) (gedcom_after u i) i
heads_after h u i a = record {
  charset = λ e.
      let b = and_parts (head_after h i && eqb i.level 1) (bytes_eq i.tag (codes "CHAR")) e in
      let c = and_parts (head_after h i) (eqb i.level 1) b.0 in
      let d = and_parts h (not (eqb i.level 0)) c.0 in
      a.charset (rw (d.0, c.1, b.1) refl);
  version = λ e.
      let b = and_parts (head_after h i && eqb i.level 2 && bytes_eq i.tag (codes "VERS")) (gedcom_after u i) e in
      let c = and_parts (head_after h i && eqb i.level 2) (bytes_eq i.tag (codes "VERS")) b.0 in
      let d = and_parts (head_after h i) (eqb i.level 2) c.0 in
      let f = and_parts h (not (eqb i.level 0)) d.0 in
      let two : i.level ≡ 2 = eqb-true i.level 2 d.1 in
      let one : eqb i.level 1 ≡ false = ap (λ (n : ℕ). eqb n 1) two in
      let under : u ≡ true = (rw one at b.1) in
      a.version (rw (f.0, d.1, c.1, under) refl);
}

-- the trailer, and the nodes after others
pub trailer_written : Written trailer
trailer_written = record {
  line = record {
    level = omega arith;
    high = λ e. absurd (omega (arith, e));
    xref = tt;
    tag = refl;
    some = omega arith;
    short = omega arith;
    raw = inner_nil;
  };
  chars = omega (arith, char_count-nil);
}

trailer_keeps : (q : Progress) (level : ℕ) (h u : Bool) → Stands q level h u [] → Keeps q (trailer ∷ [])
trailer_keeps q level h u s =
    let set : names_set q 0 (role_of (codes "TRLR")) ≡ false = no_set q 0 (role_of (codes "TRLR")) refl in
    let version : names_version q 0 (role_of (codes "TRLR")) ≡ false = no_version q 0 (role_of (codes "TRLR")) refl in
    keeps_line q trailer [] trailer_written (record {
      done = s.done;
      head = rw s.count refl;
      jump = le-ltb (q.last + 1) 0 (omega arith);
      above = refl;
      goes_on = refl;
      name = refl;
      room = refl;
      charset = rw set refl;
      version = rw version refl;
    }) tt

node_lines_keep : (q : Progress) (i : Item) (is : List Item) (h u : Bool) → IsNodeOf i → Unbroken q (own_line i)
    → Heads h u i → Stands (after q (own_line i)) i.level h u is
    → ((p : Progress) → Stands p i.level h u is → Keeps p (lines_of is ++ trailer ∷ []))
    → Keeps q (lines_of (i ∷ is) ++ trailer ∷ [])
node_lines_keep q i is h u n b a s k =
    let all : lines_of (i ∷ is) ++ trailer ∷ [] ≡ own_line i
    ∷ (map (part_line (i.level + 1)) (more_parts i.value) ++ (lines_of is ++ trailer ∷ [])) =
    ap (λ (x : List Parts). x ++ trailer ∷ []) (lines_cons i is) ∙ append_assoc (node_lines i) (lines_of is)
    (trailer ∷ []) in
    subst (Keeps q) (sym all)
    (keeps_line q (own_line i) (map (part_line (i.level + 1)) (more_parts i.value) ++ (lines_of is ++ trailer ∷ []))
    (own_written i n) b (more_keeps i h u is (lines_of is ++ trailer ∷ []) (after q (own_line i)) n a s
    (above_own q.above (own_line i)) k))

items_keep : (is : List Item) (q : Progress) (level : ℕ) (h u : Bool) → Stands q level h u is → EachNode is
    → rises level is ≡ true → are_distinct is ≡ true → keeps_header h u is ≡ true
    → Keeps q (lines_of is ++ trailer ∷ [])
items_keep [] q level h u s n r d k = rw lines_nil (trailer_keeps q level h u s)
items_keep (i ∷ is) q level h u s n r d k =
    let rise = and_parts (leb i.level (level + 1)) (rises i.level is) r in
    let low : i.level ≤ level + 1 = leb-true i.level (level + 1) rise.0 in
    let apart = and_parts (not (option_map_or (λ x. list_any (is_called x) is) i.xref false)) (are_distinct is) d in
    let heads = header_heads h u i is k in
    node_lines_keep q i is (head_after h i) (gedcom_after u i) n.0 (own_unbroken q level h u i is s n.0 low heads.0)
    (heads_after h u i heads.0) (own_stands q level h u i is s n.0 low (not-true _ apart.0))
    (λ p t. items_keep is p i.level (head_after h i) (gedcom_after u i) t n.1 rise.1 apart.1 heads.1)

-- the first node
first_head : (i : Item) → (eqb i.level 0 && bytes_eq i.tag (codes "HEAD")) ≡ true → i.level ≡ 0
first_head i h = eqb-true i.level 0 (and_parts (eqb i.level 0) (bytes_eq i.tag (codes "HEAD")) h).0

no_names : (o : Option (List ℕ)) → option_map_or (λ x. false) o false ≡ false
no_names None = refl
no_names (Some x) = refl

first_unbroken : (i : Item) → IsNodeOf i → (eqb i.level 0 && bytes_eq i.tag (codes "HEAD")) ≡ true
    → Unbroken start (own_line i)
first_unbroken i n h = record {
  done = refl;
  head = rw h refl;
  jump = le-ltb 1 i.level (omega (arith, first_head i h));
  above = rw (first_head i h) refl;
  goes_on = rw n.own refl;
  name = no_names i.xref;
  room = rw n.own refl;
  charset = refl;
  version = refl;
}

first_heads : (i : Item) → i.level ≡ 0 → Heads true false i
first_heads i h =
    let one : eqb i.level 1 ≡ false = ap (λ (n : ℕ). eqb n 1) h in
    let two : eqb i.level 2 ≡ false = ap (λ (n : ℕ). eqb n 2) h in
    record {
      charset = λ e. absurd (let bad : false ≡ true = (rw one at e) in cc);
      version = λ e. absurd (let bad : false ≡ true = (rw two at e) in cc);
    }

first_stands : (i : Item) (is : List Item) → IsNodeOf i → i.level ≡ 0
    → option_map_or (λ x. list_any (is_called x) is) i.xref false ≡ false
    → Stands (after start (own_line i)) i.level true false is
first_stands i is n h apart = record {
  count = counted 0;
  done = n.other;
  last = omega arith;
  in_head = refl;
  open_ = λ k le. role_at is_continued start.above (own_line i) k (omega (arith, h, le)) ∙ own_role i.tag n.own;
  names = λ x k. name_apart i.xref is x apart k;
  gedcom = λ ge hh. absurd (omega (arith, h, ge));
}

forest_keeps : (f : List Item) → IsForest f → Keeps start (lines_of f ++ trailer ∷ [])
forest_keeps [] h = absurd (let bad : false ≡ true = h.head in cc)
forest_keeps (i ∷ is) h =
    let n : IsNodeOf i = h.nodes.0 in
    let top : i.level ≡ 0 = first_head i h.head in
    let apart = and_parts (not (option_map_or (λ x. list_any (is_called x) is) i.xref false))
    (are_distinct is) h.names in
    node_lines_keep start i is true false n (first_unbroken i n h.head) (first_heads i top)
    (first_stands i is n top (not-true _ apart.0))
    (λ p s. items_keep is p i.level true false s h.nodes.1 (subst (λ (k : ℕ). rises k is ≡ true) (sym top) h.levels)
    apart.1 h.header)

-- the text is cut into the lines
any_last : (ls : List Parts) → list_any is_trailer (ls ++ trailer ∷ []) ≡ true
any_last [] = refl
any_last (l ∷ ls) = rw (any_last ls) (or_true (is_trailer l))
  where
    or_true : (b : Bool) → (b || true) ≡ true
    or_true true = refl
    or_true false = refl

record First (ls : List Parts) : Type 0 where
  line : Parts
  more : List Parts
  parts : ls ≡ line ∷ more
  top : line.level ≡ 0

first_line : (f : List Item) → IsForest f → First (lines_of f ++ trailer ∷ [])
first_line [] h = absurd (let bad : false ≡ true = h.head in cc)
first_line (i ∷ is) h = record {
  line = own_line i;
  more = (map (part_line (i.level + 1)) (more_parts i.value) ++ lines_of is) ++ trailer ∷ [];
  parts = ap (λ (x : List Parts). x ++ trailer ∷ []) (lines_cons i is);
  top = first_head i h.head;
}

pub text_pieces : (f : List Item) → IsForest f → all_pieces (text f) ≡ map spelling
    (lines_of f ++ trailer ∷ []) ++ [] ∷ []
text_pieces f h =
    let c = first_line f h in
    let k : Keeps start (c.line ∷ c.more) = subst (Keeps start) c.parts (forest_keeps f h) in
    ap all_pieces (text_lines f ∙ ap (flat_map line_text) c.parts) ∙ lines_pieces c.line c.more start c.top k
    ∙ ap (λ (x : List Parts). map spelling x ++ [] ∷ []) (sym c.parts)

untrailed_lines : (f : List Item) → EachNode f → untrailed (lines_of f ++ trailer ∷ []) ≡ lines_of f
untrailed_lines f n = untrailed-push (lines_of f) trailer (no_trailer f n) ∙ append-nil (lines_of f)

text_reads : (f : List Item) → IsForest f → length (text f) ≤ max_file → ReadsFile (text f) (numbered 1 f)
text_reads f h s = record {
  size = s;
  lines = lines_of f ++ trailer ∷ [];
  clean = subst (λ (ps : List (List ℕ)). Clean [] ps (lines_of f ++ trailer ∷ [])) (sym (text_pieces f h))
      (keeps_clean [] (lines_of f ++ trailer ∷ []) (forest_keeps f h));
  ended = any_last (lines_of f);
  forest = subst (λ (ls : List Parts). Reads 1 ls (numbered 1 f)) (sym (untrailed_lines f h.nodes))
      (lines_read 1 f h.nodes);
}

pub text_again : (f : List Item) → IsForest f → length (text f) ≤ max_file → (g : List Item)
    × (ReadsFile (text f) g × IsSame f g)
text_again f h s = (numbered 1 f, (text_reads f h s, numbered_same 1 f))
