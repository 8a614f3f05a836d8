-- The nodes of an export are nodes of a forest, and no cross reference stands on two.
use Rattle.std.specs.Prelude.{
  ℕ,
  ◌≡◌,
  ◌≢◌,
  ◌+◌,
  ◌<◌,
  ◌≤◌,
  ◌==◌,
  ◌&&◌,
  ◌||◌,
  not,
  nat_lt,
  nat_le,
  max,
  Bool,
  true,
  false,
  List,
  [],
  ◌∷◌,
  ◌++◌,
  length,
  drop,
  codes,
  Option,
  Some,
  None,
  bytes_eq,
  refl,
  decimal,
}
use Rattle.std.specs.Char.{is_ascii_digit}
use Rattle.std.specs.List.{list_all, list_any}
use Rattle.std.specs.Option.{option_map_or}
use Rattle.std.specs.FinMap.{get}
use Rattle.std.proofs.Common.{ap, sym, ◌∙◌, subst, arith, length-append}
use Rattle.std.proofs.lemmas.Bool.Decides.{nat_tests}
use Rattle.std.proofs.lemmas.List.{append_cancel_right}
use Rattle.std.proofs.lemmas.List.Folds.{list_all-append}
use Rattle.stored_lines.specs.Tree.{Forest, node, none, more, flat_all, relabel_all}
use Rattle.stored_lines.specs.Line.{Line}
use Rattle.stored_lines.specs.Levels.{forest_levels}
use Rattle.stored_lines.specs.declared.carried.Value.{Value}
use Rattle.stored_lines.specs.declared.carried.Value.TheVariants as value
use Rattle.record_kinds.specs.declared.record.Record.{Record}
use Rattle.record_kinds.specs.declared.record.Record.TheVariants as kind
use Rattle.record_fields.specs.Bytes.{bytes_are}
use Rattle.archive_state.specs.Links.{Link, forest_links, line_links, value_links}
use Rattle.record_text.specs.Text.{IsText}
use Rattle.record_shapes.specs.Lists.{EachOf}
use Rattle.archive_state.specs.Content.{Content, Records}
use Rattle.archive_state.specs.Sound.{IsNumber, IsOfRecords, IsSound}
use Rattle.archive_state.specs.Sound as sound
use Rattle.gedcom_line.specs.Reading.{is_continuation}
use Rattle.gedcom_line.specs.Spelling.{IsXref, is_inner, is_textual}
use Rattle.gedcom_line.specs.Value.{Text}
use Rattle.gedcom_line.specs.Words.{is_at, is_word}
use Rattle.gedcom_tree.specs.Forest.{Item}
use Rattle.gedcom_tree.specs.Text.{EachNode, IsNodeOf, IsNodeValue, are_distinct, is_called, is_tag}
use Rattle.node_writing.specs.Nodes.{Mark, item_at, mark_of, named_value}
use Rattle.gedcom_export.specs.Names.{letter_at, name_of, name_with}
use Rattle.round_trip.proofs.Found.{there}
use Rattle.round_trip.proofs.Fitting.{AreGood, IsGoodValue}
use Rattle.round_trip.proofs.Plain.{decimal_digits, decimal_short, digits_are, is_plain, plain_text}
use Rattle.round_trip.proofs.Walked.{items, items_append}
use Rattle.record_shapes.proofs.Each.{each_both, each_parts}
use Rattle.list_laws.proofs.Booleans.{neither, true_not_false}

-- ---- texts and tags
textual : (t : List ℕ) → list_any (λ b. b == 0) t ≡ false → list_any (λ b. b == 13) t ≡ false
    → list_all is_textual t ≡ true
textual [] h g = refl
textual (b ∷ bs) h g =
    let x = neither (b == 0) (list_any (λ b. b == 0) bs) h in
    let y = neither (b == 13) (list_any (λ b. b == 13) bs) g in
    λ i. (not (x.0 i) && not (y.0 i)) && textual bs x.1 y.1 i

pub text_value : (t : List ℕ) → IsText t → IsNodeValue (Text t)
text_value t h = (h.utf8, (textual t h.no_nul h.no_cr, h.short))

tag_is : (tag : List ℕ) → IsOfRecords tag → is_tag tag ≡ true
tag_is tag h =
    let some : 0 < length tag = h.0.some in
    let short : length tag ≤ 31 = h.0.short in
    let a : nat_lt 0 (length tag) ≡ true = grind (arith, nat_tests) in
    let b : nat_le (length tag) 31 ≡ true = grind (arith, nat_tests) in
    λ i. h.0.words i && a i && b i

pub unequal_bytes : (a b : List ℕ) → a ≢ b → bytes_eq a b ≡ false
unequal_bytes a b h = by (bytes_eq a b) refl
  where
    by : (x : Bool) → bytes_eq a b ≡ x → x ≡ false
    by false e = refl
    by true e = absurd (h (bytes_are a b e))

tag_own : (tag : List ℕ) → IsOfRecords tag → is_continuation tag ≡ false
tag_own tag h = λ i. unequal_bytes tag (codes "CONC") h.1 i || unequal_bytes tag (codes "CONT") h.2 i

pub node_is : (d : ℕ) (x : Mark) → d ≤ 98 → IsOfRecords x.tag → (d == 0 && bytes_eq x.tag (codes "TRLR")) ≡ false
    → IsXref x.xref → IsNodeValue x.value → IsNodeOf (item_at (d, x))
node_is d x l t o r v = record { low = l; tag = tag_is x.tag t; own = tag_own x.tag t; other = o; xref = r; value = v }

pub each_node_append : (is js : List Item) → EachNode is → EachNode js → EachNode (is ++ js)
each_node_append [] js h g = g
each_node_append (i ∷ is) js h g = (h.0, each_node_append is js h.1 g)

-- ---- cross references
all_of_name : (p : ℕ → Bool) → ((b : ℕ) → is_ascii_digit b ≡ true → p b ≡ true) → (c n : ℕ) → n ≤ 4294967296
    → p 64 ≡ true → p c ≡ true → list_all p (64 ∷ c ∷ (decimal n ++ 64 ∷ [])) ≡ true
all_of_name p f c n l at_ here = λ i. at_ i
    && (here i && (list_all-append p (decimal n) (64 ∷ [])
    ∙ (λ j. digits_are p f (decimal n) (decimal_digits n l) j && (at_ j && true))) i)

plain_digit : (b : ℕ) → is_ascii_digit b ≡ true → is_plain b ≡ true
plain_digit b h = grind (arith, nat_tests, h)

inner_digit : (b : ℕ) → is_ascii_digit b ≡ true → is_inner b ≡ true
inner_digit b h = grind (arith, nat_tests, h)

no_at_digit : (b : ℕ) → is_ascii_digit b ≡ true → not (is_at b) ≡ true
no_at_digit b h = grind (arith, nat_tests, h)

is_short : (k : ℕ) → k ≤ 1048576 → nat_le k 1048576 ≡ true
is_short k h = grind (arith, nat_tests)

letter_xref : (c n : ℕ) → n ≤ 4294967296 → is_word c ≡ true → not (is_at c) ≡ true → is_plain c ≡ true
    → is_inner c ≡ true → IsXref (Some (name_with (c ∷ []) n))
letter_xref c n l w a p i =
    let few : length (decimal n) ≤ 10 = decimal_short n l in
    let x : List ℕ = 64 ∷ c ∷ (decimal n ++ 64 ∷ []) in
    let all : list_all is_plain x ≡ true = all_of_name is_plain plain_digit c n l refl p in
    let long : length (decimal n ++ 64 ∷ []) ≡ length (decimal n) + 1 = length-append (decimal n) (64 ∷ []) in
    let most : length x ≤ 1048576 = omega arith in
    let utf : IsText x = plain_text x all (is_short (length x) most) in (
      c ∷ decimal n,
      (
        (w, (λ j. a j && digits_are (λ b. not (is_at b)) no_at_digit (decimal n) (decimal_digits n l) j), omega arith),
        (record { utf8 = utf.utf8; each = all_of_name is_inner inner_digit c n l refl i }, refl),
      ),
    )

pub name_xref : (m : Records) (n : ℕ) → n ≤ 4294967296 → IsXref (Some (name_of m n))
name_xref m n l = by (get m n)
  where
    by : (o : Option Record) → IsXref (Some (name_with (letter_at o) n))
    by None = letter_xref 88 n l refl refl refl refl
    by (Some (kind.Place x)) = letter_xref 80 n l refl refl refl refl
    by (Some (kind.Repo x)) = letter_xref 82 n l refl refl refl refl
    by (Some (kind.Source x)) = letter_xref 83 n l refl refl refl refl
    by (Some (kind.Person x)) = letter_xref 73 n l refl refl refl refl
    by (Some (kind.Family x)) = letter_xref 70 n l refl refl refl refl
    by (Some (kind.Entry x)) = letter_xref 69 n l refl refl refl refl
    by (Some (kind.Other x)) = letter_xref 88 n l refl refl refl refl
    by (Some (kind.Event x)) = letter_xref 88 n l refl refl refl refl
    by (Some (kind.Citation x)) = letter_xref 88 n l refl refl refl refl

pub society_xref : IsXref (Some (codes "@SOCIETY@"))
society_xref =
    let utf : IsText (codes "@SOCIETY@") = plain_text (codes "@SOCIETY@") refl refl in
    (codes "SOCIETY", ((refl, refl, omega arith), (record { utf8 = utf.utf8; each = refl }, refl)))

-- it is no record's
pub society_apart : (m : Records) (n : ℕ) → n ≤ 4294967296 → bytes_eq (codes "@SOCIETY@") (name_of m n) ≡ false
society_apart m n l = by (get m n)
  where
    source : (b : Bool) → bytes_eq (codes "@SOCIETY@") (name_with (codes "S") n) ≡ b → b ≡ false
    source false e = refl
    source true e =
        let same : codes "@SOCIETY@" ≡ name_with (codes "S") n =
        bytes_are (codes "@SOCIETY@") (name_with (codes "S") n) e in
        let rest : codes "OCIETY" ++ codes "@" ≡ decimal n ++ codes "@" = ap (drop 2) same in
        let digits : codes "OCIETY" ≡ decimal n = append_cancel_right (codes "OCIETY") (decimal n) (codes "@") rest in
        absurd (true_not_false (sym (ap (list_all is_ascii_digit) digits ∙ decimal_digits n l)))

    by : (o : Option Record) → bytes_eq (codes "@SOCIETY@") (name_with (letter_at o) n) ≡ false
    by (Some (kind.Source x)) = source (bytes_eq (codes "@SOCIETY@") (name_with (codes "S") n)) refl
    by None = refl
    by (Some (kind.Place x)) = refl
    by (Some (kind.Repo x)) = refl
    by (Some (kind.Person x)) = refl
    by (Some (kind.Family x)) = refl
    by (Some (kind.Entry x)) = refl
    by (Some (kind.Other x)) = refl
    by (Some (kind.Event x)) = refl
    by (Some (kind.Citation x)) = refl

-- ---- lines below a node
abbrev pub NoXref : ℕ × Mark → Type 0
NoXref p = p.1.xref ≡ None

module _ (c : Content) (is : IsSound c) where
  abbrev m : Records
  m = c.records

  abbrev S : Link → Type 0
  S = sound.Stands m

  pub low_number : (n : ℕ) (r : Record) → get m n ≡ Some r → n ≤ 4294967296
  low_number n r g =
      let number : IsNumber c.next n = is.rules.numbered n r g in
      let low : n < c.next = number.1 in
      let bound : c.next ≤ 4294967296 = is.bounded in
      omega arith

  abbrev pub unnamed : Forest Line → Forest Mark
  unnamed f = relabel_all (mark_of (name_of m) None) f

  pub value_is : (v : Value) → IsGoodValue v → EachOf S (value_links v) → IsNodeValue (named_value (name_of m) v)
  value_is (value.Text t) g h = text_value t g
  value_is (value.Ref n) g h = let t = there c is n h.0 in name_xref m n (low_number n t.0 t.1)

  pub lines_noded : (f : Forest Line) (d : ℕ) → 1 ≤ d → AreGood f → EachOf S (forest_links f) → d + forest_levels f ≤ 99
      → EachNode (items (flat_all d (unnamed f)))
  lines_noded none d l g h w = tt
  lines_noded (more (node x f) ts) d l g h w =
      let both : EachOf S (line_links (node x f)) × EachOf S (forest_links ts) =
      each_parts S (line_links (node x f)) (forest_links ts) h in
      let inner : EachOf S (value_links x.value) × EachOf S (forest_links f) =
      each_parts S (value_links x.value) (forest_links f) both.0 in
      let most : d + max (forest_levels f + 1) (forest_levels ts) ≤ 99 = w in
      let up : (d == 0) ≡ false = grind (arith, nat_tests) in (
        node_is d (mark_of (name_of m) None x) (omega arith) g.0.0.0 (ap (λ b. b && bytes_eq x.tag (codes "TRLR")) up)
            tt (value_is x.value g.0.0.1 inner.0),
        subst EachNode (sym (items_append (flat_all (d + 1) (unnamed f)) (flat_all d (unnamed ts))))
            (each_node_append (items (flat_all (d + 1) (unnamed f))) (items (flat_all d (unnamed ts)))
            (lines_noded f (d + 1) (omega arith) g.0.1 inner.1 (omega arith))
            (lines_noded ts d l g.1 both.1 (omega arith))),
      )

  pub no_xrefs : (f : Forest Line) (d : ℕ) → EachOf NoXref (flat_all d (unnamed f))
  no_xrefs none d = tt
  no_xrefs (more (node x f) ts) d = (
    refl,
    each_both NoXref (flat_all (d + 1) (unnamed f)) (flat_all d (unnamed ts)) (no_xrefs f (d + 1))
        (no_xrefs ts d),
  )

-- ---- what has no cross reference does not count among names
pub called_behind : (x : List ℕ) (xs : List (ℕ × Mark)) (is : List Item) → EachOf NoXref xs
    → list_any (is_called x) (items xs ++ is) ≡ list_any (is_called x) is
called_behind x [] is h = refl
called_behind x (p ∷ xs) is h =
    (λ i. option_map_or (bytes_eq x) (h.0 i) false || list_any (is_called x) (items xs ++ is))
    ∙ called_behind x xs is h.1

pub distinct_behind : (xs : List (ℕ × Mark)) (is : List Item) → EachOf NoXref xs
    → are_distinct (items xs ++ is) ≡ are_distinct is
distinct_behind [] is h = refl
distinct_behind (p ∷ xs) is h =
    (λ i. not (option_map_or (λ x. list_any (is_called x) (items xs ++ is)) (h.0 i) false)
    && are_distinct (items xs ++ is)) ∙ distinct_behind xs is h.1
