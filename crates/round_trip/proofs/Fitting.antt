-- Lines with tags and texts that a forest may have, and room for them.
use Rattle.std.specs.Prelude.{
  ℕ,
  ◌≡◌,
  ◌≢◌,
  ◌+◌,
  ◌≤◌,
  ◌&&◌,
  not,
  nat_lt,
  nat_le,
  max,
  Bool,
  true,
  List,
  [],
  ◌∷◌,
  length,
  codes,
  Option,
  Some,
  None,
  bytes_eq,
  refl,
}
use Rattle.std.specs.List.{flat_map, list_all}
use Rattle.std.proofs.Common.{ap, sym, ◌∙◌, arith}
use Rattle.std.proofs.lemmas.Bool.Decides.{nat_tests}
use Rattle.stored_lines.specs.Tree.{Tree, Forest, node, none, more, forest_of}
use Rattle.stored_lines.specs.Line.{Line, Lines}
use Rattle.stored_lines.specs.Levels.{forest_levels, levels}
use Rattle.stored_lines.specs.declared.carried.Value.{Value}
use Rattle.stored_lines.specs.declared.carried.Value.TheVariants as value
use Rattle.record_fields.specs.Bytes.{bytes_same}
use Rattle.record_text.specs.Text.{IsText, is_word}
use Rattle.archive_state.specs.Carried.{forest_tags, tags}
use Rattle.record_shapes.specs.Levels.{AreWithin}
use Rattle.record_shapes.specs.Lists.{EachOf}
use Rattle.record_shapes.specs.Shapes.{line, loc_line, loc_lines, pointer_line, text_line, text_lines}
use Rattle.archive_state.specs.Sound.{IsOfRecords}
use Rattle.archive_state.specs.Texts.{forest_texts, line_texts, there, value_texts}
use Rattle.record_shapes.proofs.Each.{each_of_flat, each_more, each_zip, each_parts}
use Rattle.list_laws.proofs.Booleans.{both_true, true_not_false}

-- ---- tags that are known
abbrev pub is_good_tag : List ℕ → Bool
is_good_tag tag = (nat_lt 0 (length tag) && nat_le (length tag) 31)
    && (list_all is_word tag && (not (bytes_eq tag (codes "CONC")) && not (bytes_eq tag (codes "CONT"))))

unequal : (a b : List ℕ) → not (bytes_eq a b) ≡ true → a ≢ b
unequal a b h e = true_not_false (sym (h) ∙ ap not (bytes_same a b e))

pub good_tag : (tag : List ℕ) → is_good_tag tag ≡ true → IsOfRecords tag
good_tag tag h =
    let x = both_true (nat_lt 0 (length tag) && nat_le (length tag) 31)
    (list_all is_word tag && (not (bytes_eq tag (codes "CONC")) && not (bytes_eq tag (codes "CONT")))) h in
    let y = both_true (nat_lt 0 (length tag)) (nat_le (length tag) 31) x.0 in
    let z = both_true (list_all is_word tag) (not (bytes_eq tag (codes "CONC")) && not (bytes_eq tag (codes "CONT")))
    x.1 in
    let w = both_true (not (bytes_eq tag (codes "CONC"))) (not (bytes_eq tag (codes "CONT"))) z.1 in (
      record { some = grind (arith, nat_tests); short = grind (arith, nat_tests); words = z.0 },
      unequal tag (codes "CONC") w.0,
      unequal tag (codes "CONT") w.1,
    )

-- ---- lines
abbrev pub IsGoodValue : Value → Type 0
IsGoodValue (value.Text t) = IsText t
IsGoodValue (value.Ref n) = Unit {0}

abbrev pub IsGoodLine : Line → Type 0
IsGoodLine l = IsOfRecords l.tag × IsGoodValue l.value

abbrev mutual
  pub IsGood : Tree Line → Type 0
  IsGood (node l f) = IsGoodLine l × AreGood f

  pub AreGood : Forest Line → Type 0
  AreGood none = Unit {0}
  AreGood (more t ts) = IsGood t × AreGood ts

-- it has at most so many levels too
abbrev pub Fits : ℕ → Tree Line → Type 0
Fits n t = IsGood t × (levels t ≤ n)

abbrev pub AllFit : ℕ → Lines → Type 0
AllFit n ts = EachOf (Fits n) ts

pub all_good : (n : ℕ) (ts : Lines) → AllFit n ts → AreGood (forest_of ts)
all_good n [] h = tt
all_good n (t ∷ ts) h = (h.0.0, all_good n ts h.1)

pub all_low : (n : ℕ) (ts : Lines) → AllFit n ts → forest_levels (forest_of ts) ≤ n
all_low n [] h = omega arith
all_low n (t ∷ ts) h = let one : levels t ≤ n = h.0.1 in let rest : forest_levels (forest_of ts)
    ≤ n = all_low n ts h.1 in omega arith

pub fits_line : (n k : ℕ) (tag : List ℕ) (v : Value) (below : Lines) → k ≡ n + 1 → IsOfRecords tag → IsGoodValue v
    → AllFit n below → Fits k (line tag v below)
fits_line n k tag v below e t g h =
    (((t, g), all_good n below h), let low : forest_levels (forest_of below) ≤ n = all_low n below h in omega arith)

pub fits_more : (n k : ℕ) (ts : Lines) → n ≤ k → AllFit n ts → AllFit k ts
fits_more n k ts l h = each_more (Fits n) (Fits k) (λ t x. (x.0, let low : levels t ≤ n = x.1 in omega arith)) ts h

pub fits_within : (n : ℕ) (ts : Lines) → AreWithin n ts → EachOf IsGood ts → AllFit n ts
fits_within n [] w h = tt
fits_within n (t ∷ ts) w h =
    let most : max (levels t) (forest_levels (forest_of ts)) ≤ n = w in
    ((h.0, omega arith), fits_within n ts (omega arith) h.1)

-- only a line of a text, and one that may be missing
pub fits_text : (k : ℕ) (tag t : List ℕ) → 1 ≤ k → is_good_tag tag ≡ true → IsText t → Fits k (text_line tag t)
fits_text k tag t l g h = (((good_tag tag g, h), tt), let one : 1 ≤ k = l in omega arith)

pub fits_texts : (k : ℕ) (tag : List ℕ) (o : Option (List ℕ)) → 1 ≤ k → is_good_tag tag ≡ true → EachOf IsText (there o)
    → AllFit k (text_lines tag o)
fits_texts k tag None l g h = tt
fits_texts k tag (Some t) l g h = (fits_text k tag t l g h.0, tt)

pub fits_pointer : (n k : ℕ) (tag : List ℕ) (to : ℕ) (below : Lines) → k ≡ n + 1 → is_good_tag tag ≡ true
    → AllFit n below → Fits k (pointer_line tag to below)
fits_pointer n k tag to below e g h = fits_line n k tag (value.Ref to) below e (good_tag tag g) tt h

pub fits_loc : (k : ℕ) (n : ℕ) → 1 ≤ k → Fits k (loc_line n)
fits_loc k n l = (((good_tag (codes "_LOC") refl, tt), tt), let one : 1 ≤ k = l in omega arith)

pub fits_locs : (k : ℕ) (o : Option ℕ) → 1 ≤ k → AllFit k (loc_lines o)
fits_locs k None l = tt
fits_locs k (Some n) l = (fits_loc k n l, tt)

-- ---- carried lines
good_value : (v : Value) → EachOf IsText (value_texts v) → IsGoodValue v
good_value (value.Text t) h = h.0
good_value (value.Ref n) h = tt

mutual
  pub good_tree : (t : Tree Line) → EachOf IsOfRecords (tags t) → EachOf IsText (line_texts t) → IsGood t
  good_tree (node l f) h g =
      let both : EachOf IsText (value_texts l.value) × EachOf IsText (forest_texts f) =
      each_parts IsText (value_texts l.value) (forest_texts f) g in
      ((h.0, good_value l.value both.0), good_forest f h.1 both.1)

  good_forest : (f : Forest Line) → EachOf IsOfRecords (forest_tags f) → EachOf IsText (forest_texts f) → AreGood f
  good_forest none h g = tt
  good_forest (more t ts) h g =
      let a : EachOf IsOfRecords (tags t) × EachOf IsOfRecords (forest_tags ts) =
      each_parts IsOfRecords (tags t) (forest_tags ts) h in
      let b : EachOf IsText (line_texts t) × EachOf IsText (forest_texts ts) =
      each_parts IsText (line_texts t) (forest_texts ts) g in
      (good_tree t a.0 b.0, good_forest ts a.1 b.1)

pub good_lines : (ts : Lines) → EachOf IsOfRecords (flat_map tags ts) → EachOf IsText (flat_map line_texts ts)
    → EachOf IsGood ts
good_lines ts h g = each_zip (λ t. EachOf IsOfRecords (tags t)) (λ t. EachOf IsText (line_texts t)) IsGood good_tree ts
    (each_of_flat IsOfRecords tags ts h) (each_of_flat IsText line_texts ts g)
