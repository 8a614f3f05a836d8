-- Lines with tags that may be in a record and with texts: what is picked from them is so too.
use Rattle.std.proofs.Common.{◌≡◌, ℕ, ◌+◌, ◌≤◌, true, false, cond, List, [], ◌∷◌, refl, arith}
use Rattle.std.specs.Prelude.{Option, Some, None, IfSome, map, option_map}
use Rattle.std.specs.List.{flat_map}
use Rattle.std.proofs.lemmas.Str.{IsUtf8-nil}
use Rattle.stored_lines.specs.Tree.{Tree, Forest, node, none, more, forest_of, list_of}
use Rattle.stored_lines.specs.Line.{Line, Lines}
use Rattle.stored_lines.specs.Levels.{forest_levels, levels}
use Rattle.stored_lines.specs.declared.carried.Value.{Value}
use Rattle.stored_lines.specs.declared.carried.Value.TheVariants as value
use Rattle.archive_state.specs.Carried.{forest_tags, tags}
use Rattle.record_text.specs.Text.{IsText}
use Rattle.record_shapes.specs.declared.field.Field.{Field}
use Rattle.record_shapes.specs.Forms.{below, tag_of, text_in, text_of}
use Rattle.record_shapes.specs.Levels.{AreWithin}
use Rattle.record_shapes.specs.Lists.{EachOf}
use Rattle.record_shapes.specs.Fields.{is_same}
use Rattle.record_shapes.specs.Picking.{all_of, first, is_left, left, text_at, without_first, without_firsts}
use Rattle.archive_state.specs.Sound.{IsOfRecords}
use Rattle.archive_state.specs.Texts.{forest_texts, line_texts, there, value_texts}
use Rattle.imports.specs.Read.{IsLine}
use Rattle.imports.proofs.SoundLists.{each_filter, if_first}
use Rattle.record_shapes.proofs.Each.{each_back, each_front, each_more, each_flat, each_mapped}

abbrev pub AreLines : ℕ → Lines → Type 0
AreLines n ts = EachOf (IsLine n) ts

pub deeper : (n m : ℕ) → n ≤ m → (t : Tree Line) → IsLine n t → IsLine m t
deeper n m less t h = let low : levels t ≤ n = h.low in
    record { of_tags = h.of_tags; of_texts = h.of_texts; low = omega arith }

pub lines_deeper : (n m : ℕ) → n ≤ m → (ts : Lines) → AreLines n ts → AreLines m ts
lines_deeper n m less ts h = each_more (IsLine n) (IsLine m) (deeper n m less) ts h

-- ---- all of several lines
pub lines_tags : (n : ℕ) (ts : Lines) → AreLines n ts → EachOf IsOfRecords (flat_map tags ts)
lines_tags n ts h = each_flat IsOfRecords tags ts (each_more (IsLine n) (λ t. EachOf IsOfRecords (tags t))
    (λ t k. k.of_tags) ts h)

pub lines_texts : (n : ℕ) (ts : Lines) → AreLines n ts → EachOf IsText (flat_map line_texts ts)
lines_texts n ts h = each_flat IsText line_texts ts (each_more (IsLine n) (λ t. EachOf IsText (line_texts t))
    (λ t k. k.of_texts) ts h)

pub lines_within : (n : ℕ) (ts : Lines) → AreLines n ts → AreWithin n ts
lines_within n [] h = omega arith
lines_within n (t ∷ ts) h =
    let low : levels t ≤ n = h.0.low in
    let rest : forest_levels (forest_of ts) ≤ n = lines_within n ts h.1 in
    omega arith

-- ---- of one line
pub forest_lines : (n : ℕ) (f : Forest Line) → EachOf IsOfRecords (forest_tags f) → EachOf IsText (forest_texts f)
    → forest_levels f ≤ n → AreLines n (list_of f)
forest_lines n none a b low = tt
forest_lines n (more t f) a b low = (
  record {
    of_tags = each_front IsOfRecords (tags t) (forest_tags f) a;
    of_texts = each_front IsText (line_texts t) (forest_texts f) b;
    low = omega arith;
  },
  forest_lines n f (each_back IsOfRecords (tags t) (forest_tags f) a)
      (each_back IsText (line_texts t) (forest_texts f) b) (omega arith),
)

pub below_lines : (n m : ℕ) → m ≡ n + 1 → (t : Tree Line) → IsLine m t → AreLines n (below t)
below_lines n m e (node l f) h =
    let low : forest_levels f + 1 ≤ m = h.low in
    forest_lines n f h.of_tags.1 (each_back IsText (value_texts l.value) (forest_texts f) h.of_texts) (omega arith)

pub tag_is : (n : ℕ) (t : Tree Line) → IsLine n t → IsOfRecords (tag_of t)
tag_is n (node l f) h = h.of_tags.0

pub empty_text : IsText []
empty_text = record { utf8 = IsUtf8-nil; no_nul = refl; no_cr = refl; short = omega arith }

value_text : (v : Value) → EachOf IsText (value_texts v) → IsText (text_in v)
value_text (value.Text t) h = h.0
value_text (value.Ref n) h = empty_text

pub text_is : (n : ℕ) (t : Tree Line) → IsLine n t → IsText (text_of t)
text_is n (node l f) h = value_text l.value (each_front IsText (value_texts l.value) (forest_texts f) h.of_texts)

-- ---- picked
module _ (P : Tree Line → Type 0) (field : Tree Line → Field) where
  pub each_but_first : (x : Field) (ts : Lines) → EachOf P ts → EachOf P (without_first field x ts)
  each_but_first x [] h = tt
  each_but_first x (t ∷ ts) h =
      elim (is_same (field t) x) as (λ b. EachOf P (cond b ts (t ∷ without_first field x ts))) [
        | true ↦ h.1
        | false ↦ (h.0, each_but_first x ts h.1)
      ]

  pub each_but_firsts : (once : List Field) (ts : Lines) → EachOf P ts → EachOf P (without_firsts field once ts)
  each_but_firsts [] ts h = h
  each_but_firsts (x ∷ xs) ts h = each_but_firsts xs (without_first field x ts) (each_but_first x ts h)

  pub each_left : (once : List Field) (ts : Lines) → EachOf P ts → EachOf P (left field once ts)
  each_left once ts h = each_filter P (λ t. is_left once (field t)) (without_firsts field once ts)
      (each_but_firsts once ts h)

  pub each_of : (x : Field) (ts : Lines) → EachOf P ts → EachOf P (all_of field x ts)
  each_of x ts h = each_filter P (λ t. is_same (field t) x) ts h

  pub first_of_field : (x : Field) (ts : Lines) → EachOf P ts → IfSome (first (all_of field x ts)) P
  first_of_field x ts h = if_first P (all_of field x ts) (each_of x ts h)

-- the text of a line that may be missing
pub text_on : (n : ℕ) (o : Option (Tree Line)) → IfSome o (IsLine n) → EachOf IsText (there (option_map text_of o))
text_on n None h = tt
text_on n (Some t) h = (text_is n t h, tt)

pub text_of_field : (n : ℕ) (field : Tree Line → Field) (x : Field) (ts : Lines) → AreLines n ts
    → EachOf IsText (there (text_at field x ts))
text_of_field n field x ts h = text_on n (first (all_of field x ts)) (first_of_field (IsLine n) field x ts h)

-- what is made of each line
pub mapped_lines : {A : Type 0} (n : ℕ) (P : A → Type 0) (g : Tree Line → A) → ((t : Tree Line) → IsLine n t → P (g t))
    → (ts : Lines) → AreLines n ts → EachOf P (map g ts)
mapped_lines n P g f ts h = each_mapped P g ts (each_more (IsLine n) (λ t. P (g t)) f ts h)
