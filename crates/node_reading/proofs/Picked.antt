-- What is picked from lines, one line after the other.
use Rattle.std.specs.Prelude.{
  ℕ,
  ◌≡◌,
  ◌&&◌,
  ◌||◌,
  ◌==◌,
  not,
  cond,
  Bool,
  true,
  false,
  List,
  [],
  ◌∷◌,
  ◌++◌,
  Option,
  Some,
  None,
  option_map,
  refl,
}
use Rattle.std.specs.List.{filter, list_any}
use Rattle.std.proofs.Common.{ap, sym, ◌∙◌, append_assoc, arith}
use Rattle.stored_lines.specs.Tree.{Tree}
use Rattle.stored_lines.specs.Line.{Line, Lines}
use Rattle.record_shapes.specs.declared.field.Field.{Field}
use Rattle.record_shapes.specs.Forms.{is_some, text_of}
use Rattle.record_shapes.specs.Fields.{field_number, is_same, row}
use Rattle.record_shapes.specs.Picking.{all_of, first, is_left, text_at, without_first, without_firsts}
use Rattle.node_reading.specs.Partly.{left_with, or_told, unless}

-- the line is the first of a field that is still to be found
abbrev pub is_first : {A : Type 0} → Field → Field → Option A → Bool
is_first y x o = is_same y x && not (is_some o)

-- ---- fields
-- a field is not two
pub other_field : (y a b : Field) → is_same y a ≡ true → (field_number a == field_number b) ≡ false
    → is_same y b ≡ false
other_field y a b e n = numbers (field_number y) (field_number a) (field_number b) e n
  where
    numbers : (k n m : ℕ) → (k == n) ≡ true → (n == m) ≡ false → (k == m) ≡ false
    numbers k n m e h = grind (arith)

pub not_first : {A : Type 0} (y x : Field) (o : Option A) → is_same y x ≡ false → is_first y x o ≡ false
not_first y x o e = ap (λ b. b && not (is_some o)) e

pub first_same : {A : Type 0} (y x : Field) (o : Option A) → is_first y x o ≡ true → is_same y x ≡ true
first_same y x o e = half (is_same y x) (not (is_some o)) e
  where
    half : (a b : Bool) → (a && b) ≡ true → a ≡ true
    half true b e = refl
    half false b e = e

pub first_none : {A : Type 0} (y x : Field) (o : Option A) → is_first y x o ≡ true → o ≡ None
first_none y x None e = refl
first_none y x (Some a) e = absurd (none (is_same y x) e)
  where
    none : (a : Bool) → (a && false) ≡ true → ⊥
    none true e = cc
    none false e = cc

-- a row has the field of its test, or one after it
pub row_is : (P : Field → Bool) (b : Bool) (x y : Field) → P x ≡ true → P y ≡ true → P (row b x y) ≡ true
row_is P true x y h k = h
row_is P false x y h k = k

-- ---- fields that are still to be found
pub missing_one : {A : Type 0} (y x : Field) (o : Option A) → is_first y x o ≡ false
    → list_any (is_same y) (unless o x) ≡ false
missing_one y x None e = same (is_same y x) e
  where
    same : (a : Bool) → (a && true) ≡ false → (a || false) ≡ false
    same true e = e
    same false e = refl
missing_one y x (Some a) e = refl

pub missing_more : {A : Type 0} (y x : Field) (o : Option A) (xs : List Field) → is_first y x o ≡ false
    → list_any (is_same y) xs ≡ false → list_any (is_same y) (unless o x ++ xs) ≡ false
missing_more y x None xs e h = both (is_same y x) (list_any (is_same y) xs) e h
  where
    both : (a b : Bool) → (a && true) ≡ false → b ≡ false → (a || b) ≡ false
    both true b e h = absurd cc
    both false b e h = h
missing_more y x (Some a) xs e h = h

module _ (field : Tree Line → Field) where
  -- ---- what is known
  pub told_same : {A : Type 0} (g : Option (List ℕ) → Option A) (x : Field) (o : Option A) (t : Tree Line) (ts : Lines)
      → is_first (field t) x o ≡ false
      → or_told o (g (text_at field x ts)) ≡ or_told o (g (text_at field x (t ∷ ts)))
  told_same g x (Some a) t ts e = refl
  told_same g x None t ts e =
      ap (λ (b : Bool). g (option_map text_of (first (cond b (t ∷ all_of field x ts) (all_of field x ts)))))
      (sym (same (is_same (field t) x) e))
    where
      same : (a : Bool) → (a && true) ≡ false → a ≡ false
      same true e = e
      same false e = refl

  pub told_here : {A : Type 0} (g : Option (List ℕ) → Option A) (x : Field) (t : Tree Line) (ts : Lines)
      → is_same (field t) x ≡ true → g (Some (text_of t)) ≡ g (text_at field x (t ∷ ts))
  told_here g x t ts e =
      ap (λ (b : Bool). g (option_map text_of (first (cond b (t ∷ all_of field x ts) (all_of field x ts))))) (sym e)

  -- ---- what is left
  pub passes : (missing : List Field) (t : Tree Line) (ts : Lines) → list_any (is_same (field t)) missing ≡ false
      → without_firsts field missing (t ∷ ts) ≡ t ∷ without_firsts field missing ts
  passes [] t ts e = refl
  passes (x ∷ xs) t ts e =
      ap (λ (b : Bool). without_firsts field xs (cond b ts (t ∷ without_first field x ts)))
      (front (is_same (field t) x) (list_any (is_same (field t)) xs) e)
      ∙ passes xs t (without_first field x ts) (back (is_same (field t) x) (list_any (is_same (field t)) xs) e)
    where
      front : (a b : Bool) → (a || b) ≡ false → a ≡ false
      front true b e = e
      front false b e = refl

      back : (a b : Bool) → (a || b) ≡ false → b ≡ false
      back true b e = absurd cc
      back false b e = e

  pub closes : (x : Field) (xs ys : List Field) (t : Tree Line) (ts : Lines) → is_same (field t) x ≡ true
      → list_any (is_same (field t)) xs ≡ false
      → without_firsts field (xs ++ x ∷ ys) (t ∷ ts) ≡ without_firsts field (xs ++ ys) ts
  closes x [] ys t ts e n =
      ap (λ (b : Bool). without_firsts field ys (cond b ts (t ∷ without_first field x ts))) e
  closes x (z ∷ zs) ys t ts e n =
      ap (λ (b : Bool). without_firsts field (zs ++ x ∷ ys) (cond b ts (t ∷ without_first field z ts)))
      (front (is_same (field t) z) (list_any (is_same (field t)) zs) n)
      ∙ closes x zs ys t (without_first field z ts) e
      (back (is_same (field t) z) (list_any (is_same (field t)) zs) n)
    where
      front : (a b : Bool) → (a || b) ≡ false → a ≡ false
      front true b e = e
      front false b e = refl

      back : (a b : Bool) → (a || b) ≡ false → b ≡ false
      back true b e = absurd cc
      back false b e = e

  -- the line is of a field that is still to be found
  pub left_closed : (once : List Field) (x : Field) (xs ys : List Field) (t : Tree Line) (ts : Lines)
      → is_same (field t) x ≡ true → list_any (is_same (field t)) xs ≡ false
      → left_with field once (xs ++ ys) ts ≡ left_with field once (xs ++ x ∷ ys) (t ∷ ts)
  left_closed once x xs ys t ts e n = ap (filter (λ u. is_left once (field u))) (sym (closes x xs ys t ts e n))

  -- the line is carried
  pub left_kept : (before : Lines) (once missing : List Field) (t : Tree Line) (ts : Lines)
      → is_left once (field t) ≡ true → list_any (is_same (field t)) missing ≡ false
      → (before ++ t ∷ []) ++ left_with field once missing ts ≡ before ++ left_with field once missing (t ∷ ts)
  left_kept before once missing t ts e n =
      append_assoc before (t ∷ []) (left_with field once missing ts)
      ∙ ap (λ l. before ++ l) (ap (λ (b : Bool). cond b (t ∷ left_with field once missing ts)
      (left_with field once missing ts)) (sym e)
      ∙ ap (filter (λ u. is_left once (field u))) (sym (passes missing t ts n)))

  -- the line is of a field that a record may have often
  pub left_gone : (once missing : List Field) (t : Tree Line) (ts : Lines) → is_left once (field t) ≡ false
      → list_any (is_same (field t)) missing ≡ false
      → left_with field once missing ts ≡ left_with field once missing (t ∷ ts)
  left_gone once missing t ts e n =
      ap (λ (b : Bool). cond b (t ∷ left_with field once missing ts) (left_with field once missing ts)) (sym e)
      ∙ ap (filter (λ u. is_left once (field u))) (sym (passes missing t ts n))

  -- ---- lists of lines of a field
  pub all_here : (x : Field) (t : Tree Line) (ts : Lines) → is_same (field t) x ≡ true
      → t ∷ all_of field x ts ≡ all_of field x (t ∷ ts)
  all_here x t ts e = ap (λ (b : Bool). cond b (t ∷ all_of field x ts) (all_of field x ts)) (sym e)

  pub all_past : (x : Field) (t : Tree Line) (ts : Lines) → is_same (field t) x ≡ false
      → all_of field x ts ≡ all_of field x (t ∷ ts)
  all_past x t ts e = ap (λ (b : Bool). cond b (t ∷ all_of field x ts) (all_of field x ts)) (sym e)
