-- Lines in pieces are parted in one way, and so lines are those of one list of changes at the most.
use Rattle.std.specs.Prelude.{
  ℕ,
  ◌+◌,
  ◌≡◌,
  ◌==◌,
  ◌||◌,
  cond,
  not,
  Bool,
  true,
  false,
  List,
  [],
  ◌∷◌,
  ◌++◌,
  map,
  length,
  take,
  drop,
  Option,
  Some,
  None,
  refl,
}
use Rattle.std.specs.List.{flat_map, list_any, position_or_len}
use Rattle.std.proofs.Common.{ap, sym, ◌∙◌, arith, append_assoc, append-nil}
use Rattle.std.proofs.Math.Seq.{take-append_seam, drop-append_seam}
use Rattle.std.proofs.lemmas.Grind.{flat_map-append}
use Rattle.std.proofs.lemmas.Bool.Decides.{nat_tests}
use Rattle.std.proofs.lemmas.List.Folds.{list_any-append}
use Rattle.stored_lines.specs.Tree.{Tree, Forest, node, none, more, flat, flat_all}
use Rattle.stored_lines.specs.Line.{Label}
use Rattle.record_kinds.specs.declared.record.Record.{Record}
use Rattle.records.specs.Stored.{stored, record_tree}
use Rattle.records.proofs.Shallow.{stored_one}
use Rattle.archive_state.specs.declared.slip.Change.{Change}
use Rattle.store_rows.specs.Meaning.{side_lines, new_side, change_lines}
use Rattle.store_rows.specs.Sides.{SideLine, begins_side, lines_of_side, side, new_sides, sides_of_change}
use Rattle.store_rows.specs.declared.sides.Side.{Side}

-- ---- items in pieces, each headed by one that begins a piece
module _ {X : Type 0} (begins : X → Bool) where
  -- the first item begins a piece, and no other does
  abbrev pub IsPiece : List X → Type 0
  IsPiece [] = ⊥
  IsPiece (x ∷ xs) = (begins x ≡ true) × (list_any begins xs ≡ false)

  -- there are no items, or the first begins a piece
  abbrev pub Begins : List X → Type 0
  Begins [] = Unit {0}
  Begins (x ∷ xs) = begins x ≡ true

  abbrev pub piece_length : List X → ℕ
  piece_length xs = position_or_len begins (drop 1 xs) + 1

  rest_length : (xs ys : List X) → list_any begins xs ≡ false → Begins ys → position_or_len begins
      (xs ++ ys) ≡ length xs
  rest_length [] [] deep here = refl
  rest_length [] (y ∷ ys) deep here = rw here refl
  rest_length (x ∷ xs) ys deep here =
      elim (begins x) as (λ b. (b || list_any begins xs) ≡ false → cond (not b) (1 + position_or_len begins (xs ++ ys))
      0 ≡ length (x ∷ xs)) [
        | true ↦ λ h. absurd cc
        | false ↦ λ h. omega (arith, rest_length xs ys h here)
      ] deep

  -- a piece before others is as long as the items up to the next that begins one
  pub piece_long : (xs ys : List X) → IsPiece xs → Begins ys → piece_length (xs ++ ys) ≡ length xs
  piece_long [] ys piece here = absurd piece
  piece_long (x ∷ xs) ys piece here = omega (arith, rest_length xs ys piece.1 here)

  pub piece_first : (xs ys : List X) → IsPiece xs → Begins ys → take (piece_length (xs ++ ys)) (xs ++ ys) ≡ xs
  piece_first xs ys piece here = ap (λ n. take n (xs ++ ys)) (piece_long xs ys piece here) ∙ take-append_seam xs ys

  pub piece_after : (xs ys : List X) → IsPiece xs → Begins ys → drop (piece_length (xs ++ ys)) (xs ++ ys) ≡ ys
  piece_after xs ys piece here = ap (λ n. drop n (xs ++ ys)) (piece_long xs ys piece here) ∙ drop-append_seam xs ys

module _ {A X : Type 0} (begins : X → Bool) (items : A → List X) (pieces : (a : A) → IsPiece begins (items a)) where
  begins-append : (xs ys : List X) → IsPiece begins xs → Begins begins (xs ++ ys)
  begins-append [] ys piece = absurd piece
  begins-append (x ∷ xs) ys piece = piece.0

  pub begins_all : (ps : List A) → Begins begins (flat_map items ps)
  begins_all [] = tt
  begins_all (a ∷ ps) = begins-append (items a) (flat_map items ps) (pieces a)

  not_empty : (xs ys : List X) → IsPiece begins xs → [] ≡ xs ++ ys → ⊥
  not_empty [] ys piece e = piece
  not_empty (x ∷ xs) ys piece e = cc

  pub first_same : (ls : List X) (a : A) (ps : List A) → ls ≡ items a ++ flat_map items ps
      → take (piece_length begins ls) ls ≡ items a
  first_same ls a ps e = ap (λ (xs : List X). take (piece_length begins xs) xs) e ∙ piece_first begins (items a)
      (flat_map items ps) (pieces a) (begins_all ps)

  pub after_same : (ls : List X) (a : A) (ps : List A) → ls ≡ items a ++ flat_map items ps
      → drop (piece_length begins ls) ls ≡ flat_map items ps
  after_same ls a ps e = ap (λ (xs : List X). drop (piece_length begins xs) xs) e ∙ piece_after begins (items a)
      (flat_map items ps) (pieces a) (begins_all ps)

  -- items are those of one list of pieces at the most
  pub one_parting : ((a b : A) → items a ≡ items b → a ≡ b) → (ps qs : List A) → flat_map items ps
      ≡ flat_map items qs → ps ≡ qs
  one_parting one [] [] e = refl
  one_parting one [] (b ∷ qs) e = absurd (not_empty (items b) (flat_map items qs) (pieces b) e)
  one_parting one (a ∷ ps) [] e = absurd (not_empty (items a) (flat_map items ps) (pieces a) (sym e))
  one_parting one (a ∷ ps) (b ∷ qs) e =
      let head : a ≡ b = one a b (sym (first_same (flat_map items (a ∷ ps)) a ps refl) ∙ first_same
      (flat_map items (a ∷ ps)) b qs e) in
      let tail : ps ≡ qs = one_parting one ps qs (sym (after_same (flat_map items (a ∷ ps)) a ps refl)
      ∙ after_same (flat_map items (a ∷ ps)) b qs e) in
      cc

-- ---- the lines of a side are a piece
module _ {A : Type 0} where
  mutual
    -- no line below the first of a tree is at depth 0
    deep : (d : ℕ) (t : Tree A) → list_any (λ l. l.0 == 0) (flat (d + 1) t) ≡ false
    deep d (node a f) = grind (arith, nat_tests, deep_all (d + 1) f)

    deep_all : (d : ℕ) (f : Forest A) → list_any (λ l. l.0 == 0) (flat_all (d + 1) f) ≡ false
    deep_all d none = refl
    deep_all d (more t f) = list_any-append (λ l. l.0 == 0) (flat (d + 1) t) (flat_all (d + 1) f)
        ∙ rw (deep d t, deep_all d f) refl

module _ (b : Bool) (n : ℕ) where
  deep_side : (ls : List (ℕ × Label)) → list_any begins_side (side_lines b n ls) ≡ list_any (λ l. l.0 == 0) ls
  deep_side [] = refl
  deep_side (l ∷ ls) = ap (λ r. (l.0 == 0) || r) (deep_side ls)

  pub tree_piece : (t : Tree Label) → IsPiece begins_side (side_lines b n (flat 0 t))
  tree_piece (node a f) = (refl, deep_side (flat_all 1 f) ∙ deep_all 0 f)

  pub stored_back : (ls : List (ℕ × Label)) → map (λ (l : SideLine). l.1.1) (side_lines b n ls) ≡ ls
  stored_back [] = refl
  stored_back (l ∷ ls) = ap (λ (r : List (ℕ × Label)). l ∷ r) (stored_back ls)

pub side_piece : (s : Side) → IsPiece begins_side (lines_of_side s)
side_piece s = tree_piece s.is_new s.number (record_tree s.«record»)

-- a tree's lines are of one side and number
same_head : (b c : Bool) (n m : ℕ) (t u : Tree Label) → side_lines b n (flat 0 t) ≡ side_lines c m (flat 0 u)
    → (b ≡ c) × (n ≡ m)
same_head b c n m (node a f) (node x g) e =
    let first : SideLine = (b, (n, (0, a))) in
    let other : SideLine = (c, (m, (0, x))) in
    let same : first ≡ other = cc in
    (ap (λ (l : SideLine). l.0) same, ap (λ (l : SideLine). l.1.0) same)

pub one_side : (s t : Side) → lines_of_side s ≡ lines_of_side t → s ≡ t
one_side s t e =
    let head : (s.is_new ≡ t.is_new) × (s.number ≡ t.number) = same_head s.is_new t.is_new s.number t.number
    (record_tree s.«record») (record_tree t.«record») e in
    let lines : stored s.«record» ≡ stored t.«record» = sym (stored_back s.is_new s.number (stored s.«record»))
    ∙ ap (map (λ (l : SideLine). l.1.1)) e ∙ stored_back t.is_new t.number (stored t.«record») in
    let same : s.«record» ≡ t.«record» = stored_one s.«record» t.«record» lines in
    λ i. record { is_new = head.0 i; number = head.1 i; «record» = same i }

pub one_sides : (ss ts : List Side) → flat_map lines_of_side ss ≡ flat_map lines_of_side ts → ss ≡ ts
one_sides ss ts e = one_parting begins_side lines_of_side side_piece one_side ss ts e

-- ---- the sides of changes
abbrev pub begins_change : Side → Bool
begins_change s = not s.is_new

new_deep : (n : ℕ) (new : Option Record) → list_any begins_change (new_sides n new) ≡ false
new_deep n None = refl
new_deep n (Some r) = refl

pub change_piece : (c : Change) → IsPiece begins_change (sides_of_change c)
change_piece c = (refl, new_deep c.number c.new)

one_new : (n m : ℕ) (a b : Option Record) → new_sides n a ≡ new_sides m b → a ≡ b
one_new n m None None e = refl
one_new n m None (Some s) e = absurd cc
one_new n m (Some r) None e = absurd cc
one_new n m (Some r) (Some s) e =
    let sides : side true n r ≡ side true m s = cc in
    let same : r ≡ s = ap (λ (x : Side). x.«record») sides in
    cc

one_change : (c d : Change) → sides_of_change c ≡ sides_of_change d → c ≡ d
one_change c d e =
    let olds : side false c.number c.old ≡ side false d.number d.old = cc in
    let rest : new_sides c.number c.new ≡ new_sides d.number d.new = cc in
    let news : c.new ≡ d.new = one_new c.number d.number c.new d.new rest in
    λ i. record { number = (olds i).number; old = (olds i).«record»; new = news i }

pub one_pairing : (cs ds : List Change) → flat_map sides_of_change cs ≡ flat_map sides_of_change ds → cs ≡ ds
one_pairing cs ds e = one_parting begins_change sides_of_change change_piece one_change cs ds e

new_lines : (n : ℕ) (new : Option Record) → new_side n new ≡ flat_map lines_of_side (new_sides n new)
new_lines n None = refl
new_lines n (Some r) = sym (append-nil (side_lines true n (stored r)))

-- the lines of changes are those of their sides
pub lines_of_sides : (cs : List Change) → flat_map change_lines cs ≡ flat_map lines_of_side
    (flat_map sides_of_change cs)
lines_of_sides [] = refl
lines_of_sides (c ∷ cs) =
    let old : List SideLine = side_lines false c.number (stored c.old) in
    let more : List SideLine = flat_map lines_of_side (flat_map sides_of_change cs) in
    append_assoc old (new_side c.number c.new) (flat_map change_lines cs)
    ∙ ap (λ (ls : List SideLine). old ++ (new_side c.number c.new ++ ls)) (lines_of_sides cs)
    ∙ ap (λ (ls : List SideLine). old ++ (ls ++ more)) (new_lines c.number c.new)
    ∙ ap (λ (ls : List SideLine). old ++ ls)
    (sym (flat_map-append lines_of_side (new_sides c.number c.new) (flat_map sides_of_change cs)))

-- lines are those of one list of changes at the most
pub one_changes : (cs ds : List Change) → flat_map change_lines cs ≡ flat_map change_lines ds → cs ≡ ds
one_changes cs ds e = one_pairing cs ds (one_sides (flat_map sides_of_change cs) (flat_map sides_of_change ds)
    (sym (lines_of_sides cs) ∙ e ∙ lines_of_sides ds))
