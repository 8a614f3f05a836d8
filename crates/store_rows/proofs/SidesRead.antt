-- The steps in which the sides of a slip's lines, and then the changes, are read.
use Rattle.std.specs.Prelude.{
  ℕ,
  ◌+◌,
  ◌-◌,
  ◌<◌,
  ◌≡◌,
  ◌≢◌,
  ◌⊎◌,
  slice_get,
  ◌==◌,
  ◌&&◌,
  not,
  cond,
  Bool,
  true,
  false,
  List,
  [],
  ◌∷◌,
  ◌++◌,
  map,
  length,
  take,
  drop,
  Option,
  Some,
  None,
  refl,
}
use Rattle.std.specs.List.{flat_map, list_all, position_or_len}
use Rattle.std.proofs.Common.{ap, sym, ◌∙◌, arith, append_assoc, append-nil, inl, inr, length-drop}
use Rattle.std.proofs.Math.Seq.{take-length}
use Rattle.std.proofs.Math.Bool.{beq}
use Rattle.std.proofs.lemmas.List.{map-append, drop-map, take-map}
use Rattle.std.proofs.lemmas.Grind.{flat_map-append}
use Rattle.std.proofs.lemmas.Bool.{and_parts, and_from, eqb-true, eq-eqb}
use Rattle.record_text.specs.declared.refusal.RefusalKind.{RefusalKind}
use Rattle.record_text.specs.declared.refusal.RefusalKind.TheVariants as kinds
use Rattle.stored_lines.specs.Line.{Label}
use Rattle.record_kinds.specs.declared.record.Record.{Record}
use Rattle.records.specs.Stored.{stored}
use Rattle.records.specs.Shallow.{IsShallow}
use Rattle.record_shapes.specs.Lists.{EachOf}
use Rattle.archive_state.specs.declared.slip.Change.{Change}
use Rattle.store_rows.specs.Meaning.{side_lines, change_lines, IsShallowOption}
use Rattle.store_rows.specs.Sides.{
  SideLine,
  side_lines_in,
  begins_side,
  first_length,
  is_of,
  lines_of_side,
  side,
  new_sides,
  sides_of_change,
  first_new,
  after_new,
  NoSide,
  NoSides,
  NoChanges,
  NoPairs,
}
use Rattle.store_rows.specs.declared.sides.Side.{Side}
use Rattle.store_rows.proofs.SidesParted.{side_piece, first_same, after_same, stored_back, one_sides, lines_of_sides}

abbrev Row : Type 0
Row = ℕ × SideLine

start_in_rows : (rows : List Row) → position_or_len begins_side (side_lines_in rows) ≡ position_or_len
    (λ (r : Row). begins_side r.1) rows
start_in_rows [] = refl
start_in_rows (r ∷ rows) = ap (λ n. cond (not (begins_side r.1)) (1 + n) 0) (start_in_rows rows)

pub first_in_rows : (rows : List Row) → first_length (side_lines_in rows) ≡ position_or_len
    (λ (r : Row). begins_side r.1) (drop 1 rows) + 1
first_in_rows rows = ap (λ (ls : List SideLine). position_or_len begins_side ls + 1)
    (drop-map (λ (r : Row). r.1) 1 rows) ∙ ap (λ n. n + 1) (start_in_rows (drop 1 rows))

pub rest_of_rows : (rows : List Row) → take (length rows - 1) (drop 1 rows) ≡ drop 1 rows
rest_of_rows rows = let long : length rows - 1 ≡ length (drop 1 rows) = omega (arith, length-drop 1 rows) in
    ap (λ n. take n (drop 1 rows)) long ∙ take-length (drop 1 rows)

-- ---- one side
same_bool : (a b : Bool) → beq a b ≡ true → a ≡ b
same_bool true true e = refl
same_bool true false e = absurd cc
same_bool false true e = absurd cc
same_bool false false e = refl

bool_itself : (b : Bool) → beq b b ≡ true
bool_itself true = refl
bool_itself false = refl

pub is_of_own : (b : Bool) (n : ℕ) (l : ℕ × Label) → is_of b n (b, (n, l)) ≡ true
is_of_own b n l = and_from (beq b b) (n == n) (bool_itself b) (eq-eqb n n refl)

pub is_of_same : (b : Bool) (n : ℕ) (l : SideLine) → is_of b n l ≡ true → (l.0 ≡ b) × (l.1.0 ≡ n)
is_of_same b n l h =
    let both : (beq l.0 b ≡ true) × ((l.1.0 == n) ≡ true) = and_parts (beq l.0 b) (l.1.0 == n) h in
    (same_bool l.0 b both.0, eqb-true l.1.0 n both.1)

pub all_of_side : (b : Bool) (n : ℕ) (rows : List Row) → list_all (λ (r : Row). is_of b n r.1) rows ≡ true
    → side_lines_in rows ≡ side_lines b n (map (λ (r : Row). r.1.1.1) rows)
all_of_side b n [] h = refl
all_of_side b n (r ∷ rows) h =
    let parts : (is_of b n r.1 ≡ true) × (list_all (λ (x : Row). is_of b n x.1) rows ≡ true) = and_parts (is_of b n r.1)
    (list_all (λ (x : Row). is_of b n x.1) rows) h in
    let same : (r.1.0 ≡ b) × (r.1.1.0 ≡ n) = is_of_same b n r.1 parts.0 in
    λ i. (same.0 i, (same.1 i, r.1.1.1)) ∷ all_of_side b n rows parts.1 i

pub side_all : (b : Bool) (n : ℕ) (ls : List (ℕ × Label)) (rows : List Row) → side_lines_in rows ≡ side_lines b n ls
    → list_all (λ (r : Row). is_of b n r.1) rows ≡ true
side_all b n [] [] e = refl
side_all b n (l ∷ ls) [] e = absurd cc
side_all b n [] (r ∷ rows) e = absurd cc
side_all b n (l ∷ ls) (r ∷ rows) e =
    let first : SideLine = (b, (n, l)) in
    let same : r.1 ≡ first = cc in
    let others : side_lines_in rows ≡ side_lines b n ls = cc in
    and_from (is_of b n r.1) (list_all (λ (x : Row). is_of b n x.1) rows) (ap (is_of b n) same ∙ is_of_own b n l)
    (side_all b n ls rows others)

mixed_here : (r : Row) (rows : List Row) → list_all (λ (x : Row). is_of r.1.0 r.1.1.0 x.1) (r ∷ rows) ≡ false
    → NoSide (side_lines_in (r ∷ rows))
mixed_here r rows h s shallow e =
    let all : list_all (λ (x : Row). is_of s.is_new s.number x.1) (r ∷ rows) ≡ true = side_all s.is_new s.number
    (stored s.«record») (r ∷ rows) e in
    let first : is_of s.is_new s.number r.1
    ≡ true = (and_parts (is_of s.is_new s.number r.1)
    (list_all (λ (x : Row). is_of s.is_new s.number x.1) rows) all).0 in
    let same : (r.1.0 ≡ s.is_new) × (r.1.1.0 ≡ s.number) = is_of_same s.is_new s.number r.1 first in
    let tests : list_all (λ (x : Row). is_of r.1.0 r.1.1.0 x.1) (r ∷ rows) ≡ list_all
    (λ (x : Row). is_of s.is_new s.number x.1) (r ∷ rows) =
    λ i. list_all (λ (x : Row). is_of (same.0 i) (same.1 i) x.1) (r ∷ rows) in
    let differs : true ≡ false = sym all ∙ sym tests ∙ h in
    cc

pub mixed : (rows : List Row) (r : Row) → Some r ≡ slice_get rows 0
    → list_all (λ (x : Row). is_of r.1.0 r.1.1.0 x.1) rows ≡ false → NoSide (side_lines_in rows)
mixed [] r first h = absurd cc
mixed (x ∷ rows) r first h = let same : x ≡ r = cc in
    mixed_here x rows (ap (λ (y : Row). list_all (λ (z : Row). is_of y.1.0 y.1.1.0 z.1) (x ∷ rows)) same ∙ h)

pub stored_of_rows : (rows : List Row) → map (λ (l : SideLine). l.1.1) (side_lines_in rows) ≡ map
    (λ (r : Row). r.1.1.1) rows
stored_of_rows [] = refl
stored_of_rows (r ∷ rows) = ap (λ (ls : List (ℕ × Label)). r.1.1.1 ∷ ls) (stored_of_rows rows)

pub no_record : (rows : List Row) (ls : List (ℕ × Label)) → ls ≡ map (λ (r : Row). r.1.1.1) rows
    → ((r : Record) → IsShallow r → ls ≢ stored r) → NoSide (side_lines_in rows)
no_record rows ls e none_kept s shallow f =
    none_kept s.«record» shallow (e ∙ sym (stored_of_rows rows) ∙ ap (map (λ (l : SideLine). l.1.1)) f
    ∙ stored_back s.is_new s.number (stored s.«record»))

-- ---- the sides of lines
pub one_more_side : (ss more : List Side) (s : Side) (rows first others : List Row) (ls : List SideLine)
    → more ≡ ss ++ s ∷ [] → rows ≡ first ++ others → side_lines_in first ≡ lines_of_side s
    → flat_map lines_of_side ss ++ side_lines_in rows ≡ ls → flat_map lines_of_side more ++ side_lines_in others ≡ ls
one_more_side ss more s rows first others ls pushed parts is so_far =
    let before : List SideLine = flat_map lines_of_side ss in
    ap (λ (x : List SideLine). x ++ side_lines_in others)
    (ap (flat_map lines_of_side) pushed ∙ flat_map-append lines_of_side ss (s ∷ []))
    ∙ append_assoc before (lines_of_side s ++ []) (side_lines_in others)
    ∙ ap (λ (x : List SideLine). before ++ (x ++ side_lines_in others)) (append-nil (lines_of_side s) ∙ sym is)
    ∙ ap (λ (x : List SideLine). before ++ x) (sym (map-append (λ (r : Row). r.1) first others)
    ∙ ap side_lines_in (sym parts))
    ∙ so_far

pub some_lines : (rows : List Row) → 0 < length rows → side_lines_in rows ≡ [] → ⊥
some_lines [] some e = absurd (omega arith)
some_lines (r ∷ rows) some e = cc

pub no_others : (rows others : List Row) (n : ℕ) → 0 < length rows → n ≡ first_length (side_lines_in rows)
    → others ≡ drop n rows → NoSides (side_lines_in others) → NoSides (side_lines_in rows)
no_others rows others n some long e none_else [] shallow f = some_lines rows some f
no_others rows others n some long e none_else (s ∷ ss) shallow f =
    none_else ss shallow.1 (ap side_lines_in (e ∙ ap (λ k. drop k rows) long)
    ∙ sym (drop-map (λ (r : Row). r.1) (first_length (side_lines_in rows)) rows)
    ∙ after_same begins_side lines_of_side side_piece (side_lines_in rows) s ss f)

pub no_first : (rows first : List Row) (n : ℕ) → 0 < length rows → n ≡ first_length (side_lines_in rows)
    → first ≡ take n rows → NoSide (side_lines_in first) → NoSides (side_lines_in rows)
no_first rows first n some long e none_first [] shallow f = some_lines rows some f
no_first rows first n some long e none_first (s ∷ ss) shallow f =
    none_first s shallow.0 (ap side_lines_in (e ∙ ap (λ k. take k rows) long)
    ∙ sym (take-map (λ (r : Row). r.1) (first_length (side_lines_in rows)) rows)
    ∙ first_same begins_side lines_of_side side_piece (side_lines_in rows) s ss f)

-- ---- the changes of sides
new_first : (n : ℕ) (rest : List Side) → new_sides n (first_new n rest) ++ after_new n rest ≡ rest
new_first n [] = refl
new_first n (s ∷ ss) =
    elim (s.is_new && (s.number == n)) as (λ b. (s.is_new && (s.number == n)) ≡ b
    → new_sides n (cond b (Some s.«record») None) ++ cond b ss (s ∷ ss) ≡ s ∷ ss) [
      | true ↦ λ e.
          let both : (s.is_new ≡ true) × ((s.number == n) ≡ true) = and_parts s.is_new (s.number == n) e in
          let numbers : s.number ≡ n = eqb-true s.number n both.1 in
          λ i. record { is_new = sym both.0 i; number = sym numbers i; «record» = s.«record» } ∷ ss
      | false ↦ λ e. refl
    ] refl

abbrev change_of : Side → Option Record → Change
change_of s new = record { number = s.number; old = s.«record»; new = new }

one_change_more : (cs : List Change) (s : Side) (rest : List Side) → s.is_new ≡ false
    → flat_map sides_of_change (cs ++ change_of s (first_new s.number rest) ∷ []) ++ after_new s.number rest
    ≡ flat_map sides_of_change cs ++ (s ∷ rest)
one_change_more cs s rest old =
    let before : List Side = flat_map sides_of_change cs in
    let change : Change = change_of s (first_new s.number rest) in
    let left : List Side = after_new s.number rest in
    ap (λ (x : List Side). x ++ left) (flat_map-append sides_of_change cs (change ∷ []))
    ∙ append_assoc before (sides_of_change change ++ []) left
    ∙ ap (λ (x : List Side). before ++ (x ++ left)) (append-nil (sides_of_change change))
    ∙ ap (λ (x : List Side). before ++ (side false s.number s.«record» ∷ x)) (new_first s.number rest)
    ∙ (λ i. before ++ (record { is_new = sym old i; number = s.number; «record» = s.«record» } ∷ rest))

pub one_more_change : (cs more : List Change) (s : Side) (front rest left ss : List Side) (new : Option Record)
    → front ≡ s ∷ rest → s.is_new ≡ false → new ≡ first_new s.number rest → left ≡ after_new s.number rest
    → more ≡ cs ++ change_of s new ∷ [] → flat_map sides_of_change cs ++ front ≡ ss
    → flat_map sides_of_change more ++ left ≡ ss
one_more_change cs more s front rest left ss new taken old is_first is_left pushed so_far =
    ap (λ (x : List Side). flat_map sides_of_change more ++ x) is_left
    ∙ ap (λ (x : List Change). flat_map sides_of_change x ++ after_new s.number rest)
    (pushed ∙ ap (λ (x : Option Record). cs ++ change_of s x ∷ []) is_first)
    ∙ one_change_more cs s rest old
    ∙ ap (λ (x : List Side). flat_map sides_of_change cs ++ x) (sym taken)
    ∙ so_far

pub new_alone : (s : Side) (front rest : List Side) → front ≡ s ∷ rest → s.is_new ≡ true → NoPairs front
new_alone s front rest taken new [] e = absurd cc
new_alone s front rest taken new (c ∷ cs) e =
    let first : s ≡ side false c.number c.old = cc in
    let differs : true ≡ false = sym new ∙ ap (λ (x : Side). x.is_new) first in
    cc

after_own : (n : ℕ) (new : Option Record) (cs : List Change)
    → after_new n (new_sides n new ++ flat_map sides_of_change cs) ≡ flat_map sides_of_change cs
after_own n None [] = refl
after_own n None (c ∷ cs) = refl
after_own n (Some r) cs = ap (λ b. cond b (flat_map sides_of_change cs) (side true n r ∷ flat_map sides_of_change cs))
    (eq-eqb n n refl)

pub no_more_pairs : (s : Side) (front rest left : List Side) → front ≡ s ∷ rest → left ≡ after_new s.number rest
    → NoPairs left → NoPairs front
no_more_pairs s front rest left taken is_left none_else [] e = absurd cc
no_more_pairs s front rest left taken is_left none_else (c ∷ cs) e =
    let first : s ≡ side false c.number c.old = cc in
    let others : rest ≡ new_sides c.number c.new ++ flat_map sides_of_change cs = cc in
    none_else cs (is_left ∙ ap (λ (x : Side). after_new x.number rest) first ∙ ap (after_new c.number) others
    ∙ after_own c.number c.new cs)

-- ---- what is refused
pub weaker : {P Q : Type 0} (kind : RefusalKind) → (P → Q) → (kind ≡ kinds.OutOfMemory) ⊎ ((kind ≡ kinds.BadStored) × P)
    → (kind ≡ kinds.OutOfMemory) ⊎ ((kind ≡ kinds.BadStored) × Q)
weaker kind f (inl e) = inl e
weaker kind f (inr p) = inr (p.0, f p.1)

-- ---- both
shallow_new : (n : ℕ) (new : Option Record) (ss : List Side) → IsShallowOption new
    → EachOf (λ (s : Side). IsShallow s.«record») ss → EachOf (λ (s : Side). IsShallow s.«record»)
    (new_sides n new ++ ss)
shallow_new n None ss k ks = ks
shallow_new n (Some r) ss k ks = (k, ks)

shallow_sides : (cs : List Change) → EachOf (λ (c : Change). IsShallow c.old × IsShallowOption c.new) cs
    → EachOf (λ (s : Side). IsShallow s.«record») (flat_map sides_of_change cs)
shallow_sides [] k = tt
shallow_sides (c ∷ cs) k = (
  k.0.0,
  shallow_new c.number c.new (flat_map sides_of_change cs) k.0.1
      (shallow_sides cs k.1),
)

pub no_sides : (ls : List SideLine) → NoSides ls → NoChanges ls
no_sides ls none_read cs shallow e = none_read (flat_map sides_of_change cs) (shallow_sides cs shallow)
    (e ∙ lines_of_sides cs)

pub no_pairs : (ls : List SideLine) (ss : List Side) → ls ≡ flat_map lines_of_side ss → NoPairs ss → NoChanges ls
no_pairs ls ss read none_paired cs shallow e =
    none_paired cs (one_sides ss (flat_map sides_of_change cs) (sym read ∙ e ∙ lines_of_sides cs))

pub lines_of_pairs : (ls : List SideLine) (ss : List Side) (cs : List Change) → ls ≡ flat_map lines_of_side ss
    → ss ≡ flat_map sides_of_change cs → ls ≡ flat_map change_lines cs
lines_of_pairs ls ss cs read pairs = read ∙ ap (flat_map lines_of_side) pairs ∙ sym (lines_of_sides cs)
