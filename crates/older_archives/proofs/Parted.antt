-- The lines of a slip in pieces, one for each side of a change, as they were kept and as they are kept today.
use Rattle.std.proofs.Common.{
  ◌≡◌,
  ℕ,
  ◌<◌,
  Bool,
  true,
  false,
  List,
  [],
  ◌∷◌,
  ◌++◌,
  map,
  length,
  drop,
  take,
  Option,
  Some,
  None,
  refl,
  sym,
  ap,
  ◌∙◌,
  subst,
  arith,
  append_assoc,
  append-nil,
}
use Rattle.std.specs.Prelude.{◌==◌, slice_get, IfSome, option_map}
use Rattle.std.specs.List.{flat_map, list_all}
use Rattle.std.proofs.lemmas.Bool.{and_parts, eqb-true}
use Rattle.std.proofs.lemmas.Grind.{flat_map-append}
use Rattle.std.proofs.lemmas.List.{drop-map, take-map}
use Rattle.stored_lines.specs.Line.{Label}
use Rattle.records.specs.Stored.{stored}
use Rattle.record_shapes.specs.Lists.{EachOf}
use Rattle.older_archives.specs.Anew.{OldChange, anew, change_anew}
use Rattle.older_archives.specs.Old.{IsOld, OldRecord, tree_with}
use Rattle.older_archives.specs.RecordReading.{WasKeptAsNone}
use Rattle.older_archives.proofs.OneOld.{one_old}
use Rattle.store_tables.specs.Rows.{SlipSide, lines_in_side}
use Rattle.store_rows.specs.Meaning.{change_lines, new_side, side_lines}
use Rattle.store_rows.specs.Sides.{SideLine, begins_side, first_length, is_of, side_lines_in}
use Rattle.store_rows.proofs.SidesParted.{IsPiece, after_same, first_same, stored_back, tree_piece}
use Rattle.store_rows.proofs.SidesRead.{is_of_same, side_all, some_lines, stored_of_rows}
use Rattle.older_archives.specs.Meaning.{
  IsOldChange,
  IsShallowOld,
  IsShallowOldChange,
  old_change_lines,
  old_lines,
  old_new_side,
}
use Rattle.older_archives.specs.Reading.{
  AreChangesAnewOf,
  AreSidesAnewOf,
  IsSideAnewOf,
  OldSide,
  WasNoSide,
  WasShallowSide,
  WasSide,
  WereNoChanges,
  WereNoSides,
  new_side_lines,
  old_side_lines,
}
use Rattle.older_archives.specs.Renewing.{Anew, IsAnewOf}

abbrev Row : Type 0
Row = ℕ × SideLine

-- ---- the sides of changes
abbrev old_side : Bool → ℕ → OldRecord → OldSide
old_side is_new n o = record { is_new = is_new; number = n; old = o }

abbrev old_new_sides : ℕ → Option OldRecord → List OldSide
old_new_sides n None = []
old_new_sides n (Some o) = old_side true n o ∷ []

abbrev pub old_sides : OldChange → List OldSide
old_sides c = old_side false c.number c.old ∷ old_new_sides c.number c.new

pub old_piece : (s : OldSide) → IsPiece begins_side (old_side_lines s)
old_piece s = tree_piece s.is_new s.number (tree_with s.old.date s.old.rest)

were_new : (n : ℕ) (o : Option OldRecord) → old_new_side n o ≡ flat_map old_side_lines (old_new_sides n o)
were_new n None = refl
were_new n (Some o) = sym (append-nil (side_lines true n (old_lines o)))

are_new : (n : ℕ) (o : Option OldRecord) → new_side n (option_map anew o) ≡ flat_map new_side_lines (old_new_sides n o)
are_new n None = refl
are_new n (Some o) = sym (append-nil (side_lines true n (stored (anew o))))

pub were_of_sides : (cs : List OldChange) → flat_map old_change_lines cs
    ≡ flat_map old_side_lines (flat_map old_sides cs)
were_of_sides [] = refl
were_of_sides (c ∷ cs) =
    let old : List SideLine = side_lines false c.number (old_lines c.old) in
    let more : List SideLine = flat_map old_side_lines (flat_map old_sides cs) in
    append_assoc old (old_new_side c.number c.new) (flat_map old_change_lines cs)
    ∙ ap (λ (ls : List SideLine). old ++ (old_new_side c.number c.new ++ ls)) (were_of_sides cs)
    ∙ ap (λ (ls : List SideLine). old ++ (ls ++ more)) (were_new c.number c.new)
    ∙ ap (λ (ls : List SideLine). old ++ ls)
    (sym (flat_map-append old_side_lines (old_new_sides c.number c.new) (flat_map old_sides cs)))

pub are_of_sides : (cs : List OldChange) → flat_map change_lines (map change_anew cs)
    ≡ flat_map new_side_lines (flat_map old_sides cs)
are_of_sides [] = refl
are_of_sides (c ∷ cs) =
    let old : List SideLine = side_lines false c.number (stored (anew c.old)) in
    let news : List SideLine = new_side c.number (option_map anew c.new) in
    let more : List SideLine = flat_map new_side_lines (flat_map old_sides cs) in
    append_assoc old news (flat_map change_lines (map change_anew cs))
    ∙ ap (λ (ls : List SideLine). old ++ (news ++ ls)) (are_of_sides cs)
    ∙ ap (λ (ls : List SideLine). old ++ (ls ++ more)) (are_new c.number c.new)
    ∙ ap (λ (ls : List SideLine). old ++ ls)
    (sym (flat_map-append new_side_lines (old_new_sides c.number c.new) (flat_map old_sides cs)))

were_one : (n : ℕ) (o : Option OldRecord) (ss : List OldSide) → IfSome o IsOld → EachOf WasSide ss
    → EachOf WasSide (old_new_sides n o ++ ss)
were_one n None ss h hs = hs
were_one n (Some o) ss h hs = (h, hs)

pub were_sides : (cs : List OldChange) → EachOf IsOldChange cs → EachOf WasSide (flat_map old_sides cs)
were_sides [] h = tt
were_sides (c ∷ cs) h = (h.0.0, were_one c.number c.new (flat_map old_sides cs) h.0.1 (were_sides cs h.1))

shallow_one : (n : ℕ) (o : Option OldRecord) (ss : List OldSide) → IfSome o IsOld → IfSome o IsShallowOld
    → EachOf WasShallowSide ss → EachOf WasShallowSide (old_new_sides n o ++ ss)
shallow_one n None ss h k hs = hs
shallow_one n (Some o) ss h k hs = ((h, k), hs)

shallow_sides : (cs : List OldChange) → EachOf IsOldChange cs → EachOf IsShallowOldChange cs
    → EachOf WasShallowSide (flat_map old_sides cs)
shallow_sides [] h k = tt
shallow_sides (c ∷ cs) h k = (
  (h.0.0, k.0.0),
  shallow_one c.number c.new (flat_map old_sides cs) h.0.1 k.0.1 (shallow_sides cs h.1 k.1),
)

-- ---- one side
mixed_here : (r : Row) (rows : List Row) → list_all (λ (x : Row). is_of r.1.0 r.1.1.0 x.1) (r ∷ rows) ≡ false
    → WasNoSide (side_lines_in (r ∷ rows))
mixed_here r rows h s shallow e =
    let all : list_all (λ (x : Row). is_of s.is_new s.number x.1) (r ∷ rows) ≡ true = side_all s.is_new s.number
    (old_lines s.old) (r ∷ rows) e in
    let first : is_of s.is_new s.number r.1
    ≡ true = (and_parts (is_of s.is_new s.number r.1)
    (list_all (λ (x : Row). is_of s.is_new s.number x.1) rows) all).0 in
    let same : (r.1.0 ≡ s.is_new) × (r.1.1.0 ≡ s.number) = is_of_same s.is_new s.number r.1 first in
    let tests : list_all (λ (x : Row). is_of r.1.0 r.1.1.0 x.1) (r ∷ rows) ≡ list_all
    (λ (x : Row). is_of s.is_new s.number x.1) (r ∷ rows) =
    λ i. list_all (λ (x : Row). is_of (same.0 i) (same.1 i) x.1) (r ∷ rows) in
    let differs : true ≡ false = sym all ∙ sym tests ∙ h in
    cc

pub mixed : (rows : List Row) (r : Row) → Some r ≡ slice_get rows 0
    → list_all (λ (x : Row). is_of r.1.0 r.1.1.0 x.1) rows ≡ false → WasNoSide (side_lines_in rows)
mixed [] r first h = absurd cc
mixed (x ∷ rows) r first h = let same : x ≡ r = cc in
    mixed_here x rows (ap (λ (y : Row). list_all (λ (z : Row). is_of y.1.0 y.1.1.0 z.1) (x ∷ rows)) same ∙ h)

-- what is stored in lines of a side
lines_back : (rows : List Row) (ls : List (ℕ × Label)) (s : OldSide) → ls ≡ map (λ (r : Row). r.1.1.1) rows
    → side_lines_in rows ≡ old_side_lines s → ls ≡ old_lines s.old
lines_back rows ls s e f = e ∙ sym (stored_of_rows rows) ∙ ap (map (λ (l : SideLine). l.1.1)) f
    ∙ stored_back s.is_new s.number (old_lines s.old)

pub no_side : (rows : List Row) (ls : List (ℕ × Label)) → ls ≡ map (λ (r : Row). r.1.1.1) rows
    → WasKeptAsNone ls → WasNoSide (side_lines_in rows)
no_side rows ls e none_kept s shallow f =
    none_kept s.old shallow.1 (record { is = shallow.0; lines = lines_back rows ls s e f })

-- two lists of lines that are of one side and number are of one
same_head : (rows : List Row) (b : Bool) (n : ℕ) (ls : List (ℕ × Label)) (s : OldSide)
    → side_lines_in rows ≡ side_lines b n ls → side_lines_in rows ≡ old_side_lines s
    → (b ≡ s.is_new) × (n ≡ s.number)
same_head [] b n ls s e f = absurd (subst (IsPiece begins_side) (sym f) (old_piece s))
same_head (r ∷ rows) b n [] s e f = absurd cc
same_head (r ∷ rows) b n (l ∷ ls) s e f =
    let all : list_all (λ (x : Row). is_of s.is_new s.number x.1) (r ∷ rows) ≡ true = side_all s.is_new s.number
    (old_lines s.old) (r ∷ rows) f in
    let here : (r.1.0 ≡ s.is_new) × (r.1.1.0 ≡ s.number) = is_of_same s.is_new s.number r.1
    (and_parts (is_of s.is_new s.number r.1) (list_all (λ (x : Row). is_of s.is_new s.number x.1) rows) all).0 in
    let line : SideLine = (b, (n, l)) in
    let same : r.1 ≡ line = cc in (
      sym (ap (λ (x : SideLine). x.0) same) ∙ here.0,
      sym (ap (λ (x : SideLine). x.1.0) same) ∙ here.1,
    )

pub one_side_anew : (rows : List Row) (b : Bool) (n : ℕ) (ls : List (ℕ × Label)) (a : Anew)
    → ls ≡ map (λ (r : Row). r.1.1.1) rows → side_lines_in rows ≡ side_lines b n ls → IsAnewOf ls a
    → IsSideAnewOf (side_lines_in rows) (b, (n, a.lines))
one_side_anew rows b n ls a stored_is of_side is s was f =
    let head = same_head rows b n ls s of_side f in
    let lines : a.lines ≡ stored (anew s.old) = is.kept s.old
    (record { is = was; lines = lines_back rows ls s stored_is f }) in
    λ i. side_lines (head.0 i) (head.1 i) (lines i)

-- ---- sides, one after the other
-- whatever sides the lines were of, some of them are read, and the others are those of what is left
pub record IsPartly (lines rest : List SideLine) (done : List SlipSide) : Type 0 where
  pub kept : (ss : List OldSide) → EachOf WasSide ss → lines ≡ flat_map old_side_lines ss
      → (left : List OldSide) × EachOf WasSide left × (rest ≡ flat_map old_side_lines left)
      × (flat_map new_side_lines ss ≡ flat_map lines_in_side done ++ flat_map new_side_lines left)
  pub none : WereNoSides rest → WereNoSides lines

pub nothing_read : (lines : List SideLine) (done : List SlipSide) → done ≡ [] → IsPartly lines lines done
nothing_read lines done is = subst (IsPartly lines lines) (sym is)
    (record { kept = λ ss were e. (ss, were, e, refl); none = λ none. none })

flat_one : (done more : List SlipSide) (s : SlipSide) → more ≡ done ++ s ∷ []
    → flat_map lines_in_side more ≡ flat_map lines_in_side done ++ lines_in_side s
flat_one done more s pushed = ap (flat_map lines_in_side) pushed ∙ flat_map-append lines_in_side done (s ∷ [])
    ∙ ap (λ (x : List SideLine). flat_map lines_in_side done ++ x) (append-nil (lines_in_side s))

pub no_others : (rows others : List Row) (n : ℕ) → 0 < length rows → n ≡ first_length (side_lines_in rows)
    → others ≡ drop n rows → WereNoSides (side_lines_in others) → WereNoSides (side_lines_in rows)
no_others rows others n some long e none_else [] shallow f = some_lines rows some f
no_others rows others n some long e none_else (s ∷ ss) shallow f =
    none_else ss shallow.1 (ap side_lines_in (e ∙ ap (λ k. drop k rows) long)
    ∙ sym (drop-map (λ (r : Row). r.1) (first_length (side_lines_in rows)) rows)
    ∙ after_same begins_side old_side_lines old_piece (side_lines_in rows) s ss f)

pub no_first : (rows first : List Row) (n : ℕ) → 0 < length rows → n ≡ first_length (side_lines_in rows)
    → first ≡ take n rows → WasNoSide (side_lines_in first) → WereNoSides (side_lines_in rows)
no_first rows first n some long e none_first [] shallow f = some_lines rows some f
no_first rows first n some long e none_first (s ∷ ss) shallow f =
    none_first s shallow.0 (ap side_lines_in (e ∙ ap (λ k. take k rows) long)
    ∙ sym (take-map (λ (r : Row). r.1) (first_length (side_lines_in rows)) rows)
    ∙ first_same begins_side old_side_lines old_piece (side_lines_in rows) s ss f)

pub one_read : (lines : List SideLine) (rows first others : List Row) (n : ℕ) (done more : List SlipSide)
    (s : SlipSide) → 0 < length rows → n ≡ first_length (side_lines_in rows) → first ≡ take n rows
    → others ≡ drop n rows → rows ≡ first ++ others → more ≡ done ++ s ∷ [] → IsSideAnewOf (side_lines_in first) s
    → IsPartly lines (side_lines_in rows) done → IsPartly lines (side_lines_in others) more
one_read lines rows first others n done more s some long fst snd parts pushed is way =
    let next : (left : List OldSide) → EachOf WasSide left → side_lines_in rows ≡ flat_map old_side_lines left
    → (after : List OldSide) × EachOf WasSide after × (side_lines_in others ≡ flat_map old_side_lines after)
    × (flat_map new_side_lines left ≡ lines_in_side s ++ flat_map new_side_lines after) =
    λ left were e. go left were e in
    record {
      kept = λ ss were e.
          let came = way.kept ss were e in
          let step = next came.0 came.1 came.2 in (
            step.0,
            step.1,
            step.2,
            came.3 ∙ ap (λ (x : List SideLine). flat_map lines_in_side done ++ x) step.3
                ∙ sym (append_assoc (flat_map lines_in_side done) (lines_in_side s) (flat_map new_side_lines step.0))
                ∙ ap (λ (x : List SideLine). x ++ flat_map new_side_lines step.0) (sym (flat_one done more s pushed)),
          );
      none = λ none_else. way.none (no_others rows others n some long snd none_else);
    }
  where
    go : (left : List OldSide) → EachOf WasSide left → side_lines_in rows ≡ flat_map old_side_lines left
        → (after : List OldSide) × EachOf WasSide after × (side_lines_in others ≡ flat_map old_side_lines after)
        × (flat_map new_side_lines left ≡ lines_in_side s ++ flat_map new_side_lines after)
    go [] were e = absurd (some_lines rows some e)
    go (o ∷ os) were e =
        let front : side_lines_in first ≡ old_side_lines o = ap side_lines_in (fst ∙ ap (λ k. take k rows) long)
        ∙ sym (take-map (λ (r : Row). r.1) (first_length (side_lines_in rows)) rows)
        ∙ first_same begins_side old_side_lines old_piece (side_lines_in rows) o os e in
        let back : side_lines_in others ≡ flat_map old_side_lines os = ap side_lines_in
        (snd ∙ ap (λ k. drop k rows) long)
        ∙ sym (drop-map (λ (r : Row). r.1) (first_length (side_lines_in rows)) rows)
        ∙ after_same begins_side old_side_lines old_piece (side_lines_in rows) o os e in
        (os, were.1, back, ap (λ (x : List SideLine). x ++ flat_map new_side_lines os) (sym (is o were.0 front)))

-- all are read
none_left : (left : List OldSide) → [] ≡ flat_map old_side_lines left → left ≡ []
none_left [] e = refl
none_left (s ∷ ss) e = absurd (empty (old_side_lines s) (flat_map old_side_lines ss) (old_piece s) e)
  where
    empty : (xs ys : List SideLine) → IsPiece begins_side xs → [] ≡ xs ++ ys → ⊥
    empty [] ys piece e = piece
    empty (x ∷ xs) ys piece e = cc

no_rows : (rows : List Row) → true ≡ (length rows == 0) → rows ≡ []
no_rows [] e = refl
no_rows (r ∷ rs) e = absurd (omega (arith, eqb-true (length (r ∷ rs)) 0 (sym e)))

pub all_read : (lines : List SideLine) (rows : List Row) (done : List SlipSide) → true ≡ (length rows == 0)
    → IsPartly lines (side_lines_in rows) done → AreSidesAnewOf lines done
all_read lines rows done is_empty way ss were e =
    let none = no_rows rows is_empty in
    let came = way.kept ss were e in
    let left : came.0 ≡ [] = none_left came.0 (ap side_lines_in (sym none) ∙ came.2) in
    sym (came.3 ∙ ap (λ (x : List OldSide). flat_map lines_in_side done ++ flat_map new_side_lines x) left
    ∙ append-nil (flat_map lines_in_side done))

-- ---- changes
pub changes_read : (lines : List SideLine) (sides : List SlipSide) → AreSidesAnewOf lines sides
    → AreChangesAnewOf lines sides
changes_read lines sides are cs were e = are (flat_map old_sides cs) (were_sides cs were) (e ∙ were_of_sides cs)
    ∙ sym (are_of_sides cs)

pub no_changes : (lines : List SideLine) → WereNoSides lines → WereNoChanges lines
no_changes lines none cs were shallow e =
    none (flat_map old_sides cs) (shallow_sides cs were shallow) (e ∙ were_of_sides cs)

-- ---- lines are those of one list of changes of that time at the most
old_head : (s t : OldSide) → old_side_lines s ≡ old_side_lines t → (s.is_new ≡ t.is_new) × (s.number ≡ t.number)
old_head s t e = go (old_lines s.old) (old_piece s) e
  where
    go : (ls : List (ℕ × Label)) → IsPiece begins_side (side_lines s.is_new s.number ls)
        → side_lines s.is_new s.number ls ≡ old_side_lines t → (s.is_new ≡ t.is_new) × (s.number ≡ t.number)
    go [] piece f = absurd piece
    go (l ∷ ls) piece f =
        let row : Row = (0, (s.is_new, (s.number, l))) in
        let rows : List Row = row ∷ map (λ (x : ℕ × Label). (0, (s.is_new, (s.number, x)))) ls in
        same_head rows s.is_new s.number (l ∷ ls) t (rows_are (l ∷ ls)) (rows_are (l ∷ ls) ∙ f)
      where
        rows_are : (xs : List (ℕ × Label))
            → side_lines_in (map (λ (x : ℕ × Label). (0, (s.is_new, (s.number, x)))) xs)
            ≡ side_lines s.is_new s.number xs
        rows_are [] = refl
        rows_are (x ∷ xs) = ap (λ (ys : List SideLine). (s.is_new, (s.number, x)) ∷ ys) (rows_are xs)

one_old_side : (s t : OldSide) → WasSide s → WasSide t → old_side_lines s ≡ old_side_lines t → s ≡ t
one_old_side s t was too e =
    let head = old_head s t e in
    let lines : old_lines s.old ≡ old_lines t.old = sym (stored_back s.is_new s.number (old_lines s.old))
    ∙ ap (map (λ (l : SideLine). l.1.1)) e ∙ stored_back t.is_new t.number (old_lines t.old) in
    let same : s.old ≡ t.old = one_old (old_lines s.old) s.old t.old
    (record { is = was; lines = refl }) (record { is = too; lines = lines }) in
    λ i. record { is_new = head.0 i; number = head.1 i; old = same i }

pub one_old_sides : (ss ts : List OldSide) → EachOf WasSide ss → EachOf WasSide ts
    → flat_map old_side_lines ss ≡ flat_map old_side_lines ts → ss ≡ ts
one_old_sides [] ts were too e = sym (none_left ts e)
one_old_sides (s ∷ ss) [] were too e = none_left (s ∷ ss) (sym e)
one_old_sides (s ∷ ss) (t ∷ ts) were too e =
    let all : List SideLine = flat_map old_side_lines (s ∷ ss) in
    let head : s ≡ t = one_old_side s t were.0 too.0
    (sym (first_same begins_side old_side_lines old_piece all s ss refl)
    ∙ first_same begins_side old_side_lines old_piece all t ts e) in
    let tail : ss ≡ ts = one_old_sides ss ts were.1 too.1
    (sym (after_same begins_side old_side_lines old_piece all s ss refl)
    ∙ after_same begins_side old_side_lines old_piece all t ts e) in
    cc
