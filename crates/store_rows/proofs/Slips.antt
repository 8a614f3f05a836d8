-- What the rows of slips mean after a slip is made or undone.
use Rattle.std.proofs.Common.{
  ◌≡◌,
  ◌≢◌,
  ℕ,
  ◌<◌,
  ◌+◌,
  Bool,
  true,
  false,
  List,
  [],
  ◌∷◌,
  ◌++◌,
  map,
  filter,
  cond,
  nat_lt,
  refl,
  sym,
  ap,
  ap₂,
  ◌∙◌,
  ◌⊎◌,
  inl,
  inr,
  append_assoc,
  arith,
}
use Rattle.std.specs.Prelude.{◌==◌, Option, Some, None, MatchOption, option_map}
use Rattle.std.specs.List.{flat_map}
use Rattle.std.specs.FinMap.{get, insert}
use Rattle.std.specs.Ordering.{nat_cmp}
use Rattle.std.specs.declared.cmp.Ordering.TheVariants.{Less, Equal, Greater}
use Rattle.std.proofs.lemmas.Bool.Decides.{nat_tests}
use Rattle.std.proofs.lemmas.List.{append-nil}
use Rattle.std.proofs.lemmas.Grind.{flat_map-append}
use Rattle.std.proofs.lemmas.List.Elements.{filter-append}
use Rattle.stored_lines.specs.Line.{Label}
use Rattle.record_kinds.specs.declared.record.Record.{Record}
use Rattle.records.specs.Stored.{stored}
use Rattle.archive_state.specs.Content.{Slips}
use Rattle.archive_state.specs.Slips.{Slip}
use Rattle.archive_state.specs.Applied.{as_undone, put_if}
use Rattle.archive_state.specs.declared.slip.Change.{Change}
use Rattle.store_tables.specs.Rows.{
  Rows,
  SlipRow,
  SlipLineRow,
  SlipPackRow,
  SlipSide,
  lines_in_side,
  slip_line_of,
  slip_lines_of,
  put_by,
  undone_at,
  with_undone,
  with_slip_row,
}
use Rattle.store_tables.specs.Sides.{placed, with_slip_sides}
use Rattle.store_rows.specs.Meaning.{IsSlipAt, side_lines, new_side, change_lines, slip_row, slip_row_at}
use Rattle.store_rows.specs.Writing.{new_sides_stored, sides_stored, with_slip_made}
use Rattle.store_rows.proofs.Got.{got_put, got_undone}
use Rattle.store_rows.proofs.Own.{
  own,
  either_way,
  put_here,
  put_elsewhere,
  none_left,
  others_left,
  own_changed,
}
use Rattle.list_laws.proofs.Numbers.{is_not, it, not_it}

-- ---- the row
abbrev first : List SlipRow → Option SlipRow
first [] = None
first (s ∷ ss) = Some s

pub first_own : (n : ℕ) (ss : List SlipRow) → slip_row_at n ss ≡ first (own (λ (s : SlipRow). s.no) n ss)
first_own n [] = refl
first_own n (s ∷ ss) =
    elim (s.no == n) as (λ b. cond b (Some s) (slip_row_at n ss) ≡ first
    (cond b (s ∷ own (λ (k : SlipRow). k.no) n ss) (own (λ (k : SlipRow). k.no) n ss))) [
      | true ↦ refl
      | false ↦ first_own n ss
    ]

row_put : (n : ℕ) (row : SlipRow) (ss : List SlipRow) → slip_row_at n (put_by (λ (s : SlipRow). s.no) row ss)
    ≡ cond (row.no == n) (Some row) (slip_row_at n ss)
row_put n row ss =
    let key = λ (s : SlipRow). s.no in
    first_own n (put_by key row ss) ∙
    (elim (row.no == n) as (λ b. (row.no == n) ≡ b → first (own key n (put_by key row ss)) ≡ cond b (Some row)
    (slip_row_at n ss)) [
      | true ↦ λ e. let (more, is) = put_here key n row ss (it row.no n e) in ap first is
      | false ↦ λ e. ap first (put_elsewhere key n row ss (not_it row.no n e)) ∙ sym (first_own n ss)
    ] refl)

undone_keeps : (n : ℕ) (s : SlipRow) → (undone_at n s).no ≡ s.no
undone_keeps n s = elim (s.no == n) as (λ b. (cond b (let t : SlipRow = record s { is_undone = true } in t) s).no
    ≡ s.no) [ true ↦ refl | false ↦ refl ]

first_changed : (f : SlipRow → SlipRow) (ss : List SlipRow) → first (map f ss) ≡ option_map f (first ss)
first_changed f [] = refl
first_changed f (s ∷ ss) = refl

row_undone : (n k : ℕ) (ss : List SlipRow) → slip_row_at n (map (undone_at k) ss) ≡ option_map (undone_at k)
    (slip_row_at n ss)
row_undone n k ss =
    let key = λ (s : SlipRow). s.no in
    first_own n (map (undone_at k) ss) ∙ ap first (own_changed key (undone_at k) (undone_keeps k) n ss)
    ∙ first_changed (undone_at k) (own key n ss) ∙ ap (option_map (undone_at k)) (sym (first_own n ss))

-- ---- its lines
-- the lines of the sides of changes
new_stored : (n : ℕ) (new : Option Record) → flat_map lines_in_side (new_sides_stored n new) ≡ new_side n new
new_stored n None = refl
new_stored n (Some r) = append-nil (side_lines true n (stored r))

lines_stored : (cs : List Change) → flat_map lines_in_side (flat_map sides_stored cs) ≡ flat_map change_lines cs
lines_stored [] = refl
lines_stored (c ∷ cs) =
    let old = side_lines false c.number (stored c.old) in
    let new = new_sides_stored c.number c.new in
    ap (λ (ks : List (Bool × (ℕ × (ℕ × Label)))). old ++ ks)
    (flat_map-append lines_in_side new (flat_map sides_stored cs)
    ∙ ap₂ (λ (ks ls : List (Bool × (ℕ × (ℕ × Label)))). ks ++ ls) (new_stored c.number c.new) (lines_stored cs))
    ∙ sym (append_assoc old (new_side c.number c.new) (flat_map change_lines cs))

-- the sides of a number among those that are put
abbrev lines_in : SlipPackRow → List (Bool × (ℕ × (ℕ × Label)))
lines_in s = lines_in_side s.side

abbrev slip_of : SlipPackRow → ℕ
slip_of s = s.slip

placed_own : (n at : ℕ) (ss : List SlipSide) → flat_map lines_in (own slip_of n (placed n at ss))
    ≡ flat_map lines_in_side ss
placed_own n at [] = refl
placed_own n at (s ∷ ss) =
    let same : (n == n) ≡ true = grind (arith, nat_tests) in
    rw same (ap (λ (ks : List (Bool × (ℕ × (ℕ × Label)))). lines_in_side s ++ ks) (placed_own n (at + 1) ss))

placed_elsewhere : (m n at : ℕ) (ss : List SlipSide) → n ≢ m → own slip_of m (placed n at ss) ≡ []
placed_elsewhere m n at [] off = refl
placed_elsewhere m n at (s ∷ ss) off = rw (is_not n m off) (placed_elsewhere m n (at + 1) ss off)

-- of the number itself there is none before its place, and none after
none_before : (n : ℕ) (ss : List SlipPackRow) → own slip_of n (filter (λ (s : SlipPackRow). nat_lt s.slip n) ss) ≡ []
none_before n [] = refl
none_before n (s ∷ ss) =
    elim (nat_lt s.slip n) as (λ b. nat_lt s.slip n ≡ b
    → own slip_of n (cond b (s ∷ filter (λ (s : SlipPackRow). nat_lt s.slip n) ss)
    (filter (λ (s : SlipPackRow). nat_lt s.slip n) ss)) ≡ []) [
      | true ↦ λ e. let off : (s.slip == n) ≡ false = grind (arith, nat_tests, e) in rw off (none_before n ss)
      | false ↦ λ e. none_before n ss
    ] refl

none_behind : (n : ℕ) (ss : List SlipPackRow) → own slip_of n (filter (λ (s : SlipPackRow). nat_lt n s.slip) ss) ≡ []
none_behind n [] = refl
none_behind n (s ∷ ss) =
    elim (nat_lt n s.slip) as (λ b. nat_lt n s.slip ≡ b
    → own slip_of n (cond b (s ∷ filter (λ (s : SlipPackRow). nat_lt n s.slip) ss)
    (filter (λ (s : SlipPackRow). nat_lt n s.slip) ss)) ≡ []) [
      | true ↦ λ e. let off : (s.slip == n) ≡ false = grind (arith, nat_tests, e) in rw off (none_behind n ss)
      | false ↦ λ e. none_behind n ss
    ] refl

-- another number has all of its own on one side
all_before : (m n : ℕ) → m < n → (ss : List SlipPackRow)
    → own slip_of m (filter (λ (s : SlipPackRow). nat_lt s.slip n) ss) ≡ own slip_of m ss
all_before m n low [] = refl
all_before m n low (s ∷ ss) =
    elim (s.slip == m) as (λ b. (s.slip == m) ≡ b
    → own slip_of m (filter (λ (s : SlipPackRow). nat_lt s.slip n) (s ∷ ss))
    ≡ cond b (s ∷ own slip_of m ss) (own slip_of m ss)) [
      | true ↦ λ e. let here : nat_lt s.slip n ≡ true = grind (arith, nat_tests, low, e) in
          rw (here, e) (ap (λ xs. s ∷ xs) (all_before m n low ss))
      | false ↦ λ e. other e (nat_lt s.slip n) (all_before m n low ss)
    ] refl
  where
    other : (s.slip == m) ≡ false → (b : Bool)
        → own slip_of m (filter (λ (s : SlipPackRow). nat_lt s.slip n) ss) ≡ own slip_of m ss
        → own slip_of m (cond b (s ∷ filter (λ (s : SlipPackRow). nat_lt s.slip n) ss)
        (filter (λ (s : SlipPackRow). nat_lt s.slip n) ss)) ≡ own slip_of m ss
    other e true ih = rw e ih
    other e false ih = ih

none_of_before : (m n : ℕ) → n < m → (ss : List SlipPackRow)
    → own slip_of m (filter (λ (s : SlipPackRow). nat_lt s.slip n) ss) ≡ []
none_of_before m n high [] = refl
none_of_before m n high (s ∷ ss) =
    elim (nat_lt s.slip n) as (λ b. nat_lt s.slip n ≡ b
    → own slip_of m (cond b (s ∷ filter (λ (s : SlipPackRow). nat_lt s.slip n) ss)
    (filter (λ (s : SlipPackRow). nat_lt s.slip n) ss)) ≡ []) [
      | true ↦ λ e. let off : (s.slip == m) ≡ false = grind (arith, nat_tests, e, high) in
          rw off (none_of_before m n high ss)
      | false ↦ λ e. none_of_before m n high ss
    ] refl

all_behind : (m n : ℕ) → n < m → (ss : List SlipPackRow)
    → own slip_of m (filter (λ (s : SlipPackRow). nat_lt n s.slip) ss) ≡ own slip_of m ss
all_behind m n high [] = refl
all_behind m n high (s ∷ ss) =
    elim (s.slip == m) as (λ b. (s.slip == m) ≡ b
    → own slip_of m (filter (λ (s : SlipPackRow). nat_lt n s.slip) (s ∷ ss))
    ≡ cond b (s ∷ own slip_of m ss) (own slip_of m ss)) [
      | true ↦ λ e. let here : nat_lt n s.slip ≡ true = grind (arith, nat_tests, high, e) in
          rw (here, e) (ap (λ xs. s ∷ xs) (all_behind m n high ss))
      | false ↦ λ e. other e (nat_lt n s.slip) (all_behind m n high ss)
    ] refl
  where
    other : (s.slip == m) ≡ false → (b : Bool)
        → own slip_of m (filter (λ (s : SlipPackRow). nat_lt n s.slip) ss) ≡ own slip_of m ss
        → own slip_of m (cond b (s ∷ filter (λ (s : SlipPackRow). nat_lt n s.slip) ss)
        (filter (λ (s : SlipPackRow). nat_lt n s.slip) ss)) ≡ own slip_of m ss
    other e true ih = rw e ih
    other e false ih = ih

none_of_behind : (m n : ℕ) → m < n → (ss : List SlipPackRow)
    → own slip_of m (filter (λ (s : SlipPackRow). nat_lt n s.slip) ss) ≡ []
none_of_behind m n low [] = refl
none_of_behind m n low (s ∷ ss) =
    elim (nat_lt n s.slip) as (λ b. nat_lt n s.slip ≡ b
    → own slip_of m (cond b (s ∷ filter (λ (s : SlipPackRow). nat_lt n s.slip) ss)
    (filter (λ (s : SlipPackRow). nat_lt n s.slip) ss)) ≡ []) [
      | true ↦ λ e. let off : (s.slip == m) ≡ false = grind (arith, nat_tests, e, low) in
          rw off (none_of_behind m n low ss)
      | false ↦ λ e. none_of_behind m n low ss
    ] refl

-- what is there of a number when sides are put between those before and after
cut : (m : ℕ) (xs ys zs : List SlipPackRow) → own slip_of m (xs ++ (ys ++ zs))
    ≡ own slip_of m xs ++ (own slip_of m ys ++ own slip_of m zs)
cut m xs ys zs = filter-append (λ (s : SlipPackRow). s.slip == m) xs (ys ++ zs)
    ∙ ap (λ (ps : List SlipPackRow). own slip_of m xs ++ ps) (filter-append (λ (s : SlipPackRow). s.slip == m) ys zs)

put_own : (n : ℕ) (sides : List SlipSide) (rows : Rows)
    → flat_map lines_in (own slip_of n (with_slip_sides n sides rows).slip_packs) ≡ flat_map lines_in_side sides
put_own n sides rows =
    let first = filter (λ (s : SlipPackRow). nat_lt s.slip n) rows.slip_packs in
    let last = filter (λ (s : SlipPackRow). nat_lt n s.slip) rows.slip_packs in
    let mine = own slip_of n (placed n 0 sides) in
    ap (flat_map lines_in) (cut n first (placed n 0 sides) last
    ∙ ap₂ (λ (xs zs : List SlipPackRow). xs ++ (mine ++ zs)) (none_before n rows.slip_packs)
    (none_behind n rows.slip_packs) ∙ append-nil mine)
    ∙ placed_own n 0 sides

put_others : (m n : ℕ) (sides : List SlipSide) (rows : Rows) → n ≢ m
    → own slip_of m (with_slip_sides n sides rows).slip_packs ≡ own slip_of m rows.slip_packs
put_others m n sides rows off =
    let first = filter (λ (s : SlipPackRow). nat_lt s.slip n) rows.slip_packs in
    let last = filter (λ (s : SlipPackRow). nat_lt n s.slip) rows.slip_packs in
    let mine = placed_elsewhere m n 0 sides off in
    cut m first (placed n 0 sides) last
    ∙ ap (λ (ys : List SlipPackRow). own slip_of m first ++ (ys ++ own slip_of m last)) mine
    ∙ (elim (apart m n off) [
      | inl low ↦ ap₂ (λ (xs ys : List SlipPackRow). xs ++ ys) (all_before m n low rows.slip_packs)
          (none_of_behind m n low rows.slip_packs) ∙ append-nil (own slip_of m rows.slip_packs)
      | inr high ↦ ap₂ (λ (xs ys : List SlipPackRow). xs ++ ys) (none_of_before m n high rows.slip_packs)
          (all_behind m n high rows.slip_packs)
    ])
  where
    apart : (m n : ℕ) → n ≢ m → (m < n) ⊎ (n < m)
    apart m n off = elim (nat_cmp m n) as (λ o. nat_cmp m n ≡ o → (m < n) ⊎ (n < m)) [
      | Less ↦ λ e. inl (grind (arith, nat_tests, e))
      | Equal ↦ λ e. absurd (off (grind (arith, nat_tests, e)))
      | Greater ↦ λ e. inr (grind (arith, nat_tests, e))
    ] refl

-- the lines of a number where the sides of one are put
pub sides_put : (n k : ℕ) (sides : List SlipSide) (rows : Rows) → slip_lines_of n (with_slip_sides k sides rows)
    ≡ cond (k == n) (flat_map lines_in_side sides) (slip_lines_of n rows)
sides_put n k sides rows =
    elim (k == n) as (λ b. (k == n) ≡ b → slip_lines_of n (with_slip_sides k sides rows)
    ≡ cond b (flat_map lines_in_side sides) (slip_lines_of n rows)) [
      | true ↦ λ e. ap (λ j. slip_lines_of n (with_slip_sides j sides rows)) (it k n e)
          ∙ ap₂ (λ (ls : List SlipLineRow) (ks : List (Bool × (ℕ × (ℕ × Label)))). map slip_line_of ls ++ ks)
          (none_left (λ (s : SlipLineRow). s.slip) n rows.slip_lines) (put_own n sides rows)
      | false ↦ λ e. ap₂
          (λ (ls : List SlipLineRow) (ps : List SlipPackRow). map slip_line_of ls ++ flat_map lines_in ps)
          (others_left (λ (s : SlipLineRow). s.slip) n k rows.slip_lines (not_it k n e))
          (put_others n k sides rows (not_it k n e))
    ] refl

-- ---- a slip that is made
lines_made : (n k : ℕ) (slip : Slip) (rows : Rows) → slip_lines_of n (with_slip_made k slip rows)
    ≡ cond (k == n) (flat_map change_lines slip.changes) (slip_lines_of n rows)
lines_made n k slip rows =
    sides_put n k (flat_map sides_stored slip.changes) (with_slip_row k slip.keep slip.gone slip.is_undone rows)
    ∙ ap (λ ls. cond (k == n) ls (slip_lines_of n rows)) (lines_stored slip.changes)

-- what slip is at a number that has this row and these lines
abbrev pub IsSlipOf : ℕ → Option SlipRow → List (Bool × (ℕ × (ℕ × Label))) → Option Slip → Type 0
IsSlipOf n row lines found = MatchOption found (row ≡ None)
    (λ slip. (row ≡ Some (slip_row n slip)) × (lines ≡ flat_map change_lines slip.changes))

moved : (n : ℕ) (row row2 : Option SlipRow) (lines lines2 : List (Bool × (ℕ × (ℕ × Label))))
    (found found2 : Option Slip) → row ≡ row2 → lines ≡ lines2 → found ≡ found2 → IsSlipOf n row2 lines2 found2
    → IsSlipOf n row lines found
moved n row row2 lines lines2 found found2 p q r h = rw (p, q, r) h

pub made_read : (k : ℕ) (slip : Slip) (rows : Rows) (m : Slips) (n : ℕ) → IsSlipAt rows n (get m n)
    → IsSlipOf n (slip_row_at n (put_by (λ (s : SlipRow). s.no) (slip_row k slip) rows.slips))
    (slip_lines_of n (with_slip_made k slip rows)) (get (insert m k slip) n)
made_read k slip rows m n h =
    moved n _ _ _ _ _ _ (row_put n (slip_row k slip) rows.slips) (lines_made n k slip rows) (got_put m k slip n)
    (elim (k == n) as (λ b. (k == n) ≡ b → IsSlipOf n (cond b (Some (slip_row k slip)) (slip_row_at n rows.slips))
    (cond b (flat_map change_lines slip.changes) (slip_lines_of n rows)) (cond b (Some slip) (get m n))) [
      | true ↦ λ e. (ap (λ j. Some (slip_row j slip)) (it k n e), refl)
      | false ↦ λ e. h
    ] refl)

-- ---- a slip that is undone
marked : (n k : ℕ) (found : Option Slip) (row : Option SlipRow) (lines : List (Bool × (ℕ × (ℕ × Label))))
    → IsSlipOf n row lines found → IsSlipOf n (option_map (undone_at k) row) lines
    (cond (k == n) (option_map as_undone found) found)
marked n k None row lines h =
    elim (k == n) as (λ b. IsSlipOf n (option_map (undone_at k) row) lines (cond b None None))
    [ true ↦ ap (option_map (undone_at k)) h | false ↦ ap (option_map (undone_at k)) h ]
marked n k (Some slip) row lines h =
    let kept : SlipRow = slip_row n slip in
    let after : Bool → SlipRow = λ b. cond b (record kept { is_undone = true }) kept in
    elim (k == n) as (λ b. (k == n) ≡ b → IsSlipOf n (option_map (undone_at k) row) lines
    (cond b (Some (as_undone slip)) (Some slip))) [
      | true ↦ λ e. (ap (option_map (undone_at k)) h.0 ∙ ap (λ b. Some (after b)) (either_way n k ∙ e), h.1)
      | false ↦ λ e. (ap (option_map (undone_at k)) h.0 ∙ ap (λ b. Some (after b)) (either_way n k ∙ e), h.1)
    ] refl

pub undone_read : (k : ℕ) (rows : Rows) (m : Slips) (n : ℕ) → IsSlipAt rows n (get m n)
    → IsSlipAt (with_undone k rows) n (get (put_if m k (option_map as_undone (get m k))) n)
undone_read k rows m n h =
    moved n _ _ _ _ _ _ (row_undone n k rows.slips) refl (got_undone m k n (get m k) refl)
    (marked n k (get m n) (slip_row_at n rows.slips) (slip_lines_of n rows) h)
