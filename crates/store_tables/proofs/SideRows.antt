-- The sides of slips, read again: the row of a side has one list of lines, and their lines are those of the slip.
use Rattle.std.proofs.Common.{
  ◌≡◌,
  ℕ,
  ℤ,
  ◌<◌,
  ◌==◌,
  ◌∙◌,
  ◌++◌,
  append-nil,
  filter,
  subst,
  pos,
  not,
  Bool,
  true,
  false,
  List,
  [],
  map,
  flat_map,
  sym,
  ap,
  ap₂,
  refl,
}
use Rattle.std.specs.Ordering.{int_eq}
use Rattle.sqlite.specs.declared.types.Value.{Value}
use Rattle.sqlite.specs.declared.types.Value.TheVariants.{Int}
use Rattle.sqlite.specs.Order.{Row, column}
use Rattle.sqlite.specs.Tree.{IsAscending, Trees}
use Rattle.stored_lines.specs.Line.{Label}
use Rattle.store_tables.specs.Conversion.{HasPack}
use Rattle.store_tables.specs.Keyed.{slip_lines_at, slip_packs_at}
use Rattle.store_tables.specs.Reading.{
  IsTypedSlipPack,
  lines_in_pack,
  read_sides,
  read_slip_line,
  read_slip_pack,
}
use Rattle.store_tables.specs.Rows.{Holds, HoldsSides, Rows, SlipLineRow, SlipPackRow, SlipSide, flag, slip_place}
use Rattle.store_tables.specs.Showing.{IsFlagAt}
use Rattle.store_tables.specs.Shown.{shown_slip_pack}
use Rattle.store_tables.proofs.Packing.{one_list}

same_integer : (m n : ℤ) → ◌≡◌ {A = Value} (Int m) (Int n) → m ≡ n
same_integer m n e = cc

same_number : (m n : ℕ) → ◌≡◌ {A = Value} (Int (pos m)) (Int (pos n)) → m ≡ n
same_number m n e = cc

flag_again : (b : Bool) → not (int_eq (pos (flag b)) (pos 0)) ≡ b
flag_again true = refl
flag_again false = refl

same_flag : (row : Row) (a b : Bool) → IsFlagAt row 1 a → column row 1 ≡ Int (pos (flag b)) → a ≡ b
same_flag row a b has is =
    has.2 ∙ ap (λ n. not (int_eq n (pos 0))) (same_integer has.0 (pos (flag b)) (sym has.1 ∙ is)) ∙ flag_again b

pub one_side : (row : Row) (slip : ℕ) (is_new : Bool) (n : ℕ) (ls : List (ℕ × Label)) (s : SlipPackRow)
    → column row 0 ≡ Int (pos slip) → IsFlagAt row 1 is_new → column row 2 ≡ Int (pos n) → HasPack row 4 ls
    → IsTypedSlipPack s → row ≡ shown_slip_pack s → (slip, (is_new, (n, ls))) ≡ read_slip_pack s
one_side row slip is_new n ls s first flagged number has typed is =
    let same_slip : slip ≡ s.slip = same_number slip s.slip (sym first ∙ ap (λ r. column r 0) is) in
    let same_new : is_new ≡ s.side.0 = same_flag row is_new s.side.0 flagged (ap (λ r. column r 1) is) in
    let same_n : n ≡ s.side.1.0 = same_number n s.side.1.0 (sym number ∙ ap (λ r. column r 2) is) in
    let same_lines : ls ≡ s.side.1.1 = one_list row 4 ls s.side.1.1 has (ap (λ r. column r 4) is)
    (ap (λ r. column r 5) is) (ap (λ r. column r 6) is) typed.top typed.lines in
    ap₂ (λ (k : ℕ) (side : SlipSide). (k, side)) same_slip
    (ap₂ (λ (b : Bool) (l : ℕ × List (ℕ × Label)). (b, l)) same_new
    (ap₂ (λ (m : ℕ) (l : List (ℕ × Label)). (m, l)) same_n same_lines))

-- ---- the lines that are read
-- of the second schema, which has none in rows of their own
pub sides_read : (rows : Rows) (packs : List (ℕ × SlipSide)) → rows.slip_lines ≡ []
    → packs ≡ map read_slip_pack rows.slip_packs → flat_map lines_in_pack packs ≡ read_sides rows
sides_read rows packs none is =
    ap (flat_map lines_in_pack) is
    ∙ sym (ap (λ (ls : List SlipLineRow). map read_slip_line ls
    ++ flat_map lines_in_pack (map read_slip_pack rows.slip_packs)) none)

-- of the first one, which has no others
pub lines_read : (rows : Rows) (lines : List (ℕ × (Bool × (ℕ × (ℕ × Label))))) → rows.slip_packs ≡ []
    → lines ≡ map read_slip_line rows.slip_lines → lines ≡ read_sides rows
lines_read rows lines none is =
    is ∙ sym (append-nil (map read_slip_line rows.slip_lines))
    ∙ sym (ap (λ (ps : List SlipPackRow). map read_slip_line rows.slip_lines
    ++ flat_map lines_in_pack (map read_slip_pack ps)) none)

pub sides_read_at : (n : ℕ) (rows : Rows) (packs : List (ℕ × SlipSide)) → rows.slip_lines ≡ []
    → packs ≡ slip_packs_at n rows → flat_map lines_in_pack packs ≡ slip_lines_at n rows
sides_read_at n rows packs none is =
    ap (flat_map lines_in_pack) is
    ∙ sym (ap (λ (ls : List SlipLineRow). map read_slip_line (filter (λ (s : SlipLineRow). s.slip == n) ls)
    ++ flat_map lines_in_pack (slip_packs_at n rows)) none)

-- ---- the sides that tables hold are in the order of their places; those of the first schema hold none
pub sides_rise : (rows : Rows) (t : Trees) → Holds rows t
    → IsAscending (λ (a b : SlipPackRow). slip_place a < slip_place b) rows.slip_packs
sides_rise rows t h = go rows.has_spans rows.slip_lines rows.slip_packs h.sides
  where
    go : (b : Bool) (lines : List SlipLineRow) (packs : List SlipPackRow) → HoldsSides b lines packs t
        → IsAscending (λ (a b : SlipPackRow). slip_place a < slip_place b) packs
    go false lines packs held =
        subst (IsAscending (λ (a b : SlipPackRow). slip_place a < slip_place b)) (sym held.1) tt
    go true lines packs held = held.1.rise

pub no_packs : (rows : Rows) (t : Trees) → rows.has_spans ≡ false → Holds rows t → rows.slip_packs ≡ []
no_packs rows t first h =
    (subst (λ b. HoldsSides b rows.slip_lines rows.slip_packs t) first h.sides).1
