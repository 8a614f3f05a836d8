-- What a row that a query shows is read as, and why one is refused.
use Rattle.std.specs.Prelude.{◌≡◌, ◌+◌, ◌<◌, ℕ, pos, List, [], ◌∷◌, length, ⊤}
use Rattle.std.specs.List.{AllByRecursion}
use Rattle.std.specs.Str.{IsUtf8}
use Rattle.sqlite.specs.declared.types.Value.TheVariants.{Int, Text as Words}
use Rattle.sqlite.specs.Order.{Row, column}
use Rattle.stored_lines.specs.Line.{Label}
use Rattle.packed_rows.specs.Packed.{packed}
pub use Rattle.packed_rows.specs.Packed.{FailsUnless}
use Rattle.store_tables.specs.Reading.{HaveTop, IsTypedLine, IsTypedPack, IsTypedSlipPack, read_pack, read_slip_pack}
use Rattle.store_tables.specs.Rows.{
  Rows,
  SlipSide,
  first_tag,
  first_target,
  words_or_null,
  number_or_null,
}
use Rattle.store_tables.specs.Shown.{shown_pack, shown_slip_pack}

-- the next number and the society
abbrev pub read_meta : Rows → ℕ × List ℕ
read_meta rows = (rows.next, rows.society)

-- whatever the row shows, it is read as that
abbrev pub IsReadBy : {X Y : Type 0} → (X → Row) → (X → Y) → Row → Y → Type 0
IsReadBy {X} shown read row item = (x : X) → row ≡ shown x → item ≡ read x

-- it is read so, and shows the item
abbrev pub IsReadAs : {X Y : Type 0} → (X → Row) → (X → Y) → (Row → Y → Type 0) → Row → Y → Type 0
IsReadAs shown read Shows row item = IsReadBy shown read row item × Shows row item

-- lines that three columns show, from a place on: the tag of the first one, their text, and the number that the first
-- one names
pub record HasPack (row : Row) (at : ℕ) (lines : List (ℕ × Label)) : Type 0 where
  pub tag : column row at ≡ Words (first_tag lines)
  pub text : column row (at + 1) ≡ Words (packed lines)
  pub target : column row (at + 2) ≡ number_or_null (first_target lines)
  pub utf8 : IsUtf8 (packed lines)
  pub top : HaveTop lines
  pub typed : AllByRecursion IsTypedLine lines

-- the first of some lines, which stands at depth 0
abbrev pub IsTop : ℕ × Label → List (ℕ × Label) → Type 0
IsTop first lines = (first.0 ≡ 0) × (below : List (ℕ × Label)) × (lines ≡ first ∷ below)

-- the same of values that are those of the program's types
abbrev pub IsTypedReadAs : {X Y : Type 0} → (X → Type 0) → (X → Row) → (X → Y) → (Row → Y → Type 0) → Row → Y → Type 0
IsTypedReadAs {X} IsTyped shown read Shows row item = ((x : X) → IsTyped x → row ≡ shown x → item ≡ read x)
    × Shows row item

-- lines in one row, whose text is read as the one list of typed lines that has it
abbrev pub IsPackReadAs : (Row → ℕ × List (ℕ × Label) → Type 0) → Row → ℕ × List (ℕ × Label) → Type 0
IsPackReadAs = IsTypedReadAs IsTypedPack shown_pack read_pack

abbrev pub IsSlipPackReadAs : (Row → ℕ × SlipSide → Type 0) → Row → ℕ × SlipSide → Type 0
IsSlipPackReadAs = IsTypedReadAs IsTypedSlipPack shown_slip_pack read_slip_pack

-- the row shows something whose values are those of the program's types
abbrev pub ShowsTyped : {X : Type 0} → (X → Row) → (X → Type 0) → Row → Type 0
ShowsTyped {X} shown IsTyped row = (x : X) × (row ≡ shown x) × IsTyped x

-- each row with the item at its place
abbrev pub EachWith : {X Y : Type 0} → (X → Y → Type 0) → List X → List Y → Type 0
EachWith R [] [] = ⊤
EachWith R [] (y ∷ ys) = ⊥
EachWith R (x ∷ xs) [] = ⊥
EachWith R (x ∷ xs) (y ∷ ys) = R x y × EachWith R xs ys

-- the four columns of a stored line, from a place on
pub record IsLineAt (row : Row) (at : ℕ) (line : ℕ × Label) : Type 0 where
  pub depth : column row at ≡ Int (pos line.0)
  pub tag : column row (at + 1) ≡ Words line.1.tag
  pub text : column row (at + 2) ≡ words_or_null line.1.text
  pub target : column row (at + 3) ≡ number_or_null line.1.target

-- they are there, and are those of a line whose values are of the program's types
abbrev pub HasLineAt : Row → ℕ → Type 0
HasLineAt row at = (at + 3 < length row) × (line : ℕ × Label) × IsLineAt row at line × IsTypedLine line
