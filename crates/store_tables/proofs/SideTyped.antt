-- What each statement on the sides of slips makes of rows whose values are of their types has such values.
use Rattle.std.proofs.Common.{ℕ}
use Rattle.std.specs.List.{AllByRecursion}
use Rattle.std.specs.Str.{IsUtf8}
use Rattle.packed_rows.specs.Packed.{packed}
use Rattle.store_tables.specs.Reading.{AreTyped, HaveTop, IsTypedLine, IsU32}
use Rattle.store_tables.specs.Rows.{Rows, SlipSide, slip_place}
use Rattle.store_tables.specs.Sides.{with_slip_side, without_slip_sides}
use Rattle.store_tables.proofs.Coded.{kept_by}
use Rattle.store_tables.proofs.Typed.{put_all}

pub typed_side : (n at : ℕ) (s : SlipSide) → IsU32 n → IsU32 at → IsU32 s.1.0 → HaveTop s.1.1
    → AllByRecursion IsTypedLine s.1.1 → IsUtf8 (packed s.1.1) → (rows : Rows) → AreTyped rows
    → AreTyped (with_slip_side n at s rows)
typed_side n at s low place number top lines text rows t = record {
  version = t.version;
  dated = t.dated;
  society = t.society;
  batches = t.batches;
  records = t.records;
  lines = t.lines;
  packs = t.packs;
  receipts = t.receipts;
  slips = t.slips;
  slip_lines = t.slip_lines;
  slip_packs = put_all _ slip_place _ rows.slip_packs
      (record { slip = low; place = place; number = number; top = top; lines = lines; text = text }) t.slip_packs;
  spans = t.spans;
  links = t.links;
  soughts = t.soughts;
}

pub typed_less_sides : (n : ℕ) (rows : Rows) → AreTyped rows → AreTyped (without_slip_sides n rows)
typed_less_sides n rows t = record {
  version = t.version;
  dated = t.dated;
  society = t.society;
  batches = t.batches;
  records = t.records;
  lines = t.lines;
  packs = t.packs;
  receipts = t.receipts;
  slips = t.slips;
  slip_lines = kept_by _ _ rows.slip_lines t.slip_lines;
  slip_packs = kept_by _ _ rows.slip_packs t.slip_packs;
  spans = t.spans;
  links = t.links;
  soughts = t.soughts;
}
