-- What each statement on spans, and on the version, makes of rows whose values are of their types has such values.
use Rattle.std.proofs.Common.{◌≡◌, inr, refl, ℕ, ℤ, true, Option, IfSome}
use Rattle.store_tables.specs.Reading.{AreTyped, IsDay, IsU32}
use Rattle.store_tables.specs.Rows.{Rows, SpanRow, with_span, with_later_tables, with_version, without_span}
use Rattle.store_tables.proofs.Coded.{kept_by}
use Rattle.store_tables.proofs.Typed.{put_all}

pub typed_span : (n : ℕ) (lo hi : Option ℤ) → IsU32 n → IfSome lo IsDay → IfSome hi IsDay → (rows : Rows)
    → AreTyped rows → AreTyped (with_span n lo hi rows)
typed_span n lo hi low first last rows t = record {
  version = t.version;
  dated = t.dated;
  society = t.society;
  batches = t.batches;
  records = t.records;
  lines = t.lines;
  packs = t.packs;
  receipts = t.receipts;
  slips = t.slips;
  slip_lines = t.slip_lines;
  slip_packs = t.slip_packs;
  spans = put_all _ (λ (s : SpanRow). s.no) _ rows.spans (low, first, last) t.spans;
  links = t.links;
  soughts = t.soughts;
}

pub typed_less_span : (n : ℕ) (rows : Rows) → AreTyped rows → AreTyped (without_span n rows)
typed_less_span n rows t = record {
  version = t.version;
  dated = t.dated;
  society = t.society;
  batches = t.batches;
  records = t.records;
  lines = t.lines;
  packs = t.packs;
  receipts = t.receipts;
  slips = t.slips;
  slip_lines = t.slip_lines;
  slip_packs = t.slip_packs;
  spans = kept_by _ _ rows.spans t.spans;
  links = t.links;
  soughts = t.soughts;
}

pub typed_later_tables : (rows : Rows) → AreTyped rows → AreTyped (with_later_tables rows)
typed_later_tables rows t = record {
  version = t.version;
  dated = λ second. refl;
  society = t.society;
  batches = t.batches;
  records = t.records;
  lines = tt;
  packs = t.packs;
  receipts = t.receipts;
  slips = t.slips;
  slip_lines = tt;
  slip_packs = t.slip_packs;
  spans = t.spans;
  links = t.links;
  soughts = t.soughts;
}

pub typed_second : (rows : Rows) → rows.has_spans ≡ true → AreTyped rows → AreTyped (with_version 2 rows)
typed_second rows dated t = record {
  version = inr refl;
  dated = λ second. dated;
  society = t.society;
  batches = t.batches;
  records = t.records;
  lines = t.lines;
  packs = t.packs;
  receipts = t.receipts;
  slips = t.slips;
  slip_lines = t.slip_lines;
  slip_packs = t.slip_packs;
  spans = t.spans;
  links = t.links;
  soughts = t.soughts;
}
