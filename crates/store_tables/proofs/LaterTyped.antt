-- What each statement on links, on all lines of a record and on what is looked for makes of rows whose values are of
-- their types has such values.
use Rattle.std.proofs.Common.{ℕ, List, [], ◌∷◌, Option, IfSome, Ordering, Less, Equal, Greater}
use Rattle.std.specs.List.{AllByRecursion}
use Rattle.std.specs.Ordering.{match_ordering}
use Rattle.record_text.specs.Text.{IsText}
use Rattle.std.specs.Str.{IsUtf8}
use Rattle.stored_lines.specs.Line.{Label}
use Rattle.packed_rows.specs.Packed.{packed}
use Rattle.store_tables.specs.Reading.{AreTyped, HaveTop, IsTypedLine, IsTypedLink, IsU32}
use Rattle.store_tables.specs.Rows.{
  Rows,
  LinkRow,
  PackRow,
  SoughtRow,
  pair_cmp,
  put_pair,
  with_link,
  with_past,
  with_pack,
  with_sought,
  without_link,
  without_sought,
}
use Rattle.store_tables.proofs.Coded.{kept_by}
use Rattle.store_tables.proofs.Typed.{put_all}

put_both : (l : LinkRow) (ms : List LinkRow) → IsTypedLink l → AllByRecursion IsTypedLink ms
    → AllByRecursion IsTypedLink (put_pair l ms)
put_both l [] h all = (h, tt)
put_both l (m ∷ ms) h all = go (pair_cmp m l) (put_both l ms h all.1)
  where
    go : (o : Ordering) → AllByRecursion IsTypedLink (put_pair l ms)
        → AllByRecursion IsTypedLink (match_ordering o (m ∷ put_pair l ms) (l ∷ ms) (l ∷ m ∷ ms))
    go Less more = (all.0, more)
    go Equal more = (h, all.1)
    go Greater more = (h, all)

pub typed_link : (target n : ℕ) → IsU32 target → IsU32 n → (rows : Rows) → AreTyped rows
    → AreTyped (with_link target n rows)
typed_link target n first low rows t = record {
  version = t.version;
  dated = t.dated;
  society = t.society;
  batches = t.batches;
  records = t.records;
  lines = t.lines;
  packs = t.packs;
  receipts = t.receipts;
  slips = t.slips;
  slip_lines = t.slip_lines;
  slip_packs = t.slip_packs;
  spans = t.spans;
  links = put_both _ rows.links (first, low) t.links;
  soughts = t.soughts;
}

pub typed_less_link : (target n : ℕ) (rows : Rows) → AreTyped rows → AreTyped (without_link target n rows)
typed_less_link target n rows t = record {
  version = t.version;
  dated = t.dated;
  society = t.society;
  batches = t.batches;
  records = t.records;
  lines = t.lines;
  packs = t.packs;
  receipts = t.receipts;
  slips = t.slips;
  slip_lines = t.slip_lines;
  slip_packs = t.slip_packs;
  spans = t.spans;
  links = kept_by _ _ rows.links t.links;
  soughts = t.soughts;
}

pub typed_sought : (n : ℕ) (text : List ℕ) (target : Option ℕ) → IsU32 n → IsText text → IfSome target IsU32
    → (rows : Rows) → AreTyped rows → AreTyped (with_sought n text target rows)
typed_sought n text target low words other rows t = record {
  version = t.version;
  dated = t.dated;
  society = t.society;
  batches = t.batches;
  records = t.records;
  lines = t.lines;
  packs = t.packs;
  receipts = t.receipts;
  slips = t.slips;
  slip_lines = t.slip_lines;
  slip_packs = t.slip_packs;
  spans = t.spans;
  links = t.links;
  soughts = put_all _ (λ (s : SoughtRow). s.no) _ rows.soughts (low, words, other) t.soughts;
}

pub typed_less_sought : (n : ℕ) (rows : Rows) → AreTyped rows → AreTyped (without_sought n rows)
typed_less_sought n rows t = record {
  version = t.version;
  dated = t.dated;
  society = t.society;
  batches = t.batches;
  records = t.records;
  lines = t.lines;
  packs = t.packs;
  receipts = t.receipts;
  slips = t.slips;
  slip_lines = t.slip_lines;
  slip_packs = t.slip_packs;
  spans = t.spans;
  links = t.links;
  soughts = kept_by _ _ rows.soughts t.soughts;
}

pub typed_pack : (n : ℕ) (ls : List (ℕ × Label)) → IsU32 n → HaveTop ls → AllByRecursion IsTypedLine ls
    → IsUtf8 (packed ls) → (rows : Rows) → AreTyped rows → AreTyped (with_pack n ls rows)
typed_pack n ls low top lines text rows t = record {
  version = t.version;
  dated = t.dated;
  society = t.society;
  batches = t.batches;
  records = t.records;
  lines = t.lines;
  packs = put_all _ (λ (p : PackRow). p.no) _ rows.packs
      (record { number = low; top = top; lines = lines; text = text }) t.packs;
  receipts = t.receipts;
  slips = t.slips;
  slip_lines = t.slip_lines;
  slip_packs = t.slip_packs;
  spans = t.spans;
  links = t.links;
  soughts = t.soughts;
}

pub typed_past : (n : ℕ) (token text : List ℕ) (rows : Rows) → AreTyped rows → AreTyped (with_past n token text rows)
typed_past n token text rows t = record {
  version = t.version;
  dated = t.dated;
  society = t.society;
  batches = t.batches;
  records = t.records;
  lines = t.lines;
  packs = t.packs;
  receipts = t.receipts;
  slips = t.slips;
  slip_lines = t.slip_lines;
  slip_packs = t.slip_packs;
  spans = t.spans;
  links = t.links;
  soughts = t.soughts;
}
