-- What each query shows of a row.
use Rattle.std.specs.Prelude.{[], ◌∷◌, pos}
use Rattle.sqlite.specs.declared.types.Value.TheVariants.{Int, Text as Words}
use Rattle.sqlite.specs.Order.{Row}
use Rattle.packed_rows.specs.Packed.{packed}
use Rattle.store_tables.specs.Rows.{
  Rows,
  BatchRow,
  RecordRow,
  LineRow,
  PackRow,
  ReceiptRow,
  SlipRow,
  SlipLineRow,
  SlipPackRow,
  SlipSide,
  SpanRow,
  LinkRow,
  SoughtRow,
  PastRow,
  day_or_null,
  first_tag,
  first_target,
  flag,
  integer_at,
  line_fields,
  link_place,
  number_or_null,
  receipt_fields,
}

abbrev pub shown_meta : Rows → Row
shown_meta rows = Int (pos rows.version) ∷ Int (pos rows.next) ∷ Words rows.society ∷ []

abbrev pub shown_batch : BatchRow → Row
shown_batch b = Int (pos b.no) ∷ Int (pos (flag b.is_open)) ∷ []

abbrev pub shown_record : RecordRow → Row
shown_record r = Int (pos r.no) ∷ Int (pos r.batch) ∷ []

abbrev pub shown_line : LineRow → Row
shown_line l = Int (pos l.no) ∷ line_fields l.line

abbrev pub shown_pack : PackRow → Row
shown_pack p = Int (pos p.no) ∷ Words (first_tag p.lines) ∷ Words (packed p.lines)
    ∷ number_or_null (first_target p.lines) ∷ []

abbrev pub shown_receipt : ReceiptRow → Row
shown_receipt r = Words r.token ∷ receipt_fields r.receipt

abbrev pub shown_slip : SlipRow → Row
shown_slip s = Int (pos s.no) ∷ Int (pos s.keep) ∷ Int (pos s.gone) ∷ Int (pos (flag s.is_undone)) ∷ []

abbrev pub shown_slip_line : SlipLineRow → Row
shown_slip_line s = Int (pos s.slip) ∷ Int (pos (flag s.is_new)) ∷ Int (pos s.no) ∷ line_fields s.line

-- a side of a slip at depth 0, where its first line stands
abbrev pub shown_side : SlipSide → Row
shown_side s = Int (pos (flag s.0)) ∷ Int (pos s.1.0) ∷ Int (pos 0) ∷ Words (first_tag s.1.1) ∷ Words (packed s.1.1)
    ∷ number_or_null (first_target s.1.1) ∷ []

abbrev pub shown_slip_pack : SlipPackRow → Row
shown_slip_pack s = Int (pos s.slip) ∷ shown_side s.side

abbrev pub shown_span : SpanRow → Row
shown_span s = Int (pos s.no) ∷ day_or_null s.lo ∷ day_or_null s.hi ∷ []

abbrev pub shown_link : LinkRow → Row
shown_link l = Int (integer_at (link_place l)) ∷ []

abbrev pub shown_sought : SoughtRow → Row
shown_sought s = Int (pos s.no) ∷ Words s.text ∷ number_or_null s.target ∷ []

abbrev pub shown_past : PastRow → Row
shown_past p = Int p.id ∷ Words p.token ∷ Words p.text ∷ []
