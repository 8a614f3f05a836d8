-- What is found of rows, of the content that they mean.
use Rattle.std.proofs.Common.{◌≡◌, ◌↔◌, ◌∙◌, ℕ, ℤ, true, false, List, sym, subst}
use Rattle.std.specs.Prelude.{Option, Some, None}
use Rattle.std.specs.FinMap.{get}
use Rattle.gedcom_date.specs.declared.value.Span.{Span}
use Rattle.record_kinds.specs.declared.record.Record.{Record}
use Rattle.archive_state.specs.Content.{Content}
use Rattle.date_spans.specs.Between.{AreAll, IsBetween}
use Rattle.date_spans.specs.Spans.{IsSpanOf, date_at, date_in}
use Rattle.date_spans.proofs.KeptSpans.{one_at_most}
use Rattle.store_tables.specs.Rows.{Rows}
use Rattle.store_rows.specs.Meaning.{IsRecordAt, Means, has_record}
use Rattle.store_rows.specs.Spans.{IsSpanned, KeepsSpans, span_at}
use Rattle.table_looks.specs.Picking.{IsFound}

-- of what a record tells, its span and that it is there
between_of : (rows : Rows) (n : ℕ) (found : Option Record) (span : Span) → IsRecordAt rows n found
    → IsSpanned found (span_at n rows.spans) → span_at n rows.spans ≡ Some span → has_record n rows ≡ true
    → IsSpanOf (date_at found) (Some span)
between_of rows n None span is own at has = absurd (let no : true ≡ false = sym has ∙ is in cc)
between_of rows n (Some r) span is own at has = subst (λ (o : Option Span). IsSpanOf (date_in r) o) at own

found_of : (rows : Rows) (n : ℕ) (found : Option Record) (span : Span) → IsRecordAt rows n found
    → IsSpanned found (span_at n rows.spans) → IsSpanOf (date_at found) (Some span)
    → (span_at n rows.spans ≡ Some span) × (has_record n rows ≡ true)
found_of rows n None span is own has = absurd has
found_of rows n (Some r) span is own has =
    (one_at_most (date_in r) (span_at n rows.spans) (Some span) own has, is.0)

module _ (rows : Rows) (c : Content) (first last : ℤ) (means : Means rows c) (keeps : KeepsSpans rows c) where
  found_between : (n : ℕ) → IsFound rows first last n ↔ IsBetween c.records first last n
  found_between n = (
    λ (span, at, meets, has). (
      span,
      between_of rows n (get c.records n) span (means.records n) (keeps n) at has,
      meets,
    ),
    λ (span, is, meets).
        let it = found_of rows n (get c.records n) span (means.records n) (keeps n) is in
        (span, it.0, meets, it.1),
  )

  pub all_between : (ns : List ℕ) → AreAll (IsFound rows first last) ns → AreAll (IsBetween c.records first last) ns
  all_between ns h = record {
    ascending = h.ascending;
    all = λ n. (
      λ among. (found_between n).0 ((h.all n).0 among),
      λ is. (h.all n).1 ((found_between n).1 is),
    );
  }
