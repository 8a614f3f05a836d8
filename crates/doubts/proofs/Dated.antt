-- What a date that is there is said to mean.
use Rattle.std.proofs.Common.{◌≡◌, ap, refl}
use Rattle.std.specs.Prelude.{Option, Some, None}
use Rattle.gedcom_date.specs.declared.value.Span.{Span}
use Rattle.record_fields.specs.declared.date.Date.{Date}
use Rattle.date_spans.specs.Spans.{IsSpanOf}
use Rattle.date_spans.proofs.DaysMet.{one_span}
use Rattle.doubts.specs.Facts.{dated, span_of}
use Rattle.doubts.specs.Spanned.{some_span}

pub dated_is : (date : Option Date) (s : Option Span) → IsSpanOf date s → s ≡ dated date
unfolding span_of
dated_is None None h = refl
dated_is (Some d) (Some s) h = ap Some (one_span d s (some_span d).0 h (some_span d).1)
dated_is None (Some s) h = absurd h
dated_is (Some d) None h = absurd h
