-- Each date has a span: what follows is a proof, of which only the last statement matters.
use Rattle.std.proofs.Common.{ℕ, List, inl, inr, refl, subst, sym}
use Rattle.std.specs.Prelude.{◌-ℤ◌, ◌+ℤ◌, pos, Some, None}
use Rattle.std.specs.Int.Signed.{≤ℤ_refl}
use Rattle.calendar_days.specs.Bounds.{IsGreatest, IsLeast}
use Rattle.calendar_days.proofs.Ends.{greatest_of, least_of}
use Rattle.gedcom_date.specs.Days.{IsDayOf}
use Rattle.gedcom_date.specs.Form.{
  Form,
  OnDate,
  NearDate,
  BeforeDate,
  AfterDate,
  BetweenDates,
  SinceDate,
  UntilDate,
  FromToDates,
  InterpretedDate,
  PhraseAlone,
  VerbatimText,
}
use Rattle.gedcom_date.specs.Grammar.{IsGood, Says}
use Rattle.gedcom_date.specs.declared.value.Span.{Span}
use Rattle.gedcom_date.proofs.Deciding.{some_value}
use Rattle.gedcom_date.proofs.Spans.{
  after_hi,
  after_lo,
  all_hi,
  all_lo,
  before_hi,
  before_lo,
  from_hi,
  period_hi,
  period_lo,
  to_lo,
}
use Rattle.list_laws.proofs.Numbers.{through}
use Rattle.record_fields.specs.declared.date.Date.{Date}
use Rattle.date_spans.specs.Spans.{IsSpan}

-- the first and the last day of a form
abbrev Ends : Form → Type 0
Ends f = (s : Span) × IsLeast (IsDayOf f) s.lo × IsGreatest (IsDayOf f) s.hi

good_ends : (f : Form) → IsGood f → Ends f
good_ends (OnDate d) h =
    let a = least_of d d.extent refl h in let b = greatest_of d d.extent refl h in
    (record { lo = Some a.0; hi = Some b.0 }, a.1, b.1)
good_ends (NearDate how d) h =
    let a = least_of d d.extent refl h in let b = greatest_of d d.extent refl h in
    (record { lo = Some a.0; hi = Some b.0 }, a.1, b.1)
good_ends (InterpretedDate d phrase) h =
    let a = least_of d d.extent refl h.0 in let b = greatest_of d d.extent refl h.0 in
    (record { lo = Some a.0; hi = Some b.0 }, a.1, b.1)
good_ends (BeforeDate d) h =
    let a = least_of d d.extent refl h in (
      record { lo = None; hi = Some (a.0 -ℤ pos 1) },
      before_lo (BeforeDate d) d a.0 refl a.1,
      before_hi (BeforeDate d) d a.0 (a.0 -ℤ pos 1) refl a.1 refl,
    )
good_ends (AfterDate d) h =
    let b = greatest_of d d.extent refl h in (
      record { lo = Some (b.0 +ℤ pos 1); hi = None },
      after_lo (AfterDate d) d b.0 (b.0 +ℤ pos 1) refl b.1 refl,
      after_hi (AfterDate d) d b.0 refl b.1,
    )
good_ends (BetweenDates d e) h =
    let a = least_of d d.extent refl h.0 in let b = greatest_of e e.extent refl h.1 in (
      record { lo = Some a.0; hi = Some b.0 },
      period_lo (BetweenDates d e) d e a.0 b.0 (inl refl) h.2 a.1 b.1,
      period_hi (BetweenDates d e) d e a.0 b.0 (inl refl) h.2 a.1 b.1,
    )
good_ends (FromToDates d e) h =
    let a = least_of d d.extent refl h.0 in let b = greatest_of e e.extent refl h.1 in (
      record { lo = Some a.0; hi = Some b.0 },
      period_lo (FromToDates d e) d e a.0 b.0 (inr refl) h.2 a.1 b.1,
      period_hi (FromToDates d e) d e a.0 b.0 (inr refl) h.2 a.1 b.1,
    )
good_ends (SinceDate d) h =
    let a = least_of d d.extent refl h in (
      record { lo = Some a.0; hi = None },
      ((a.0, a.1.0, ≤ℤ_refl a.0), (λ n l. through a.0 l.0 n (a.1.1 l.0 l.1) l.2)),
      from_hi (SinceDate d) d a.0 refl a.1,
    )
good_ends (UntilDate d) h =
    let b = greatest_of d d.extent refl h in (
      record { lo = None; hi = Some b.0 },
      to_lo (UntilDate d) d b.0 refl b.1,
      ((b.0, b.1.0, ≤ℤ_refl b.0), (λ n l. through n l.0 b.0 l.2 (b.1.1 l.0 l.1))),
    )
good_ends (PhraseAlone text) h =
    (record { lo = None; hi = None }, all_lo (PhraseAlone text) (λ n. tt), all_hi (PhraseAlone text) (λ n. tt))
good_ends (VerbatimText text) h =
    (record { lo = None; hi = None }, all_lo (VerbatimText text) (λ n. tt), all_hi (VerbatimText text) (λ n. tt))

good_said : (text : List ℕ) (f : Form) → Says text f → IsGood f
good_said text f (inl h) = h.1
good_said text f (inr h) = subst IsGood (sym h.0) tt

pub some_span : (d : Date) → (s : Span) × IsSpan d s
some_span d =
    let one = some_value d.text in
    let ends = good_ends one.0 (good_said d.text one.0 one.1) in
    (ends.0, record { form = one.0; said = one.1; lo = ends.1; hi = ends.2 })
