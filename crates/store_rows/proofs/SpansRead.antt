-- The span that the rows have of each number, after spans are put and removed.
use Rattle.std.proofs.Common.{◌≡◌, ℕ, true, false, List, [], ◌∷◌, cond, refl, sym, ap, ◌∙◌, ◌⊎◌, inl, inr}
use Rattle.std.specs.Prelude.{◌==◌, Option, Some, None}
use Rattle.gedcom_date.specs.declared.value.Span.{Span}
use Rattle.record_kinds.specs.declared.record.Record.{Record}
use Rattle.archive_state.specs.declared.changes.Numbered.{Numbered}
use Rattle.store_tables.specs.Rows.{Rows, SpanRow, put_by, with_span, without_span}
use Rattle.store_rows.specs.Spans.{
  AreDrawn,
  Drawn,
  IsSpanned,
  span_at,
  with_drawn,
  with_span_if,
  without_all_spans,
}
use Rattle.store_rows.proofs.Own.{own, put_here, put_elsewhere, none_left, others_left}
use Rattle.store_rows.proofs.Puts.{last_of}
use Rattle.list_laws.proofs.Numbers.{it, not_it}

-- ---- one row
abbrev span_in : SpanRow → Span
span_in s = record { lo = s.lo; hi = s.hi }

abbrev first : List SpanRow → Option Span
first [] = None
first (s ∷ ss) = Some (span_in s)

first_own : (n : ℕ) (ss : List SpanRow) → span_at n ss ≡ first (own (λ (s : SpanRow). s.no) n ss)
first_own n [] = refl
first_own n (s ∷ ss) =
    elim (s.no == n) as (λ b. cond b (Some (span_in s)) (span_at n ss) ≡ first
    (cond b (s ∷ own (λ (k : SpanRow). k.no) n ss) (own (λ (k : SpanRow). k.no) n ss))) [
      | true ↦ refl
      | false ↦ first_own n ss
    ]

pub span_put : (n k : ℕ) (span : Span) (rows : Rows) → span_at n (with_span k span.lo span.hi rows).spans
    ≡ cond (k == n) (Some span) (span_at n rows.spans)
span_put n k span rows =
    let key = λ (s : SpanRow). s.no in
    let row : SpanRow = record { no = k; lo = span.lo; hi = span.hi } in
    first_own n (put_by key row rows.spans) ∙
    (elim (k == n) as (λ b. (k == n) ≡ b → first (own key n (put_by key row rows.spans)) ≡ cond b (Some span)
    (span_at n rows.spans)) [
      | true ↦ λ e. let (more, is) = put_here key n row rows.spans (it k n e) in ap first is
      | false ↦ λ e. ap first (put_elsewhere key n row rows.spans (not_it k n e)) ∙ sym (first_own n rows.spans)
    ] refl)

span_removed : (n k : ℕ) (rows : Rows) → span_at n (without_span k rows).spans ≡ cond (k == n) None
    (span_at n rows.spans)
span_removed n k rows =
    let key = λ (s : SpanRow). s.no in
    first_own n (without_span k rows).spans ∙
    (elim (k == n) as (λ b. (k == n) ≡ b → first (own key n (without_span k rows).spans) ≡ cond b None
    (span_at n rows.spans)) [
      | true ↦ λ e. ap (λ j. first (own key n (without_span j rows).spans)) (it k n e)
          ∙ ap first (none_left key n rows.spans)
      | false ↦ λ e. ap first (others_left key n k rows.spans (not_it k n e)) ∙ sym (first_own n rows.spans)
    ] refl)

-- a span that is there or not, in place of the one before
span_drawn : (n k : ℕ) (found : Option Span) (rows : Rows)
    → span_at n (with_span_if k found (without_span k rows)).spans ≡ cond (k == n) found (span_at n rows.spans)
span_drawn n k None rows = span_removed n k rows
span_drawn n k (Some span) rows =
    span_put n k span (without_span k rows) ∙ ap (cond (k == n) (Some span)) (span_removed n k rows) ∙
    (elim (k == n) as (λ b. cond b (Some span) (cond b None (span_at n rows.spans)) ≡ cond b (Some span)
    (span_at n rows.spans)) [ true ↦ refl | false ↦ refl ])

-- ---- all of them
pub spans_removed : (n : ℕ) (ns : List ℕ) (rows : Rows) → span_at n (without_all_spans ns rows).spans
    ≡ last_of (λ k. k) (λ _. None) n ns (span_at n rows.spans)
spans_removed n [] rows = refl
spans_removed n (k ∷ ns) rows = spans_removed n ns (without_span k rows) ∙ ap (last_of (λ j. j) (λ _. None) n ns)
    (span_removed n k rows)

pub spans_drawn : (n : ℕ) (ds : Drawn) (rows : Rows) → span_at n (with_drawn ds rows).spans
    ≡ last_of (λ (d : ℕ × Option Span). d.0) (λ (d : ℕ × Option Span). d.1) n ds (span_at n rows.spans)
spans_drawn n [] rows = refl
spans_drawn n (d ∷ ds) rows =
    spans_drawn n ds (with_span_if d.0 d.1 (without_span d.0 rows))
    ∙ ap (last_of (λ (k : ℕ × Option Span). k.0) (λ (k : ℕ × Option Span). k.1) n ds) (span_drawn n d.0 d.1 rows)

-- ---- what is at a number, with its span
-- a number that is removed has no record, and each other keeps its record and its span
abbrev pub IsGone : ℕ → List ℕ → Type 0
IsGone n ns = (o : Option Record) → last_of (λ k. k) (λ _. None) n ns o ≡ None

abbrev pub IsLeft : {X : Type 0} → ℕ → List ℕ → Option X → Type 0
IsLeft n ns span = ((o : Option Record) → last_of (λ k. k) (λ _. None) n ns o ≡ o)
    × (last_of (λ k. k) (λ _. None) n ns span ≡ span)

pub gone_or_left : {X : Type 0} (n : ℕ) (ns : List ℕ) (span : Option X) → IsGone n ns ⊎ IsLeft n ns span
gone_or_left n [] span = inr (λ o. refl, refl)
gone_or_left n (k ∷ ns) span =
    elim (k == n) as (λ b. ((o : Option Record) → last_of (λ k. k) (λ _. None) n ns (cond b None o) ≡ None)
    ⊎ (((o : Option Record) → last_of (λ k. k) (λ _. None) n ns (cond b None o) ≡ o)
    × (last_of (λ k. k) (λ _. None) n ns (cond b None span) ≡ span))) [
      | true ↦ inl (λ o. elim (gone_or_left n ns span) [ inl gone ↦ gone None | inr left ↦ left.0 None ])
      | false ↦ gone_or_left n ns span
    ]

spanned_puts : (n : ℕ) (ps : List Numbered) (ds : Drawn) (o : Option Record) (span : Option Span) → AreDrawn ps ds
    → IsSpanned o span → IsSpanned
    (last_of (λ (p : Numbered). p.number) (λ (p : Numbered). Some p.«record») n ps o)
    (last_of (λ (d : ℕ × Option Span). d.0) (λ (d : ℕ × Option Span). d.1) n ds span)
spanned_puts n [] [] o span drawn h = h
spanned_puts n [] (d ∷ ds) o span drawn h = absurd drawn
spanned_puts n (p ∷ ps) [] o span drawn h = absurd drawn
spanned_puts n (p ∷ ps) (d ∷ ds) o span drawn h =
    spanned_puts n ps ds (cond (p.number == n) (Some p.«record») o) (cond (d.0 == n) d.1 span) drawn.1
    (rw drawn.0.0
    (elim (p.number == n) as (λ b. IsSpanned (cond b (Some p.«record») o) (cond b d.1 span)) [
      | true ↦ drawn.0.1
      | false ↦ h
    ]))

pub spanned : (n : ℕ) (ns : List ℕ) (ps : List Numbered) (ds : Drawn) (o : Option Record) (span : Option Span)
    → AreDrawn ps ds → IsSpanned o span → IsSpanned
    (last_of (λ k. k) (λ _. None) n ns
    (last_of (λ (p : Numbered). p.number) (λ (p : Numbered). Some p.«record») n ps o))
    (last_of (λ (d : ℕ × Option Span). d.0) (λ (d : ℕ × Option Span). d.1) n ds
    (last_of (λ k. k) (λ _. None) n ns span))
spanned n ns ps ds o span drawn h =
    let put : Option Record = last_of (λ (p : Numbered). p.number) (λ (p : Numbered). Some p.«record») n ps o in
    elim (gone_or_left n ns span) [
      | inl gone ↦ rw (gone put) tt
      | inr left ↦ rw (left.0 put, left.1) (spanned_puts n ps ds o span drawn h)
    ]
