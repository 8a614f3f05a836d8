-- How many rows an import has.
use Rattle.std.proofs.Common.{
  ◌≡◌,
  ℕ,
  ◌+◌,
  ◌<◌,
  List,
  [],
  ◌∷◌,
  ◌++◌,
  Option,
  None,
  Some,
  ap,
  ap₂,
  add-one,
  arith,
  get_or,
  length,
  map,
  min,
  refl,
  sym,
  take,
  ◌∙◌,
}
use Rattle.std.specs.List.{flat_map}
use Rattle.std.proofs.lemmas.List.{length-append, length-map}
use Rattle.std.proofs.Math.Seq.{take-suc}
use Rattle.date_spans.specs.Spans.{IsSpanOf, date_in}
use Rattle.gedcom_date.specs.declared.value.Span.{Span}
use Rattle.record_fields.specs.declared.date.Date.{Date}
use Rattle.archive_state.specs.declared.changes.Numbered.{Numbered}
use Rattle.store_rows.specs.Spans.{AreDrawn, Drawn}
use Rattle.staged_rows.specs.Staging.{
  a_link,
  later_rows,
  lines_of_put,
  links_of,
  record_of,
  rows_of_import,
  sought_row,
  span_row,
}
use Rattle.staging.specs.Opened.{AreDated, AreLater, row_of_sought_row, row_of_span}
use Rattle.staging.specs.declared.dated.Dated.{Dated}
use Rattle.staging.specs.declared.later.Later.{Later}

all_rows : (batch : ℕ) (ps : List Numbered) (drawn : Drawn) → length (rows_of_import batch ps drawn)
    ≡ length ps + (length ps + length (later_rows ps drawn))
all_rows batch ps drawn =
    length-append (map (record_of batch) ps) (map lines_of_put ps ++ later_rows ps drawn)
    ∙ ap₂ (λ k n. k + n) (length-map ps (record_of batch))
    (length-append (map lines_of_put ps) (later_rows ps drawn)
    ∙ ap (λ k. k + length (later_rows ps drawn)) (length-map ps lines_of_put))

-- a date has one span
as_many : (date : Option Date) (n m : ℕ) (o p : Option Span) → IsSpanOf date o → IsSpanOf date p
    → length (span_row (n, o)) ≡ length (span_row (m, p))
as_many None n m None None a b = refl
as_many None n m None (Some t) a b = absurd b
as_many None n m (Some s) p a b = absurd a
as_many (Some d) n m None p a b = absurd a
as_many (Some d) n m (Some s) None a b = absurd b
as_many (Some d) n m (Some s) (Some t) a b = refl

as_many_spans : (ps : List Numbered) (ds es : Drawn) → AreDrawn ps ds → AreDrawn ps es
    → length (flat_map span_row ds) ≡ length (flat_map span_row es)
as_many_spans [] [] [] a b = refl
as_many_spans [] [] (e ∷ es) a b = absurd b
as_many_spans [] (d ∷ ds) es a b = absurd a
as_many_spans (p ∷ ps) [] es a b = absurd a
as_many_spans (p ∷ ps) (d ∷ ds) [] a b = absurd b
as_many_spans (p ∷ ps) (d ∷ ds) (e ∷ es) a b =
    length-append (span_row d) (flat_map span_row ds)
    ∙ ap₂ (λ k n. k + n) (as_many (date_in p.«record») d.0 e.0 d.1 e.1 a.0.1 b.0.1) (as_many_spans ps ds es a.1 b.1)
    ∙ sym (length-append (span_row e) (flat_map span_row es))

span_count : (ps : List Numbered) (ds : List Dated) (drawn : Drawn) → AreDated ps ds → AreDrawn ps drawn
    → length ds ≡ length (flat_map span_row drawn)
span_count ps ds drawn are other =
    sym (length-map ds row_of_span) ∙ ap length are.2 ∙ as_many_spans ps are.0 drawn are.1 other

-- how many rows come after the lines
abbrev pub later_count : Later → ℕ
later_count later = length later.links.items + (length later.soughts.items + length later.spans.items)

later_all : (ps : List Numbered) (later : Later) (drawn : Drawn) → AreLater ps later → AreDrawn ps drawn
    → later_count later ≡ length (later_rows ps drawn)
later_all ps later drawn are other =
    ap₂ (λ k n. k + n) (ap length are.links ∙ sym (length-map (links_of ps) a_link))
    (ap₂ (λ k n. k + n) (sym (length-map later.soughts.items row_of_sought_row) ∙ ap length are.soughts)
    (span_count ps later.spans.items drawn are.spans other)
    ∙ sym (length-append (flat_map sought_row ps) (flat_map span_row drawn)))
    ∙ sym (length-append (map a_link (links_of ps)) (flat_map sought_row ps ++ flat_map span_row drawn))

pub all_counted : (batch : ℕ) (ps : List Numbered) (later : Later) (drawn : Drawn) → AreLater ps later
    → AreDrawn ps drawn → (length ps + length ps) + later_count later ≡ length (rows_of_import batch ps drawn)
all_counted batch ps later drawn are other =
    let rows = all_rows batch ps drawn in
    let behind = later_all ps later drawn are other in
    omega (arith, rows, behind)

-- a sum that stops at its bound, at each of its steps
pub sum_stops : (n links soughts spans most a b c d : ℕ) → a ≡ min (n + n) most → b ≡ min (a + links) most
    → c ≡ min (b + soughts) most → d ≡ min (c + spans) most
    → d ≡ min ((n + n) + (links + (soughts + spans))) most
sum_stops n links soughts spans most a b c d one two three four = omega (arith, one, two, three, four)

-- ---- the records before one, and then it
pub taken_next : {A : Type 0} (ps : List A) (i : ℕ) (p : A) → i < length ps → p ≡ get_or ps i p
    → take (i + 1) ps ≡ take i ps ++ p ∷ []
taken_next {A} ps i p low is =
    ap (λ k. take k ps) (add-one i) ∙ take-suc ps i p low ∙ ap (λ (q : A). take i ps ++ q ∷ []) (sym is)
