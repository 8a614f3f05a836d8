-- What the rows that are written leave of all else.
use Rattle.std.proofs.Common.{
  ◌≡◌,
  ℕ,
  true,
  List,
  [],
  ◌∷◌,
  Option,
  Some,
  None,
  refl,
  sym,
  ap,
  ◌∙◌,
  subst,
}
use Rattle.gedcom_date.specs.declared.value.Span.{Span}
use Rattle.store_tables.specs.Rows.{Rows}
use Rattle.store_rows.specs.Links.{with_links}
use Rattle.store_rows.specs.Sought.{Sought, with_sought_if}
use Rattle.store_rows.specs.Spans.{with_span_if}
use Rattle.store_rows.proofs.SpansAside.{links_only}
use Rattle.older_archives.specs.Renewing.{
  Anew,
  RecordAnew,
  SlipAnew,
  with_later_anew,
  with_lines_anew,
  with_record_anew,
  with_records_anew,
  with_slip_anew,
  with_slips_anew,
}

-- ---- records
-- the lines of a record change no other table
pub lines_only_anew : (r : RecordAnew) (rows : Rows) → with_lines_anew r rows
    ≡ record rows { lines = (with_lines_anew r rows).lines; packs = (with_lines_anew r rows).packs }
lines_only_anew r rows = refl

pub span_only : (n : ℕ) (span : Option Span) (rows : Rows) → with_span_if n span rows
    ≡ record rows { spans = (with_span_if n span rows).spans }
span_only n None rows = refl
span_only n (Some s) rows = refl

pub sought_only : (n : ℕ) (sought : Option Sought) (rows : Rows) → with_sought_if n sought rows
    ≡ record rows { soughts = (with_sought_if n sought rows).soughts }
sought_only n None rows = refl
sought_only n (Some s) rows = refl

-- rows with these tables of other rows: those that go with the records
abbrev pub like : Rows → Rows → Rows
like other rows = record rows { spans = other.spans; links = other.links; soughts = other.soughts }

pub later_only : (n : ℕ) (a : Anew) (rows : Rows) → with_later_anew n a rows ≡ like (with_later_anew n a rows) rows
later_only n a rows =
    let spanned : Rows = with_span_if n a.span rows in
    let sought : Rows = with_sought_if n a.sought spanned in
    let all : Rows = with_links n a.lines sought in
    subst (λ (r : Rows). r ≡ like r rows)
    (sym (links_only n a.lines sought
    ∙ ap (λ (r : Rows). record r { links = all.links }) (sought_only n a.sought spanned)
    ∙ ap (λ (r : Rows). record r { links = all.links; soughts = sought.soughts }) (span_only n a.span rows))) refl

pub later_lines : (n : ℕ) (a : Anew) (rows : Rows) → (with_later_anew n a rows).lines ≡ rows.lines
later_lines n a rows = ap (λ (r : Rows). r.lines) (later_only n a rows)

pub later_packs : (n : ℕ) (a : Anew) (rows : Rows) → (with_later_anew n a rows).packs ≡ rows.packs
later_packs n a rows = ap (λ (r : Rows). r.packs) (later_only n a rows)

-- and with the lines of other rows too
abbrev pub alike : Rows → Rows → Rows
alike other rows = record rows {
  lines = other.lines;
  packs = other.packs;
  spans = other.spans;
  links = other.links;
  soughts = other.soughts;
}

record_only : (r : RecordAnew) (rows : Rows) → with_record_anew r rows ≡ alike (with_record_anew r rows) rows
record_only r rows =
    let mid : Rows = with_lines_anew r rows in
    let after : Rows = with_record_anew r rows in
    let is : after ≡ record (like after rows) { lines = mid.lines; packs = mid.packs } =
    later_only r.number r.anew mid in
    subst (λ (x : Rows). x ≡ alike x rows) (sym is) refl

pub records_only : (rs : List RecordAnew) (rows : Rows) → with_records_anew rs rows
    ≡ alike (with_records_anew rs rows) rows
records_only [] rows = refl
records_only (r ∷ rs) rows =
    let after : Rows = with_records_anew rs (with_record_anew r rows) in
    records_only rs (with_record_anew r rows) ∙ ap (alike after) (record_only r rows)

-- ---- slips
pub slips_only : (ss : List SlipAnew) (rows : Rows) → with_slips_anew ss rows
    ≡ record rows {
      slip_lines = (with_slips_anew ss rows).slip_lines;
      slip_packs = (with_slips_anew ss rows).slip_packs;
    }
slips_only [] rows = refl
slips_only (s ∷ ss) rows = slips_only ss (with_slip_anew s rows)

-- ---- the table of spans
pub record_keeps : (r : RecordAnew) (rows : Rows) → rows.has_spans ≡ true → (with_record_anew r rows).has_spans ≡ true
record_keeps r rows has = ap (λ (x : Rows). x.has_spans) (record_only r rows) ∙ has

pub records_keep : (rs : List RecordAnew) (rows : Rows) → rows.has_spans ≡ true
    → (with_records_anew rs rows).has_spans ≡ true
records_keep rs rows has = ap (λ (x : Rows). x.has_spans) (records_only rs rows) ∙ has

pub span_keeps : (n : ℕ) (span : Option Span) (rows : Rows) → rows.has_spans ≡ true
    → (with_span_if n span rows).has_spans ≡ true
span_keeps n span rows has = ap (λ (x : Rows). x.has_spans) (span_only n span rows) ∙ has
