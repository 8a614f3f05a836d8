-- The span of each record that is written anew, what it is looked for by, and its links.
use Rattle.std.proofs.Common.{◌≡◌, ℕ, true, false, List, Option, Some, None, refl, sym, ap, ◌∙◌, cond, subst}
use Rattle.std.specs.Prelude.{◌==◌}
use Rattle.std.specs.List.{list_any}
use Rattle.gedcom_date.specs.declared.value.Span.{Span}
use Rattle.stored_lines.specs.Line.{Label}
use Rattle.archive_state.specs.Links.{is_among, links}
use Rattle.archive_state.specs.Stored.{some_line_names}
use Rattle.archive_state.proofs.Stored.{lines_tell}
use Rattle.record_shapes.specs.Lists.{EachOf}
use Rattle.date_spans.specs.Spans.{IsSpanOf, date_in}
use Rattle.older_archives.specs.Anew.{anew}
use Rattle.older_archives.specs.Old.{OldRecord, WasKeptAs}
use Rattle.store_tables.specs.Rows.{Rows, SoughtRow, SpanRow}
use Rattle.store_rows.specs.Links.{has_link}
use Rattle.store_rows.specs.Sought.{Sought, sought_at, sought_of, with_sought_if}
use Rattle.store_rows.specs.Spans.{span_at, with_span_if}
use Rattle.store_rows.proofs.LinksRead.{lines_linked, lines_stay}
use Rattle.store_rows.proofs.SoughtRead.{sought_put}
use Rattle.store_rows.proofs.SpansAside.{links_only}
use Rattle.store_rows.proofs.SpansRead.{span_put}
use Rattle.older_archives.specs.Renewing.{IsAnewOf, RecordAnew, with_lines_anew, with_record_anew, with_records_anew}
use Rattle.older_archives.proofs.Rest.{lines_only_anew, sought_only, span_only}
use Rattle.older_archives.proofs.Written.{got_by_all}
use Rattle.list_laws.proofs.Numbers.{it}

-- what is there is put, and where there is none what was there before is left
abbrev or_before : {X : Type 0} → Option X → Option X → Option X
or_before None before = before
or_before (Some x) before = Some x

-- ---- one record
spans_are : (r : RecordAnew) (now : Rows) → (with_record_anew r now).spans
    ≡ (with_span_if r.number r.anew.span (with_lines_anew r now)).spans
spans_are r now =
    let spanned : Rows = with_span_if r.number r.anew.span (with_lines_anew r now) in
    ap (λ (x : Rows). x.spans)
    (links_only r.number r.anew.lines (with_sought_if r.number r.anew.sought spanned)
    ∙ ap (λ (x : Rows). record x { links = (with_record_anew r now).links })
    (sought_only r.number r.anew.sought spanned))

soughts_are : (r : RecordAnew) (now : Rows) → (with_record_anew r now).soughts
    ≡ (with_sought_if r.number r.anew.sought (with_span_if r.number r.anew.span (with_lines_anew r now))).soughts
soughts_are r now = ap (λ (x : Rows). x.soughts) (links_only r.number r.anew.lines
    (with_sought_if r.number r.anew.sought (with_span_if r.number r.anew.span (with_lines_anew r now))))

span_if : (n k : ℕ) (span : Option Span) (rows : Rows) → span_at n (with_span_if k span rows).spans
    ≡ cond (k == n) (or_before span (span_at n rows.spans)) (span_at n rows.spans)
span_if n k None rows = elim (k == n) as (λ b. span_at n rows.spans ≡ cond b (span_at n rows.spans)
    (span_at n rows.spans)) [ true ↦ refl | false ↦ refl ]
span_if n k (Some s) rows = span_put n k s rows

sought_if : (n k : ℕ) (sought : Option Sought) (rows : Rows) → sought_at n (with_sought_if k sought rows).soughts
    ≡ cond (k == n) (or_before sought (sought_at n rows.soughts)) (sought_at n rows.soughts)
sought_if n k None rows = elim (k == n) as (λ b. sought_at n rows.soughts ≡ cond b (sought_at n rows.soughts)
    (sought_at n rows.soughts)) [ true ↦ refl | false ↦ refl ]
sought_if n k (Some s) rows = sought_put n k s rows

span_after : (n : ℕ) (r : RecordAnew) (now : Rows) → span_at n (with_record_anew r now).spans
    ≡ cond (r.number == n) (or_before r.anew.span (span_at n now.spans)) (span_at n now.spans)
span_after n r now =
    ap (span_at n) (spans_are r now) ∙ span_if n r.number r.anew.span (with_lines_anew r now)
    ∙ ap (λ (ss : List SpanRow). cond (r.number == n) (or_before r.anew.span (span_at n ss)) (span_at n ss))
    (ap (λ (x : Rows). x.spans) (lines_only_anew r now))

sought_after : (n : ℕ) (r : RecordAnew) (now : Rows) → sought_at n (with_record_anew r now).soughts
    ≡ cond (r.number == n) (or_before r.anew.sought (sought_at n now.soughts)) (sought_at n now.soughts)
sought_after n r now =
    let spanned : Rows = with_span_if r.number r.anew.span (with_lines_anew r now) in
    ap (sought_at n) (soughts_are r now) ∙ sought_if n r.number r.anew.sought spanned
    ∙ ap (λ (ss : List SoughtRow). cond (r.number == n) (or_before r.anew.sought (sought_at n ss)) (sought_at n ss))
    (ap (λ (x : Rows). x.soughts) (span_only r.number r.anew.span (with_lines_anew r now))
    ∙ ap (λ (x : Rows). x.soughts) (lines_only_anew r now))

before_links : (r : RecordAnew) (now : Rows)
    → (with_sought_if r.number r.anew.sought (with_span_if r.number r.anew.span (with_lines_anew r now))).links
    ≡ now.links
before_links r now =
    let spanned : Rows = with_span_if r.number r.anew.span (with_lines_anew r now) in
    ap (λ (x : Rows). x.links) (sought_only r.number r.anew.sought spanned)
    ∙ ap (λ (x : Rows). x.links) (span_only r.number r.anew.span (with_lines_anew r now))
    ∙ ap (λ (x : Rows). x.links) (lines_only_anew r now)

-- ---- all of them: what waits for the record of a number is got by it, and is kept
module _ (lines : ℕ → List (ℕ × Label)) (n : ℕ) (o : OldRecord) (was : WasKeptAs (lines n) o) where
  abbrev IsRead : RecordAnew → Type 0
  IsRead r = IsAnewOf (lines r.number) r.anew

  at_it : (r : RecordAnew) → IsRead r → (r.number == n) ≡ true → IsAnewOf (lines n) r.anew
  at_it r is e = subst (λ k. IsAnewOf (lines k) r.anew) (it r.number n e) is

  module _ {X : Type 0} (Q : Option X → Type 0) (look : Rows → Option X) (put : RecordAnew → Option X)
      (after : (r : RecordAnew) (now : Rows) → look (with_record_anew r now)
      ≡ cond (r.number == n) (or_before (put r) (look now)) (look now))
      (good : (r : RecordAnew) → IsAnewOf (lines n) r.anew → Q (put r)) where
    or_kept : (x before : Option X) → Q x → Q before → Q (or_before x before)
    or_kept None before h k = k
    or_kept (Some x) before h k = h

    or_got : (x before : Option X) → before ≡ None → Q x → Q (or_before x before)
    or_got None before none h = subst Q (sym none) h
    or_got (Some x) before none h = h

    kept : (r : RecordAnew) (now : Rows) → IsRead r → Q (look now) → Q (look (with_record_anew r now))
    kept r now is here = subst Q (sym (after r now))
        (elim (r.number == n) as (λ b. (r.number == n) ≡ b → Q (cond b (or_before (put r) (look now)) (look now))) [
          | true ↦ λ e. or_kept (put r) (look now) (good r (at_it r is e)) here
          | false ↦ λ e. here
        ] refl)

    got : (r : RecordAnew) (now : Rows) → IsRead r → (r.number == n) ≡ true → look now ≡ None
        → Q (look (with_record_anew r now))
    got r now is e none = subst Q
        (sym (after r now ∙ ap (λ b. cond b (or_before (put r) (look now)) (look now)) e))
        (or_got (put r) (look now) none (good r (at_it r is e)))

    waits : (r : RecordAnew) (now : Rows) → IsRead r → (r.number == n) ≡ false → look now ≡ None
        → look (with_record_anew r now) ≡ None
    waits r now is e none = after r now ∙ ap (λ b. cond b (or_before (put r) (look now)) (look now)) e ∙ none

    written : (rs : List RecordAnew) (now : Rows) → EachOf IsRead rs
        → list_any (λ (r : RecordAnew). r.number == n) rs ≡ true → look now ≡ None
        → Q (look (with_records_anew rs now))
    written rs now each some none =
        got_by_all (λ (r : RecordAnew). r.number) IsRead with_record_anew (λ now. Q (look now))
        (λ now. look now ≡ None) n kept got waits with_records_anew (λ _. refl) (λ _ _ _. refl) rs now each some none

  pub span_written : (rs : List RecordAnew) (now : Rows) → EachOf IsRead rs
      → list_any (λ (r : RecordAnew). r.number == n) rs ≡ true → span_at n now.spans ≡ None
      → IsSpanOf (date_in (anew o)) (span_at n (with_records_anew rs now).spans)
  span_written = written (IsSpanOf (date_in (anew o))) (λ (rows : Rows). span_at n rows.spans)
      (λ (r : RecordAnew). r.anew.span) (span_after n) (λ r is. is.spanned o was)

  pub sought_written : (rs : List RecordAnew) (now : Rows) → EachOf IsRead rs
      → list_any (λ (r : RecordAnew). r.number == n) rs ≡ true → sought_at n now.soughts ≡ None
      → sought_at n (with_records_anew rs now).soughts ≡ sought_of (anew o)
  sought_written = written (λ (found : Option Sought). found ≡ sought_of (anew o))
      (λ (rows : Rows). sought_at n rows.soughts) (λ (r : RecordAnew). r.anew.sought) (sought_after n)
      (λ r is. is.sought o was)

  -- ---- links
  abbrev IsLinked : Rows → Type 0
  IsLinked now = (target : ℕ) → is_among target (links (anew o)) ≡ true → has_link target n now.links ≡ true

  links_kept : (r : RecordAnew) (now : Rows) → IsRead r → IsLinked now → IsLinked (with_record_anew r now)
  links_kept r now is here target named =
      lines_stay r.number target n r.anew.lines
      (with_sought_if r.number r.anew.sought (with_span_if r.number r.anew.span (with_lines_anew r now)))
      (ap (has_link target n) (before_links r now) ∙ here target named)

  links_got : (r : RecordAnew) (now : Rows) → IsRead r → (r.number == n) ≡ true → Unit {0}
      → IsLinked (with_record_anew r now)
  links_got r now is e none target named =
      subst (λ k. has_link target k (with_record_anew r now).links ≡ true) (it r.number n e)
      (lines_linked r.number target r.anew.lines
      (with_sought_if r.number r.anew.sought (with_span_if r.number r.anew.span (with_lines_anew r now)))
      (ap (some_line_names target) ((at_it r is e).kept o was) ∙ lines_tell (anew o) target ∙ named))

  pub links_written : (rs : List RecordAnew) (now : Rows) → EachOf IsRead rs
      → list_any (λ (r : RecordAnew). r.number == n) rs ≡ true → IsLinked (with_records_anew rs now)
  links_written rs now each some =
      got_by_all (λ (r : RecordAnew). r.number) IsRead with_record_anew IsLinked (λ now. Unit {0}) n links_kept
      links_got (λ r now is e none. none) with_records_anew (λ _. refl) (λ _ _ _. refl) rs now each some tt
