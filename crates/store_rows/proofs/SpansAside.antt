-- Changes leave the spans, the links and what is looked for, and these change nothing else.
use Rattle.std.proofs.Common.{◌≡◌, ℕ, Bool, List, [], ◌∷◌, inl, inr, refl, sym, ap, subst, ◌∙◌}
use Rattle.std.specs.Prelude.{Option, Some, None}
use Rattle.stored_lines.specs.Line.{Label}
use Rattle.gedcom_date.specs.declared.value.Span.{Span}
use Rattle.records.specs.Stored.{stored}
use Rattle.archive_state.specs.Applied.{applied, with_puts}
use Rattle.archive_state.specs.Changes.{Changes}
use Rattle.archive_state.specs.Content.{Content}
use Rattle.archive_state.specs.declared.changes.Kept.{Kept}
use Rattle.archive_state.specs.declared.changes.Numbered.{Numbered}
use Rattle.archive_state.specs.declared.changes.SlipChange.{SlipChange}
use Rattle.archive_state.specs.declared.changes.SlipChange.TheVariants as change
use Rattle.std.specs.FinMap.{get}
use Rattle.store_tables.specs.Rows.{
  Rows,
  SpanRow,
  LinkRow,
  SoughtRow,
  with_changed_lines,
  with_next,
  with_record_row,
  without_lines,
  without_record_row,
  without_sought,
  without_span,
}
use Rattle.store_rows.specs.Links.{KeepsLinks, with_all_links, with_link_if, with_links}
use Rattle.store_rows.specs.Meaning.{Means}
use Rattle.store_rows.specs.Sought.{
  KeepsSought,
  Sought,
  sought_at,
  sought_of,
  with_all_sought,
  with_sought_if,
  without_all_sought,
}
use Rattle.store_rows.specs.Spans.{
  AreDrawn,
  Drawn,
  IsDated,
  KeepsSpans,
  span_at,
  with_all_of,
  with_dated_changes,
  with_drawn,
  with_span_if,
  without_all_of,
  without_all_spans,
}
use Rattle.store_rows.specs.Writing.{
  kind_word,
  with_all_lines,
  with_changes,
  with_kept_written,
  with_puts_written,
  with_record_rows,
  with_slip_written,
  without_all_lines,
  without_record_rows,
  without_records,
}
use Rattle.store_rows.proofs.Got.{got_puts, got_without}
use Rattle.store_rows.proofs.Meaning.{puts_only, removed_only}
use Rattle.store_rows.proofs.Puts.{last_of}
use Rattle.store_rows.proofs.LinksRead.{linked_left, linked_puts}
use Rattle.store_rows.proofs.SoughtRead.{sought_left, sought_puts}
use Rattle.store_rows.proofs.SpansRead.{gone_or_left, spanned, spans_drawn, spans_removed}

-- ---- what changes leave: the version, the society and the tables of the second schema
abbrev head : Rows → ℕ × (Bool × (List ℕ × (List SpanRow × (List LinkRow × List SoughtRow))))
head rows = (rows.version, (rows.has_spans, (rows.society, (rows.spans, (rows.links, rows.soughts)))))

kept_head : (kept : Option Kept) (rows : Rows) → head (with_kept_written kept rows) ≡ head rows
kept_head None rows = refl
kept_head (Some kept) rows = refl

slip_head : (slip : Option SlipChange) (rows : Rows) → head (with_slip_written slip rows) ≡ head rows
slip_head None rows = refl
slip_head (Some (change.Made n slip)) rows = refl
slip_head (Some (change.Undone n)) rows = refl

pub changes_head : (changes : Changes) (rows : Rows) → head (with_changes changes rows) ≡ head rows
changes_head changes rows =
    let put : Rows = with_puts_written changes.puts rows in
    let next : Rows = with_next changes.next (without_records changes.removals put) in
    let kept : Rows = with_kept_written changes.kept next in
    slip_head changes.slip kept ∙ kept_head changes.kept next ∙ ap head (removed_only changes.removals put)
    ∙ ap head (puts_only changes.puts rows)

-- all but the slip leaves the schema
pub still : (puts : List Numbered) (removals : List ℕ) (next : ℕ) (kept : Option Kept) (rows : Rows)
    → (with_kept_written kept (with_next next (without_records removals (with_puts_written puts rows)))).has_spans
    ≡ rows.has_spans
still puts removals next kept rows =
    let put : Rows = with_puts_written puts rows in
    ap (λ t. t.1.0) (kept_head kept (with_next next (without_records removals put))
    ∙ ap head (removed_only removals put) ∙ ap head (puts_only puts rows))

-- ---- rows with other tables of the second schema, changed: the rows changed, with these
module _ (ss : List SpanRow) (ls : List LinkRow) (qs : List SoughtRow) where
  -- these in place of those that the rows had
  abbrev pub aside : Rows → Rows
  aside rows = record rows { spans = ss; links = ls; soughts = qs }

  rows_aside : (ps : List Numbered) (rows : Rows) → with_record_rows ps (aside rows)
      ≡ aside (with_record_rows ps rows)
  rows_aside [] rows = refl
  rows_aside (p ∷ ps) rows = rows_aside ps (with_record_row p.number (kind_word p.«record») 0 rows)

  lines_aside : (ps : List Numbered) (rows : Rows) → with_all_lines ps (aside rows) ≡ aside (with_all_lines ps rows)
  lines_aside [] rows = refl
  lines_aside (p ∷ ps) rows = lines_aside ps (with_changed_lines p.number (stored p.«record») rows)

  lines_left_aside : (ns : List ℕ) (rows : Rows) → without_all_lines ns (aside rows)
      ≡ aside (without_all_lines ns rows)
  lines_left_aside [] rows = refl
  lines_left_aside (n ∷ ns) rows = lines_left_aside ns (without_lines n rows)

  rows_left_aside : (ns : List ℕ) (rows : Rows) → without_record_rows ns (aside rows)
      ≡ aside (without_record_rows ns rows)
  rows_left_aside [] rows = refl
  rows_left_aside (n ∷ ns) rows = rows_left_aside ns (without_record_row n rows)

  kept_aside : (kept : Option Kept) (rows : Rows) → with_kept_written kept (aside rows)
      ≡ aside (with_kept_written kept rows)
  kept_aside None rows = refl
  kept_aside (Some kept) rows = refl

  slip_aside : (slip : Option SlipChange) (rows : Rows) → with_slip_written slip (aside rows)
      ≡ aside (with_slip_written slip rows)
  slip_aside None rows = refl
  slip_aside (Some (change.Made n slip)) rows = refl
  slip_aside (Some (change.Undone n)) rows = refl

  pub all_aside : (changes : Changes) (rows : Rows) → with_changes changes (aside rows)
      ≡ aside (with_changes changes rows)
  all_aside changes rows =
      let written = λ (r : Rows). with_slip_written changes.slip
      (with_kept_written changes.kept (with_next changes.next r)) in
      let new : Rows = with_record_rows changes.puts rows in
      let put : Rows = with_puts_written changes.puts rows in
      let bare : Rows = without_all_lines changes.removals put in
      let next : Rows = with_next changes.next (without_records changes.removals put) in
      ap (λ r. written (without_records changes.removals (with_all_lines changes.puts r)))
      (rows_aside changes.puts rows)
      ∙ ap (λ r. written (without_records changes.removals r)) (lines_aside changes.puts new)
      ∙ ap (λ r. written (without_record_rows changes.removals r)) (lines_left_aside changes.removals put)
      ∙ ap written (rows_left_aside changes.removals bare)
      ∙ ap (with_slip_written changes.slip) (kept_aside changes.kept next)
      ∙ slip_aside changes.slip (with_kept_written changes.kept next)

-- ---- what spans, links and what is looked for leave
span_only : (k : ℕ) (found : Option Span) (rows : Rows) → with_span_if k found (without_span k rows)
    ≡ record rows { spans = (with_span_if k found (without_span k rows)).spans }
span_only k None rows = refl
span_only k (Some span) rows = refl

drawn_only : (ds : Drawn) (rows : Rows) → with_drawn ds rows ≡ record rows { spans = (with_drawn ds rows).spans }
drawn_only [] rows = refl
drawn_only (d ∷ ds) rows =
    let after : Rows = with_span_if d.0 d.1 (without_span d.0 rows) in
    drawn_only ds after ∙ ap (λ (r : Rows). record r { spans = (with_drawn ds after).spans }) (span_only d.0 d.1 rows)

left_only : (ns : List ℕ) (rows : Rows) → without_all_spans ns rows
    ≡ record rows { spans = (without_all_spans ns rows).spans }
left_only [] rows = refl
left_only (n ∷ ns) rows = left_only ns (without_span n rows)

sought_only : (k : ℕ) (found : Option Sought) (rows : Rows) → with_sought_if k found (without_sought k rows)
    ≡ record rows { soughts = (with_sought_if k found (without_sought k rows)).soughts }
sought_only k None rows = refl
sought_only k (Some s) rows = refl

all_sought_only : (ps : List Numbered) (rows : Rows) → with_all_sought ps rows
    ≡ record rows { soughts = (with_all_sought ps rows).soughts }
all_sought_only [] rows = refl
all_sought_only (p ∷ ps) rows =
    let after : Rows = with_sought_if p.number (sought_of p.«record») (without_sought p.number rows) in
    all_sought_only ps after
    ∙ ap (λ (r : Rows). record r { soughts = (with_all_sought ps after).soughts })
    (sought_only p.number (sought_of p.«record») rows)

sought_left_only : (ns : List ℕ) (rows : Rows) → without_all_sought ns rows
    ≡ record rows { soughts = (without_all_sought ns rows).soughts }
sought_left_only [] rows = refl
sought_left_only (n ∷ ns) rows = sought_left_only ns (without_sought n rows)

link_only : (n : ℕ) (o : Option ℕ) (rows : Rows) → with_link_if n o rows
    ≡ record rows { links = (with_link_if n o rows).links }
link_only n None rows = refl
link_only n (Some t) rows = refl

pub links_only : (n : ℕ) (ls : List (ℕ × Label)) (rows : Rows) → with_links n ls rows
    ≡ record rows { links = (with_links n ls rows).links }
links_only n [] rows = refl
links_only n (l ∷ ls) rows =
    let after : Rows = with_link_if n l.1.target rows in
    links_only n ls after ∙ ap (λ (r : Rows). record r { links = (with_links n ls after).links })
    (link_only n l.1.target rows)

all_links_only : (ps : List Numbered) (rows : Rows) → with_all_links ps rows
    ≡ record rows { links = (with_all_links ps rows).links }
all_links_only [] rows = refl
all_links_only (p ∷ ps) rows =
    let after : Rows = with_links p.number (stored p.«record») rows in
    all_links_only ps after ∙ ap (λ (r : Rows). record r { links = (with_all_links ps after).links })
    (links_only p.number (stored p.«record») rows)

-- rows with the tables of the second schema that others have
abbrev like : Rows → Rows → Rows
like other = aside other.spans other.links other.soughts

all_left_only : (ns : List ℕ) (rows : Rows) → without_all_of ns rows ≡ like (without_all_of ns rows) rows
all_left_only ns rows =
    let left : Rows = without_all_spans ns rows in
    let all : Rows = without_all_sought ns left in
    subst (λ (r : Rows). r ≡ like r rows)
    (sym (sought_left_only ns left ∙ ap (λ (r : Rows). record r { soughts = all.soughts }) (left_only ns rows))) refl

all_put_only : (ps : List Numbered) (ds : Drawn) (rows : Rows) → with_all_of ps ds rows
    ≡ like (with_all_of ps ds rows) rows
all_put_only ps ds rows =
    let drawn : Rows = with_drawn ds rows in
    let found : Rows = with_all_sought ps drawn in
    let all : Rows = with_all_links ps found in
    subst (λ (r : Rows). r ≡ like r rows)
    (sym (all_links_only ps found
    ∙ ap (λ (r : Rows). record r { links = all.links }) (all_sought_only ps drawn)
    ∙ ap (λ (r : Rows). record r { links = all.links; soughts = found.soughts }) (drawn_only ds rows))) refl

pub dated_only : (changes : Changes) (drawn : Drawn) (rows : Rows) → with_dated_changes changes drawn rows
    ≡ like (with_dated_changes changes drawn rows) (with_changes changes rows)
dated_only changes drawn rows =
    let left : Rows = without_all_of changes.removals rows in
    let after : Rows = with_dated_changes changes drawn rows in
    all_put_only changes.puts drawn (with_changes changes left)
    ∙ ap (λ r. like after (with_changes changes r)) (all_left_only changes.removals rows)
    ∙ ap (like after) (all_aside left.spans left.links left.soughts changes rows)

-- ---- the laws
pub dated_means : (changes : Changes) (drawn : Drawn) (rows : Rows) (c : Content) → Means (with_changes changes rows) c
    → Means (with_dated_changes changes drawn rows) c
dated_means changes drawn rows c h = subst (λ r. Means r c) (sym (dated_only changes drawn rows)) (record {
  batch = h.batch;
  records = h.records;
  next = h.next;
  receipts = h.receipts;
  slips = h.slips;
})

pub dated_lines : (changes : Changes) (drawn : Drawn) (rows : Rows) → (with_dated_changes changes drawn rows).lines
    ≡ (with_changes changes rows).lines
dated_lines changes drawn rows = ap (λ (r : Rows). r.lines) (dated_only changes drawn rows)

pub dated_records : (changes : Changes) (drawn : Drawn) (rows : Rows) → (with_dated_changes changes drawn rows).records
    ≡ (with_changes changes rows).records
dated_records changes drawn rows = ap (λ (r : Rows). r.records) (dated_only changes drawn rows)

pub dated_society : (changes : Changes) (drawn : Drawn) (rows : Rows) → (with_dated_changes changes drawn rows).society
    ≡ rows.society
dated_society changes drawn rows = ap (λ (r : Rows). r.society) (dated_only changes drawn rows)
    ∙ ap (λ h. h.1.1.0) (changes_head changes rows)

pub stays_dated : (changes : Changes) (drawn : Drawn) (rows : Rows) → IsDated rows
    → IsDated (with_dated_changes changes drawn rows)
stays_dated changes drawn rows h = record {
  version = ap (λ (r : Rows). r.version) (dated_only changes drawn rows) ∙ ap (λ t. t.0) (changes_head changes rows)
      ∙ h.version;
  has_spans = ap (λ (r : Rows). r.has_spans) (dated_only changes drawn rows)
      ∙ ap (λ t. t.1.0) (changes_head changes rows) ∙ h.has_spans;
}

pub spans_kept : (changes : Changes) (drawn : Drawn) (rows : Rows) (c : Content) → AreDrawn changes.puts drawn
    → KeepsSpans rows c → KeepsSpans (with_dated_changes changes drawn rows) (applied c changes)
spans_kept changes drawn rows c are h n =
    let left : Rows = without_all_of changes.removals rows in
    let changed : Rows = with_changes changes left in
    let last = λ (o : Option Span). last_of (λ (d : ℕ × Option Span). d.0) (λ (d : ℕ × Option Span). d.1) n drawn o in
    let here = got_without n changes.removals (with_puts c.records changes.puts)
    ∙ ap (last_of (λ k. k) (λ _. None) n changes.removals) (got_puts n changes.puts c.records) in
    let out : Rows = without_all_spans changes.removals rows in
    let put : Rows = with_drawn drawn changed in
    let there = ap (λ (r : Rows). span_at n r.spans) (all_links_only changes.puts (with_all_sought changes.puts put))
    ∙ ap (λ (r : Rows). span_at n r.spans) (all_sought_only changes.puts put) ∙ spans_drawn n drawn changed
    ∙ ap (λ t. last (span_at n t.1.1.1.0)) (changes_head changes left)
    ∙ ap (λ (r : Rows). last (span_at n r.spans)) (sought_left_only changes.removals out)
    ∙ ap last (spans_removed n changes.removals rows) in
    rw (here, there) (spanned n changes.removals changes.puts drawn (get c.records n) (span_at n rows.spans) are (h n))

-- what is at a number once the changes of a request are made
got_applied : (n : ℕ) (changes : Changes) (c : Content) → get (applied c changes).records n
    ≡ last_of (λ k. k) (λ _. None) n changes.removals
    (last_of (λ (p : Numbered). p.number) (λ (p : Numbered). Some p.«record») n changes.puts (get c.records n))
got_applied n changes c =
    got_without n changes.removals (with_puts c.records changes.puts)
    ∙ ap (last_of (λ k. k) (λ _. None) n changes.removals) (got_puts n changes.puts c.records)

pub links_kept : (changes : Changes) (drawn : Drawn) (rows : Rows) (c : Content) → KeepsLinks rows c
    → KeepsLinks (with_dated_changes changes drawn rows) (applied c changes)
links_kept changes drawn rows c h n =
    let out : Rows = without_all_spans changes.removals rows in
    let left : Rows = without_all_of changes.removals rows in
    let changed : Rows = with_changes changes left in
    let put : Rows = with_drawn drawn changed in
    let found : Rows = with_all_sought changes.puts put in
    let before : found.links ≡ rows.links = ap (λ (r : Rows). r.links) (all_sought_only changes.puts put)
    ∙ ap (λ (r : Rows). r.links) (drawn_only drawn changed) ∙ ap (λ t. t.1.1.1.1.0) (changes_head changes left)
    ∙ ap (λ (r : Rows). r.links) (sought_left_only changes.removals out)
    ∙ ap (λ (r : Rows). r.links) (left_only changes.removals rows) in
    let after : Rows = with_all_links changes.puts found in
    rw (got_applied n changes c) (linked_left n changes.removals _ after.links
    (linked_puts n changes.puts (get c.records n) found (rw before (h n))))

pub sought_kept : (changes : Changes) (drawn : Drawn) (rows : Rows) (c : Content) → KeepsSought rows c
    → KeepsSought (with_dated_changes changes drawn rows) (applied c changes)
sought_kept changes drawn rows c h n =
    let out : Rows = without_all_spans changes.removals rows in
    let left : Rows = without_all_of changes.removals rows in
    let changed : Rows = with_changes changes left in
    let put : Rows = with_drawn drawn changed in
    let found : Rows = with_all_sought changes.puts put in
    let before : sought_at n put.soughts ≡ last_of (λ k. k) (λ _. None) n changes.removals (sought_at n rows.soughts) =
    ap (λ (r : Rows). sought_at n r.soughts) (drawn_only drawn changed)
    ∙ ap (λ t. sought_at n t.1.1.1.1.1) (changes_head changes left) ∙ sought_left n changes.removals out
    ∙ ap (λ (r : Rows). last_of (λ k. k) (λ _. None) n changes.removals (sought_at n r.soughts))
    (left_only changes.removals rows) in
    let same : sought_at n (with_all_links changes.puts found).soughts ≡ sought_at n found.soughts =
    ap (λ (r : Rows). sought_at n r.soughts) (all_links_only changes.puts found) in
    let puts = last_of (λ (p : Numbered). p.number) (λ (p : Numbered). Some p.«record») n changes.puts
    (get c.records n) in
    elim (gone_or_left n changes.removals (sought_at n rows.soughts)) [
      | inl gone ↦ rw (got_applied n changes c, gone puts) tt
      | inr stays ↦ rw (got_applied n changes c, stays.0 puts, same)
          (sought_puts n changes.puts (get c.records n) put (rw (before, stays.1) (h n)))
    ]

-- ---- that tables have spans, and still have them
pub left_has : (ns : List ℕ) (rows : Rows) → (without_all_spans ns rows).has_spans ≡ rows.has_spans
left_has ns rows = ap (λ (r : Rows). r.has_spans) (left_only ns rows)

pub sought_left_has : (ns : List ℕ) (rows : Rows) → (without_all_sought ns rows).has_spans ≡ rows.has_spans
sought_left_has ns rows = ap (λ (r : Rows). r.has_spans) (sought_left_only ns rows)

pub changed_has : (changes : Changes) (rows : Rows) → (with_changes changes rows).has_spans ≡ rows.has_spans
changed_has changes rows = ap (λ t. t.1.0) (changes_head changes rows)

pub drawn_has : (ds : Drawn) (rows : Rows) → (with_drawn ds rows).has_spans ≡ rows.has_spans
drawn_has ds rows = ap (λ (r : Rows). r.has_spans) (drawn_only ds rows)

pub all_sought_has : (ps : List Numbered) (rows : Rows) → (with_all_sought ps rows).has_spans ≡ rows.has_spans
all_sought_has ps rows = ap (λ (r : Rows). r.has_spans) (all_sought_only ps rows)

pub sought_has : (n : ℕ) (found : Option Sought) (rows : Rows) → (with_sought_if n found rows).has_spans
    ≡ rows.has_spans
sought_has n None rows = refl
sought_has n (Some s) rows = refl

pub links_has : (n : ℕ) (ls : List (ℕ × Label)) (rows : Rows) → (with_links n ls rows).has_spans ≡ rows.has_spans
links_has n ls rows = ap (λ (r : Rows). r.has_spans) (links_only n ls rows)

pub link_has : (n : ℕ) (o : Option ℕ) (rows : Rows) → (with_link_if n o rows).has_spans ≡ rows.has_spans
link_has n None rows = refl
link_has n (Some t) rows = refl
