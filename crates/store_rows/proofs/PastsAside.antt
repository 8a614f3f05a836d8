-- Values of before change nothing else, and none of them is changed by what else is written.
use Rattle.std.proofs.Common.{
  ◌≡◌,
  ℕ,
  pos,
  true,
  List,
  [],
  ◌∷◌,
  ◌++◌,
  OnOk,
  Result,
  refl,
  sym,
  ap,
  subst,
  ◌∙◌,
  append_assoc,
}
use Rattle.std.proofs.lemmas.List.{append-nil}
use Rattle.std.specs.Prelude.{Option, Some, None}
use Rattle.sqlite.specs.State.{State}
use Rattle.earlier_values.specs.Earlier.{past}
use Rattle.archive_state.specs.Changes.{Changes}
use Rattle.archive_state.specs.Content.{Content}
use Rattle.archive_state.specs.declared.changes.Kept.{Kept}
use Rattle.archive_state.specs.declared.changes.Numbered.{Numbered}
use Rattle.archive_state.specs.declared.changes.SlipChange.{SlipChange}
use Rattle.archive_state.specs.declared.changes.SlipChange.TheVariants as change
use Rattle.store_tables.specs.Calls.{FollowsDated}
use Rattle.store_tables.specs.Conversion.{EachWith}
use Rattle.store_tables.specs.Rows.{PastRow, Rows, next_past, with_next, with_past}
use Rattle.store_tables.proofs.Calls.{on_ok}
use Rattle.store_rows.specs.Links.{KeepsLinks}
use Rattle.store_rows.specs.Meaning.{Means}
use Rattle.store_rows.specs.Pasts.{
  AddsPasts,
  FollowsAll,
  HasMorePasts,
  IsPastRow,
  with_all_changes,
  with_all_pasts,
  with_pasts_written,
}
use Rattle.store_rows.specs.Sought.{KeepsSought}
use Rattle.store_rows.specs.Spans.{AreDrawn, Drawn, FollowsDrawn, IsDated, KeepsSpans, with_dated_changes}
use Rattle.store_rows.specs.Writing.{
  with_changes,
  with_kept_written,
  with_puts_written,
  with_slip_written,
  without_records,
}
use Rattle.store_rows.proofs.Meaning.{puts_only, removed_only}
use Rattle.store_rows.proofs.SpansAside.{changes_head, dated_only}

-- ---- values of before change nothing else
all_pasts_only : (token : List ℕ) (ps : List Numbered) (rows : Rows) → with_all_pasts token ps rows
    ≡ record rows { pasts = (with_all_pasts token ps rows).pasts }
all_pasts_only token [] rows = refl
all_pasts_only token (p ∷ ps) rows = all_pasts_only token ps (with_past p.number token (past p.«record») rows)

written_only : (kept : Option Kept) (ps : List Numbered) (rows : Rows) → with_pasts_written kept ps rows
    ≡ record rows { pasts = (with_pasts_written kept ps rows).pasts }
written_only None ps rows = refl
written_only (Some kept) ps rows = all_pasts_only kept.token ps rows

pub pasts_has : (token : List ℕ) (ps : List Numbered) (rows : Rows) → (with_all_pasts token ps rows).has_spans
    ≡ rows.has_spans
pasts_has token ps rows = ap (λ (r : Rows). r.has_spans) (all_pasts_only token ps rows)

module _ (changes : Changes) (drawn : Drawn) (ps : List Numbered) (rows : Rows) where
  abbrev after : Rows
  after = with_dated_changes changes drawn rows

  abbrev last : List PastRow
  last = (with_all_changes changes drawn ps rows).pasts

  is_only : with_all_changes changes drawn ps rows ≡ record (with_dated_changes changes drawn rows) { pasts = last }
  is_only = written_only changes.kept ps after

  pub all_means : (c : Content) → Means (with_dated_changes changes drawn rows) c
      → Means (with_all_changes changes drawn ps rows) c
  all_means c h = subst (λ r. Means r c) (sym is_only) (record {
    batch = h.batch;
    records = h.records;
    next = h.next;
    receipts = h.receipts;
    slips = h.slips;
  })

  pub all_spans : (c : Content) → KeepsSpans (with_dated_changes changes drawn rows) c
      → KeepsSpans (with_all_changes changes drawn ps rows) c
  all_spans c h = subst (λ r. KeepsSpans r c) (sym is_only) h

  pub all_links : (c : Content) → KeepsLinks (with_dated_changes changes drawn rows) c
      → KeepsLinks (with_all_changes changes drawn ps rows) c
  all_links c h = subst (λ r. KeepsLinks r c) (sym is_only) h

  pub all_sought : (c : Content) → KeepsSought (with_dated_changes changes drawn rows) c
      → KeepsSought (with_all_changes changes drawn ps rows) c
  all_sought c h = subst (λ r. KeepsSought r c) (sym is_only) h

  pub all_dated : IsDated (with_dated_changes changes drawn rows) → IsDated (with_all_changes changes drawn ps rows)
  all_dated h = subst IsDated (sym is_only) (record { version = h.version; has_spans = h.has_spans })

  pub all_society : (with_all_changes changes drawn ps rows).society ≡ (with_dated_changes changes drawn rows).society
  all_society = ap (λ (r : Rows). r.society) is_only

-- ---- changes leave those that there are
kept_pasts : (kept : Option Kept) (rows : Rows) → (with_kept_written kept rows).pasts ≡ rows.pasts
kept_pasts None rows = refl
kept_pasts (Some kept) rows = refl

slip_pasts : (slip : Option SlipChange) (rows : Rows) → (with_slip_written slip rows).pasts ≡ rows.pasts
slip_pasts None rows = refl
slip_pasts (Some (change.Made n slip)) rows = refl
slip_pasts (Some (change.Undone n)) rows = refl

changes_pasts : (changes : Changes) (rows : Rows) → (with_changes changes rows).pasts ≡ rows.pasts
changes_pasts changes rows =
    let put : Rows = with_puts_written changes.puts rows in
    let next : Rows = with_next changes.next (without_records changes.removals put) in
    let kept : Rows = with_kept_written changes.kept next in
    slip_pasts changes.slip kept ∙ kept_pasts changes.kept next
    ∙ ap (λ (r : Rows). r.pasts) (removed_only changes.removals put)
    ∙ ap (λ (r : Rows). r.pasts) (puts_only changes.puts rows)

dated_pasts : (changes : Changes) (drawn : Drawn) (rows : Rows) → (with_dated_changes changes drawn rows).pasts
    ≡ rows.pasts
dated_pasts changes drawn rows =
    ap (λ (r : Rows). r.pasts) (dated_only changes drawn rows) ∙ changes_pasts changes rows

-- ---- and add to them
more_of : (token : List ℕ) (ps : List Numbered) (rows : Rows)
    → (more : List PastRow) × EachWith (IsPastRow token) ps more
    × HasMorePasts rows (with_all_pasts token ps rows) more
more_of token [] rows = ([], tt, sym (append-nil rows.pasts))
more_of token (p ∷ ps) rows =
    let row : PastRow = record {
      id = next_past rows.pasts;
      no = pos p.number;
      token = token;
      text = past p.«record»;
    } in
    let (more, are, is) = more_of token ps (with_past p.number token (past p.«record») rows) in
    (row ∷ more, ((refl, refl, refl), are), is ∙ append_assoc rows.pasts (row ∷ []) more)

written_adds : (kept : Option Kept) (ps : List Numbered) (rows : Rows)
    → AddsPasts kept ps rows (with_pasts_written kept ps rows)
written_adds None ps rows = sym (append-nil rows.pasts)
written_adds (Some kept) ps rows = more_of kept.token ps rows

-- the same after rows that have the same values of before
adds_from : (kept : Option Kept) (ps : List Numbered) (rows mid done : Rows) → mid.pasts ≡ rows.pasts
    → AddsPasts kept ps mid done → AddsPasts kept ps rows done
adds_from None ps rows mid done same h = h ∙ ap (λ qs. qs ++ []) same
adds_from (Some kept) ps rows mid done same (more, are, is) = (more, are, is ∙ ap (λ qs. qs ++ more) same)

pub all_adds : (changes : Changes) (drawn : Drawn) (ps : List Numbered) (rows : Rows)
    → AddsPasts changes.kept ps rows (with_all_changes changes drawn ps rows)
all_adds changes drawn ps rows =
    let mid : Rows = with_dated_changes changes drawn rows in
    adds_from changes.kept ps rows mid (with_all_changes changes drawn ps rows) (dated_pasts changes drawn rows)
    (written_adds changes.kept ps mid)

pub none_added : (changes : Changes) (drawn : Drawn) (rows : Rows) → with_all_changes changes drawn [] rows
    ≡ with_dated_changes changes drawn rows
none_added changes drawn rows = go changes.kept (with_dated_changes changes drawn rows)
  where
    go : (kept : Option Kept) (rows : Rows) → with_pasts_written kept [] rows ≡ rows
    go None rows = refl
    go (Some kept) rows = refl

-- ---- all that is written, one call after the other
dated_has : (changes : Changes) (drawn : Drawn) (rows : Rows) → (with_dated_changes changes drawn rows).has_spans
    ≡ rows.has_spans
dated_has changes drawn rows = ap (λ (r : Rows). r.has_spans) (dated_only changes drawn rows)
    ∙ ap (λ t. t.1.0) (changes_head changes rows)

pub all_written : {A E : Type 0} (r : Result A E) (a b c : State) (changes : Changes) (ps : List Numbered)
    → FollowsDrawn a b changes → OnOk r (FollowsDated b c (with_pasts_written changes.kept ps))
    → OnOk r (FollowsAll a c changes ps)
all_written r a b c changes ps first = on_ok r (λ last rows has was.
    let (drawn, are, inside, same) = first rows has was in
    let two = last (with_dated_changes changes drawn rows) (dated_has changes drawn rows ∙ has) inside in
    (drawn, are, two.0, two.1 ∙ same))
