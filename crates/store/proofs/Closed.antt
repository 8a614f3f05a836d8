-- Batches that stay closed: neither changes nor an import that is published leaves one open.
use Rattle.std.proofs.Common.{
  ◌≡◌,
  ◌∙◌,
  ℕ,
  true,
  false,
  not,
  List,
  [],
  ◌∷◌,
  map,
  cond,
  Option,
  None,
  Some,
  ap,
  arith,
  refl,
  subst,
  sym,
}
use Rattle.std.proofs.lemmas.Bool.Decides.{nat_tests}
use Rattle.std.specs.Prelude.{◌==◌}
use Rattle.std.specs.List.{AllByRecursion}
use Rattle.std.specs.Ordering.{match_ordering, nat_cmp}
use Rattle.std.specs.declared.cmp.Ordering.TheVariants.{Equal, Greater, Less}
use Rattle.archive_state.specs.Changes.{Changes}
use Rattle.archive_state.specs.declared.changes.Kept.{Kept}
use Rattle.archive_state.specs.declared.changes.Numbered.{Numbered}
use Rattle.archive_state.specs.declared.changes.SlipChange.{SlipChange}
use Rattle.archive_state.specs.declared.changes.SlipChange.TheVariants as change
use Rattle.store_tables.specs.Rows.{BatchRow, Rows, closed_at, put_by, with_batch, with_closed, with_next}
use Rattle.store_rows.specs.Pasts.{with_all_changes}
use Rattle.store_rows.specs.Spans.{Drawn, with_dated_changes}
use Rattle.store_rows.specs.Writing.{
  with_changes,
  with_kept_written,
  with_puts_written,
  with_slip_written,
  without_records,
}
use Rattle.store_rows.proofs.Meaning.{puts_only, removed_only}
use Rattle.store_rows.proofs.SpansAside.{dated_only}
use Rattle.staged_rows.specs.Staging.{
  StagedRow,
  a_pack,
  a_link,
  a_record,
  a_sought,
  a_span,
  with_published,
  with_staged,
  with_staged_row,
}
use Rattle.staging.specs.Opened.{Import}
use Rattle.import_commits.specs.Commits.{IsBegun}
use Rattle.store.specs.Calls.{StaysClosed}
use Rattle.store.proofs.Unchanged.{pasts_only}

abbrev AllClosed : List BatchRow → Type 0
AllClosed = AllByRecursion (λ (b : BatchRow). not b.is_open ≡ true)

-- ---- changes leave the batches
kept_batches : (kept : Option Kept) (rows : Rows) → (with_kept_written kept rows).batches ≡ rows.batches
kept_batches None rows = refl
kept_batches (Some kept) rows = refl

slip_batches : (slip : Option SlipChange) (rows : Rows) → (with_slip_written slip rows).batches ≡ rows.batches
slip_batches None rows = refl
slip_batches (Some (change.Made n slip)) rows = refl
slip_batches (Some (change.Undone n)) rows = refl

changes_batches : (changes : Changes) (rows : Rows) → (with_changes changes rows).batches ≡ rows.batches
changes_batches changes rows =
    let put : Rows = with_puts_written changes.puts rows in
    let next : Rows = with_next changes.next (without_records changes.removals put) in
    slip_batches changes.slip (with_kept_written changes.kept next) ∙ kept_batches changes.kept next
    ∙ ap (λ (r : Rows). r.batches) (removed_only changes.removals put)
    ∙ ap (λ (r : Rows). r.batches) (puts_only changes.puts rows)

pub changed_closed : (changes : Changes) (drawn : Drawn) (values : List Numbered) (rows : Rows)
    → StaysClosed rows (with_all_changes changes drawn values rows)
changed_closed changes drawn values rows all =
    let only = pasts_only changes.kept values (with_dated_changes changes drawn rows) in
    subst AllClosed
    (sym (ap (λ (r : Rows). r.batches) only ∙ ap (λ (r : Rows). r.batches) (dated_only changes drawn rows)
    ∙ changes_batches changes rows)) all

-- ---- rows of an import leave the batches
staged_batches : (rs : List StagedRow) (rows : Rows) → (with_staged rs rows).batches ≡ rows.batches
staged_batches [] rows = refl
staged_batches (a_record r ∷ rs) rows = staged_batches rs (with_staged_row (a_record r) rows)
staged_batches (a_pack n ls ∷ rs) rows = staged_batches rs (with_staged_row (a_pack n ls) rows)
staged_batches (a_link l ∷ rs) rows = staged_batches rs (with_staged_row (a_link l) rows)
staged_batches (a_sought n s ∷ rs) rows = staged_batches rs (with_staged_row (a_sought n s) rows)
staged_batches (a_span n span ∷ rs) rows = staged_batches rs (with_staged_row (a_span n span) rows)

-- ---- the batch of an import is closed when it is published
closed_still : (n : ℕ) (b : BatchRow) → not b.is_open ≡ true → not (closed_at n b).is_open ≡ true
closed_still n b closed =
    elim (b.no == n) as (λ t. let c : BatchRow = cond t (record b { is_open = false }) b in
    not c.is_open ≡ true) [ true ↦ refl | false ↦ closed ]

all_still : (n : ℕ) (bs : List BatchRow) → AllClosed bs → AllClosed (map (closed_at n) bs)
all_still n [] all = tt
all_still n (b ∷ bs) all = (closed_still n b all.0, all_still n bs all.1)

abbrev opened : ℕ → BatchRow
opened n = record { no = n; is_open = true }

closed_itself : (n : ℕ) → not (closed_at n (opened n)).is_open ≡ true
closed_itself n =
    let same : (n == n) ≡ true = grind (arith, nat_tests) in
    ap (λ t. let c : BatchRow = cond t (record (opened n) { is_open = false }) (opened n) in not c.is_open) same

closed_again : (n : ℕ) (bs : List BatchRow) → AllClosed bs
    → AllClosed (map (closed_at n) (put_by (λ (b : BatchRow). b.no) (opened n) bs))
closed_again n [] all = (closed_itself n, tt)
closed_again n (b ∷ bs) all =
    let key = λ (x : BatchRow). x.no in
    elim (nat_cmp b.no n) as (λ o. AllClosed (map (closed_at n)
    (match_ordering o (b ∷ put_by key (opened n) bs) (opened n ∷ bs) (opened n ∷ b ∷ bs)))) [
      | Less ↦ (closed_still n b all.0, closed_again n bs all.1)
      | Equal ↦ (closed_itself n, all_still n bs all.1)
      | Greater ↦ (closed_itself n, (closed_still n b all.0, all_still n bs all.1))
    ]

pub published_closed : (before rows : Rows) (i : Import) → IsBegun before i rows
    → StaysClosed before (with_published i.batch i.changes rows)
published_closed before rows i begun all =
    let open_one : Rows = with_batch i.batch true before in
    let batches : rows.batches ≡ open_one.batches = ap (λ (r : Rows). r.batches) begun.rows_are
    ∙ staged_batches begun.done open_one in
    subst AllClosed
    (sym (kept_batches i.changes.kept (with_next i.changes.next (with_closed i.batch rows))
    ∙ ap (map (closed_at i.batch)) batches)) (closed_again i.batch before.batches all)
