-- What rows with an import on them mean.
use Rattle.std.proofs.Common.{
  ◌≡◌,
  ℕ,
  zero,
  suc,
  true,
  false,
  List,
  [],
  ◌∷◌,
  ◌++◌,
  ◌-◌,
  append-nil,
  length,
  drop,
  Option,
  None,
  Some,
  refl,
  sym,
  ap,
  ap₂,
  subst,
  ◌∙◌,
}
use Rattle.std.specs.Prelude.{◌==◌, take}
use Rattle.std.specs.FinMap.{get}
use Rattle.std.specs.List.{list_any}
use Rattle.sqlite.specs.Tree.{Trees}
use Rattle.receipts.specs.declared.answer.Answer.{Answer}
use Rattle.archive_state.specs.Applied.{applied}
use Rattle.archive_state.specs.Changes.{Changes}
use Rattle.archive_state.specs.Content.{Content}
use Rattle.archive_state.specs.declared.changes.Kept.{Kept}
use Rattle.archive_state.specs.declared.changes.Numbered.{Numbered}
use Rattle.record_shapes.specs.Lists.{EachOf, IsOnce}
use Rattle.store_tables.specs.Batches.{AreOwned}
use Rattle.store_tables.specs.Calls.{Good}
use Rattle.store_tables.specs.Rows.{LinkRow, Rows, BatchRow, with_batch, with_closed, with_next}
use Rattle.store_rows.specs.Meaning.{Means, is_closed}
use Rattle.store_rows.specs.Links.{KeepsLinks}
use Rattle.store_rows.specs.Sought.{KeepsSought}
use Rattle.store_rows.specs.Spans.{AreDrawn, Drawn, IsDated, KeepsSpans}
use Rattle.store_rows.specs.Writing.{with_kept_written}
use Rattle.staged_rows.specs.Removing.{AreAside, AreOf, IsSeenAs, is_from, links_among, without_batch}
use Rattle.staged_rows.specs.Staging.{
  AreAllClosed,
  AreClosed,
  AreNew,
  IsFresh,
  StagedRow,
  a_pack,
  a_link,
  a_record,
  a_sought,
  a_span,
  import_changes,
  links_of,
  numbers_of,
  rows_of_import,
  with_open_import,
  with_published,
  with_staged,
  with_staged_row,
  with_whole_import,
}
use Rattle.staging.specs.Opened.{Import, links_written}
use Rattle.import_commits.specs.Commits.{AreWrittenAnew, IsAddition, IsBegun, IsNextBatch}
use Rattle.import_commits.proofs.Batches.{opened_is_not_closed}
use Rattle.staged_rows.proofs.LinksGone.{written_are}
use Rattle.staged_rows.proofs.Staged.{batches_stay, each_taken}
use Rattle.staging.proofs.Cursors.{staged_has}
use Rattle.staged_rows.proofs.Whole.{joined as staged_after}
use Rattle.staged_rows.proofs.Alike.{none_closed}

-- ---- lists
taken : {A : Type 0} (xs ys : List A) → take (length xs) (xs ++ ys) ≡ xs
taken [] ys = refl
taken (x ∷ xs) ys = ap (λ zs. x ∷ zs) (taken xs ys)

parted : {A : Type 0} (n : ℕ) (xs : List A) → take n xs ++ drop n xs ≡ xs
parted zero xs = refl
parted (suc n) [] = refl
parted (suc n) (x ∷ xs) = ap (λ zs. x ∷ zs) (parted n xs)

joined : {A : Type 0} (xs ys zs : List A) → xs ++ (ys ++ zs) ≡ (xs ++ ys) ++ zs
joined [] ys zs = refl
joined (x ∷ xs) ys zs = ap (λ ws. x ∷ ws) (joined xs ys zs)

-- ---- rows that are staged

row_society : (x : StagedRow) (rows : Rows) → (with_staged_row x rows).society ≡ rows.society
row_society (a_record r) rows = refl
row_society (a_pack n ls) rows = refl
row_society (a_link l) rows = refl
row_society (a_sought n s) rows = refl
row_society (a_span n span) rows = refl

row_version : (x : StagedRow) (rows : Rows) → (with_staged_row x rows).version ≡ rows.version
row_version (a_record r) rows = refl
row_version (a_pack n ls) rows = refl
row_version (a_link l) rows = refl
row_version (a_sought n s) rows = refl
row_version (a_span n span) rows = refl

staged_society : (xs : List StagedRow) (rows : Rows) → (with_staged xs rows).society ≡ rows.society
staged_society [] rows = refl
staged_society (x ∷ xs) rows = staged_society xs (with_staged_row x rows) ∙ row_society x rows

staged_batches : (xs : List StagedRow) (rows : Rows) → (with_staged xs rows).batches ≡ rows.batches
staged_batches [] rows = refl
staged_batches (x ∷ xs) rows = staged_batches xs (with_staged_row x rows) ∙ batches_stay x rows

staged_version : (xs : List StagedRow) (rows : Rows) → (with_staged xs rows).version ≡ rows.version
staged_version [] rows = refl
staged_version (x ∷ xs) rows = staged_version xs (with_staged_row x rows) ∙ row_version x rows

-- ---- an import is begun, and goes on
pub fresh_from : ((rows : Rows) (t : Trees) → Good rows t → AreOwned rows)
    → ((batch : ℕ) (puts : List Numbered) (rows : Rows) (c : Content) → AreClosed rows
    → list_any (λ (b : BatchRow). b.no == batch) rows.batches ≡ false
    → EachOf (λ (p : Numbered). get c.records p.number ≡ None) puts → Means rows c → IsFresh batch puts rows)
    → ((rows : Rows) → AreOwned rows → AreAllClosed rows → AreClosed rows) → (batch : ℕ) (rows : Rows)
    (t : Trees) (c : Content) (changes : Changes) → Good rows t → IsNextBatch batch rows
    → Means rows c → IsAddition c changes → IsFresh batch changes.puts rows
fresh_from owned fresh closed batch rows t c changes good next means adds =
    fresh batch changes.puts rows c (closed rows (owned rows t good) next.closed) next.unused adds.free means

pub goes_on : (n : ℕ) (before rows : Rows) (i : Import) → IsBegun before i rows
    → IsBegun before (record i { left = drop n i.left }) (with_staged (take n i.left) rows)
goes_on n before rows i begun = record {
  drawn = begun.drawn;
  are = begun.are;
  done = begun.done ++ take n i.left;
  parts = begun.parts ∙ ap (λ xs. begun.done ++ xs) (sym (parted n i.left))
      ∙ joined begun.done (take n i.left) (drop n i.left);
  rows_are = ap (with_staged (take n i.left)) begun.rows_are
      ∙ sym (staged_after begun.done (take n i.left) (with_batch i.batch true before));
}

new_then : (xs ys : List StagedRow) (rows : Rows) → AreNew xs rows → AreNew ys (with_staged xs rows)
    → AreNew (xs ++ ys) rows
new_then [] ys rows a b = b
new_then (x ∷ xs) ys rows a b = (a.0, new_then xs ys (with_staged_row x rows) a.1 b)

pub goes_on_anew : (n : ℕ) (before rows : Rows) (i : Import) → (begun : IsBegun before i rows)
    → AreWrittenAnew before i rows begun → AreNew (take n i.left) rows
    → (next : IsBegun before (record i { left = drop n i.left }) (with_staged (take n i.left) rows))
    × AreWrittenAnew before (record i { left = drop n i.left }) (with_staged (take n i.left) rows) next
unfolding goes_on
goes_on_anew n before rows i begun new more = (
  goes_on n before rows i begun,
  new_then begun.done (take n i.left) (with_batch i.batch true before) new
      (subst (AreNew (take n i.left)) begun.rows_are more),
)

-- it is published when all its rows are there
pub published_is : (before rows : Rows) (i : Import) → (begun : IsBegun before i rows) → i.left ≡ []
    → with_published i.batch i.changes rows ≡ with_whole_import i.batch i.changes begun.drawn before
published_is before rows i begun none =
    let all : begun.done ≡ rows_of_import i.batch i.changes.puts begun.drawn =
    sym (begun.parts ∙ ap (λ xs. begun.done ++ xs) none ∙ append-nil begun.done) in
    ap (with_published i.batch i.changes)
    (begun.rows_are ∙ ap (λ xs. with_staged xs (with_batch i.batch true before)) all)

module _ (before rows : Rows) (i : Import) (c : Content) (begun : IsBegun before i rows)
    (fresh : IsFresh i.batch i.changes.puts before) (adds : IsAddition c i.changes) where
  abbrev opened : Rows
  opened = with_batch i.batch true before

  unclosed : is_closed i.batch before.batches ≡ false
  unclosed = none_closed i.batch before.batches fresh.unused

  begun_society : rows.society ≡ before.society
  begun_society = ap (λ (r : Rows). r.society) begun.rows_are ∙ staged_society begun.done opened

  begun_version : rows.version ≡ before.version
  begun_version = ap (λ (r : Rows). r.version) begun.rows_are ∙ staged_version begun.done opened

  begun_has_spans : rows.has_spans ≡ before.has_spans
  begun_has_spans = ap (λ (r : Rows). r.has_spans) begun.rows_are ∙ staged_has begun.done opened

  pub still_open : is_closed i.batch rows.batches ≡ false
  still_open = ap (λ (r : Rows). is_closed i.batch r.batches) begun.rows_are
      ∙ ap (is_closed i.batch) (staged_batches begun.done opened)
      ∙ opened_is_not_closed i.batch before.batches unclosed

  -- while it is open
  pub not_seen : ((batch count : ℕ) (puts : List Numbered) (drawn : Drawn) (rows : Rows)
      → is_closed batch rows.batches ≡ false → AreAside (numbers_of puts) rows → AreDrawn puts drawn
      → IsSeenAs rows (with_open_import batch puts drawn count rows))
      → AreAside (numbers_of i.changes.puts) before → IsSeenAs before rows
  not_seen law apart =
      let parts : take (length begun.done) (rows_of_import i.batch i.changes.puts begun.drawn) ≡ begun.done =
      ap (take (length begun.done)) begun.parts ∙ taken begun.done i.left in
      subst (IsSeenAs before) (sym begun.rows_are)
      (subst (λ xs. IsSeenAs before (with_staged xs opened)) parts
      (law i.batch (length begun.done) i.changes.puts begun.drawn before unclosed apart begun.are))

  pub taken_out : ((batch : ℕ) (puts : List Numbered) (drawn : Drawn) (done left : List StagedRow) (rows : Rows)
      → rows_of_import batch puts drawn ≡ done ++ left → IsFresh batch puts rows → AreDrawn puts drawn
      → AreNew done (with_batch batch true rows)
      → without_batch batch (numbers_of puts) (links_among done) (with_staged done (with_batch batch true rows)) ≡ rows)
      → AreWrittenAnew before i rows begun
      → without_batch i.batch (numbers_of i.changes.puts) (links_written i) rows ≡ before
  taken_out law new =
      ap₂ (without_batch i.batch (numbers_of i.changes.puts))
      (written_are i.batch i.changes.puts begun.drawn begun.done i.left begun.parts) begun.rows_are
      ∙ law i.batch i.changes.puts begun.drawn begun.done i.left before begun.parts fresh begun.are new

  -- its links are from its numbers
  pub links_from_it : ((puts : List Numbered) → AreOf (numbers_of puts) (links_of puts))
      → AreOf (numbers_of i.changes.puts) (links_written i)
  links_from_it law = each_taken (λ (l : LinkRow). is_from (numbers_of i.changes.puts) l ≡ true)
      (length (links_of i.changes.puts) - length (links_among i.left)) (links_of i.changes.puts) (law i.changes.puts)

  -- ---- it is published
  kept_society : (kept : Option Kept) (r : Rows) → (with_kept_written kept r).society ≡ r.society
  kept_society None r = refl
  kept_society (Some k) r = refl

  kept_version : (kept : Option Kept) (r : Rows) → (with_kept_written kept r).version ≡ r.version
  kept_version None r = refl
  kept_version (Some k) r = refl

  kept_has_spans : (kept : Option Kept) (r : Rows) → (with_kept_written kept r).has_spans ≡ r.has_spans
  kept_has_spans None r = refl
  kept_has_spans (Some k) r = refl

  abbrev closed : Rows
  closed = with_next i.changes.next (with_closed i.batch rows)

  pub published_society : (with_published i.batch i.changes rows).society ≡ before.society
  published_society = kept_society i.changes.kept closed ∙ begun_society

  pub published_dated : IsDated before → IsDated (with_published i.batch i.changes rows)
  published_dated dated = record {
    version = kept_version i.changes.kept closed ∙ begun_version ∙ dated.version;
    has_spans = kept_has_spans i.changes.kept closed ∙ begun_has_spans ∙ dated.has_spans;
  }

  changes_are : i.changes
      ≡ import_changes i.changes.puts i.changes.next i.changes.answer i.changes.kept
  changes_are = ap₂ (λ ns s. record i.changes { removals = ns; slip = s }) adds.removals adds.slip

  -- what holds of a whole import holds of the one that is published
  published_has : (P : Rows → Content → Type 0) → i.left ≡ []
      → (let all = import_changes i.changes.puts i.changes.next i.changes.answer i.changes.kept in
      P (with_whole_import i.batch all begun.drawn before) (applied c all))
      → P (with_published i.batch i.changes rows) (applied c i.changes)
  published_has P none holds =
      subst (λ (r : Rows). P r (applied c i.changes)) (sym (published_is before rows i begun none))
      (subst (λ x. P (with_whole_import i.batch x begun.drawn before) (applied c x)) (sym changes_are) holds)

  pub published_means : ((batch next : ℕ) (puts : List Numbered) (drawn : Drawn) (answer : Answer)
      (kept : Option Kept) (rows : Rows) (c : Content) → IsOnce (numbers_of puts) → IsFresh batch puts rows
      → AreDrawn puts drawn → Means rows c
      → Means (with_whole_import batch (import_changes puts next answer kept) drawn rows)
      (applied c (import_changes puts next answer kept)))
      → Means before c → i.left ≡ [] → Means (with_published i.batch i.changes rows) (applied c i.changes)
  published_means law means none = published_has Means none
      (law i.batch i.changes.next i.changes.puts begun.drawn i.changes.answer i.changes.kept before c adds.once fresh
      begun.are means)

  pub published_links : ((batch next : ℕ) (puts : List Numbered) (drawn : Drawn) (answer : Answer)
      (kept : Option Kept) (rows : Rows) (c : Content) → IsOnce (numbers_of puts) → IsFresh batch puts rows
      → KeepsLinks rows c
      → KeepsLinks (with_whole_import batch (import_changes puts next answer kept) drawn rows)
      (applied c (import_changes puts next answer kept)))
      → KeepsLinks before c → i.left ≡ [] → KeepsLinks (with_published i.batch i.changes rows) (applied c i.changes)
  published_links law links none = published_has KeepsLinks none
      (law i.batch i.changes.next i.changes.puts begun.drawn i.changes.answer i.changes.kept before c adds.once fresh
      links)

  pub published_soughts : ((batch next : ℕ) (puts : List Numbered) (drawn : Drawn) (answer : Answer)
      (kept : Option Kept) (rows : Rows) (c : Content) → IsOnce (numbers_of puts) → IsFresh batch puts rows
      → KeepsSought rows c
      → KeepsSought (with_whole_import batch (import_changes puts next answer kept) drawn rows)
      (applied c (import_changes puts next answer kept)))
      → KeepsSought before c → i.left ≡ [] → KeepsSought (with_published i.batch i.changes rows) (applied c i.changes)
  published_soughts law soughts none = published_has KeepsSought none
      (law i.batch i.changes.next i.changes.puts begun.drawn i.changes.answer i.changes.kept before c adds.once fresh
      soughts)

  pub published_spans : ((batch next : ℕ) (puts : List Numbered) (drawn : Drawn) (answer : Answer)
      (kept : Option Kept) (rows : Rows) (c : Content) → IsOnce (numbers_of puts) → IsFresh batch puts rows
      → AreDrawn puts drawn → KeepsSpans rows c
      → KeepsSpans (with_whole_import batch (import_changes puts next answer kept) drawn rows)
      (applied c (import_changes puts next answer kept)))
      → KeepsSpans before c → i.left ≡ [] → KeepsSpans (with_published i.batch i.changes rows) (applied c i.changes)
  published_spans law spans none = published_has KeepsSpans none
      (law i.batch i.changes.next i.changes.puts begun.drawn i.changes.answer i.changes.kept before c adds.once fresh
      begun.are spans)
