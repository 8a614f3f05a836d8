-- A published import: closing its batch gives each of its numbers the record that the other lines of rows would give.
use Rattle.std.proofs.Common.{
  ◌≡◌,
  ◌≢◌,
  ℕ,
  Bool,
  true,
  false,
  not,
  List,
  [],
  ◌∷◌,
  map,
  cond,
  refl,
  sym,
  ap,
  ap₂,
  subst,
  ◌∙◌,
  arith,
}
use Rattle.std.specs.Prelude.{◌==◌, ◌&&◌, ◌||◌, Option, Some, None}
use Rattle.std.specs.List.{list_any}
use Rattle.std.specs.Ordering.{nat_cmp, match_ordering}
use Rattle.std.specs.declared.cmp.Ordering.TheVariants.{Less, Equal, Greater}
use Rattle.std.proofs.lemmas.Bool.Decides.{nat_tests}
use Rattle.std.specs.FinMap.{get, insert}
use Rattle.date_spans.specs.Spans.{IsSpanOf, date_in}
use Rattle.gedcom_date.specs.declared.value.Span.{Span}
use Rattle.record_kinds.specs.declared.record.Record.{Record}
use Rattle.archive_state.specs.Applied.{applied, with_puts}
use Rattle.archive_state.specs.Content.{Content, Records}
use Rattle.archive_state.specs.declared.changes.Kept.{Kept}
use Rattle.archive_state.specs.declared.changes.Numbered.{Numbered}
use Rattle.receipts.specs.declared.answer.Answer.{Answer}
use Rattle.record_shapes.specs.Lists.{EachOf, IsOnce}
use Rattle.store_tables.specs.Conversion.{EachWith}
use Rattle.store_tables.specs.Rows.{Rows, BatchRow, RecordRow, SpanRow, closed_at, put_by, with_batch, with_next}
use Rattle.store_rows.specs.Meaning.{Means, is_closed}
use Rattle.store_rows.specs.Spans.{AreDrawn, Drawn, IsSpanned, KeepsSpans, span_at}
use Rattle.store_rows.specs.Writing.{kind_word, with_all_lines, with_changes, with_kept_written}
use Rattle.store_rows.proofs.Got.{got_put}
use Rattle.store_rows.proofs.Meaning.{changes_mean}
use Rattle.staged_rows.specs.Removing.{IsSeenAs}
use Rattle.staged_rows.specs.Staging.{
  IsFresh,
  import_changes,
  numbers_of,
  with_published,
  with_whole_import,
}
use Rattle.staged_rows.proofs.Alike.{none_closed, seen_alike, seen_means}
use Rattle.staged_rows.proofs.Lists.{any_put, none_put}
use Rattle.staged_rows.proofs.Spans.{none_at, put_elsewhere, put_here}
use Rattle.staged_rows.proofs.Whole.{
  all_lines_beside,
  Later,
  beside,
  import_staged,
  no_lines,
  later_in,
  later_put,
  one_span,
  records_put,
  records_written,
  spans_put,
  wholly,
  with_later,
}
use Rattle.list_laws.proofs.Booleans.{or_always, or_first, or_second}
use Rattle.list_laws.proofs.Numbers.{it, is_not, not_it, other_way}

-- ---- batches
closed_one : (b m : ℕ) (x : BatchRow) → b ≢ m → ((((closed_at b x).no == m)) && not (closed_at b x).is_open)
    ≡ ((x.no == m) && not x.is_open)
closed_one b m x off =
    elim (x.no == b) as (λ t. (x.no == b) ≡ t → let y : BatchRow = cond t (record x { is_open = false }) x in
    ((y.no == m) && not y.is_open) ≡ ((x.no == m) && not x.is_open)) [
      | true ↦ λ e.
          let apart : (x.no == m) ≡ false = ap (λ k. k == m) (it x.no b e) ∙ is_not b m off in
          ap (λ t. t && true) apart ∙ sym (ap (λ t. t && not x.is_open) apart)
      | false ↦ λ e. refl
    ] refl

closed_elsewhere : (b m : ℕ) (bs : List BatchRow) → b ≢ m → is_closed m (map (closed_at b) bs) ≡ is_closed m bs
closed_elsewhere b m [] off = refl
closed_elsewhere b m (x ∷ xs) off = ap₂ (λ s t. s || t) (closed_one b m x off) (closed_elsewhere b m xs off)

itself_closed : (b : ℕ) (x : BatchRow) → (((closed_at b x).no == b) && not (closed_at b x).is_open) ≡ (x.no == b)
itself_closed b x =
    elim (x.no == b) as (λ t. (x.no == b) ≡ t → let y : BatchRow = cond t (record x { is_open = false }) x in
    ((y.no == b) && not y.is_open) ≡ t) [
      | true ↦ λ e. ap (λ t. t && true) e
      | false ↦ λ e. ap (λ t. t && not x.is_open) e
    ] refl

closed_here : (b : ℕ) (bs : List BatchRow) → is_closed b (map (closed_at b) bs)
    ≡ list_any (λ (x : BatchRow). x.no == b) bs
closed_here b [] = refl
closed_here b (x ∷ xs) = ap₂ (λ s t. s || t) (itself_closed b x) (closed_here b xs)

module _ {X : Type 0} (key : X → ℕ) where
  is_put : (x : X) (xs : List X) → list_any (λ y. key y == key x) (put_by key x xs) ≡ true
  is_put x [] = let same : (key x == key x) ≡ true = grind (arith, nat_tests) in ap (λ b. b || false) same
  is_put x (y ∷ ys) =
      let same : (key x == key x) ≡ true = grind (arith, nat_tests) in
      let q = λ (y : X). key y == key x in
      elim (nat_cmp (key y) (key x)) as (λ o. list_any q
      (match_ordering o (y ∷ put_by key x ys) (x ∷ ys) (x ∷ y ∷ ys)) ≡ true) [
        | Less ↦ ap (λ b. q y || b) (is_put x ys) ∙ or_always (q y)
        | Equal ↦ ap (λ b. b || list_any q ys) same
        | Greater ↦ ap (λ b. b || list_any q (y ∷ ys)) same
      ]

-- the batches of before, with that of the import, which is closed
abbrev closed_batches : ℕ → List BatchRow → List BatchRow
closed_batches b bs = map (closed_at b) (put_by (λ (x : BatchRow). x.no) (record { no = b; is_open = true }) bs)

batch_closed : (b : ℕ) (bs : List BatchRow) → is_closed b (closed_batches b bs) ≡ true
batch_closed b bs =
    let row : BatchRow = record { no = b; is_open = true } in
    closed_here b (put_by (λ (x : BatchRow). x.no) row bs) ∙ is_put (λ (x : BatchRow). x.no) row bs

others_closed : (b m : ℕ) (bs : List BatchRow) → b ≢ m → is_closed m (closed_batches b bs) ≡ is_closed m bs
others_closed b m bs off =
    let row : BatchRow = record { no = b; is_open = true } in
    closed_elsewhere b m (put_by (λ (x : BatchRow). x.no) row bs) off
    ∙ any_put (λ (x : BatchRow). x.no) m (λ (x : BatchRow). not x.is_open) row bs off

-- ---- rows of `record` that differ only in their batch
abbrev AreAlike : (ℕ → Bool) → (ℕ → Bool) → RecordRow → RecordRow → Type 0
AreAlike f g r s = (r.no ≡ s.no) × (f r.batch ≡ g s.batch)

put_alike : (f g : ℕ → Bool) (p q : RecordRow) (rs ss : List RecordRow) → AreAlike f g p q
    → EachWith (AreAlike f g) rs ss
    → EachWith (AreAlike f g) (put_by (λ (r : RecordRow). r.no) p rs) (put_by (λ (r : RecordRow). r.no) q ss)
put_alike f g p q [] [] is all = (is, tt)
put_alike f g p q [] (s ∷ ss) is all = absurd all
put_alike f g p q (r ∷ rs) [] is all = absurd all
put_alike f g p q (r ∷ rs) (s ∷ ss) is all =
    let key = λ (r : RecordRow). r.no in
    let same : nat_cmp r.no p.no ≡ nat_cmp s.no q.no = ap₂ nat_cmp all.0.0 is.0 in
    let more = put_alike f g p q rs ss is all.1 in
    subst (λ o. EachWith (AreAlike f g)
    (match_ordering (nat_cmp r.no p.no) (r ∷ put_by key p rs) (p ∷ rs) (p ∷ r ∷ rs))
    (match_ordering o (s ∷ put_by key q ss) (q ∷ ss) (q ∷ s ∷ ss))) same
    (elim (nat_cmp r.no p.no) as (λ o. EachWith (AreAlike f g)
    (match_ordering o (r ∷ put_by key p rs) (p ∷ rs) (p ∷ r ∷ rs))
    (match_ordering o (s ∷ put_by key q ss) (q ∷ ss) (q ∷ s ∷ ss))) [
      | Less ↦ (all.0, more)
      | Equal ↦ (is, all.1)
      | Greater ↦ (is, all)
    ])

all_put_alike : (f g : ℕ → Bool) (a b : ℕ) (ps : List Numbered) (rs ss : List RecordRow) → f a ≡ g b
    → EachWith (AreAlike f g) rs ss → EachWith (AreAlike f g) (records_put a ps rs) (records_put b ps ss)
all_put_alike f g a b [] rs ss is all = all
all_put_alike f g a b (p ∷ ps) rs ss is all =
    all_put_alike f g a b ps _ _ is (put_alike f g (record { no = p.number; kind = kind_word p.«record»; batch = a })
    (record { no = p.number; kind = kind_word p.«record»; batch = b }) rs ss (refl, is) all)

any_of_alike : (f g : ℕ → Bool) (n : ℕ) (rs ss : List RecordRow) → EachWith (AreAlike f g) rs ss
    → list_any (λ (r : RecordRow). (r.no == n) && f r.batch) rs
    ≡ list_any (λ (s : RecordRow). (s.no == n) && g s.batch) ss
any_of_alike f g n [] [] all = refl
any_of_alike f g n [] (s ∷ ss) all = absurd all
any_of_alike f g n (r ∷ rs) [] all = absurd all
any_of_alike f g n (r ∷ rs) (s ∷ ss) all =
    ap₂ (λ a b. a || b) (ap₂ (λ k t. (k == n) && t) all.0.0 all.0.1) (any_of_alike f g n rs ss all.1)

-- the rows of before are of other batches
of_others : (b : ℕ) (bs : List BatchRow) (rs : List RecordRow) → list_any (λ (r : RecordRow). r.batch == b) rs ≡ false
    → EachWith (AreAlike (λ k. is_closed k (closed_batches b bs)) (λ k. is_closed k bs)) rs rs
of_others b bs [] none = tt
of_others b bs (r ∷ rs) none =
    let off = or_first (r.batch == b) (list_any (λ (r : RecordRow). r.batch == b) rs) none in
    let more = or_second (r.batch == b) (list_any (λ (r : RecordRow). r.batch == b) rs) none in (
      (refl, others_closed b r.batch bs (λ same. not_it r.batch b off (sym same))),
      of_others b bs rs more,
    )

-- ---- the whole
-- what is kept and the next number are beside the tables of records
published_beside : (kept : Option Kept) (next : ℕ) (bs : List BatchRow) (rs : List RecordRow) (rows : Rows)
    → with_kept_written kept (with_next next (beside bs rs rows))
    ≡ beside bs rs (with_kept_written kept (with_next next rows))
published_beside None next bs rs rows = refl
published_beside (Some k) next bs rs rows = refl

published_wholly : (kept : Option Kept) (next : ℕ) (bs : List BatchRow) (rs : List RecordRow) (later : Later)
    (rows : Rows) → with_kept_written kept (with_next next (wholly bs rs later rows))
    ≡ wholly bs rs later (with_kept_written kept (with_next next rows))
published_wholly None next bs rs later rows = refl
published_wholly (Some k) next bs rs later rows = refl

pub whole_is : (batch next : ℕ) (ps : List Numbered) (drawn : Drawn) (answer : Answer) (kept : Option Kept)
    (rows : Rows)
    → IsOnce (numbers_of ps) → IsFresh batch ps rows
    → with_whole_import batch (import_changes ps next answer kept) drawn rows
    ≡ wholly (closed_batches batch rows.batches) (records_put batch ps rows.records)
    (later_put ps drawn (later_in rows)) (with_kept_written kept (with_next next (with_all_lines ps rows)))
whole_is batch next ps drawn answer kept rows once fresh =
    ap (λ (r : Rows). with_published batch (import_changes ps next answer kept) r)
    (import_staged batch ps drawn (with_batch batch true rows).batches rows once
    (no_lines rows ps fresh.lines fresh.packs))
    ∙ published_wholly kept next (closed_batches batch rows.batches) (records_put batch ps rows.records)
    (later_put ps drawn (later_in rows)) (with_all_lines ps rows)

-- rows mean the same whatever comes after their lines
other_later : (later : Later) (rows : Rows) (c : Content) → Means rows c → Means (with_later later rows) c
other_later later rows c was = record {
  batch = was.batch;
  records = was.records;
  next = was.next;
  receipts = was.receipts;
  slips = was.slips;
}

pub whole : (batch next : ℕ) (ps : List Numbered) (drawn : Drawn) (answer : Answer) (kept : Option Kept) (rows : Rows)
    (c : Content) → IsOnce (numbers_of ps) → IsFresh batch ps rows → AreDrawn ps drawn → Means rows c
    → Means (with_whole_import batch (import_changes ps next answer kept) drawn rows)
    (applied c (import_changes ps next answer kept))
whole batch next ps drawn answer kept rows c once fresh are was =
    let changes = import_changes ps next answer kept in
    let bs = closed_batches batch rows.batches in
    let rs = records_put batch ps rows.records in
    let ss = records_put 0 ps rows.records in
    let all : Rows = with_all_lines ps rows in
    let after : Rows = with_kept_written kept (with_next next all) in
    let f = λ (k : ℕ). is_closed k bs in
    let g = λ (k : ℕ). is_closed k rows.batches in
    let written : with_changes changes rows ≡ beside rows.batches ss after =
    ap (λ (r : Rows). with_kept_written kept (with_next next (with_all_lines ps r))) (records_written ps rows)
    ∙ ap (λ (r : Rows). with_kept_written kept (with_next next r))
    (all_lines_beside ps rows.batches ss rows)
    ∙ published_beside kept next rows.batches ss all in
    let means : Means (beside rows.batches ss after) (applied c changes) =
    subst (λ (r : Rows). Means r (applied c changes)) written (changes_mean changes rows c was) in
    let first : f batch ≡ g 0 = batch_closed batch rows.batches ∙ sym was.batch in
    let alike = all_put_alike f g batch 0 ps rows.records rows.records first
    (of_others batch rows.batches rows.records fresh.records) in
    let seen : IsSeenAs (beside rows.batches ss after) (beside bs rs after) =
    seen_alike bs rs after.lines after.spans (beside rows.batches ss after)
    (others_closed batch 0 rows.batches (apart batch rows was fresh))
    (λ n. any_of_alike f g n rs ss alike) (λ n has. refl) (λ n has. refl) in
    subst (λ (r : Rows). Means r (applied c changes)) (sym (whole_is batch next ps drawn answer kept rows once fresh))
    (other_later (later_put ps drawn (later_in rows)) (beside bs rs after) (applied c changes)
    (seen_means (beside rows.batches ss after) (beside bs rs after) (applied c changes) seen means))
  where
    -- the batch of the import is not that of the commands, which is there
    apart : (b : ℕ) (rows : Rows) → Means rows c → IsFresh b ps rows → b ≢ 0
    apart b rows was fresh same =
        let none : is_closed 0 rows.batches ≡ false = ap (λ k. is_closed k rows.batches) (sym same)
        ∙ none_closed b rows.batches fresh.unused in
        let both : true ≡ false = sym was.batch ∙ none in cc

-- ---- the spans
span_moved : (o p : Option Record) (s t : Option Span) → o ≡ p → s ≡ t → IsSpanned p t → IsSpanned o s
span_moved o p s t same alike h = rw (same, alike) h

put_itself : (n : ℕ) (o : Option Span) (ss : List SpanRow) → list_any (λ (s : SpanRow). s.no == n) ss ≡ false
    → span_at n (one_span n o ss) ≡ o
put_itself n None ss none = none_at n ss none
put_itself n (Some span) ss none = put_here (record { no = n; lo = span.lo; hi = span.hi }) ss none

put_apart : (m n : ℕ) (o : Option Span) (ss : List SpanRow) → n ≢ m → span_at m (one_span n o ss) ≡ span_at m ss
put_apart m n None ss off = refl
put_apart m n (Some span) ss off = put_elsewhere m (record { no = n; lo = span.lo; hi = span.hi }) off ss

-- one record is put, with its span
one_keeps : (n k : ℕ) (p : Numbered) (o : Option Span) (m : Records) (ss : List SpanRow) → k ≡ p.number
    → IsSpanOf (date_in p.«record») o → list_any (λ (s : SpanRow). s.no == p.number) ss ≡ false
    → IsSpanned (get m n) (span_at n ss)
    → IsSpanned (get (insert m p.number p.«record») n) (span_at n (one_span k o ss))
one_keeps n k p o m ss same is none was =
    let put = got_put m p.number p.«record» n in
    let here = ap (λ j. span_at n (one_span j o ss)) same in
    elim (p.number == n) as (λ b. (p.number == n) ≡ b
    → IsSpanned (get (insert m p.number p.«record») n) (span_at n (one_span k o ss))) [
      | true ↦ λ e. span_moved (get (insert m p.number p.«record») n) (Some p.«record»)
          (span_at n (one_span k o ss)) o
          (put ∙ ap (λ b. cond b (Some p.«record») (get m n)) e)
          (here ∙ ap (λ j. span_at j (one_span p.number o ss)) (sym (it p.number n e))
          ∙ put_itself p.number o ss none) is
      | false ↦ λ e. span_moved (get (insert m p.number p.«record») n) (get m n) (span_at n (one_span k o ss))
          (span_at n ss)
          (put ∙ ap (λ b. cond b (Some p.«record») (get m n)) e)
          (here ∙ put_apart n p.number o ss (not_it p.number n e)) was
    ] refl

still_without : (k : ℕ) (o : Option Span) (ss : List SpanRow) (ps : List Numbered)
    → list_any (λ m. m == k) (numbers_of ps) ≡ false
    → EachOf (λ (p : Numbered). list_any (λ (s : SpanRow). s.no == p.number) ss ≡ false) ps
    → EachOf (λ (p : Numbered). list_any (λ (s : SpanRow). s.no == p.number) (one_span k o ss) ≡ false) ps
still_without k None ss ps off none = none
still_without k (Some span) ss [] off none = tt
still_without k (Some span) ss (p ∷ ps) off none =
    let row : SpanRow = record { no = k; lo = span.lo; hi = span.hi } in (
      none_put (λ (s : SpanRow). s.no) (λ (s : SpanRow). s.no == p.number) row ss
          (other_way p.number k false (or_first (p.number == k) (list_any (λ m. m == k) (numbers_of ps)) off)) none.0,
      still_without k (Some span) ss ps (or_second (p.number == k) (list_any (λ m. m == k) (numbers_of ps)) off) none.1,
    )

puts_keep : (n : ℕ) (ps : List Numbered) (ds : Drawn) (m : Records) (ss : List SpanRow) → AreDrawn ps ds
    → IsOnce (numbers_of ps)
    → EachOf (λ (p : Numbered). list_any (λ (s : SpanRow). s.no == p.number) ss ≡ false) ps
    → IsSpanned (get m n) (span_at n ss) → IsSpanned (get (with_puts m ps) n) (span_at n (spans_put ds ss))
puts_keep n [] [] m ss are once none was = was
puts_keep n [] (d ∷ ds) m ss are once none was = absurd are
puts_keep n (p ∷ ps) [] m ss are once none was = absurd are
puts_keep n (p ∷ ps) (d ∷ ds) m ss are once none was =
    puts_keep n ps ds (insert m p.number p.«record») (one_span d.0 d.1 ss) are.1 once.1
    (still_without d.0 d.1 ss ps (ap (λ j. list_any (λ k. k == j) (numbers_of ps)) are.0.0 ∙ once.0) none.1)
    (one_keeps n d.0 p d.1 m ss are.0.0 are.0.1 none.0 was)

pub whole_spans : (batch next : ℕ) (ps : List Numbered) (drawn : Drawn) (answer : Answer) (kept : Option Kept)
    (rows : Rows) (c : Content) → IsOnce (numbers_of ps) → IsFresh batch ps rows → AreDrawn ps drawn
    → KeepsSpans rows c → KeepsSpans (with_whole_import batch (import_changes ps next answer kept) drawn rows)
    (applied c (import_changes ps next answer kept))
whole_spans batch next ps drawn answer kept rows c once fresh are was = λ n.
    subst (λ (ss : List SpanRow). IsSpanned (get (with_puts c.records ps) n) (span_at n ss))
    (sym (ap (λ (r : Rows). r.spans) (whole_is batch next ps drawn answer kept rows once fresh)))
    (puts_keep n ps drawn c.records rows.spans are once fresh.spans (was n))
