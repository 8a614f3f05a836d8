-- Spans, what is looked for, links, lines and rows of several numbers that are removed, where none of them has a
-- record.
use Rattle.std.proofs.Common.{
  ◌≡◌,
  ℕ,
  Bool,
  true,
  false,
  not,
  List,
  [],
  ◌∷◌,
  map,
  filter,
  cond,
  refl,
  subst,
  ap,
  ap₂,
  ◌∙◌,
  arith,
}
use Rattle.std.specs.Prelude.{◌==◌, ◌&&◌, ◌||◌, ◌<◌}
use Rattle.std.specs.List.{AllByRecursion, list_any}
use Rattle.std.proofs.lemmas.Bool.Decides.{nat_tests}
use Rattle.sqlite.specs.Tree.{Trees, IsAscending}
use Rattle.record_shapes.specs.Lists.{EachOf}
use Rattle.store_tables.specs.Batches.{numbers_in}
use Rattle.store_tables.specs.Calls.{Good}
use Rattle.store_tables.specs.Rows.{
  Rows,
  BatchRow,
  RecordRow,
  LineRow,
  LinkRow,
  PackRow,
  is_line_from,
  is_pack_from,
  without_lines,
  without_lines_from,
  without_link,
  without_record_row,
  without_sought,
  without_span,
}
use Rattle.store_rows.specs.Meaning.{has_record, is_closed}
use Rattle.store_rows.specs.Links.{without_all_links}
use Rattle.store_rows.specs.Sought.{without_all_sought}
use Rattle.store_rows.specs.Spans.{without_all_of, without_all_spans}
use Rattle.store_rows.specs.Writing.{without_all_lines, without_record_rows, without_records}
use Rattle.staged_rows.specs.Removing.{AreAside, AreLinksAside, AreOf, IsSeenAs, is_from, without_batch, without_later}
use Rattle.staged_rows.proofs.Alike.{seen_same, seen_then}
use Rattle.staged_rows.proofs.Removed.{
  batch_gone,
  left_out,
  lines_gone,
  link_gone,
  packs_gone,
  record_gone,
  sought_gone,
  span_gone,
}
use Rattle.record_shapes.proofs.Each.{each_more}
use Rattle.list_laws.proofs.Numbers.{it}

-- a line that is left out is of that number
of_that : (a b : Bool) → not (a && b) ≡ false → a ≡ true
of_that true b h = refl
of_that false b h = absurd cc

pub line_out : (n : ℕ) (rows : Rows) → has_record n rows ≡ false → IsSeenAs rows (without_lines n rows)
line_out n rows none =
    let less : Rows = record rows { lines = filter (λ (l : LineRow). not (l.no == n)) rows.lines } in
    seen_then rows less (without_lines n rows)
    (lines_gone (λ (l : LineRow). not (l.no == n)) rows
    (λ l out. ap (λ k. has_record k rows) (left_out l.no n out) ∙ none))
    (packs_gone (λ (p : PackRow). not (p.no == n)) less
    (λ p out. ap (λ k. has_record k rows) (left_out p.no n out) ∙ none))

pub lines_from_out : (n at : ℕ) (rows : Rows) → has_record n rows ≡ false
    → IsSeenAs rows (without_lines_from n at rows)
lines_from_out n at rows none =
    let less : Rows = record rows { lines = filter (λ l. not (is_line_from n at l)) rows.lines } in
    seen_then rows less (without_lines_from n at rows)
    (lines_gone (λ l. not (is_line_from n at l)) rows
    (λ l out. ap (λ k. has_record k rows) (it l.no n (of_that (l.no == n) _ out)) ∙ none))
    (packs_gone (λ p. not (is_pack_from n at p)) less
    (λ p out. ap (λ k. has_record k rows) (it p.no n (of_that (p.no == n) _ out)) ∙ none))

-- after rows that are seen as those of before
module _ (before : Rows) where
  pub lines_out : (ns : List ℕ) (rows : Rows) → AreAside ns before → IsSeenAs before rows
      → IsSeenAs before (without_all_lines ns rows)
  lines_out [] rows none seen = seen
  lines_out (n ∷ ns) rows none seen = lines_out ns (without_lines n rows) none.1
      (seen_then before rows (without_lines n rows) seen (line_out n rows (seen.recorded n ∙ none.0)))

  pub rows_out : (ns : List ℕ) (rows : Rows) → AreAside ns before → IsSeenAs before rows
      → IsSeenAs before (without_record_rows ns rows)
  rows_out [] rows none seen = seen
  rows_out (n ∷ ns) rows none seen = rows_out ns (without_record_row n rows) none.1
      (seen_then before rows (without_record_row n rows) seen (record_gone n rows (seen.recorded n ∙ none.0)))

  pub spans_out : (ns : List ℕ) (rows : Rows) → AreAside ns before → IsSeenAs before rows
      → IsSeenAs before (without_all_spans ns rows)
  spans_out [] rows none seen = seen
  spans_out (n ∷ ns) rows none seen = spans_out ns (without_span n rows) none.1
      (seen_then before rows (without_span n rows) seen (span_gone n rows (seen.recorded n ∙ none.0)))

  soughts_out : (ns : List ℕ) (rows : Rows) → AreAside ns before → IsSeenAs before rows
      → IsSeenAs before (without_all_sought ns rows)
  soughts_out [] rows none seen = seen
  soughts_out (n ∷ ns) rows none seen = soughts_out ns (without_sought n rows) none.1
      (seen_then before rows (without_sought n rows) seen (sought_gone n rows (seen.recorded n ∙ none.0)))

  -- the spans, and what is looked for
  pub all_of_out : (ns : List ℕ) (rows : Rows) → AreAside ns before → IsSeenAs before rows
      → IsSeenAs before (without_all_of ns rows)
  all_of_out ns rows none seen = soughts_out ns (without_all_spans ns rows) none (spans_out ns rows none seen)

  pub links_out : (ls : List LinkRow) (rows : Rows) → AreLinksAside ls before → IsSeenAs before rows
      → IsSeenAs before (without_all_links ls rows)
  links_out [] rows none seen = seen
  links_out (l ∷ ls) rows none seen = links_out ls (without_link l.target l.no rows) none.1
      (seen_then before rows (without_link l.target l.no rows) seen
      (link_gone l.target l.no rows (seen.recorded l.no ∙ none.0)))

-- links from numbers that have no record
among_has : (P : ℕ → Type 0) (n : ℕ) (ns : List ℕ) → list_any (λ k. k == n) ns ≡ true → EachOf P ns → P n
among_has P n [] is all = absurd cc
among_has P n (k ∷ ks) is all =
    elim (k == n) as (λ b. (k == n) ≡ b → (b || list_any (λ k. k == n) ks) ≡ true → P n) [
      | true ↦ λ e _. subst P (it k n e) all.0
      | false ↦ λ e more. among_has P n ks more all.1
    ] refl is

pub links_aside : (ns : List ℕ) (ls : List LinkRow) (rows : Rows) → AreAside ns rows → AreOf ns ls
    → AreLinksAside ls rows
links_aside ns ls rows none are = each_more (λ (l : LinkRow). is_from ns l ≡ true)
    (λ (l : LinkRow). has_record l.no rows ≡ false) (λ l is. among_has (λ n. has_record n rows ≡ false) l.no ns is none)
    ls are

-- ---- the batches stay
lines_only : (ks : List ℕ) (rows : Rows) → (without_all_lines ks rows).batches ≡ rows.batches
lines_only [] rows = refl
lines_only (k ∷ ks) rows = lines_only ks (without_lines k rows)

rows_only : (ks : List ℕ) (rows : Rows) → (without_record_rows ks rows).batches ≡ rows.batches
rows_only [] rows = refl
rows_only (k ∷ ks) rows = rows_only ks (without_record_row k rows)

spans_only : (ks : List ℕ) (rows : Rows) → (without_all_spans ks rows).batches ≡ rows.batches
spans_only [] rows = refl
spans_only (k ∷ ks) rows = spans_only ks (without_span k rows)

soughts_only : (ks : List ℕ) (rows : Rows) → (without_all_sought ks rows).batches ≡ rows.batches
soughts_only [] rows = refl
soughts_only (k ∷ ks) rows = soughts_only ks (without_sought k rows)

links_only : (ls : List LinkRow) (rows : Rows) → (without_all_links ls rows).batches ≡ rows.batches
links_only [] rows = refl
links_only (l ∷ ls) rows = links_only ls (without_link l.target l.no rows)

pub batches_stay : (ks : List ℕ) (ls : List LinkRow) (rows : Rows)
    → (without_records ks (without_later ks ls rows)).batches ≡ rows.batches
batches_stay ks ls rows =
    let less = without_later ks ls rows in
    rows_only ks (without_all_lines ks less) ∙ lines_only ks less ∙ links_only ls (without_all_of ks rows)
    ∙ soughts_only ks (without_all_spans ks rows) ∙ spans_only ks rows

-- what goes first
pub later_out : (ns : List ℕ) (ls : List LinkRow) (rows : Rows) → AreAside ns rows → AreOf ns ls
    → IsSeenAs rows (without_later ns ls rows)
later_out ns ls rows none are = links_out rows ls (without_all_of ns rows) (links_aside ns ls rows none are)
    (all_of_out rows ns rows none (seen_same rows))

pub records_out : (ns : List ℕ) (ls : List LinkRow) (rows : Rows) → AreAside ns rows → AreOf ns ls
    → IsSeenAs rows (without_records ns (without_later ns ls rows))
records_out ns ls rows none are =
    let less = without_later ns ls rows in
    rows_out rows ns (without_all_lines ns less) none (lines_out rows ns less none (later_out ns ls rows none are))

pub taken_out : (batch : ℕ) (ns : List ℕ) (ls : List LinkRow) (rows : Rows) → AreAside ns rows → AreOf ns ls
    → is_closed batch rows.batches ≡ false → IsSeenAs rows (without_batch batch ns ls rows)
taken_out batch ns ls rows none are unclosed =
    let less = without_records ns (without_later ns ls rows) in
    seen_then rows less (without_batch batch ns ls rows) (records_out ns ls rows none are)
    (batch_gone batch less (ap (is_closed batch) (batches_stay ns ls rows) ∙ unclosed))

-- ---- the numbers of a batch that is not closed
none_equal : (n : ℕ) (q : RecordRow → Bool) (rs : List RecordRow) → AllByRecursion (λ (r : RecordRow). n < r.no) rs
    → list_any (λ (r : RecordRow). (r.no == n) && q r) rs ≡ false
none_equal n q [] all = refl
none_equal n q (r ∷ rs) all =
    let off : (r.no == n) ≡ false = grind (arith, nat_tests, all.0) in
    ap₂ (λ a b. (a && q r) || b) off (none_equal n q rs all.1)

above_kept : (n : ℕ) (p : RecordRow → Bool) (rs : List RecordRow) → AllByRecursion (λ (r : RecordRow). n < r.no) rs
    → EachOf (λ m. n < m) (map (λ (r : RecordRow). r.no) (filter p rs))
above_kept n p [] all = tt
above_kept n p (r ∷ rs) all =
    elim (p r) as (λ b. EachOf (λ m. n < m) (map (λ (r : RecordRow). r.no) (cond b (r ∷ filter p rs) (filter p rs)))) [
      | true ↦ (all.0, above_kept n p rs all.1)
      | false ↦ above_kept n p rs all.1
    ]

module _ (b : ℕ) (bs : List BatchRow) (none : is_closed b bs ≡ false) where
  abbrev has : ℕ → List RecordRow → Bool
  has n rs = list_any (λ (r : RecordRow). (r.no == n) && is_closed r.batch bs) rs

  later : (r : RecordRow) (rs : List RecordRow) (ns : List ℕ) → EachOf (λ m. r.no < m) ns
      → EachOf (λ m. has m rs ≡ false) ns → EachOf (λ m. has m (r ∷ rs) ≡ false) ns
  later r rs [] above all = tt
  later r rs (n ∷ ns) above all = (
    (let off : (r.no == n) ≡ false = grind (arith, nat_tests, above.0) in
        ap₂ (λ s t. (s && is_closed r.batch bs) || t) off all.0),
    later r rs ns above.1 all.1,
  )

  first : (r : RecordRow) (rs : List RecordRow) → (r.batch == b) ≡ true
      → AllByRecursion (λ (x : RecordRow). r.no < x.no) rs → has r.no (r ∷ rs) ≡ false
  first r rs here above =
      let unclosed : is_closed r.batch bs ≡ false = ap (λ k. is_closed k bs) (it r.batch b here) ∙ none in
      ap₂ (λ s t. s || t) (ap (λ t. (r.no == r.no) && t) unclosed ∙ and_none (r.no == r.no))
      (none_equal r.no (λ (x : RecordRow). is_closed x.batch bs) rs above)
    where
      and_none : (a : Bool) → (a && false) ≡ false
      and_none true = refl
      and_none false = refl

  pub none_of_open : (rs : List RecordRow) → IsAscending (λ (x y : RecordRow). x.no < y.no) rs
      → EachOf (λ m. has m rs ≡ false)
      (map (λ (r : RecordRow). r.no) (filter (λ (r : RecordRow). r.batch == b) rs))
  none_of_open [] rise = tt
  none_of_open (r ∷ rs) rise =
      let p = λ (r : RecordRow). r.batch == b in
      let more = later r rs (map (λ (r : RecordRow). r.no) (filter p rs)) (above_kept r.no p rs rise.0)
      (none_of_open rs rise.1) in
      elim (r.batch == b) as (λ t. (r.batch == b) ≡ t → EachOf (λ m. has m (r ∷ rs) ≡ false)
      (map (λ (r : RecordRow). r.no) (cond t (r ∷ filter p rs) (filter p rs)))) [
        | true ↦ λ e. (first r rs e rise.0, more)
        | false ↦ λ e. more
      ] refl

pub numbers_unrecorded : (batch : ℕ) (rows : Rows) (t : Trees) → Good rows t → is_closed batch rows.batches ≡ false
    → EachOf (λ n. has_record n rows ≡ false) (numbers_in batch rows)
numbers_unrecorded batch rows t good none =
    none_of_open batch rows.batches none rows.records good.holds.records.rise
