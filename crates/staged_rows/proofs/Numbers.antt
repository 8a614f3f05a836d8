-- The number of each row of an import.
use Rattle.std.proofs.Common.{◌≡◌, ℕ, true, List, [], ◌∷◌, ◌++◌, map, sym, ap, subst, arith}
use Rattle.std.specs.Prelude.{◌==◌, ◌||◌, Option, Some, None}
use Rattle.std.specs.List.{flat_map, list_any}
use Rattle.std.proofs.lemmas.Bool.Decides.{nat_tests}
use Rattle.stored_lines.specs.Line.{Label}
use Rattle.records.specs.Stored.{stored}
use Rattle.gedcom_date.specs.declared.value.Span.{Span}
use Rattle.record_shapes.specs.Lists.{EachOf}
use Rattle.archive_state.specs.declared.changes.Numbered.{Numbered}
use Rattle.store_tables.specs.Rows.{LinkRow}
use Rattle.store_rows.specs.Sought.{Sought, sought_of}
use Rattle.store_rows.specs.Spans.{AreDrawn, Drawn}
use Rattle.staged_rows.specs.Staging.{
  StagedRow,
  a_record,
  a_pack,
  a_link,
  a_sought,
  a_span,
  later_rows,
  record_of,
  lines_of_put,
  links_of,
  numbers_of,
  row_of_sought,
  rows_of_import,
  sought_row,
  span_row,
}
use Rattle.staged_rows.proofs.Links.{each_link}
use Rattle.record_shapes.proofs.Each.{each_both, each_more}
use Rattle.list_laws.proofs.Booleans.{or_right}

abbrev pub number_of : StagedRow → ℕ
number_of (a_record r) = r.no
number_of (a_pack n ls) = n
number_of (a_link l) = l.no
number_of (a_sought n s) = n
number_of (a_span n span) = n

-- what holds of the rows of each number that has P
module _ (P : ℕ → Type 0) (Q : StagedRow → Type 0) where
  of_records : (batch : ℕ) → ((p : Numbered) → P p.number → Q (record_of batch p)) → (ps : List Numbered)
      → EachOf (λ (p : Numbered). P p.number) ps → EachOf Q (map (record_of batch) ps)
  of_records batch is [] all = tt
  of_records batch is (p ∷ ps) all = (is p all.0, of_records batch is ps all.1)

  of_all_lines : ((n : ℕ) (ls : List (ℕ × Label)) → P n → Q (a_pack n ls)) → (ps : List Numbered)
      → EachOf (λ (p : Numbered). P p.number) ps → EachOf Q (map lines_of_put ps)
  of_all_lines is [] all = tt
  of_all_lines is (p ∷ ps) all = (is p.number (stored p.«record») all.0, of_all_lines is ps all.1)

  of_span : (n : ℕ) (o : Option Span) → ((span : Span) → Q (a_span n span)) → EachOf Q (span_row (n, o))
  of_span n None is = tt
  of_span n (Some span) is = (is span, tt)

  of_spans : ((n : ℕ) (span : Span) → P n → Q (a_span n span)) → (ps : List Numbered) (drawn : Drawn)
      → AreDrawn ps drawn → EachOf (λ (p : Numbered). P p.number) ps → EachOf Q (flat_map span_row drawn)
  of_spans is [] [] are all = tt
  of_spans is [] (d ∷ ds) are all = absurd are
  of_spans is (p ∷ ps) [] are all = absurd are
  of_spans is (p ∷ ps) (d ∷ ds) are all = each_both Q (span_row d) (flat_map span_row ds)
      (of_span d.0 d.1 (λ span. is d.0 span (subst P (sym are.0.0) all.0))) (of_spans is ps ds are.1 all.1)

  of_any_spans : ((n : ℕ) (span : Span) → Q (a_span n span)) → (drawn : Drawn) → EachOf Q (flat_map span_row drawn)
  of_any_spans is [] = tt
  of_any_spans is (d ∷ ds) =
      each_both Q (span_row d) (flat_map span_row ds) (of_span d.0 d.1 (is d.0)) (of_any_spans is ds)

  of_links : (ls : List LinkRow) → EachOf (λ (l : LinkRow). Q (a_link l)) ls → EachOf Q (map a_link ls)
  of_links [] all = tt
  of_links (l ∷ ls) all = (all.0, of_links ls all.1)

  of_sought : (n : ℕ) (o : Option Sought) → ((s : Sought) → Q (a_sought n s)) → EachOf Q (row_of_sought n o)
  of_sought n None is = tt
  of_sought n (Some s) is = (is s, tt)

  of_soughts : (ps : List Numbered) → EachOf (λ (p : Numbered). (s : Sought) → Q (a_sought p.number s)) ps
      → EachOf Q (flat_map sought_row ps)
  of_soughts [] all = tt
  of_soughts (p ∷ ps) all = each_both Q (sought_row p) (flat_map sought_row ps)
      (of_sought p.number (sought_of p.«record») all.0) (of_soughts ps all.1)

  -- the rows that come after the lines
  of_later : (ps : List Numbered) (drawn : Drawn)
      → EachOf (λ (p : Numbered). (target : ℕ) → Q (a_link (record { target = target; no = p.number }))) ps
      → EachOf (λ (p : Numbered). (s : Sought) → Q (a_sought p.number s)) ps → EachOf Q (flat_map span_row drawn)
      → EachOf Q (later_rows ps drawn)
  of_later ps drawn links soughts spans =
      each_both Q (map a_link (links_of ps)) (flat_map sought_row ps ++ flat_map span_row drawn)
      (of_links (links_of ps) (each_link (λ (l : LinkRow). Q (a_link l)) ps links))
      (each_both Q (flat_map sought_row ps) (flat_map span_row drawn) (of_soughts ps soughts) spans)

  each_has : (R : Numbered → Type 0) → ((p : Numbered) → R p) → (ps : List Numbered) → EachOf R ps
  each_has R is [] = tt
  each_has R is (p ∷ ps) = (is p, each_has R is ps)

  -- any of them
  pub of_any_later : ((l : LinkRow) → Q (a_link l)) → ((n : ℕ) (s : Sought) → Q (a_sought n s))
      → ((n : ℕ) (span : Span) → Q (a_span n span)) → (ps : List Numbered) (drawn : Drawn)
      → EachOf Q (later_rows ps drawn)
  of_any_later links_are soughts_are spans_are ps drawn =
      of_later ps drawn (each_has _ (λ p target. links_are (record { target = target; no = p.number })) ps)
      (each_has _ (λ p. soughts_are p.number) ps) (of_any_spans spans_are drawn)

  pub of_rows : (batch : ℕ) → ((p : Numbered) → P p.number → Q (record_of batch p))
      → ((n : ℕ) (ls : List (ℕ × Label)) → P n → Q (a_pack n ls)) → (ps : List Numbered) (drawn : Drawn)
      → EachOf Q (later_rows ps drawn) → EachOf (λ (p : Numbered). P p.number) ps
      → EachOf Q (rows_of_import batch ps drawn)
  of_rows batch records_are lines_are ps drawn later all =
      each_both Q (map (record_of batch) ps) (map lines_of_put ps ++ later_rows ps drawn)
      (of_records batch records_are ps all)
      (each_both Q (map lines_of_put ps) (later_rows ps drawn) (of_all_lines lines_are ps all) later)

  pub of_all_rows : (batch : ℕ) → ((p : Numbered) → P p.number → Q (record_of batch p))
      → ((n : ℕ) (ls : List (ℕ × Label)) → P n → Q (a_pack n ls)) → ((l : LinkRow) → P l.no → Q (a_link l))
      → ((n : ℕ) (s : Sought) → P n → Q (a_sought n s)) → ((n : ℕ) (span : Span) → P n → Q (a_span n span))
      → (ps : List Numbered) (drawn : Drawn) → AreDrawn ps drawn → EachOf (λ (p : Numbered). P p.number) ps
      → EachOf Q (rows_of_import batch ps drawn)
  of_all_rows batch records_are lines_are links_are soughts_are spans_are ps drawn are all =
      of_rows batch records_are lines_are ps drawn
      (of_later ps drawn
      (each_more (λ (p : Numbered). P p.number)
      (λ (p : Numbered). (target : ℕ) → Q (a_link (record { target = target; no = p.number })))
      (λ p is target. links_are (record { target = target; no = p.number }) is) ps all)
      (each_more (λ (p : Numbered). P p.number) (λ (p : Numbered). (s : Sought) → Q (a_sought p.number s))
      (λ p is s. soughts_are p.number s is) ps all)
      (of_spans spans_are ps drawn are all)) all

module _ (P : ℕ → Type 0) where
  pub of_import : (batch : ℕ) (ps : List Numbered) (drawn : Drawn) → AreDrawn ps drawn
      → EachOf (λ (p : Numbered). P p.number) ps → EachOf (λ r. P (number_of r)) (rows_of_import batch ps drawn)
  of_import batch ps drawn are all = of_all_rows P (λ r. P (number_of r)) batch (λ p is. is) (λ n ls is. is)
      (λ l is. is) (λ n s is. is) (λ n span is. is) ps drawn are all

  pub of_numbers : (ps : List Numbered) → EachOf (λ (p : Numbered). P p.number) ps → EachOf P (numbers_of ps)
  of_numbers [] all = tt
  of_numbers (p ∷ ps) all = (all.0, of_numbers ps all.1)

  pub each_number : (ps : List Numbered) → EachOf P (numbers_of ps) → EachOf (λ (p : Numbered). P p.number) ps
  each_number [] all = tt
  each_number (p ∷ ps) all = (all.0, each_number ps all.1)

-- ---- each number is among them

among_more : (n : ℕ) (ns : List ℕ) (ps : List Numbered)
    → EachOf (λ (p : Numbered). list_any (λ k. k == p.number) ns ≡ true) ps
    → EachOf (λ (p : Numbered). list_any (λ k. k == p.number) (n ∷ ns) ≡ true) ps
among_more n ns [] all = tt
among_more n ns (p ∷ ps) all = (
  or_right (n == p.number) (list_any (λ k. k == p.number) ns) all.0,
  among_more n ns ps all.1,
)

pub are_among : (ps : List Numbered)
    → EachOf (λ (p : Numbered). list_any (λ k. k == p.number) (numbers_of ps) ≡ true) ps
are_among [] = tt
are_among (p ∷ ps) = (
  (let same : (p.number == p.number) ≡ true = grind (arith, nat_tests) in
      ap (λ b. b || list_any (λ k. k == p.number) (numbers_of ps)) same),
  among_more p.number (numbers_of ps) ps (are_among ps),
)
