-- An import that is staged to any row and removed again leaves the rows as they were.
use Rattle.std.proofs.Common.{
  ◌≡◌,
  ℕ,
  true,
  false,
  not,
  List,
  [],
  ◌∷◌,
  ◌++◌,
  filter,
  refl,
  sym,
  ap,
  ap₂,
  subst,
  ◌∙◌,
  arith,
}
use Rattle.std.specs.Prelude.{◌==◌}
use Rattle.std.specs.List.{list_any}
use Rattle.std.proofs.lemmas.Bool.Decides.{nat_tests}
use Rattle.record_shapes.specs.Lists.{EachOf}
use Rattle.archive_state.specs.declared.changes.Numbered.{Numbered}
use Rattle.store_tables.specs.Rows.{
  Rows,
  BatchRow,
  RecordRow,
  LineRow,
  PackRow,
  SoughtRow,
  SpanRow,
  put_by,
  with_batch,
  without_batch_row,
  without_lines,
  without_record_row,
  without_sought,
  without_span,
}
use Rattle.store_rows.specs.Links.{without_all_links}
use Rattle.store_rows.specs.Sought.{without_all_sought}
use Rattle.store_rows.specs.Spans.{AreDrawn, Drawn, without_all_spans}
use Rattle.store_rows.specs.Writing.{without_all_lines, without_record_rows, without_records}
use Rattle.staged_rows.specs.Removing.{links_among, without_batch}
use Rattle.staged_rows.specs.Staging.{
  AreNew,
  IsFresh,
  StagedRow,
  a_record,
  a_pack,
  a_link,
  a_sought,
  a_span,
  numbers_of,
  rows_of_import,
  with_staged,
  with_staged_row,
}
use Rattle.staged_rows.proofs.Lists.{filter_put, is_outside, none_of_it, none_of_them, one_more}
use Rattle.staged_rows.proofs.LinksGone.{left_of, links_less, links_staged, new_are_free, put_and_gone}
use Rattle.staged_rows.proofs.Numbers.{are_among, number_of, of_import, of_numbers}
use Rattle.list_laws.proofs.Lists.{filter_all}
use Rattle.record_shapes.proofs.Each.{each_front}

-- ---- spans, what is looked for, lines and rows of several numbers
spans_less : (ns : List ℕ) (rows : Rows) → without_all_spans ns rows
    ≡ record rows { spans = filter (λ (s : SpanRow). is_outside ns s.no) rows.spans }
spans_less [] rows = sym (ap (λ (ss : List SpanRow). record rows { spans = ss }) (filter_all rows.spans))
spans_less (n ∷ ns) rows = spans_less ns (without_span n rows)
    ∙ ap (λ (ss : List SpanRow). record rows { spans = ss }) (one_more (λ (s : SpanRow). s.no) n ns rows.spans)

soughts_less : (ns : List ℕ) (rows : Rows) → without_all_sought ns rows
    ≡ record rows { soughts = filter (λ (s : SoughtRow). is_outside ns s.no) rows.soughts }
soughts_less [] rows = sym (ap (λ (ss : List SoughtRow). record rows { soughts = ss }) (filter_all rows.soughts))
soughts_less (n ∷ ns) rows = soughts_less ns (without_sought n rows)
    ∙ ap (λ (ss : List SoughtRow). record rows { soughts = ss }) (one_more (λ (s : SoughtRow). s.no) n ns rows.soughts)

lines_less : (ns : List ℕ) (rows : Rows) → without_all_lines ns rows
    ≡ record rows {
      lines = filter (λ (l : LineRow). is_outside ns l.no) rows.lines;
      packs = filter (λ (p : PackRow). is_outside ns p.no) rows.packs;
    }
lines_less [] rows = sym (ap₂ (λ (ls : List LineRow) (ps : List PackRow). record rows { lines = ls; packs = ps })
    (filter_all rows.lines) (filter_all rows.packs))
lines_less (n ∷ ns) rows = lines_less ns (without_lines n rows)
    ∙ ap₂ (λ (ls : List LineRow) (ps : List PackRow). record rows { lines = ls; packs = ps })
    (one_more (λ (l : LineRow). l.no) n ns rows.lines) (one_more (λ (p : PackRow). p.no) n ns rows.packs)

rows_less : (ns : List ℕ) (rows : Rows) → without_record_rows ns rows
    ≡ record rows { records = filter (λ (r : RecordRow). is_outside ns r.no) rows.records }
rows_less [] rows = sym (ap (λ (rs : List RecordRow). record rows { records = rs }) (filter_all rows.records))
rows_less (n ∷ ns) rows = rows_less ns (without_record_row n rows)
    ∙ ap (λ (rs : List RecordRow). record rows { records = rs }) (one_more (λ (r : RecordRow). r.no) n ns rows.records)

-- rows with the tables that staging writes of others
abbrev like : Rows → Rows → Rows
like other rows = record rows {
  records = other.records;
  lines = other.lines;
  packs = other.packs;
  links = other.links;
  soughts = other.soughts;
  spans = other.spans;
}

-- ---- rows that are staged, of these numbers
record More (ns : List ℕ) (before after : Rows) : Type 0 where
  lines : filter (λ (l : LineRow). is_outside ns l.no) after.lines
      ≡ filter (λ (l : LineRow). is_outside ns l.no) before.lines
  packs : filter (λ (p : PackRow). is_outside ns p.no) after.packs
      ≡ filter (λ (p : PackRow). is_outside ns p.no) before.packs
  records : filter (λ (r : RecordRow). is_outside ns r.no) after.records
      ≡ filter (λ (r : RecordRow). is_outside ns r.no) before.records
  spans : filter (λ (s : SpanRow). is_outside ns s.no) after.spans
      ≡ filter (λ (s : SpanRow). is_outside ns s.no) before.spans
  soughts : filter (λ (s : SoughtRow). is_outside ns s.no) after.soughts
      ≡ filter (λ (s : SoughtRow). is_outside ns s.no) before.soughts
  beside : after ≡ like after before

row_more : (ns : List ℕ) (r : StagedRow) (rows : Rows) → list_any (λ k. k == number_of r) ns ≡ true
    → More ns rows (with_staged_row r rows)
row_more ns (a_record r) rows is = record {
  lines = refl;
  packs = refl;
  records = filter_put (λ (x : RecordRow). x.no) (λ (x : RecordRow). is_outside ns x.no)
      (record { no = r.no; kind = r.kind; batch = r.batch }) (λ y same. ap (is_outside ns) same ∙ ap not is)
      rows.records;
  spans = refl;
  soughts = refl;
  beside = refl;
}
row_more ns (a_pack n ls) rows is = record {
  lines = refl;
  packs = filter_put (λ (x : PackRow). x.no) (λ (x : PackRow). is_outside ns x.no) (record { no = n; lines = ls })
      (λ y same. ap (is_outside ns) same ∙ ap not is) rows.packs;
  records = refl;
  spans = refl;
  soughts = refl;
  beside = refl;
}
row_more ns (a_link l) rows is = record {
  lines = refl;
  packs = refl;
  records = refl;
  spans = refl;
  soughts = refl;
  beside = refl;
}
row_more ns (a_sought n s) rows is = record {
  lines = refl;
  packs = refl;
  records = refl;
  spans = refl;
  soughts = filter_put (λ (x : SoughtRow). x.no) (λ (x : SoughtRow). is_outside ns x.no)
      (record { no = n; text = s.0; target = s.1 }) (λ y same. ap (is_outside ns) same ∙ ap not is) rows.soughts;
  beside = refl;
}
row_more ns (a_span n span) rows is = record {
  lines = refl;
  packs = refl;
  records = refl;
  spans = filter_put (λ (x : SpanRow). x.no) (λ (x : SpanRow). is_outside ns x.no)
      (record { no = n; lo = span.lo; hi = span.hi }) (λ y same. ap (is_outside ns) same ∙ ap not is) rows.spans;
  soughts = refl;
  beside = refl;
}

all_more : (ns : List ℕ) (rs : List StagedRow) (rows : Rows)
    → EachOf (λ r. list_any (λ k. k == number_of r) ns ≡ true) rs → More ns rows (with_staged rs rows)
all_more ns [] rows is = record {
  lines = refl;
  packs = refl;
  records = refl;
  spans = refl;
  soughts = refl;
  beside = refl;
}
all_more ns (r ∷ rs) rows is =
    let one = row_more ns r rows is.0 in
    let next = with_staged_row r rows in
    let after = with_staged rs next in
    let more = all_more ns rs next is.1 in
    record {
      lines = more.lines ∙ one.lines;
      packs = more.packs ∙ one.packs;
      records = more.records ∙ one.records;
      spans = more.spans ∙ one.spans;
      soughts = more.soughts ∙ one.soughts;
      beside = more.beside ∙ ap (like after) one.beside;
    }

-- ---- the batch
batch_gone : (n : ℕ) (bs : List BatchRow) → list_any (λ (b : BatchRow). b.no == n) bs ≡ false
    → filter (λ (b : BatchRow). not (b.no == n))
    (put_by (λ (b : BatchRow). b.no) (record { no = n; is_open = true }) bs) ≡ bs
batch_gone n bs none =
    filter_put (λ (b : BatchRow). b.no) (λ (b : BatchRow). not (b.no == n)) (record { no = n; is_open = true })
    (λ y same. ap (λ k. not (k == n)) same ∙ itself n) bs ∙ none_of_it (λ (b : BatchRow). b.no) n bs none
  where
    itself : (n : ℕ) → not (n == n) ≡ false
    itself n = grind (arith, nat_tests)

pub no_trace : (batch : ℕ) (ps : List Numbered) (drawn : Drawn) (done left : List StagedRow) (rows : Rows)
    → rows_of_import batch ps drawn ≡ done ++ left → IsFresh batch ps rows → AreDrawn ps drawn
    → AreNew done (with_batch batch true rows)
    → without_batch batch (numbers_of ps) (links_among done) (with_staged done (with_batch batch true rows)) ≡ rows
no_trace batch ps drawn done left rows parts fresh are new =
    let ns = numbers_of ps in
    let written = links_among done in
    let opened = with_batch batch true rows in
    let staged = with_staged done opened in
    let among = λ (r : StagedRow). list_any (λ k. k == number_of r) ns ≡ true in
    let mine : EachOf among done = each_front among done left
    (subst (EachOf among) parts
    (of_import (λ n. list_any (λ k. k == n) ns ≡ true) batch ps drawn are (are_among ps))) in
    let more = all_more ns done opened mine in
    let ls = filter (λ (l : LineRow). is_outside ns l.no) staged.lines in
    let ps' = filter (λ (p : PackRow). is_outside ns p.no) staged.packs in
    let rs = filter (λ (r : RecordRow). is_outside ns r.no) staged.records in
    let ss = filter (λ (s : SpanRow). is_outside ns s.no) staged.spans in
    let qs = filter (λ (s : SoughtRow). is_outside ns s.no) staged.soughts in
    let ks = left_of written staged.links in
    let old_lines : ls ≡ rows.lines = more.lines ∙ none_of_them (λ (l : LineRow). l.no) ns rows.lines
    (of_numbers (λ n. list_any (λ (l : LineRow). l.no == n) rows.lines ≡ false) ps fresh.lines) in
    let old_packs : ps' ≡ rows.packs = more.packs ∙ none_of_them (λ (p : PackRow). p.no) ns rows.packs
    (of_numbers (λ n. list_any (λ (p : PackRow). p.no == n) rows.packs ≡ false) ps fresh.packs) in
    let old_records : rs ≡ rows.records = more.records ∙ none_of_them (λ (r : RecordRow). r.no) ns rows.records
    (of_numbers (λ n. list_any (λ (r : RecordRow). r.no == n) rows.records ≡ false) ps fresh.numbers) in
    let old_spans : ss ≡ rows.spans = more.spans ∙ none_of_them (λ (s : SpanRow). s.no) ns rows.spans
    (of_numbers (λ n. list_any (λ (s : SpanRow). s.no == n) rows.spans ≡ false) ps fresh.spans) in
    let old_soughts : qs ≡ rows.soughts = more.soughts ∙ none_of_them (λ (s : SoughtRow). s.no) ns rows.soughts
    (of_numbers (λ n. list_any (λ (s : SoughtRow). s.no == n) rows.soughts ≡ false) ps fresh.soughts) in
    let old_links : ks ≡ rows.links = ap (left_of written) (links_staged done opened)
    ∙ put_and_gone written rows.links (new_are_free done opened new) in
    let less : Rows = record staged { spans = ss; soughts = qs } in
    ap
    (λ (r : Rows). without_batch_row batch (without_records ns (without_all_links written (without_all_sought ns r))))
    (spans_less ns staged)
    ∙ ap (λ (r : Rows). without_batch_row batch (without_records ns (without_all_links written r)))
    (soughts_less ns (record staged { spans = ss }))
    ∙ ap (λ (r : Rows). without_batch_row batch (without_records ns r)) (links_less written less)
    ∙ ap (λ (r : Rows). without_batch_row batch (without_record_rows ns r))
    (lines_less ns (record less { links = ks }))
    ∙ ap (without_batch_row batch) (rows_less ns (record less { links = ks; lines = ls; packs = ps' }))
    ∙ ap (λ (r : Rows). without_batch_row batch
    (record r { lines = ls; packs = ps'; records = rs; spans = ss; soughts = qs; links = ks })) more.beside
    ∙ (λ i. without_batch_row batch (record opened {
      lines = old_lines i;
      packs = old_packs i;
      records = old_records i;
      spans = old_spans i;
      soughts = old_soughts i;
      links = old_links i;
    }))
    ∙ ap (λ (bs : List BatchRow). record rows { batches = bs }) (batch_gone batch rows.batches fresh.unused)
