-- All rows of an import are the lines that its puts would be written as, a row of `record` for each, their links, what
-- they are looked for by, and their spans.
use Rattle.std.proofs.Common.{◌≡◌, ℕ, false, not, List, [], ◌∷◌, ◌++◌, map, filter, cond, refl, sym, ap, ap₂, ◌∙◌}
use Rattle.std.specs.Prelude.{◌==◌, Option, Some, None}
use Rattle.std.specs.List.{flat_map, list_any}
use Rattle.stored_lines.specs.Line.{Label}
use Rattle.gedcom_date.specs.declared.value.Span.{Span}
use Rattle.records.specs.Stored.{stored}
use Rattle.record_shapes.specs.Lists.{EachOf, IsOnce}
use Rattle.archive_state.specs.declared.changes.Numbered.{Numbered}
use Rattle.store_tables.specs.Rows.{
  Rows,
  BatchRow,
  RecordRow,
  LineRow,
  LinkRow,
  PackRow,
  SoughtRow,
  SpanRow,
  put_by,
  put_pair,
  with_pack,
  without_lines,
  with_changed_lines,
}
use Rattle.store_rows.specs.Sought.{Sought, sought_of}
use Rattle.store_rows.specs.Spans.{Drawn}
use Rattle.store_rows.specs.Writing.{kind_word, with_record_rows, with_all_lines}
use Rattle.staged_rows.specs.Staging.{
  StagedRow,
  a_link,
  later_rows,
  record_of,
  lines_of_put,
  links_of,
  numbers_of,
  row_of_sought,
  rows_of_import,
  sought_row,
  span_row,
  with_staged,
  with_staged_row,
}
use Rattle.staged_rows.proofs.Lists.{none_put}
use Rattle.list_laws.proofs.Numbers.{is_not, not_it}
use Rattle.list_laws.proofs.Booleans.{or_first, or_second}

-- a number has no row with lines
abbrev pub HasNoLine : Rows → ℕ → Type 0
HasNoLine rows n = (list_any (λ (l : LineRow). l.no == n) rows.lines ≡ false)
    × (list_any (λ (p : PackRow). p.no == n) rows.packs ≡ false)

pub joined : (xs ys : List StagedRow) (rows : Rows) → with_staged (xs ++ ys) rows ≡ with_staged ys (with_staged xs rows)
joined [] ys rows = refl
joined (x ∷ xs) ys rows = joined xs ys (with_staged_row x rows)

-- ---- the rows of `record`
abbrev pub records_put : ℕ → List Numbered → List RecordRow → List RecordRow
records_put batch [] rs = rs
records_put batch (p ∷ ps) rs = records_put batch ps
    (put_by (λ (r : RecordRow). r.no) (record { no = p.number; kind = kind_word p.«record»; batch = batch }) rs)

pub records_staged : (batch : ℕ) (ps : List Numbered) (rows : Rows) → with_staged (map (record_of batch) ps) rows
    ≡ record rows { records = records_put batch ps rows.records }
records_staged batch [] rows = refl
records_staged batch (p ∷ ps) rows = records_staged batch ps (with_staged_row (record_of batch p) rows)

pub records_written : (ps : List Numbered) (rows : Rows) → with_record_rows ps rows
    ≡ record rows { records = records_put 0 ps rows.records }
records_written [] rows = refl
records_written (p ∷ ps) rows = records_written ps (with_staged_row (record_of 0 p) rows)

-- ---- lines
module _ {X : Type 0} (key : X → ℕ) where
  all_stay : (n : ℕ) (xs : List X) → list_any (λ x. key x == n) xs ≡ false → filter (λ x. not (key x == n)) xs ≡ xs
  all_stay n [] none = refl
  all_stay n (x ∷ xs) none =
      let off = or_first (key x == n) (list_any (λ y. key y == n) xs) none in
      let more = or_second (key x == n) (list_any (λ y. key y == n) xs) none in
      ap (λ b. cond (not b) (x ∷ filter (λ y. not (key y == n)) xs) (filter (λ y. not (key y == n)) xs)) off
      ∙ ap (λ ys. x ∷ ys) (all_stay n xs more)

pub nothing_removed : (n : ℕ) (rows : Rows) → HasNoLine rows n → without_lines n rows ≡ rows
nothing_removed n rows none =
    ap₂ (λ (ls : List LineRow) (ps : List PackRow). record rows { lines = ls; packs = ps })
    (all_stay (λ (l : LineRow). l.no) n rows.lines none.0)
    (all_stay (λ (p : PackRow). p.no) n rows.packs none.1)

still_none : (n : ℕ) (ls : List (ℕ × Label)) (rows : Rows) (qs : List Numbered)
    → list_any (λ m. m == n) (numbers_of qs) ≡ false → EachOf (λ (q : Numbered). HasNoLine rows q.number) qs
    → EachOf (λ (q : Numbered). HasNoLine (with_pack n ls rows) q.number) qs
still_none n ls rows [] off none = tt
still_none n ls rows (q ∷ qs) off none = (
  (
    none.0.0,
    none_put (λ (p : PackRow). p.no) (λ (p : PackRow). p.no == q.number) (record { no = n; lines = ls }) rows.packs
        (is_not n q.number (λ same. not_it q.number n
        (or_first (q.number == n) (list_any (λ m. m == n) (numbers_of qs)) off) (sym same))) none.0.1,
  ),
  still_none n ls rows qs (or_second (q.number == n) (list_any (λ m. m == n) (numbers_of qs)) off) none.1,
)

lines_staged : (ps : List Numbered) (rows : Rows) → IsOnce (numbers_of ps)
    → EachOf (λ (p : Numbered). HasNoLine rows p.number) ps
    → with_staged (map lines_of_put ps) rows ≡ with_all_lines ps rows
lines_staged [] rows once none = refl
lines_staged (p ∷ ps) rows once none =
    let ls = stored p.«record» in
    lines_staged ps (with_pack p.number ls rows) once.1 (still_none p.number ls rows ps once.0 none.1)
    ∙ ap (λ (r : Rows). with_all_lines ps (with_pack p.number ls r)) (sym (nothing_removed p.number rows none.0))

-- ---- the lines do not look at the other tables
abbrev pub beside : List BatchRow → List RecordRow → Rows → Rows
beside bs rs rows = record rows { batches = bs; records = rs }

pub all_lines_beside : (ps : List Numbered) (bs : List BatchRow) (rs : List RecordRow) (rows : Rows)
    → with_all_lines ps (beside bs rs rows) ≡ beside bs rs (with_all_lines ps rows)
all_lines_beside [] bs rs rows = refl
all_lines_beside (p ∷ ps) bs rs rows = all_lines_beside ps bs rs
    (with_changed_lines p.number (stored p.«record») rows)

-- ---- spans
-- a span, put where there is one
abbrev pub one_span : ℕ → Option Span → List SpanRow → List SpanRow
one_span n None ss = ss
one_span n (Some span) ss = put_by (λ (s : SpanRow). s.no) (record { no = n; lo = span.lo; hi = span.hi }) ss

abbrev pub spans_put : Drawn → List SpanRow → List SpanRow
spans_put [] ss = ss
spans_put (d ∷ ds) ss = spans_put ds (one_span d.0 d.1 ss)

span_staged : (n : ℕ) (o : Option Span) (rows : Rows) → with_staged (span_row (n, o)) rows
    ≡ record rows { spans = one_span n o rows.spans }
span_staged n None rows = refl
span_staged n (Some span) rows = refl

spans_staged : (ds : Drawn) (rows : Rows) → with_staged (flat_map span_row ds) rows
    ≡ record rows { spans = spans_put ds rows.spans }
spans_staged [] rows = refl
spans_staged (d ∷ ds) rows =
    joined (span_row d) (flat_map span_row ds) rows
    ∙ ap (with_staged (flat_map span_row ds)) (span_staged d.0 d.1 rows)
    ∙ spans_staged ds (record rows { spans = one_span d.0 d.1 rows.spans })

-- ---- links
abbrev pub links_put : List LinkRow → List LinkRow → List LinkRow
links_put [] ks = ks
links_put (l ∷ ls) ks = links_put ls (put_pair (record { target = l.target; no = l.no }) ks)

links_staged : (ls : List LinkRow) (rows : Rows) → with_staged (map a_link ls) rows
    ≡ record rows { links = links_put ls rows.links }
links_staged [] rows = refl
links_staged (l ∷ ls) rows = links_staged ls (with_staged_row (a_link l) rows)

-- ---- what is looked for
-- what a number is looked for by, put where there is something
abbrev pub one_sought : ℕ → Option Sought → List SoughtRow → List SoughtRow
one_sought n None qs = qs
one_sought n (Some s) qs = put_by (λ (q : SoughtRow). q.no) (record { no = n; text = s.0; target = s.1 }) qs

abbrev pub soughts_put : List Numbered → List SoughtRow → List SoughtRow
soughts_put [] qs = qs
soughts_put (p ∷ ps) qs = soughts_put ps (one_sought p.number (sought_of p.«record») qs)

sought_staged : (n : ℕ) (o : Option Sought) (rows : Rows) → with_staged (row_of_sought n o) rows
    ≡ record rows { soughts = one_sought n o rows.soughts }
sought_staged n None rows = refl
sought_staged n (Some s) rows = refl

soughts_staged : (ps : List Numbered) (rows : Rows) → with_staged (flat_map sought_row ps) rows
    ≡ record rows { soughts = soughts_put ps rows.soughts }
soughts_staged [] rows = refl
soughts_staged (p ∷ ps) rows =
    let found : Option Sought = sought_of p.«record» in
    joined (sought_row p) (flat_map sought_row ps) rows
    ∙ ap (with_staged (flat_map sought_row ps)) (sought_staged p.number found rows)
    ∙ soughts_staged ps (record rows { soughts = one_sought p.number found rows.soughts })

-- ---- all rows that come after the lines
-- what is in the tables of these rows
abbrev pub Later : Type 0
Later = List SpanRow × (List LinkRow × List SoughtRow)

abbrev pub later_in : Rows → Later
later_in rows = (rows.spans, (rows.links, rows.soughts))

abbrev pub later_put : List Numbered → Drawn → Later → Later
later_put ps drawn before = (spans_put drawn before.0, (links_put (links_of ps) before.1.0, soughts_put ps before.1.1))

abbrev pub with_later : Later → Rows → Rows
with_later later rows = record rows { spans = later.0; links = later.1.0; soughts = later.1.1 }

later_staged : (ps : List Numbered) (drawn : Drawn) (rows : Rows) → with_staged (later_rows ps drawn) rows
    ≡ with_later (later_put ps drawn (later_in rows)) rows
later_staged ps drawn rows =
    let links = map a_link (links_of ps) in
    let soughts = flat_map sought_row ps in
    let spans = flat_map span_row drawn in
    let linked : Rows = record rows { links = links_put (links_of ps) rows.links } in
    let found : Rows = record linked { soughts = soughts_put ps rows.soughts } in
    joined links (soughts ++ spans) rows
    ∙ ap (with_staged (soughts ++ spans)) (links_staged (links_of ps) rows)
    ∙ joined soughts spans linked
    ∙ ap (with_staged spans) (soughts_staged ps linked)
    ∙ spans_staged drawn found

-- ---- all rows of an import
-- the rows with these batches, rows of `record` and later ones
abbrev pub wholly : List BatchRow → List RecordRow → Later → Rows → Rows
wholly bs rs later rows = with_later later (beside bs rs rows)

-- lines change nothing of those
all_line_later : (ps : List Numbered) (rows : Rows) → later_in (with_all_lines ps rows) ≡ later_in rows
all_line_later [] rows = refl
all_line_later (p ∷ ps) rows = all_line_later ps (with_changed_lines p.number (stored p.«record») rows)

pub import_staged : (batch : ℕ) (ps : List Numbered) (drawn : Drawn) (bs : List BatchRow) (rows : Rows)
    → IsOnce (numbers_of ps) → EachOf (λ (p : Numbered). HasNoLine rows p.number) ps
    → with_staged (rows_of_import batch ps drawn) (record rows { batches = bs })
    ≡ wholly bs (records_put batch ps rows.records) (later_put ps drawn (later_in rows)) (with_all_lines ps rows)
import_staged batch ps drawn bs rows once none =
    let rs = records_put batch ps rows.records in
    let all = with_all_lines ps rows in
    let lines = map lines_of_put ps in
    let later = later_rows ps drawn in
    joined (map (record_of batch) ps) (lines ++ later) (record rows { batches = bs })
    ∙ ap (with_staged (lines ++ later)) (records_staged batch ps (record rows { batches = bs }))
    ∙ joined lines later (beside bs rs rows)
    ∙ ap (with_staged later) (lines_staged ps (beside bs rs rows) once none ∙ all_lines_beside ps bs rs rows)
    ∙ later_staged ps drawn (beside bs rs all)
    ∙ ap (λ (before : Later). wholly bs rs (later_put ps drawn before) all) (all_line_later ps rows)

-- numbers that have none of both rows
pub no_lines : (rows : Rows) (ps : List Numbered)
    → EachOf (λ (p : Numbered). list_any (λ (l : LineRow). l.no == p.number) rows.lines ≡ false) ps
    → EachOf (λ (p : Numbered). list_any (λ (k : PackRow). k.no == p.number) rows.packs ≡ false) ps
    → EachOf (λ (p : Numbered). HasNoLine rows p.number) ps
no_lines rows [] lines packs = tt
no_lines rows (p ∷ ps) lines packs = (
  (lines.0, packs.0),
  no_lines rows ps lines.1 packs.1,
)
