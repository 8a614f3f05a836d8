-- What the rows mean after records are put and removed, number by number.
use Rattle.std.proofs.Common.{
  ◌≡◌,
  ◌≢◌,
  ℕ,
  Bool,
  true,
  false,
  List,
  [],
  ◌∷◌,
  ◌++◌,
  map,
  cond,
  refl,
  sym,
  ap,
  ap₂,
  ◌∙◌,
}
use Rattle.std.specs.Prelude.{◌==◌, ◌&&◌, ◌||◌, Option, MatchOption}
use Rattle.std.specs.List.{list_any, flat_map}
use Rattle.std.proofs.lemmas.List.{append-nil}
use Rattle.stored_lines.specs.Line.{Label}
use Rattle.record_kinds.specs.declared.record.Record.{Record}
use Rattle.records.specs.Stored.{stored}
use Rattle.archive_state.specs.declared.changes.Numbered.{Numbered}
use Rattle.store_tables.specs.Rows.{
  Rows,
  RecordRow,
  LineRow,
  PackRow,
  lines_of,
  with_record_row,
  without_record_row,
  without_lines,
  with_changed_lines,
}
use Rattle.store_rows.specs.Meaning.{is_closed, has_record}
use Rattle.store_rows.specs.Writing.{
  kind_word,
  with_record_rows,
  with_all_lines,
  without_all_lines,
  without_record_rows,
}
use Rattle.store_rows.proofs.Own.{own, put_alone, put_here, put_elsewhere, none_left, others_left}
use Rattle.list_laws.proofs.Numbers.{it, not_it}

-- what the last item of a number says, or what was there
abbrev pub last_of : {A X : Type 0} → (A → ℕ) → (A → X) → ℕ → List A → X → X
last_of key f n [] x = x
last_of key f n (a ∷ as') x = last_of key f n as' (cond (key a == n) (f a) x)

-- what is at a number that has a row or none, and these lines
abbrev pub IsAt : Bool → List (ℕ × Label) → Option Record → Type 0
IsAt has lines found = MatchOption found (has ≡ false) (λ r. (has ≡ true) × (lines ≡ stored r))

pub last_read : {A : Type 0} (key : A → ℕ) (has : A → Bool) (lines : A → List (ℕ × Label)) (found : A → Option Record)
    → ((a : A) → IsAt (has a) (lines a) (found a))
    → (n : ℕ) (items : List A) (b : Bool) (ls : List (ℕ × Label)) (o : Option Record) → IsAt b ls o
    → IsAt (last_of key has n items b) (last_of key lines n items ls) (last_of key found n items o)
last_read key has lines found each n [] b ls o h = h
last_read key has lines found each n (a ∷ items) b ls o h =
    last_read key has lines found each n items (cond (key a == n) (has a) b) (cond (key a == n) (lines a) ls)
    (cond (key a == n) (found a) o)
    (elim (key a == n) as (λ t. IsAt (cond t (has a) b) (cond t (lines a) ls) (cond t (found a) o))
    [ true ↦ each a | false ↦ h ])

-- ---- the rows of records
any_own : (q : RecordRow → Bool) (n : ℕ) (rs : List RecordRow) → list_any (λ (r : RecordRow). (r.no == n) && q r) rs
    ≡ list_any q (own (λ (r : RecordRow). r.no) n rs)
any_own q n [] = refl
any_own q n (r ∷ rs) =
    elim (r.no == n) as (λ b. ((b && q r) || list_any (λ (k : RecordRow). (k.no == n) && q k) rs)
    ≡ list_any q (cond b (r ∷ own (λ (k : RecordRow). k.no) n rs) (own (λ (k : RecordRow). k.no) n rs))) [
      | true ↦ ap (λ b. q r || b) (any_own q n rs)
      | false ↦ any_own q n rs
    ]

first_passes : (q : RecordRow → Bool) (r : RecordRow) (rs some : List RecordRow) → some ≡ r ∷ rs → q r ≡ true
    → list_any q some ≡ true
first_passes q r rs some e t = rw (e, t) refl

row_put : (n k : ℕ) (word : List ℕ) (rows : Rows) → is_closed 0 rows.batches ≡ true
    → has_record n (with_record_row k word 0 rows) ≡ cond (k == n) true (has_record n rows)
row_put n k word rows closed =
    let row : RecordRow = record { no = k; kind = word; batch = 0 } in
    let key = λ (r : RecordRow). r.no in
    let q = λ (r : RecordRow). is_closed r.batch rows.batches in
    any_own q n (with_record_row k word 0 rows).records ∙
    (elim (k == n) as (λ b. (k == n) ≡ b → list_any q (own key n (with_record_row k word 0 rows).records)
    ≡ cond b true (has_record n rows)) [
      | true ↦ λ e. let (more, first) = put_here key n row rows.records (it k n e) in
          first_passes q row more _ first closed
      | false ↦ λ e. ap (list_any q) (put_elsewhere key n row rows.records (not_it k n e))
          ∙ sym (any_own q n rows.records)
    ] refl)

pub rows_put : (n : ℕ) (ps : List Numbered) (rows : Rows) → is_closed 0 rows.batches ≡ true
    → list_any (λ (r : RecordRow). (r.no == n) && is_closed r.batch rows.batches) (with_record_rows ps rows).records
    ≡ last_of (λ (p : Numbered). p.number) (λ _. true) n ps (has_record n rows)
rows_put n [] rows closed = refl
rows_put n (p ∷ ps) rows closed =
    rows_put n ps (with_record_row p.number (kind_word p.«record») 0 rows) closed
    ∙ ap (last_of (λ (k : Numbered). k.number) (λ _. true) n ps) (row_put n p.number (kind_word p.«record») rows closed)

row_removed : (n k : ℕ) (rows : Rows) → has_record n (without_record_row k rows) ≡ cond (k == n) false
    (has_record n rows)
row_removed n k rows =
    let key = λ (r : RecordRow). r.no in
    let q = λ (r : RecordRow). is_closed r.batch rows.batches in
    any_own q n (without_record_row k rows).records ∙
    (elim (k == n) as (λ b. (k == n) ≡ b → list_any q (own key n (without_record_row k rows).records)
    ≡ cond b false (has_record n rows)) [
      | true ↦ λ e. ap (λ j. list_any q (own key n (without_record_row j rows).records)) (it k n e)
          ∙ ap (list_any q) (none_left key n rows.records)
      | false ↦ λ e. ap (list_any q) (others_left key n k rows.records (not_it k n e)) ∙ sym (any_own q n rows.records)
    ] refl)

pub rows_removed : (n : ℕ) (ns : List ℕ) (rows : Rows)
    → list_any (λ (r : RecordRow). (r.no == n) && is_closed r.batch rows.batches) (without_record_rows ns rows).records
    ≡ last_of (λ k. k) (λ _. false) n ns (has_record n rows)
rows_removed n [] rows = refl
rows_removed n (k ∷ ns) rows = rows_removed n ns (without_record_row k rows) ∙ ap (last_of (λ j. j) (λ _. false) n ns)
    (row_removed n k rows)

-- ---- lines
-- the stored lines of rows with one line and of rows with all lines
abbrev all_of : List LineRow → List PackRow → List (ℕ × Label)
all_of ls ps = map (λ (l : LineRow). l.line) ls ++ flat_map (λ (p : PackRow). p.lines) ps

pub changed_elsewhere : (m n : ℕ) (ls : List (ℕ × Label)) (rows : Rows) → n ≢ m
    → own (λ (l : LineRow). l.no) m (with_changed_lines n ls rows).lines ≡ own (λ (l : LineRow). l.no) m rows.lines
changed_elsewhere m n ls rows off = others_left (λ (l : LineRow). l.no) m n rows.lines off

pub packs_elsewhere : (m n : ℕ) (ls : List (ℕ × Label)) (rows : Rows) → n ≢ m
    → own (λ (p : PackRow). p.no) m (with_changed_lines n ls rows).packs ≡ own (λ (p : PackRow). p.no) m rows.packs
packs_elsewhere m n ls rows off =
    put_elsewhere (λ (p : PackRow). p.no) m (record { no = n; lines = ls }) (without_lines n rows).packs off
    ∙ others_left (λ (p : PackRow). p.no) m n rows.packs off

changed_here : (n : ℕ) (ls : List (ℕ × Label)) (rows : Rows) → lines_of n (with_changed_lines n ls rows) ≡ ls
changed_here n ls rows =
    ap₂ all_of (none_left (λ (l : LineRow). l.no) n rows.lines)
    (put_alone (λ (p : PackRow). p.no) n (record { no = n; lines = ls }) (without_lines n rows).packs refl
    (none_left (λ (p : PackRow). p.no) n rows.packs))
    ∙ append-nil ls

pub line_put : (n k : ℕ) (ls : List (ℕ × Label)) (rows : Rows) → lines_of n (with_changed_lines k ls rows)
    ≡ cond (k == n) ls (lines_of n rows)
line_put n k ls rows =
    elim (k == n) as (λ b. (k == n) ≡ b → lines_of n (with_changed_lines k ls rows) ≡ cond b ls (lines_of n rows)) [
      | true ↦ λ e. ap (λ j. lines_of n (with_changed_lines j ls rows)) (it k n e) ∙ changed_here n ls rows
      | false ↦ λ e. ap₂ all_of (changed_elsewhere n k ls rows (not_it k n e))
          (packs_elsewhere n k ls rows (not_it k n e))
    ] refl

pub lines_put : (n : ℕ) (ps : List Numbered) (rows : Rows) → lines_of n (with_all_lines ps rows)
    ≡ last_of (λ (p : Numbered). p.number) (λ (p : Numbered). stored p.«record») n ps (lines_of n rows)
lines_put n [] rows = refl
lines_put n (p ∷ ps) rows =
    lines_put n ps (with_changed_lines p.number (stored p.«record») rows)
    ∙ ap (last_of (λ (k : Numbered). k.number) (λ (k : Numbered). stored k.«record») n ps)
    (line_put n p.number (stored p.«record») rows)

line_removed : (n k : ℕ) (rows : Rows) → lines_of n (without_lines k rows) ≡ cond (k == n) [] (lines_of n rows)
line_removed n k rows =
    elim (k == n) as (λ b. (k == n) ≡ b → lines_of n (without_lines k rows) ≡ cond b [] (lines_of n rows)) [
      | true ↦ λ e. ap (λ j. lines_of n (without_lines j rows)) (it k n e)
          ∙ ap₂ all_of (none_left (λ (l : LineRow). l.no) n rows.lines)
          (none_left (λ (p : PackRow). p.no) n rows.packs)
      | false ↦ λ e. ap₂ all_of (others_left (λ (l : LineRow). l.no) n k rows.lines (not_it k n e))
          (others_left (λ (p : PackRow). p.no) n k rows.packs (not_it k n e))
    ] refl

pub lines_removed : (n : ℕ) (ns : List ℕ) (rows : Rows) → lines_of n (without_all_lines ns rows)
    ≡ last_of (λ k. k) (λ _. []) n ns (lines_of n rows)
lines_removed n [] rows = refl
lines_removed n (k ∷ ns) rows = lines_removed n ns (without_lines k rows) ∙ ap (last_of (λ j. j) (λ _. []) n ns)
    (line_removed n k rows)

-- ---- what all else is
pub rows_put_only : (ps : List Numbered) (rows : Rows) → with_record_rows ps rows
    ≡ record rows { records = (with_record_rows ps rows).records }
rows_put_only [] rows = refl
rows_put_only (p ∷ ps) rows = rows_put_only ps (with_record_row p.number (kind_word p.«record») 0 rows)

pub rows_removed_only : (ns : List ℕ) (rows : Rows) → without_record_rows ns rows
    ≡ record rows { records = (without_record_rows ns rows).records }
rows_removed_only [] rows = refl
rows_removed_only (n ∷ ns) rows = rows_removed_only ns (without_record_row n rows)

pub lines_put_only : (ps : List Numbered) (rows : Rows) → with_all_lines ps rows
    ≡ record rows { lines = (with_all_lines ps rows).lines; packs = (with_all_lines ps rows).packs }
lines_put_only [] rows = refl
lines_put_only (p ∷ ps) rows = lines_put_only ps (with_changed_lines p.number (stored p.«record») rows)

pub lines_removed_only : (ns : List ℕ) (rows : Rows) → without_all_lines ns rows
    ≡ record rows { lines = (without_all_lines ns rows).lines; packs = (without_all_lines ns rows).packs }
lines_removed_only [] rows = refl
lines_removed_only (n ∷ ns) rows = lines_removed_only ns (without_lines n rows)
