-- Links that are put, where none of them was there, and are removed again: the others are left.
use Rattle.std.proofs.Common.{
  ◌≡◌,
  ℕ,
  Bool,
  true,
  false,
  not,
  List,
  [],
  ◌∷◌,
  ◌++◌,
  ◌+◌,
  ◌-◌,
  Option,
  None,
  Some,
  append-nil,
  arith,
  cond,
  filter,
  length,
  map,
  refl,
  sym,
  take,
  ap,
  ap₂,
  ◌∙◌,
}
use Rattle.std.specs.Prelude.{◌||◌}
use Rattle.std.specs.List.{flat_map, list_any}
use Rattle.std.proofs.lemmas.List.{length-append}
use Rattle.gedcom_date.specs.declared.value.Span.{Span}
use Rattle.archive_state.specs.declared.changes.Numbered.{Numbered}
use Rattle.store_rows.specs.Sought.{Sought, sought_of}
use Rattle.store_rows.specs.Spans.{Drawn}
use Rattle.std.specs.Ordering.{match_ordering}
use Rattle.std.specs.declared.cmp.Ordering.TheVariants.{Less, Equal, Greater}
use Rattle.std.proofs.lemmas.Bool.{or_left, or_right}
use Rattle.record_shapes.specs.Lists.{EachOf}
use Rattle.store_tables.specs.Rows.{LinkRow, Rows, is_pair, pair_cmp, put_pair, without_link}
use Rattle.store_rows.specs.Links.{has_link, without_all_links}
use Rattle.store_rows.proofs.LinksRead.{itself, put_or_there, same_row}
use Rattle.staged_rows.specs.Removing.{links_among}
use Rattle.staged_rows.specs.Staging.{
  AreNew,
  StagedRow,
  a_pack,
  a_link,
  a_record,
  a_sought,
  a_span,
  later_rows,
  lines_of_put,
  links_of,
  record_of,
  row_of_sought,
  rows_of_import,
  sought_row,
  span_row,
  with_staged,
  with_staged_row,
}
use Rattle.staged_rows.proofs.Whole.{links_put}
use Rattle.list_laws.proofs.Booleans.{or_first, or_second}
use Rattle.list_laws.proofs.Lists.{filter_all}
use Rattle.record_shapes.proofs.Each.{each_more}

-- ---- what is left of links where some are removed
abbrev pub left_of : List LinkRow → List LinkRow → List LinkRow
left_of [] ks = ks
left_of (l ∷ ls) ks = left_of ls (filter (λ x. not (is_pair l.target l.no x)) ks)

pub links_less : (ls : List LinkRow) (rows : Rows) → without_all_links ls rows
    ≡ record rows { links = left_of ls rows.links }
links_less [] rows = refl
links_less (l ∷ ls) rows = links_less ls (without_link l.target l.no rows)

-- whether a link is none of these
abbrev is_none_of : List LinkRow → LinkRow → Bool
is_none_of ls x = not (list_any (λ (l : LinkRow). is_pair l.target l.no x) ls)

two_filters : (l : LinkRow) (ls ks : List LinkRow)
    → filter (is_none_of ls) (filter (λ x. not (is_pair l.target l.no x)) ks) ≡ filter (is_none_of (l ∷ ls)) ks
two_filters l ls [] = refl
two_filters l ls (x ∷ xs) =
    let less = filter (λ x. not (is_pair l.target l.no x)) xs in
    let rest = filter (is_none_of (l ∷ ls)) xs in
    let among = list_any (λ (k : LinkRow). is_pair k.target k.no x) ls in
    elim (is_pair l.target l.no x) as (λ b. filter (is_none_of ls) (cond (not b) (x ∷ less) less)
    ≡ cond (not (b || among)) (x ∷ rest) rest) [
      | true ↦ two_filters l ls xs
      | false ↦ ap (λ ys. cond (not among) (x ∷ ys) ys) (two_filters l ls xs)
    ]

left_is : (ls ks : List LinkRow) → left_of ls ks ≡ filter (is_none_of ls) ks
left_is [] ks = sym (filter_all ks)
left_is (l ∷ ls) ks = left_is ls (filter (λ x. not (is_pair l.target l.no x)) ks) ∙ two_filters l ls ks

-- ---- none of these is there
abbrev AreFree : List LinkRow → List LinkRow → Type 0
AreFree ls ks = EachOf (λ (l : LinkRow). has_link l.target l.no ks ≡ false) ls

none_of_pair : (t n : ℕ) (ks : List LinkRow) → has_link t n ks ≡ false → filter (λ x. not (is_pair t n x)) ks ≡ ks
none_of_pair t n [] none = refl
none_of_pair t n (x ∷ xs) none =
    let less = filter (λ x. not (is_pair t n x)) xs in
    ap (λ b. cond (not b) (x ∷ less) less) (or_first (is_pair t n x) (has_link t n xs) none)
    ∙ ap (λ ys. x ∷ ys) (none_of_pair t n xs (or_second (is_pair t n x) (has_link t n xs) none))

all_left : (ls ks : List LinkRow) → AreFree ls ks → left_of ls ks ≡ ks
all_left [] ks free = refl
all_left (l ∷ ls) ks free = ap (left_of ls) (none_of_pair l.target l.no ks free.0) ∙ all_left ls ks free.1

-- ---- links that are put
filter_put : (q : LinkRow → Bool) (l : LinkRow) (ks : List LinkRow) → q l ≡ false
    → filter q (put_pair l ks) ≡ filter q ks
filter_put q l [] off = ap (λ b. cond b (l ∷ []) []) off
filter_put q l (m ∷ ms) off =
    elim (pair_cmp m l) as (λ o. pair_cmp m l ≡ o
    → filter q (match_ordering o (m ∷ put_pair l ms) (l ∷ ms) (l ∷ m ∷ ms)) ≡ filter q (m ∷ ms)) [
      | Less ↦ λ e. ap (λ zs. cond (q m) (m ∷ zs) zs) (filter_put q l ms off)
      | Equal ↦ λ e. ap (λ b. cond b (l ∷ filter q ms) (filter q ms)) off
          ∙ sym (ap (λ b. cond b (m ∷ filter q ms) (filter q ms)) (ap q (same_row l m e) ∙ off))
      | Greater ↦ λ e. ap (λ b. cond b (l ∷ filter q (m ∷ ms)) (filter q (m ∷ ms))) off
    ] refl

all_gone : (q : LinkRow → Bool) (ls ks : List LinkRow) → EachOf (λ (l : LinkRow). q l ≡ false) ls
    → filter q (links_put ls ks) ≡ filter q ks
all_gone q [] ks off = refl
all_gone q (l ∷ ls) ks off =
    let row : LinkRow = record { target = l.target; no = l.no } in
    all_gone q ls (put_pair row ks) off.1 ∙ filter_put q row ks off.0

each_in : (ls : List LinkRow)
    → EachOf (λ (l : LinkRow). list_any (λ (k : LinkRow). is_pair k.target k.no l) ls ≡ true) ls
each_in [] = tt
each_in (l ∷ ls) = (
  or_left (is_pair l.target l.no l) (list_any (λ (k : LinkRow). is_pair k.target k.no l) ls) (itself l.target l.no),
  each_more (λ (x : LinkRow). list_any (λ (k : LinkRow). is_pair k.target k.no x) ls ≡ true)
      (λ (x : LinkRow). (is_pair l.target l.no x || list_any (λ (k : LinkRow). is_pair k.target k.no x) ls) ≡ true)
      (λ x is. or_right (is_pair l.target l.no x) _ is) ls (each_in ls),
)

pub put_and_gone : (ls ks : List LinkRow) → AreFree ls ks → left_of ls (links_put ls ks) ≡ ks
put_and_gone ls ks free =
    left_is ls (links_put ls ks)
    ∙ all_gone (is_none_of ls) ls ks
    (each_more (λ (l : LinkRow). list_any (λ (k : LinkRow). is_pair k.target k.no l) ls ≡ true)
    (λ (l : LinkRow). is_none_of ls l ≡ false) (λ l is. ap not is) ls (each_in ls))
    ∙ sym (left_is ls ks) ∙ all_left ls ks free

-- ---- the links of rows that are staged
pub links_staged : (rs : List StagedRow) (rows : Rows) → (with_staged rs rows).links
    ≡ links_put (links_among rs) rows.links
links_staged [] rows = refl
links_staged (a_record r ∷ rs) rows = links_staged rs (with_staged_row (a_record r) rows)
links_staged (a_pack n ls ∷ rs) rows = links_staged rs (with_staged_row (a_pack n ls) rows)
links_staged (a_link l ∷ rs) rows = links_staged rs (with_staged_row (a_link l) rows)
links_staged (a_sought n s ∷ rs) rows = links_staged rs (with_staged_row (a_sought n s) rows)
links_staged (a_span n span ∷ rs) rows = links_staged rs (with_staged_row (a_span n span) rows)

before_put : (t n : ℕ) (l : LinkRow) (ks : List LinkRow) → has_link t n (put_pair l ks) ≡ false
    → has_link t n ks ≡ false
before_put t n l ks none = or_second (is_pair t n l) (has_link t n ks) (sym (put_or_there (is_pair t n) l ks) ∙ none)

pub new_are_free : (rs : List StagedRow) (rows : Rows) → AreNew rs rows → AreFree (links_among rs) rows.links
new_are_free [] rows new = tt
new_are_free (a_record r ∷ rs) rows new = new_are_free rs (with_staged_row (a_record r) rows) new.1
new_are_free (a_pack n ls ∷ rs) rows new = new_are_free rs (with_staged_row (a_pack n ls) rows) new.1
new_are_free (a_link l ∷ rs) rows new = (
  new.0,
  each_more (λ (k : LinkRow). has_link k.target k.no (with_staged_row (a_link l) rows).links ≡ false)
      (λ (k : LinkRow). has_link k.target k.no rows.links ≡ false)
      (λ k none. before_put k.target k.no (record { target = l.target; no = l.no }) rows.links none)
      (links_among rs) (new_are_free rs (with_staged_row (a_link l) rows) new.1),
)
new_are_free (a_sought n s ∷ rs) rows new = new_are_free rs (with_staged_row (a_sought n s) rows) new.1
new_are_free (a_span n span ∷ rs) rows new = new_are_free rs (with_staged_row (a_span n span) rows) new.1

-- ---- the links among the rows of an import
pub among_both : (xs ys : List StagedRow) → links_among (xs ++ ys) ≡ links_among xs ++ links_among ys
among_both [] ys = refl
among_both (a_record r ∷ xs) ys = among_both xs ys
among_both (a_pack n ls ∷ xs) ys = among_both xs ys
among_both (a_link l ∷ xs) ys = ap (λ ls. l ∷ ls) (among_both xs ys)
among_both (a_sought n s ∷ xs) ys = among_both xs ys
among_both (a_span n span ∷ xs) ys = among_both xs ys

-- rows with none in front and after
pub none_in_front : (xs ys : List StagedRow) → links_among xs ≡ [] → links_among (xs ++ ys) ≡ links_among ys
none_in_front xs ys none = among_both xs ys ∙ ap (λ ls. ls ++ links_among ys) none

pub none_behind : (xs ys : List StagedRow) → links_among ys ≡ [] → links_among (xs ++ ys) ≡ links_among xs
none_behind xs ys none = among_both xs ys ∙ ap (λ ls. links_among xs ++ ls) none ∙ append-nil (links_among xs)

pub among_records : (batch : ℕ) (ps : List Numbered) → links_among (map (record_of batch) ps) ≡ []
among_records batch [] = refl
among_records batch (p ∷ ps) = among_records batch ps

pub among_all_lines : (ps : List Numbered) → links_among (map lines_of_put ps) ≡ []
among_all_lines [] = refl
among_all_lines (p ∷ ps) = among_all_lines ps

pub among_links : (ls : List LinkRow) → links_among (map a_link ls) ≡ ls
among_links [] = refl
among_links (l ∷ ls) = ap (λ ks. l ∷ ks) (among_links ls)

among_sought : (n : ℕ) (o : Option Sought) → links_among (row_of_sought n o) ≡ []
among_sought n None = refl
among_sought n (Some s) = refl

among_soughts : (ps : List Numbered) → links_among (flat_map sought_row ps) ≡ []
among_soughts [] = refl
among_soughts (p ∷ ps) =
    none_in_front (sought_row p) (flat_map sought_row ps) (among_sought p.number (sought_of p.«record»))
    ∙ among_soughts ps

among_span : (n : ℕ) (o : Option Span) → links_among (span_row (n, o)) ≡ []
among_span n None = refl
among_span n (Some span) = refl

among_spans : (ds : Drawn) → links_among (flat_map span_row ds) ≡ []
among_spans [] = refl
among_spans (d ∷ ds) = none_in_front (span_row d) (flat_map span_row ds) (among_span d.0 d.1) ∙ among_spans ds

pub among_import : (batch : ℕ) (ps : List Numbered) (drawn : Drawn) → links_among (rows_of_import batch ps drawn)
    ≡ links_of ps
among_import batch ps drawn =
    let behind = flat_map sought_row ps ++ flat_map span_row drawn in
    none_in_front (map (record_of batch) ps) (map lines_of_put ps ++ later_rows ps drawn) (among_records batch ps)
    ∙ none_in_front (map lines_of_put ps) (later_rows ps drawn) (among_all_lines ps)
    ∙ none_behind (map a_link (links_of ps)) behind
    (none_in_front (flat_map sought_row ps) (flat_map span_row drawn) (among_soughts ps) ∙ among_spans drawn)
    ∙ among_links (links_of ps)

taken_front : (xs ys : List LinkRow) → take (length xs) (xs ++ ys) ≡ xs
taken_front [] ys = refl
taken_front (x ∷ xs) ys = ap (λ zs. x ∷ zs) (taken_front xs ys)

-- those that are written are those that are not left
pub written_are : (batch : ℕ) (ps : List Numbered) (drawn : Drawn) (done left : List StagedRow)
    → rows_of_import batch ps drawn ≡ done ++ left
    → take (length (links_of ps) - length (links_among left)) (links_of ps) ≡ links_among done
written_are batch ps drawn done left parts =
    let all : links_of ps ≡ links_among done ++ links_among left = sym (among_import batch ps drawn)
    ∙ ap links_among parts ∙ among_both done left in
    let sum : length (links_of ps) ≡ length (links_among done) + length (links_among left) = ap length all
    ∙ length-append (links_among done) (links_among left) in
    let count : length (links_of ps) - length (links_among left) ≡ length (links_among done) = omega (arith, sum) in
    ap₂ take count all ∙ taken_front (links_among done) (links_among left)
