-- The links that the rows have, after those of records are put.
use Rattle.std.proofs.Common.{
  ◌≡◌,
  ℕ,
  Bool,
  true,
  false,
  List,
  [],
  ◌∷◌,
  filter,
  not,
  cond,
  refl,
  sym,
  ap,
  ap₂,
  subst,
  ◌∙◌,
  Ordering,
  Less,
  Equal,
  Greater,
  arith,
  inl,
  inr,
}
use Rattle.std.specs.Prelude.{◌==◌, ◌&&◌, ◌||◌, Option, Some, None}
use Rattle.std.specs.List.{list_any}
use Rattle.std.specs.Ordering.{match_ordering, nat_cmp, ordering_then}
use Rattle.std.proofs.lemmas.Bool.Decides.{nat_tests}
use Rattle.std.proofs.lemmas.Bool.{or_left, or_right, or_cases}
use Rattle.stored_lines.specs.Line.{Label}
use Rattle.record_kinds.specs.declared.record.Record.{Record}
use Rattle.archive_state.specs.Stored.{is_target, some_line_names}
use Rattle.archive_state.proofs.Stored.{lines_tell}
use Rattle.records.specs.Stored.{stored}
use Rattle.archive_state.specs.declared.changes.Numbered.{Numbered}
use Rattle.store_tables.specs.Rows.{Rows, LinkRow, is_pair, pair_cmp, put_pair, without_link}
use Rattle.store_rows.specs.Links.{
  AreLinked,
  has_link,
  with_all_links,
  with_link_anew,
  with_link_if,
  with_links,
}
use Rattle.store_rows.proofs.Puts.{last_of}
use Rattle.list_laws.proofs.Numbers.{it}

-- ---- one row
pub same_row : (l m : LinkRow) → pair_cmp m l ≡ Equal → m ≡ l
same_row l m e =
    let first : m.target ≡ l.target = same_first (nat_cmp m.target l.target) refl e in
    let last : m.no ≡ l.no = same_last (nat_cmp m.target l.target) refl e in
    ap₂ (λ t n. record { target = t; no = n }) first last
  where
    same_first : (o : Ordering) → nat_cmp m.target l.target ≡ o → ordering_then o (nat_cmp m.no l.no) ≡ Equal
        → m.target ≡ l.target
    same_first Less is e = absurd cc
    same_first Equal is e = grind (arith, nat_tests, is)
    same_first Greater is e = absurd cc

    same_last : (o : Ordering) → nat_cmp m.target l.target ≡ o → ordering_then o (nat_cmp m.no l.no) ≡ Equal
        → m.no ≡ l.no
    same_last Less is e = absurd cc
    same_last Equal is e = grind (arith, nat_tests, e)
    same_last Greater is e = absurd cc

-- what is said of a row that is put, or was said of another one, is said of the rows with it
pub put_or_there : (q : LinkRow → Bool) (l : LinkRow) (ms : List LinkRow) → list_any q (put_pair l ms)
    ≡ (q l || list_any q ms)
put_or_there q l [] = refl
put_or_there q l (m ∷ ms) = go (pair_cmp m l) refl (put_or_there q l ms)
  where
    swap : (a b c : Bool) → (a || (b || c)) ≡ (b || (a || c))
    swap true true c = refl
    swap true false c = refl
    swap false true c = refl
    swap false false c = refl

    twice : (a c : Bool) → (a || c) ≡ (a || (a || c))
    twice true c = refl
    twice false c = refl

    go : (o : Ordering) → pair_cmp m l ≡ o → list_any q (put_pair l ms) ≡ (q l || list_any q ms)
        → list_any q (match_ordering o (m ∷ put_pair l ms) (l ∷ ms) (l ∷ m ∷ ms)) ≡ (q l || (q m || list_any q ms))
    go Less is more = ap (λ b. q m || b) more ∙ swap (q m) (q l) (list_any q ms)
    go Equal is more = twice (q l) (list_any q ms)
        ∙ ap (λ x. q l || (q x || list_any q ms)) (sym (same_row l m is))
    go Greater is more = refl

-- a pair that is there stays, but for the one that is removed
left_or_it : (t n u k : ℕ) (ls : List LinkRow) → has_link u k ls ≡ true
    → (((t == u) && (n == k)) || has_link u k (filter (λ l. not (is_pair t n l)) ls)) ≡ true
left_or_it t n u k [] h = absurd cc
left_or_it t n u k (l ∷ ls) h = elim (or_cases (is_pair u k l) (has_link u k ls) h) [
  | inl here ↦ elim (is_pair t n l) as (λ b. is_pair t n l ≡ b → (((t == u) && (n == k))
      || has_link u k (cond (not b) (l ∷ filter (λ m. not (is_pair t n m)) ls) (filter (λ m. not (is_pair t n m)) ls)))
      ≡ true) [
        | true ↦ λ own. or_left _ _ (one_row t n u k l own here)
        | false ↦ λ other. or_right ((t == u) && (n == k)) _ (or_left (is_pair u k l) _ here)
      ] refl
  | inr more ↦ elim (is_pair t n l) as (λ b. (((t == u) && (n == k))
      || has_link u k (cond (not b) (l ∷ filter (λ m. not (is_pair t n m)) ls) (filter (λ m. not (is_pair t n m)) ls)))
      ≡ true) [
        | true ↦ left_or_it t n u k ls more
        | false ↦ further ((t == u) && (n == k)) (is_pair u k l) _ (left_or_it t n u k ls more)
      ]
]
  where
    one_row : (t n u k : ℕ) (l : LinkRow) → is_pair t n l ≡ true → is_pair u k l ≡ true
        → ((t == u) && (n == k)) ≡ true
    one_row t n u k l p q = grind (arith, nat_tests, p, q)

    further : (a b c : Bool) → (a || c) ≡ true → (a || (b || c)) ≡ true
    further true b c h = refl
    further false true c h = refl
    further false false c h = h

pub itself : (t n : ℕ) → is_pair t n (record { target = t; no = n }) ≡ true
itself t n = grind (arith, nat_tests)

link_there : (t n : ℕ) (rows : Rows) → has_link t n (with_link_anew t n rows).links ≡ true
link_there t n rows = put_or_there (is_pair t n) (record { target = t; no = n }) (without_link t n rows).links
    ∙ or_left _ _ (itself t n)

link_stays : (t n u k : ℕ) (rows : Rows) → has_link u k rows.links ≡ true
    → has_link u k (with_link_anew t n rows).links ≡ true
link_stays t n u k rows h = put_or_there (is_pair u k) (record { target = t; no = n }) (without_link t n rows).links
    ∙ left_or_it t n u k rows.links h

-- ---- the lines of a record
one_stays : (n u k : ℕ) (o : Option ℕ) (rows : Rows) → has_link u k rows.links ≡ true
    → has_link u k (with_link_if n o rows).links ≡ true
one_stays n u k None rows h = h
one_stays n u k (Some t) rows h = link_stays t n u k rows h

pub lines_stay : (n u k : ℕ) (ls : List (ℕ × Label)) (rows : Rows) → has_link u k rows.links ≡ true
    → has_link u k (with_links n ls rows).links ≡ true
lines_stay n u k [] rows h = h
lines_stay n u k (l ∷ ls) rows h = lines_stay n u k ls (with_link_if n l.1.target rows)
    (one_stays n u k l.1.target rows h)

pub lines_linked : (n u : ℕ) (ls : List (ℕ × Label)) (rows : Rows) → some_line_names u ls ≡ true
    → has_link u n (with_links n ls rows).links ≡ true
lines_linked n u [] rows h = absurd cc
lines_linked n u (l ∷ ls) rows h = elim (or_cases (is_target u l.1.target) (some_line_names u ls) h) [
  | inl here ↦ lines_stay n u n ls (with_link_if n l.1.target rows) (first l.1.target here)
  | inr more ↦ lines_linked n u ls (with_link_if n l.1.target rows) more
]
  where
    first : (o : Option ℕ) → is_target u o ≡ true → has_link u n (with_link_if n o rows).links ≡ true
    first None h = absurd cc
    first (Some t) h = subst (λ v. has_link v n (with_link_if n (Some t) rows).links ≡ true) (it t u h)
        (link_there t n rows)

-- ---- all records that are put
put_linked : (n : ℕ) (p : Numbered) (o : Option Record) (rows : Rows) → AreLinked n o rows.links
    → AreLinked n (cond (p.number == n) (Some p.«record») o) (with_links p.number (stored p.«record») rows).links
put_linked n p o rows h =
    elim (p.number == n) as (λ b. (p.number == n) ≡ b
    → AreLinked n (cond b (Some p.«record») o) (with_links p.number (stored p.«record») rows).links) [
      | true ↦ λ e u named. subst (λ k. has_link u k (with_links p.number (stored p.«record») rows).links ≡ true)
          (it p.number n e)
          (lines_linked p.number u (stored p.«record») rows (lines_tell p.«record» u ∙ named))
      | false ↦ λ e. still o h
    ] refl
  where
    still : (o : Option Record) → AreLinked n o rows.links
        → AreLinked n o (with_links p.number (stored p.«record») rows).links
    still None h = tt
    still (Some r) h = λ u named. lines_stay p.number u n (stored p.«record») rows (h u named)

pub linked_puts : (n : ℕ) (ps : List Numbered) (o : Option Record) (rows : Rows) → AreLinked n o rows.links
    → AreLinked n (last_of (λ (p : Numbered). p.number) (λ (p : Numbered). Some p.«record») n ps o)
    (with_all_links ps rows).links
linked_puts n [] o rows h = h
linked_puts n (p ∷ ps) o rows h =
    linked_puts n ps (cond (p.number == n) (Some p.«record») o) (with_links p.number (stored p.«record») rows)
    (put_linked n p o rows h)

-- a number that is removed has nothing that it is to be linked to
pub linked_left : (n : ℕ) (ns : List ℕ) (o : Option Record) (ls : List LinkRow) → AreLinked n o ls
    → AreLinked n (last_of (λ k. k) (λ _. None) n ns o) ls
linked_left n [] o ls h = h
linked_left n (k ∷ ns) o ls h = linked_left n ns (cond (k == n) None o) ls
    (elim (k == n) as (λ b. AreLinked n (cond b None o) ls) [ true ↦ tt | false ↦ h ])
