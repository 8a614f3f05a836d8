-- Links by their pairs, and of which records each has its own.
use Rattle.std.proofs.Common.{
  ◌≡◌,
  ◌<◌,
  ℕ,
  List,
  [],
  ◌∷◌,
  ◌++◌,
  Bool,
  true,
  false,
  Ordering,
  Less,
  Equal,
  Greater,
  arith,
  cond,
  get_or,
  length,
  refl,
  sym,
  ap,
  subst,
  ◌∙◌,
}
use Rattle.std.specs.Prelude.{◌==◌, ◌&&◌, ◌||◌, Option, Some, None, MatchOption, Result, Ok, Err, IfOk}
use Rattle.std.specs.FinMap.{get, keys}
use Rattle.std.specs.Ordering.{is_eq, nat_cmp, ordering_then}
use Rattle.std.proofs.lemmas.Bool.Decides.{nat_tests}
use Rattle.std.proofs.lemmas.List.Folds.{list_any_at}
use Rattle.stored_lines.specs.Line.{Label}
use Rattle.record_kinds.specs.declared.record.Record.{Record}
use Rattle.archive_state.specs.Links.{is_among, links}
use Rattle.archive_state.specs.Stored.{is_target, some_line_names}
use Rattle.archive_state.proofs.Stored.{lines_tell}
use Rattle.record_shapes.specs.Lists.{EachOf}
use Rattle.records.specs.Stored.{stored}
use Rattle.archive_state.specs.Content.{Content}
use Rattle.archive_state.proofs.MapKeys.{among_keys, each_among}
use Rattle.store_tables.specs.Rows.{LinkRow, is_pair}
use Rattle.store_rows.specs.Links.{AreLinked, has_link}
use Rattle.table_looks.specs.Linking.{
  AreLinesLinked,
  HaveLinks,
  IsLinked,
  LacksLine,
  LacksLink,
  NamesUnlinked,
  is_line_linked,
  pair_order,
}
use Rattle.list_laws.proofs.Numbers.{it, same_self}

-- ---- pairs that are gathered row by row
same_last : (o : Ordering) (b n : ℕ) → nat_cmp b n ≡ o → is_eq o ≡ (b == n)
same_last Less b n e = let off : (b == n) ≡ false = grind (arith, nat_tests, e) in sym off
same_last Equal b n e = let on : (b == n) ≡ true = grind (arith, nat_tests, e) in sym on
same_last Greater b n e = let off : (b == n) ≡ false = grind (arith, nat_tests, e) in sym off

same_pair : (o : Ordering) (a b t n : ℕ) → nat_cmp a t ≡ o
    → is_eq (ordering_then o (nat_cmp b n)) ≡ ((a == t) && (b == n))
same_pair Less a b t n e =
    let off : (a == t) ≡ false = grind (arith, nat_tests, e) in sym (ap (λ x. x && (b == n)) off)
same_pair Equal a b t n e =
    let on : (a == t) ≡ true = grind (arith, nat_tests, e) in
    same_last (nat_cmp b n) b n refl ∙ sym (ap (λ x. x && (b == n)) on)
same_pair Greater a b t n e =
    let off : (a == t) ≡ false = grind (arith, nat_tests, e) in sym (ap (λ x. x && (b == n)) off)

either : (b old : Bool) → cond b true old ≡ (old || b)
either true true = refl
either true false = refl
either false true = refl
either false false = refl

more_links : (target n : ℕ) (ls : List LinkRow) (l : LinkRow) → has_link target n (ls ++ l ∷ [])
    ≡ (has_link target n ls || is_pair target n l)
more_links target n [] l = none_else (is_pair target n l)
  where
    none_else : (b : Bool) → (b || false) ≡ b
    none_else true = refl
    none_else false = refl
more_links target n (x ∷ xs) l =
    ap (λ b. is_pair target n x || b) (more_links target n xs l)
    ∙ other (is_pair target n x) (has_link target n xs) (is_pair target n l)
  where
    other : (a b c : Bool) → (a || (b || c)) ≡ ((a || b) || c)
    other true b c = refl
    other false b c = refl

pub added : (target n : ℕ) (ls : List LinkRow) (t k : ℕ) (old new : Bool)
    → new ≡ cond (is_eq (pair_order (t, k) (target, n))) true old → old ≡ has_link target n ls
    → new ≡ has_link target n (ls ++ record { target = t; no = k } ∷ [])
added target n ls t k old new is was =
    is ∙ ap (λ b. cond b true old) (same_pair (nat_cmp t target) t k target n refl)
    ∙ either (is_pair target n (record { target = t; no = k })) old
    ∙ ap (λ b. b || is_pair target n (record { target = t; no = k })) was
    ∙ sym (more_links target n ls (record { target = t; no = k }))

-- a number that one of these lines names has a link
named_linked : (look : ℕ × ℕ → Bool) (n target : ℕ) (ls : List (ℕ × Label)) → AreLinesLinked look n ls
    → some_line_names target ls ≡ true → look (target, n) ≡ true
named_linked look n target [] are named = absurd cc
named_linked look n target (l ∷ ls) are named =
    elim (is_target target l.1.target) as (λ b. is_target target l.1.target ≡ b
    → (b || some_line_names target ls) ≡ true → look (target, n) ≡ true) [
      | true ↦ λ e _. this l.1.target e are.0
      | false ↦ λ e more. named_linked look n target ls are.1 more
    ] refl named
  where
    this : (o : Option ℕ) → is_target target o ≡ true → is_line_linked look n o ≡ true → look (target, n) ≡ true
    this None e is = absurd cc
    this (Some t) e is = subst (λ v. look (v, n) ≡ true) (it t target e) is

module _ (look : ℕ × ℕ → Bool) (ls : List LinkRow)
    (is : (target n : ℕ) → look (target, n) ≡ has_link target n ls) where
  record_linked : (n : ℕ) (o : Option Record) → IsLinked look n o → AreLinked n o ls
  record_linked n None are = tt
  record_linked n (Some r) are = λ target named. sym (is target n)
      ∙ named_linked look n target (stored r) are (lines_tell r target ∙ named)

  own_at : (n : ℕ) (found : Option Record) → ((r : Record) → found ≡ Some r → IsLinked look n found)
      → IsLinked look n found
  own_at n None h = tt
  own_at n (Some r) h = h r refl

  all_linked : (c : Content) → EachOf (λ n. IsLinked look n (get c.records n)) (keys c.records) → HaveLinks ls c
  all_linked c each n = record_linked n (get c.records n) (own_at n (get c.records n)
      (λ r at. each_among (λ k. IsLinked look k (get c.records k)) (keys c.records) n each
      (among_keys c.records n r at)))

  lacks : (n target : ℕ) (o : Option Record) → LacksLine look n o target
      → (r : Record) × (o ≡ Some r) × (is_among target (links r) ≡ true) × (has_link target n ls ≡ false)
  lacks n target None none = absurd none
  lacks n target (Some r) none = (r, refl, sym (lines_tell r target) ∙ none.0, sym (is target n) ∙ none.1)

  -- what was found of the keys, of pairs that are those of the rows
  pub first_found : {E : Type 0} (c : Content) (ns : List ℕ) (result : Result (Option (ℕ × ℕ)) E) → ns ≡ keys c.records
      → IfOk result (λ o. MatchOption o (EachOf (λ n. IsLinked look n (get c.records n)) ns)
      (λ pair. LacksLine look pair.0 (get c.records pair.0) pair.1))
      → IfOk result (λ o. MatchOption o (HaveLinks ls c) (λ pair. LacksLink c ls pair.0 pair.1))
  first_found c ns (Ok None) are each =
      all_linked c (subst (EachOf (λ n. IsLinked look n (get c.records n))) are each)
  first_found c ns (Ok (Some pair)) are none = lacks pair.0 pair.1 (get c.records pair.0) none
  first_found c ns (Err e) are h = tt

-- a line that has no link names a number, and so do all lines
pub one_unlinked : (look : ℕ × ℕ → Bool) (n : ℕ) (ls : List (ℕ × Label)) (i : ℕ) (l : ℕ × Label) → i < length ls
    → l ≡ get_or ls i l → is_line_linked look n l.1.target ≡ false
    → MatchOption l.1.target (AreLinesLinked look n ls) (NamesUnlinked look n ls)
one_unlinked look n ls i l low at = go l.1.target refl
  where
    go : (o : Option ℕ) → l.1.target ≡ o → is_line_linked look n o ≡ false
        → MatchOption o (AreLinesLinked look n ls) (NamesUnlinked look n ls)
    go None e off = absurd cc
    go (Some t) e off = (
      list_any_at (λ (x : ℕ × Label). is_target t x.1.target) ls i l low
          (subst (λ (x : ℕ × Label). is_target t x.1.target ≡ true) at (ap (is_target t) e ∙ same_self t)),
      off,
    )
