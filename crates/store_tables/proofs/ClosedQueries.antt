-- What the query of the lines of a number answers that has a row of a closed batch.
use Rattle.std.proofs.Common.{
  ◌≡◌,
  ℕ,
  pos,
  ◌==◌,
  ◌&&◌,
  ◌||◌,
  Bool,
  true,
  false,
  not,
  cond,
  List,
  [],
  ◌∷◌,
  ◌++◌,
  append-nil,
  map,
  filter,
  length,
  ◌≤◌,
  Some,
  refl,
  sym,
  ap,
  ap₂,
  subst,
  ◌∙◌,
  arith,
}
use Rattle.std.specs.List.{AllByRecursion, flat_map, list_all, list_any}
use Rattle.std.specs.Prelude.{Option, None}
use Rattle.std.specs.List.Sorted.{IsPermutation}
use Rattle.std.proofs.lemmas.List.{length-map, map-append}
use Rattle.std.proofs.lemmas.List.Sorted.{length_permutation}
use Rattle.sqlite.specs.declared.types.Value.TheVariants.{Null, Int}
use Rattle.sqlite.specs.Order.{Row, value_cmp}
use Rattle.std.specs.Ordering.{is_eq}
use Rattle.sqlite.specs.Ops.{is_true, from_truth, binary}
use Rattle.sqlite.specs.Program.{overlay}
use Rattle.sqlite.specs.State.{State, Shown}
use Rattle.sqlite.specs.Term.{Env, eval_all, holds}
use Rattle.sqlite.specs.Tree.{Trees}
use Rattle.sqlite.proofs.Callers.{one_permutation, reads_as}
use Rattle.stored_lines.specs.Line.{Label}
use Rattle.list_laws.proofs.Lists.{any_kept}
use Rattle.store_tables.specs.Calls.{Settled}
use Rattle.store_tables.specs.Keyed.{AreClosedLines, IsOnly, closed_packs_at, is_closed_at, is_of_closed}
use Rattle.store_tables.specs.Reading.{AreTyped, IsTypedPack, read_pack}
use Rattle.store_tables.specs.Rows.{
  Holds,
  Rows,
  BatchRow,
  PackRow,
  RecordRow,
  batch_values,
  flag,
  pack_values,
  record_values,
}
use Rattle.store_tables.specs.Schema.{archive_schema}
use Rattle.store_tables.specs.Shown.{shown_pack}
use Rattle.store_tables.proofs.Coded.{kept_by, same_int}
use Rattle.store_tables.proofs.Finding.{joined_answers}
use Rattle.store_tables.proofs.KeyedQueries.{one_at_most}
use Rattle.store_tables.proofs.LaterStatements.{kept_of}
use Rattle.store_tables.proofs.Packing.{only_lines}
use Rattle.store_tables.proofs.PackTexts.{
  closed_from,
  closed_pack_at,
  closed_pack_at_is,
  closed_pack_at_plain,
  closed_pack_at_unlisted,
  closed_shown,
  closed_tests,
}
use Rattle.store_tables.proofs.Statements.{truth_of}

-- ---- lists of at most one
none_of : {X : Type 0} (ys : List X) → length ys ≡ 0 → ys ≡ []
none_of [] e = refl
none_of (y ∷ ys) e = absurd (omega (arith, e))

few_moved : {X : Type 0} (xs ys : List X) → length xs ≤ 1 → IsPermutation xs ys → ys ≡ xs
few_moved [] ys few p = none_of ys (length_permutation [] ys p)
few_moved (x ∷ []) ys few p = one_permutation x ys p
few_moved (x ∷ z ∷ xs) ys few p = absurd (omega (arith, few))

module _ {X Y : Type 0} (ys : List Y) where
  each_once : (q : X → Bool) (xs : List X) → length xs ≤ 1 → flat_map (λ x. cond (q x) ys []) xs
      ≡ cond (list_any q xs) ys []
  each_once q [] few = refl
  each_once q (x ∷ []) few =
      elim (q x) as (λ b. cond b ys [] ++ [] ≡ cond (b || false) ys []) [
        | true ↦ append-nil ys
        | false ↦ refl
      ]
  each_once q (x ∷ z ∷ xs) few = absurd (omega (arith, few))

  only_kept : (p q : X → Bool) (xs : List X) → flat_map (λ x. cond (p x && q x) ys []) xs
      ≡ flat_map (λ x. cond (q x) ys []) (filter p xs)
  only_kept p q [] = refl
  only_kept p q (x ∷ xs) =
      elim (p x) as (λ b. cond (b && q x) ys [] ++ flat_map (λ x. cond (p x && q x) ys []) xs
      ≡ flat_map (λ x. cond (q x) ys []) (cond b (x ∷ filter p xs) (filter p xs))) [
        | true ↦ ap (λ zs. cond (q x) ys [] ++ zs) (only_kept p q xs)
        | false ↦ only_kept p q xs
      ]

  -- what is the same for all comes once if at most one passes the first test
  once : (p q : X → Bool) (xs : List X) → length (filter p xs) ≤ 1 → flat_map (λ x. cond (p x && q x) ys []) xs
      ≡ cond (list_any (λ x. p x && q x) xs) ys []
  once p q xs few = only_kept p q xs ∙ each_once q (filter p xs) few ∙ ap (λ b. cond b ys []) (sym (any_kept p q xs))

-- what a map makes of the lists of all items
map_flat : {A B C D : Type 0} (f : C → D) (enc : A → B) (g : B → List C) (h : A → List D)
    → ((a : A) → map f (g (enc a)) ≡ h a) → (xs : List A) → map f (flat_map g (map enc xs)) ≡ flat_map h xs
map_flat f enc g h e [] = refl
map_flat f enc g h e (x ∷ xs) =
    map-append f (g (enc x)) (flat_map g (map enc xs)) ∙ ap₂ (λ us vs. us ++ vs) (e x) (map_flat f enc g h e xs)

none_from : {X Y : Type 0} (none : List Y) → none ≡ [] → (xs : List X) → flat_map (λ (_ : X). none) xs ≡ []
none_from none e [] = refl
none_from none e (x ∷ xs) = ap₂ (λ us vs. us ++ vs) e (none_from none e xs)

kept_from : {X Y : Type 0} (shown : X → Y) (p : X → Bool) (xs : List X)
    → flat_map (λ x. cond (p x) (shown x ∷ []) []) xs ≡ map shown (filter p xs)
kept_from shown p [] = refl
kept_from shown p (x ∷ xs) =
    elim (p x) as (λ b. cond b (shown x ∷ []) [] ++ flat_map (λ y. cond (p y) (shown y ∷ []) []) xs
    ≡ map shown (cond b (x ∷ filter p xs) (filter p xs))) [
      | true ↦ ap (λ zs. shown x ∷ zs) (kept_from shown p xs)
      | false ↦ kept_from shown p xs
    ]

kept_where : {X Y : Type 0} (shown : X → Y) (p : X → Bool) (c : Bool) (xs : List X)
    → flat_map (λ x. cond (c && p x) (shown x ∷ []) []) xs ≡ cond c (map shown (filter p xs)) []
kept_where shown p true xs = kept_from shown p xs
kept_where shown p false xs = none_from [] refl xs

once_where : {X Y : Type 0} (ys : List Y) (c : Bool) (p q : X → Bool) (xs : List X) → length (filter p xs) ≤ 1
    → flat_map (λ x. cond (c && (p x && q x)) ys []) xs ≡ cond (c && list_any (λ x. p x && q x) xs) ys []
once_where ys true p q xs few = once ys p q xs few
once_where ys false p q xs few = none_from [] refl xs

-- ---- what the tests say
tested : (a b : Bool) → a ≡ b → is_true (from_truth (Some a)) ≡ b
tested a true e = ap (λ x. is_true (from_truth (Some x))) e
tested a false e = ap (λ x. is_true (from_truth (Some x))) e

shut : (is_open : Bool) → is_eq (value_cmp (Int (pos (flag is_open))) (Int (pos 0))) ≡ not is_open
shut true = same_int 1 0
shut false = same_int 0 0

regrouped : (a b c d : Bool) → (a && (b && (c && d))) ≡ ((a && (b && c)) && d)
regrouped true true c d = refl
regrouped true false c d = refl
regrouped false b c d = refl

passes : (n : ℕ) (r : RecordRow) (b : BatchRow) (p : PackRow)
    → list_all (holds ((Int (pos n) ∷ []) ∷ record_values r ∷ batch_values b ∷ pack_values p ∷ [])) closed_tests
    ≡ (((r.no == n) && ((b.no == r.batch) && not b.is_open)) && (p.no == n))
unfolding binary
passes n r b p =
    ap₂ (λ u v. u && v) (tested _ _ (same_int r.no n))
    (ap₂ (λ u v. u && v) (tested _ _ (same_int b.no r.batch))
    (ap₂ (λ u v. u && v) (tested _ _ (shut b.is_open))
    (ap (λ t. is_true (from_truth (Some t)) && true) (same_int p.no n) ∙ truth_of (p.no == n))))
    ∙ regrouped (r.no == n) (b.no == r.batch) (not b.is_open) (p.no == n)

-- ---- the query
shown_if : (n : ℕ) (r : RecordRow) (b : BatchRow) (p : PackRow) (test : Bool)
    → map (eval_all closed_shown)
    (cond test (((Int (pos n) ∷ []) ∷ record_values r ∷ batch_values b ∷ pack_values p ∷ []) ∷ []) [])
    ≡ cond test (shown_pack p ∷ []) []
shown_if n r b p true = refl
shown_if n r b p false = refl

few_if : {X : Type 0} (c : Bool) (xs : List X) → length xs ≤ 1 → length (cond c xs []) ≤ 1
few_if true xs few = few
few_if false xs few = omega arith

mapped_if : {X Y : Type 0} (f : X → Y) (c : Bool) (xs : List X) → cond c (map f xs) [] ≡ map f (cond c xs [])
mapped_if f true xs = refl
mapped_if f false xs = refl

-- each way to fill the places of FROM that passes the tests
abbrev ways : Row → List Row → List Row → List Row → List Env
ways params rs bs ps = flat_map (λ r. flat_map (λ b. flat_map (λ p.
    cond (list_all (holds (params ∷ r ∷ b ∷ p ∷ [])) closed_tests) ((params ∷ r ∷ b ∷ p ∷ []) ∷ []) []) ps) bs) rs

module _ (n : ℕ) (rs : List RecordRow) (bs : List BatchRow) (ps : List PackRow)
    (one_record : length (filter (λ (r : RecordRow). r.no == n) rs) ≤ 1)
    (one_batch : (m : ℕ) → length (filter (λ (b : BatchRow). b.no == m) bs) ≤ 1) where
  abbrev kept : List PackRow
  kept = filter (λ (p : PackRow). p.no == n) ps

  abbrev all_shown : List Row
  all_shown = map shown_pack kept

  of_packs : (r : RecordRow) (b : BatchRow)
      → map (eval_all closed_shown) (flat_map (λ p. cond (list_all (holds ((Int (pos n) ∷ []) ∷ record_values r
      ∷ batch_values b ∷ p ∷ [])) closed_tests) (((Int (pos n) ∷ []) ∷ record_values r ∷ batch_values b ∷ p ∷ []) ∷ [])
      []) (map pack_values ps))
      ≡ cond ((r.no == n) && ((b.no == r.batch) && not b.is_open)) all_shown []
  of_packs r b =
      let test = (r.no == n) && ((b.no == r.batch) && not b.is_open) in
      map_flat (eval_all closed_shown) pack_values _ (λ p. cond (test && (p.no == n)) (shown_pack p ∷ []) [])
      (λ p. ap (λ t. map (eval_all closed_shown) (cond t (((Int (pos n) ∷ []) ∷ record_values r ∷ batch_values b
      ∷ pack_values p ∷ []) ∷ []) [])) (passes n r b p) ∙ shown_if n r b p (test && (p.no == n))) ps
      ∙ kept_where shown_pack (λ (p : PackRow). p.no == n) test ps

  of_batches : (r : RecordRow) → map (eval_all closed_shown)
      (flat_map (λ b. flat_map (λ p. cond (list_all (holds ((Int (pos n) ∷ []) ∷ record_values r ∷ b ∷ p ∷ []))
      closed_tests) (((Int (pos n) ∷ []) ∷ record_values r ∷ b ∷ p ∷ []) ∷ []) []) (map pack_values ps))
      (map batch_values bs)) ≡ cond ((r.no == n) && is_closed_at r.batch bs) all_shown []
  of_batches r =
      map_flat (eval_all closed_shown) batch_values _
      (λ b. cond ((r.no == n) && ((b.no == r.batch) && not b.is_open)) all_shown []) (of_packs r) bs
      ∙ once_where all_shown (r.no == n) (λ (b : BatchRow). b.no == r.batch) (λ b. not b.is_open) bs
      (one_batch r.batch)

  ways_shown : map (eval_all closed_shown)
      (ways (Int (pos n) ∷ []) (map record_values rs) (map batch_values bs) (map pack_values ps))
      ≡ map shown_pack (cond (list_any (λ (r : RecordRow). (r.no == n) && is_closed_at r.batch bs) rs) kept [])
  ways_shown =
      map_flat (eval_all closed_shown) record_values _ (λ r. cond ((r.no == n) && is_closed_at r.batch bs) all_shown [])
      of_batches rs
      ∙ once all_shown (λ (r : RecordRow). r.no == n) (λ r. is_closed_at r.batch bs) rs one_record
      ∙ mapped_if shown_pack (list_any (λ (r : RecordRow). (r.no == n) && is_closed_at r.batch bs) rs) kept

pub closed_few : (n : ℕ) (rows : Rows) (old : Trees) → rows.has_spans ≡ true → Holds rows old
    → length (closed_packs_at n rows) ≤ 1
closed_few n rows t second was = few_if (is_of_closed n rows) (filter (λ (p : PackRow). p.no == n) rows.packs)
    (one_at_most (λ (p : PackRow). p.no) n rows.packs (kept_of rows t second was).packs_kept.rise)

pub reads_closed_pack : (old new : State) (n : ℕ) (all : List Row) (rows : Rows) → rows.has_spans ≡ true
    → Settled old rows → Shown closed_pack_at (Int (pos n) ∷ []) old new all
    → all ≡ map shown_pack (closed_packs_at n rows)
reads_closed_pack old new n all rows second was h =
    let params = Int (pos n) ∷ [] in
    let has = was.schema ∙ ap archive_schema second in
    let reads = reads_as closed_pack_at params old new (archive_schema true) has _ closed_pack_at_is
    (closed_pack_at_plain true) closed_pack_at_unlisted all h in
    let db = overlay old.now.trees [] in
    let holds = was.good.holds in
    let packs = (kept_of rows old.now.trees second holds).packs_kept in
    let moved = joined_answers closed_from closed_tests closed_shown db params all (reads.answer Null) in
    let given : ways params (db 2) (db 1) (db 11)
    ≡ ways params (map record_values rows.records) (map batch_values rows.batches) (map pack_values rows.packs) =
    ap (λ rs. ways params rs (db 1) (db 11)) holds.records.is
    ∙ ap (λ bs. ways params (map record_values rows.records) bs (db 11)) holds.batches.is
    ∙ ap (ways params (map record_values rows.records) (map batch_values rows.batches)) packs.is in
    let same = ap (map (eval_all closed_shown)) given
    ∙ ways_shown n rows.records rows.batches rows.packs
    (one_at_most (λ (r : RecordRow). r.no) n rows.records holds.records.rise)
    (λ m. one_at_most (λ (b : BatchRow). b.no) m rows.batches holds.batches.rise) in
    few_moved (map shown_pack (closed_packs_at n rows)) all
    (subst (λ k. k ≤ 1) (sym (length-map (closed_packs_at n rows) shown_pack))
    (closed_few n rows old.now.trees second holds))
    (subst (λ k. IsPermutation k all) same moved)

pub closed_typed : (n : ℕ) (rows : Rows) → AreTyped rows → AllByRecursion IsTypedPack (closed_packs_at n rows)
closed_typed n rows t = typed_if (is_of_closed n rows) (kept_by _ _ rows.packs t.packs)
  where
    typed_if : (c : Bool) → AllByRecursion IsTypedPack (filter (λ (p : PackRow). p.no == n) rows.packs)
        → AllByRecursion IsTypedPack (cond c (filter (λ (p : PackRow). p.no == n) rows.packs) [])
    typed_if true h = h
    typed_if false h = tt

-- ---- the lines
lines_if : (n : ℕ) (rows : Rows) (closed : Bool) (found : Option (ℕ × List (ℕ × Label))) → is_of_closed n rows ≡ closed
    → rows.lines ≡ [] → IsOnly (map read_pack (cond closed (filter (λ (p : PackRow). p.no == n) rows.packs) [])) found
    → AreClosedLines n rows found
lines_if n rows true None is none only = λ _. sym (only_lines n rows None none only)
lines_if n rows true (Some p) is none only = (is, only_lines n rows (Some p) none only)
lines_if n rows false None is none only = λ closed. absurd cc
lines_if n rows false (Some p) is none only = absurd cc

pub closed_lines : (n : ℕ) (rows : Rows) (found : Option (ℕ × List (ℕ × Label))) → rows.lines ≡ []
    → IsOnly (map read_pack (closed_packs_at n rows)) found → AreClosedLines n rows found
closed_lines n rows found none only = lines_if n rows (is_of_closed n rows) found refl none only
