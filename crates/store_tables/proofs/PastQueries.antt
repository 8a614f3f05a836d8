-- What the query of values of before answers, whoever wrote the rows.
use Rattle.std.proofs.Common.{
  ◌≡◌,
  ◌⊎◌,
  inl,
  inr,
  ℕ,
  ℤ,
  pos,
  ◌&&◌,
  true,
  List,
  [],
  ◌∷◌,
  map,
  Some,
  Result,
  Ok,
  Err,
  IfOk,
  IfErr,
  refl,
  sym,
  ap,
  subst,
  ◌∙◌,
  arith,
  Less,
  Equal,
}
use Rattle.std.specs.Ordering.{int_eq, is_eq, ordering_then}
use Rattle.std.specs.List.{list_all, AllByRecursion}
use Rattle.std.proofs.lemmas.Bool.Decides.{nat_tests}
use Rattle.sqlite.specs.declared.types.Value.TheVariants.{Null, Int}
use Rattle.sqlite.specs.Order.{Row, value_cmp}
use Rattle.sqlite.specs.Ops.{is_true, from_truth, binary}
use Rattle.sqlite.specs.Term.{col, holds}
use Rattle.sqlite.specs.Program.{overlay}
use Rattle.sqlite.specs.Query.{output, output_cmp}
use Rattle.sqlite.specs.State.{State, HasCleanDisk, Shown}
use Rattle.sqlite.proofs.Callers.{reads_as}
use Rattle.sqlite_value.proofs.OrderLemmas.{value_cmp-Int}
use Rattle.record_text.specs.declared.refusal.RefusalKind.{RefusalKind}
use Rattle.record_text.specs.declared.refusal.RefusalKind.TheVariants.{BadStored}
use Rattle.store_tables.specs.Calls.{Settled, LeavesOnly}
use Rattle.store_tables.specs.Conversion.{EachWith, IsReadAs, ShowsTyped}
use Rattle.store_tables.specs.Keyed as keyed
use Rattle.store_tables.specs.Looking.{IsFailure, LooksUnless}
use Rattle.store_tables.specs.Rows.{PastRow, Rows, past_values}
use Rattle.store_tables.specs.Schema.{archive_schema}
use Rattle.store_tables.specs.Shown.{shown_past}
use Rattle.store_tables.proofs.Calls.{if_ok}
use Rattle.store_tables.proofs.Coded.{still_ascends}
use Rattle.store_tables.proofs.Finding.{in_order, simple}
use Rattle.store_tables.proofs.LaterQueries.{where_second}
use Rattle.store_tables.proofs.LaterStatements.{pasts_of}
use Rattle.store_tables.proofs.PastStatements.{below_int}
use Rattle.store_tables.proofs.PastTexts.{
  pasts_at,
  pasts_at_is,
  pasts_at_plain,
  pasts_at_unlisted,
  pasts_of_second,
}
use Rattle.store_tables.proofs.Queries.{ascending_weaker}
use Rattle.store_tables.proofs.ReadingRows.{all_typed, each_is}
use Rattle.store_tables.proofs.Statements.{truth_of}
use Rattle.store_tables.proofs.Texts.{by_key, with_key}

same_number : (m n : ℤ) → is_eq (value_cmp (Int m) (Int n)) ≡ int_eq m n
same_number m n = ap is_eq (value_cmp-Int m n) ∙ grind (arith, nat_tests)

passes_15 : (n : ℕ) (p : PastRow) → list_all (holds ((Int (pos n) ∷ []) ∷ past_values p ∷ [])) (with_key 2)
    ≡ int_eq p.no (pos n)
unfolding binary
passes_15 n p = ap (λ b. is_true (from_truth (Some b)) && true) (same_number p.no (pos n))
    ∙ truth_of (int_eq p.no (pos n))

pub reads_pasts : (old new : State) (n : ℕ) (all : List Row) (rows : Rows) → Settled old rows
    → Shown pasts_at (Int (pos n) ∷ []) old new all → all ≡ map shown_past (keyed.pasts_at n rows)
reads_pasts old new n all rows was h =
    let params : Row = Int (pos n) ∷ [] in
    let project = col 1 0 ∷ col 1 3 ∷ col 1 4 ∷ [] in
    let of_number = λ (p : PastRow). int_eq p.no (pos n) in
    where_second pasts_at params pasts_of_second rows.has_spans old new all was.schema h (λ second.
    let has = was.schema ∙ ap archive_schema second in
    let reads = reads_as pasts_at params old new (archive_schema true) has _ pasts_at_is pasts_at_plain
    pasts_at_unlisted all h in
    let kept = pasts_of rows old.now.trees second was.good.holds in
    let it = simple 15 (with_key 2) project by_key in
    let rise = ascending_weaker _ (λ (p q : PastRow). output_cmp it (output it (params ∷ past_values p ∷ []))
    (output it (params ∷ past_values q ∷ [])) ≡ Less)
    (λ p q low. ap (λ o. ordering_then o Equal) (value_cmp-Int p.id q.id ∙ below_int p.id q.id low))
    (keyed.pasts_at n rows) (still_ascends _ of_number rows.pasts kept.rise) in
    in_order past_values params (with_key 2) of_number (passes_15 n) 15 project by_key (overlay old.now.trees [])
    rows.pasts all kept.is rise (reads.answer Null))

-- ---- rows that are not all such as can be read
module _ {X Y A : Type 0} (shown : X → Row) (read : X → Y) (Shows : Row → Y → Type 0) (IsTyped : X → Type 0)
    (items : A → List Y) (sql : List ℕ) (params : Row) (old new : State) (result : Result A RefusalKind)
    (rows_of : Rows → List X) (shows : (rows : Rows) → Settled old rows → (all : List Row)
    → Shown sql params old new all → all ≡ map shown (rows_of rows)) where
  abbrev Unread : Type 0
  Unread = (all : List Row) × Shown sql params old new all × ¬ (AllByRecursion (ShowsTyped shown IsTyped) all)

  none_read : (rows : Rows) → Settled old rows → Unread → ¬ (AllByRecursion IsTyped (rows_of rows))
  none_read rows settled was typed =
      was.2 (subst (AllByRecursion (ShowsTyped shown IsTyped)) (sym (shows rows settled was.0 was.1))
      (all_typed shown IsTyped (rows_of rows) typed))

  why : (kind : RefusalKind) → IsFailure kind ⊎ (kind ≡ BadStored) → IsFailure kind ⊎ Unread → (rows : Rows)
      → Settled old rows → IsFailure kind ⊎ ((kind ≡ BadStored) × ¬ (AllByRecursion IsTyped (rows_of rows)))
  why kind (inl failed) told rows settled = inl failed
  why kind (inr bad) (inl failed) rows settled = inl failed
  why kind (inr bad) (inr unread) rows settled = inr (bad, none_read rows settled unread)

  both_err : {P Q R : RefusalKind → Type 0} (r : Result A RefusalKind) → ((kind : RefusalKind) → P kind → Q kind
      → R kind) → IfErr r P → IfErr r Q → IfErr r R
  both_err (Ok a) f p q = p
  both_err (Err kind) f p q = f kind p q

  pub looks_unless : (HasCleanDisk new → IfOk result (λ a. (all : List Row) × Shown sql params old new all
      × EachWith (IsReadAs shown read Shows) all (items a)))
      → (HasCleanDisk new → IfErr result (λ kind. IsFailure kind ⊎ Unread))
      → IfErr result (λ kind. IsFailure kind ⊎ (kind ≡ BadStored))
      → (HasCleanDisk new → IfOk result (λ _. (rows : Rows) → Settled old rows → Settled new rows))
      → (HasCleanDisk new → (rows : Rows) → Settled old rows → LeavesOnly new rows)
      → (HasCleanDisk new → HasCleanDisk old)
      → LooksUnless (λ rows a. items a ≡ map read (rows_of rows)) (λ rows. AllByRecursion IsTyped (rows_of rows)) old
      new result
  looks_unless reads refuses named same crash clean = record {
    read = λ is_clean. if_ok result (λ a was rows settled. each_is shown read Shows (rows_of rows) (items a)
        (subst (λ all. EachWith (IsReadAs shown read Shows) all (items a)) (shows rows settled was.0 was.1) was.2))
        (reads is_clean);
    same = same;
    refused = λ is_clean. both_err result why named (refuses is_clean);
    crash = crash;
    clean = clean;
  }
