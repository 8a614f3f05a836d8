-- Queries of the tables that the second schema has beside the first one: under the first one they are not understood.
use Rattle.std.proofs.Common.{
  ◌≡◌,
  inl,
  inr,
  ℕ,
  Bool,
  true,
  false,
  List,
  Result,
  Ok,
  Err,
  IsTrue,
  refl,
  sym,
  ap,
  subst,
  ◌∙◌,
}
use Rattle.sqlite.specs.Order.{Row}
use Rattle.sqlite.specs.Tree.{Trees}
use Rattle.sqlite.specs.Listing.{understood}
use Rattle.sqlite.specs.State.{State, HasCleanDisk, CommitsShowing, Shown, Survives}
use Rattle.sqlite.proofs.Callers.{IsPlain, never_commits}
use Rattle.sqlite_resolve.specs.declared.compiled.Compiled.{Compiled}
use Rattle.sqlite_resolve.specs.declared.error.CompileError.{CompileError}
use Rattle.store_tables.specs.Calls.{Settled, LeavesOnly}
use Rattle.store_tables.specs.Prepared.{IsOfSecond}
use Rattle.store_tables.specs.Rows.{Rows}
use Rattle.store_tables.specs.Schema.{archive_schema}
use Rattle.store_tables.proofs.Queries.{only_committed, still_settled, unchanged_by}

no_text : {c : Compiled} {e : CompileError} → ◌≡◌ {A = Result Compiled CompileError} (Ok c) (Err e) → ⊥
no_text e = cc

module _ (sql : List ℕ) (params : Row) (of : IsOfSecond sql) where
  none_shown : (old new : State) (all : List Row) → old.now.schema ≡ archive_schema false
      → ¬ (Shown sql params old new all)
  unfolding Shown
  none_shown old new all has h = no_text (sym h.1.is ∙ ap (λ s. understood s sql) has ∙ of.1)

  no_commit : (s : State) (db : Trees) (b : Bool) → s.now.schema ≡ archive_schema b
      → ¬ (CommitsShowing sql params s db)
  unfolding CommitsShowing
  no_commit s db false has h = no_text (sym h.1.is ∙ ap (λ r. understood r sql) has ∙ of.1)
  no_commit s db true has h = never_commits sql params s db (subst (λ r. IsPlain (understood r sql)) (sym has) of.0) h

  -- what a crash may leave after the query
  pub leaves_later : (old new : State)
      → (IsTrue old.is_open → (t : Trees) → old.may_leave t → t ≡ old.committed.trees)
      → Survives old new (CommitsShowing sql params old) → HasCleanDisk new → (rows : Rows) → Settled old rows
      → LeavesOnly new rows
  leaves_later old new law survives clean rows was t leaves = elim (survives.crash clean t leaves) [
    | inl before ↦ only_committed old rows t was (law was.is_open t before)
    | inr commits ↦ absurd (no_commit old t rows.has_spans was.schema commits)
  ]

  -- what it shows is known where there is the table
  pub where_second : {P : Type 0} (b : Bool) (old new : State) (all : List Row) → old.now.schema ≡ archive_schema b
      → Shown sql params old new all → (b ≡ true → P) → P
  where_second false old new all has h told = absurd (none_shown old new all has h)
  where_second true old new all has h told = told refl

  pub settled_later : (b : Bool) (old new : State) (all : List Row) (rows : Rows) → old.now.schema ≡ archive_schema b
      → Settled old rows → Shown sql params old new all → Settled new rows
  settled_later false old new all rows has was h = absurd (none_shown old new all has h)
  settled_later true old new all rows has was h =
      still_settled old new rows (unchanged_by sql params old new all
      (subst (λ s. IsPlain (understood s sql)) (sym has) of.0) h) was
