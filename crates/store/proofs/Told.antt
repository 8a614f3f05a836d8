-- What is reported of an import while its rows are written.
use Rattle.std.proofs.Common.{
  ◌≡◌,
  ◌≢◌,
  ◌∙◌,
  ◌<◌,
  ◌+◌,
  ◌-◌,
  ◌*◌,
  ℕ,
  List,
  [],
  Option,
  None,
  Some,
  ap,
  arith,
  drop,
  inl,
  inr,
  length,
  refl,
  subst,
  suc,
  sym,
}
use Rattle.std.specs.Prelude.{IfSome, MatchOption}
use Rattle.std.proofs.lemmas.List.{length-drop}
use Rattle.sqlite.specs.State.{State}
use Rattle.archive_state.specs.Changes.{Changes}
use Rattle.archive_state.specs.Content.{Content}
use Rattle.archive_core.specs.declared.request.Request.{Request}
use Rattle.receipts.specs.declared.answer.Answer.{Answer}
use Rattle.staged_rows.specs.Staging.{StagedRow, rows_of_import}
use Rattle.store_rows.specs.Spans.{AreDrawn, Drawn}
use Rattle.staging.specs.Counts.{RowCount, TellsAll, TellsSome, TellsStages, a_stage_more, after_stages}
use Rattle.staging.specs.Opened.{Import}
use Rattle.staging.proofs.Stages.{one_stage_more, stages_seen}
use Rattle.import_commits.specs.Commits.{IsWhole}
use Rattle.store.specs.Calls.{OnArchive}
use Rattle.store.specs.Importing.{HasAnswered, HasBegun}
use Rattle.store.specs.Telling.{TellsDone, TellsImport}
use Rattle.store.proofs.Steps.{some_long}

-- an import that is begun is whole
pub whole_of : (changes : Changes) (o : Option Import)
    → MatchOption o (changes.kept ≡ None) (λ i. (changes.kept ≢ None) × IsWhole i.batch changes i)
    → IfSome o (λ i. IsWhole i.batch i.changes i)
whole_of changes None whole = tt
whole_of changes (Some i) whole =
    subst (λ x. IsWhole i.batch x i) (sym (ap (λ (j : Import). j.changes) whole.1.2)) whole.1

module _ {P : Type 0} (Tells : P → RowCount → P → Type 0) where
  -- so many rows are there, of which these are left, and it was reported so
  pub record IsTold (all : ℕ) (left : List StagedRow) (rows : RowCount) (old new : P) : Type 0 where
    pub stages : ℕ
    pub each : 256 * stages < all + 256
    pub told : TellsStages Tells all stages old new
    pub count : rows ≡ after_stages all stages
    pub still : length left ≡ all - 256 * stages

  pub none_yet : (i : Import) (rows : RowCount) (old new : P) → IsWhole i.batch i.changes i
      → ((drawn : Drawn) → AreDrawn i.changes.puts drawn
      → rows ≡ after_stages (length (rows_of_import i.batch i.changes.puts drawn)) 0)
      → Tells old rows new → IsTold (length i.left) i.left rows old new
  none_yet i rows old new whole counted told =
      let all : length i.left ≡ length (rows_of_import i.batch i.changes.puts whole.0) = ap
      (λ (j : Import). length j.left) whole.2 in
      let count : rows ≡ after_stages (length i.left) 0 = counted whole.0 whole.1
      ∙ ap (λ n. after_stages n 0) (sym all) in
      record {
        stages = 0;
        each = omega arith;
        told = subst (λ r. Tells old r new) count told;
        count = count;
        still = omega arith;
      }

  pub one_more : (all : ℕ) (left : List StagedRow) (rows next : RowCount) (old mid new : P)
      → IsTold all left rows old mid → left ≢ [] → next ≡ a_stage_more rows → Tells mid next new
      → IsTold all (drop 256 left) next old new
  one_more all left rows next old mid new was some more tells =
      let count : next ≡ after_stages all (suc was.stages) = more ∙ ap a_stage_more was.count
      ∙ one_stage_more all was.stages in
      record {
        stages = suc was.stages;
        each = omega (arith, was.still, some_long left some);
        told = (mid, was.told, subst (λ r. Tells mid r new) count tells);
        count = count;
        still = omega (arith, was.still, length-drop 256 left);
      }

  pub some_told : (all : ℕ) (left : List StagedRow) (rows : RowCount) (old new : P)
      → IsTold all left rows old new → TellsSome Tells all old new
  some_told all left rows old new is = (is.stages, is.each, is.told)

  pub all_told : (all : ℕ) (left : List StagedRow) (rows : RowCount) (old new : P)
      → IsTold all left rows old new → left ≡ [] → TellsAll Tells all old new
  all_told all left rows old new is none =
      let written : length left ≡ 0 = ap length none in
      (is.stages, omega (arith, is.still, written), is.each, is.told)

  -- ---- of an import that was begun, or of none
  pub told_of : (o : Option Import) (old new : P) → IfSome o (λ i. IsWhole i.batch i.changes i)
      → (o ≡ None → new ≡ old)
      → IfSome o (λ i. IsWhole i.batch i.changes i → TellsSome Tells (length i.left) old new)
      → TellsImport Tells old new
  told_of None old new whole silent told = inl (silent refl)
  told_of (Some i) old new whole silent told = inr (length i.left, told whole)

  pub told_done : (before mid : State) (r : Request) (a : Answer) (o : Option Import) (old new : P)
      → IfSome o (λ i. IsWhole i.batch i.changes i)
      → IfSome o (λ i. OnArchive before (λ society c rows. HasBegun society c rows r a i mid))
      → (o ≡ None → OnArchive before (λ society c rows. HasAnswered c rows r a mid))
      → (o ≡ None → new ≡ old)
      → IfSome o (λ i. IsWhole i.batch i.changes i → TellsAll Tells (length i.left) old new)
      → OnArchive before (λ society c rows. TellsDone Tells c r old new)
  told_done before mid r a None old new whole begun answered silent told society c rows was keeps =
      inl ((answered refl society c rows was keeps).2, silent refl)
  told_done before mid r a (Some i) old new whole begun answered silent told society c rows was keeps =
      inr (i, (begun society c rows was keeps).0.2.accepted, whole, told whole)

-- what is reported to one, as another sees it
module _ {P F : Type 0} (b a : P) (Tells : P → RowCount → P → Type 0) (Says : F → RowCount → F → Type 0) (seen : P → F)
    (Still : P → Type 0) (each : (a b : P) (rows : RowCount) → Tells a rows b → Still b
    → Still a × Says (seen a) rows (seen b)) (still : Still b) where
  pub import_seen : TellsImport Tells a b → TellsImport Says (seen a) (seen b)
  import_seen (inl same) = inl (ap seen same)
  import_seen (inr (all, (n, some, told))) =
      inr (all, (n, some, (stages_seen Tells Says seen Still each all n a b told still).1))

  pub done_seen : (c : Content) (r : Request) → TellsDone Tells c r a b → TellsDone Says c r (seen a) (seen b)
  done_seen c r (inl (kept, same)) = inl (kept, ap seen same)
  done_seen c r (inr (i, accepted, whole, (n, enough, some, told))) =
      inr (
        i,
        accepted,
        whole,
        (
          n,
          enough,
          some,
          (stages_seen Tells Says seen Still each (length i.left) n a b told still).1,
        ),
      )
