use Rattle.std.proofs.Common.{ap, refl, subst, sym, true≢false, ◌∙◌, drop, length}
use Rattle.sqlite.specs.Held.{state}
use Rattle.staging.specs.Opened.{Import}
use Rattle.store.proofs.Steps.{fewer_left, goes_on, none_left, stays_then}
use Rattle.store.proofs.Told.{IsTold, all_told, none_yet, one_more, some_told}
use Rattle.store.proofs.staged.stage_all.Goals as goal

pub stages-init : goal.stages-init
stages-init g c = record {
  same = refl;
  ended = c.requires.autocommit;
  clean = λ clean. clean;
  stays = λ clean society content r has. (has, refl);
  told = λ whole. none_yet g.P.Progress.Tells c.args.import.now c.new-rows.result c.args.progress.now
      c.begun.new.self whole c.new-rows.ensures c.begun.ensures;
}

pub stage_on-requires : goal.stage_on-requires
stage_on-requires g c = record { autocommit = c.stages.invariant.ended }

pub stages-preserved : goal.stages-preserved
stages-preserved g c = record {
  same = goes_on c.args.import.now c.stages.import c.stage_on.new.import (drop 256 c.stages.import.left)
      c.stages.invariant.same c.in-Ok.ensures.left;
  ended = c.stage_on.ensures.ended;
  clean = λ clean. c.stages.invariant.clean (c.in-Ok.ensures.clean clean);
  stays = λ clean. stays_then c.args.import.now c.stages.import c.stage_on.new.import
      (state g.S.Store c.args.conn.now) (state g.S.Store c.stages.conn) (state g.S.Store c.stage_on.new.conn)
      (c.stages.invariant.stays (c.in-Ok.ensures.clean clean)) (c.in-Ok.ensures.staged clean);
  told = λ whole. subst (λ left. IsTold g.P.Progress.Tells (length c.args.import.now.left) left c.go_on.new.self
      c.args.progress.now c.staged.new.self) (sym (ap (λ (i : Import). i.left) c.in-Ok.ensures.left))
      (one_more g.P.Progress.Tells (length c.args.import.now.left) c.stages.import.left c.stages.rows c.go_on.new.self
      c.args.progress.now c.stages.progress c.staged.new.self (c.stages.invariant.told whole)
      (λ none. true≢false (sym c.stages-test.true ∙ c.has_more.ensures.1 none)) c.go_on.ensures c.staged.ensures);
}

pub stages-smaller : goal.stages-smaller
stages-smaller g c = fewer_left c.stages.import c.stage_on.new.import
    (λ none. true≢false (sym c.stages-test.true ∙ c.has_more.ensures.1 none)) c.in-Ok.ensures.left

pub returns-in-Err-clause-stays : goal.returns-in-Err-clause-stays
returns-in-Err-clause-stays g c clean sure =
    let stays = c.in-Err.ensures.stays clean sure in (
      stays.0,
      stays_then c.args.import.now c.stages.import c.stage_on.new.import (state g.S.Store c.args.conn.now)
          (state g.S.Store c.stages.conn) (state g.S.Store c.stage_on.new.conn)
          (c.stages.invariant.stays (c.in-Err.ensures.clean clean)) stays.2,
    )

pub returns-in-Err-clause-crash : goal.returns-in-Err-clause-crash
returns-in-Err-clause-crash g c clean society content r has =
    let before = c.in-Err.ensures.clean clean in
    c.in-Err.ensures.crash clean society content r
    (c.stages.invariant.stays before society content r has).0

pub returns-in-Err-clause-clean : goal.returns-in-Err-clause-clean
returns-in-Err-clause-clean g c clean = c.stages.invariant.clean (c.in-Err.ensures.clean clean)

pub returns-clause-left : goal.returns-clause-left
returns-clause-left g c = none_left c.args.import.now c.stages.import c.stages.invariant.same
    (c.has_more.ensures.0 c.stages-test.false)

pub returns-clause-staged : goal.returns-clause-staged
returns-clause-staged g c = c.stages.invariant.stays

pub returns-clause-clean : goal.returns-clause-clean
returns-clause-clean g c = c.stages.invariant.clean

pub returns-clause-ended : goal.returns-clause-ended
returns-clause-ended g c = c.stages.invariant.ended

-- ---- what is known
pub returns-in-Err-clause-told : goal.returns-in-Err-clause-told
returns-in-Err-clause-told g c whole = some_told g.P.Progress.Tells (length c.args.import.now.left)
    c.stages.import.left c.stages.rows c.args.progress.now c.stages.progress (c.stages.invariant.told whole)

pub returns-clause-told : goal.returns-clause-told
returns-clause-told g c whole = some_told g.P.Progress.Tells (length c.args.import.now.left)
    c.stages.import.left c.stages.rows c.args.progress.now c.stages.progress (c.stages.invariant.told whole)

pub returns-clause-told_all : goal.returns-clause-told_all
returns-clause-told_all g c whole = all_told g.P.Progress.Tells (length c.args.import.now.left)
    c.stages.import.left c.stages.rows c.args.progress.now c.stages.progress (c.stages.invariant.told whole)
    (c.has_more.ensures.0 c.stages-test.false)
