use Rattle.std.proofs.Common.{[]}
use Rattle.sqlite.specs.Held.{state}
use Rattle.store_tables.proofs.Preparing.{prepared, not_prepared}
use Rattle.store_tables.proofs.version.prepare.Goals as goal
use Rattle.store_tables.proofs.version.prepare.Goals.{in-Ok, in-Err}

pub returns-clause-told : goal.returns-clause-told
returns-clause-told g c =
    let old = state g.S.Store c.args.conn.now in
    let new = state g.S.Store c.prepare.new.self in
    elim c.match-prepare.branch [
      | in-Ok w ↦ prepared c.args.sql.now old new w.in-Ok.field-0 c.match-prepare.result _ w.result-is
          (λ clean. (w.in-Ok.ensures.ok clean).1) w.in-Ok.ensures.shape c.prepare.ensures.survives
      | in-Err w ↦ not_prepared c.args.sql.now old new w.in-Err.error c.match-prepare.result w.refusal_of.result
          w.result-is (λ clean. w.in-Err.ensures.err clean []) w.refusal_of.ensures.told w.refusal_of.ensures.known
          c.prepare.ensures.survives
    ]
