use Rattle.std.proofs.Common.{subst, sym}
use Rattle.sqlite.specs.Held.{state}
use Rattle.past_values.specs.Recalling.{AreValuesAt}
use Rattle.past_values.proofs.Made.{looks_both, looks_refused}
use Rattle.past_values.proofs.reading.recall.Goals as goal

pub returns-in-Ok-clause-looks : goal.returns-in-Ok-clause-looks
returns-in-Ok-clause-looks g c =
    looks_both _ _ _ _ (state g.S.Store c.args.conn.now) (state g.S.Store c.past_values.new.conn)
    (state g.S.Store c.with_answers.new.conn) c.in-Ok.values c.with_answers.result
    (λ rows found are is. (subst (λ vs. AreValuesAt c.args.number rows vs.items) (sym is.0) are, is.1))
    c.in-Ok.ensures.looks c.with_answers.ensures.looks

pub returns-in-Err-clause-looks : goal.returns-in-Err-clause-looks
returns-in-Err-clause-looks g c =
    looks_refused _ _ _ _ (state g.S.Store c.args.conn.now) (state g.S.Store c.past_values.new.conn) c.in-Err.kind
    (λ rows all. all) c.in-Err.ensures.looks
