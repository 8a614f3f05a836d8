use Rattle.sqlite.specs.Held.{state}
use Rattle.table_looks.proofs.Judged.{read_judges, read_tells, unread_judges}
use Rattle.table_looks.proofs.reading.judge_tables.Goals as goal

pub returns-in-Ok-clause-judged : goal.returns-in-Ok-clause-judged
returns-in-Ok-clause-judged g c clean =
    read_judges (state g.S.Store c.args.conn.now) c.in-Ok.held c.in-Ok.beside (c.in-Ok.ensures.read clean)
    c.judge.result (c.in-Ok.ensures.shown clean) c.judge.ensures.good c.judge.ensures.bad

pub returns-in-Ok-clause-told : goal.returns-in-Ok-clause-told
returns-in-Ok-clause-told g c clean =
    read_tells (state g.S.Store c.args.conn.now) c.in-Ok.held c.in-Ok.beside (c.in-Ok.ensures.read clean)
    c.judge.result c.judge.ensures.told

pub returns-in-Err-clause-judged : goal.returns-in-Err-clause-judged
returns-in-Err-clause-judged g c clean =
    unread_judges (state g.S.Store c.args.conn.now) c.in-Err.kind (c.in-Err.ensures.refused clean)
