use Rattle.std.proofs.Common.{◌∙◌}
use Rattle.sqlite.specs.Held.{state}
use Rattle.store_tables.proofs.BatchQueries.{reads_own_lines}
use Rattle.store_tables.proofs.BatchTexts.{own_lines_plain}
use Rattle.store_tables.proofs.batches.count_lines.Goals as goal

pub ask-requires-clause-plain : goal.ask-requires-clause-plain
ask-requires-clause-plain g c = own_lines_plain

pub returns-in-Ok-clause-looks : goal.returns-in-Ok-clause-looks
returns-in-Ok-clause-looks g c =
    let old = state g.S.Store c.args.conn.now in
    let new = state g.S.Store c.ask.new.conn in
    let did = c.in-Ok.ensures in
    let shown = rw (c.params-to_sql.ensures) at did.shown in
    record {
      read = λ clean rows was. c.len.ensures ∙ c.in-Ok.rows.ok.0
          ∙ reads_own_lines old new c.args.number _ rows was.schema was.good.holds (shown clean);
      same = did.same;
      refused = λ clean. tt;
      crash = did.crash;
      clean = did.clean;
    }
