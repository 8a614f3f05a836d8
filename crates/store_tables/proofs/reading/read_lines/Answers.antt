use Rattle.std.proofs.Common.{[]}
use Rattle.sqlite.specs.Held.{state}
use Rattle.store_tables.specs.Reading.{IsU32, IsTypedLine, read_line}
use Rattle.store_tables.specs.Rows.{LineRow}
use Rattle.store_tables.specs.Shown.{shown_line}
use Rattle.store_tables.specs.Showing.{ShowsLine}
use Rattle.store_tables.proofs.Calls.{if_ok}
use Rattle.store_tables.proofs.PackQueries.{reads_lines}
use Rattle.store_tables.proofs.PackTexts.{select_lines, select_lines_plain}
use Rattle.store_tables.proofs.ReadingRows.{looks_all}
use Rattle.store_tables.proofs.Showing.{shows_each}
use Rattle.store_tables.proofs.reading.read_lines.Goals as goal

pub read_all-requires-clause-plain : goal.read_all-requires-clause-plain
read_all-requires-clause-plain g c = select_lines_plain

pub returns-clause-looks : goal.returns-clause-looks
returns-clause-looks g c =
    let old = state g.S.Store c.args.conn.now in
    let new = state g.S.Store c.read_all.new.conn in
    let did = c.read_all.ensures in
    looks_all shown_line read_line ShowsLine (λ (l : LineRow). IsU32 l.no × IsTypedLine l.line) (λ items. items.items)
    select_lines [] old new c.read_all.result (λ rows. rows.lines)
    (λ rows was all shown. reads_lines old new all rows (c.requires.first rows.has_spans was.schema) was shown)
    (λ rows t. t.lines) did.read did.refused did.same did.crash did.clean

pub returns-clause-shown : goal.returns-clause-shown
returns-clause-shown g c clean has_spans has =
    if_ok c.read_all.result
    (λ items. shows_each shown_line read_line ShowsLine select_lines (state g.S.Store c.args.conn.now)
    (state g.S.Store c.read_all.new.conn) items.items) (c.read_all.ensures.read clean)
