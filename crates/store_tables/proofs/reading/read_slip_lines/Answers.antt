use Rattle.std.proofs.Common.{◌≡◌, Bool, false, [], sym, subst}
use Rattle.sqlite.specs.Held.{state}
use Rattle.store_tables.specs.Reading.{IsU32, IsTypedLine, read_slip_line}
use Rattle.store_tables.specs.Rows.{SlipLineRow}
use Rattle.store_tables.specs.Shown.{shown_slip_line}
use Rattle.store_tables.specs.Showing.{ShowsSides, ShowsSlipLine}
use Rattle.store_tables.proofs.Calls.{if_ok}
use Rattle.store_tables.proofs.ReadingRows.{looks_all, looks_where}
use Rattle.store_tables.proofs.Showing.{shows_each}
use Rattle.store_tables.proofs.SideQueries.{reads_slip_lines}
use Rattle.store_tables.proofs.SideRows.{lines_read, no_packs}
use Rattle.store_tables.proofs.Texts.{select_slip_lines, select_slip_lines_plain}
use Rattle.store_tables.proofs.reading.read_slip_lines.Goals as goal

pub read_all-requires-clause-plain : goal.read_all-requires-clause-plain
read_all-requires-clause-plain g c = select_slip_lines_plain

pub returns-clause-looks : goal.returns-clause-looks
returns-clause-looks g c =
    let old = state g.S.Store c.args.conn.now in
    let new = state g.S.Store c.read_all.new.conn in
    let did = c.read_all.ensures in
    looks_where c.read_all.result
    (λ rows was items is. lines_read rows items.items
    (no_packs rows old.now.trees (c.requires.first rows.has_spans was.schema) was.good.holds) is)
    (looks_all shown_slip_line read_slip_line ShowsSlipLine
    (λ (s : SlipLineRow). IsU32 s.slip × IsU32 s.no × IsTypedLine s.line) (λ items. items.items) select_slip_lines []
    old new c.read_all.result (λ rows. rows.slip_lines)
    (λ rows was all shown. reads_slip_lines old new all rows (c.requires.first rows.has_spans was.schema) was shown)
    (λ rows t. t.slip_lines) did.read did.refused did.same did.crash did.clean)

pub returns-clause-shown : goal.returns-clause-shown
returns-clause-shown g c clean has_spans has =
    let old = state g.S.Store c.args.conn.now in
    let new = state g.S.Store c.read_all.new.conn in
    let first : has_spans ≡ false = c.requires.first has_spans has in
    if_ok c.read_all.result
    (λ items shown. subst (λ (b : Bool). ShowsSides b items.items old new) (sym first)
    (shows_each shown_slip_line read_slip_line ShowsSlipLine select_slip_lines old new items.items shown))
    (c.read_all.ensures.read clean)
