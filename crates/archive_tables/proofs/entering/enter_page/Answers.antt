use Rattle.std.proofs.Common.{inl, refl}
use Rattle.archive_tables.proofs.Entered.{page_by}
use Rattle.archive_tables.proofs.entering.enter_page.Goals as goal

pub returns-in-Ok-Ok : goal.returns-in-Ok-Ok
returns-in-Ok-Ok g c =
    page_by g.S.Store c.args.token c.args.source.now c.args.order c.args.bytes.now c.args.archive.now
    c.enter_counted.new.archive c.in-Ok-Ok.entries.items (rw c.in-Ok-Ok.field-0-is at c.in-Ok-Ok.ensures)
    c.enter_counted.result c.enter_counted.ensures

pub returns-in-Err : goal.returns-in-Err
returns-in-Err g c = inl (c.unplaced.ensures, refl)
