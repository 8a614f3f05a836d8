use Rattle.std.proofs.Common.{inl}
use Rattle.archive_tables.proofs.making.enter_tried.Goals as goal

pub returns-in-Ok : goal.returns-in-Ok
returns-in-Ok g c = inl (c.make_places.new.archive, c.in-Ok.ensures, c.enter_page.ensures)
