use Rattle.std.proofs.Common.{inr}
use Rattle.archive_tables.proofs.making.enter_with_places.Goals as goal

pub returns-in-Ok-Ok : goal.returns-in-Ok-Ok
returns-in-Ok-Ok g c = inr (
  c.in-Ok-Ok.entries.items,
  rw c.in-Ok-Ok.field-0-is at c.in-Ok-Ok.ensures,
  c.enter_sourced.ensures,
)
