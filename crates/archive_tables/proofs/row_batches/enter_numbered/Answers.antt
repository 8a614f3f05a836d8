use Rattle.std.proofs.Common.{inl, inr, refl}
use Rattle.archive_tables.proofs.row_batches.enter_numbered.Goals as goal

pub returns-in-Ok : goal.returns-in-Ok
returns-in-Ok g c = λ read is.
    inl (c.in-Ok.entries, rw c.in-Ok.is at (c.entries.ensures read is), c.perform_batch.ensures)

pub returns-in-Err : goal.returns-in-Err
returns-in-Err g c = λ read is. inr (c.in-Err.refusal, refl, rw c.in-Err.is at (c.entries.ensures read is), refl)
