use Rattle.std.proofs.Common.{inl, inr, refl}
use Rattle.parish.proofs.reporting.take_in_reported.Goals as goal

pub returns-in-Ok : goal.returns-in-Ok
returns-in-Ok g c = inr (c.import_on_file-status.ensures.beside, refl)

pub returns-in-Err : goal.returns-in-Err
returns-in-Err g c = inl (c.cannot_make.ensures, refl, refl, tt, refl)
