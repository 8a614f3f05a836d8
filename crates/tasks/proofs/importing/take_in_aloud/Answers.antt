use Rattle.std.proofs.Common.{◌≡◌, inl, inr, rules, subst, sym}
use Rattle.archive_input.specs.Importing.{TellsImported}
use Rattle.tasks.specs.Counts.{SaysCount}
use Rattle.tasks.proofs.importing.take_in_aloud.Goals as goal

-- it was imported, and no memory was found for a line
pub returns-then-starved-clause-refused : goal.returns-then-starved-clause-refused
returns-then-starved-clause-refused g c = λ file read.
    inr (c.in-Ok.done.0, (c.in-Ok.ensures.imported file read).0, inl c.into.ensures)

pub returns-else-starved-clause-told_done : goal.returns-else-starved-clause-told_done
returns-else-starved-clause-told_done g c = λ file read.
    let same : c.faults-1.given.0 ≡ c.import_aloud-outcome.new.lines.faults.now = search rules in
    subst (TellsImported g.S.Store (SaysCount g.F.Write.contents g.F.Device.failed) c.args.token file
    c.args.archive.now c.import_aloud-outcome.new.archive c.args.faults.now)
    (sym same) (c.in-Ok.ensures.told_done file read c.if-starved.false)
