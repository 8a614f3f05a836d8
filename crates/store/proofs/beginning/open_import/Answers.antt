use Rattle.store.proofs.Imports.{memory_of}
use Rattle.store.proofs.beginning.open_import.Goals as goal

pub returns-in-Err-clause-refused : goal.returns-in-Err-clause-refused
returns-in-Err-clause-refused g c clean sure rows was =
    let want = memory_of c.in-Err.kind (c.in-Err.ensures.refused clean rows was) sure in
    (want, c.in-Err.ensures.undone clean want rows was)
