use Rattle.std.proofs.Common.{ap, ◌∙◌, Ok}
use Rattle.store_tables.proofs.ReadingRows.{looks_with}
use Rattle.store.specs.Adopting.{has_import}
use Rattle.store.proofs.adopting.has_open.Goals as goal

pub returns-in-Ok-clause-looks : goal.returns-in-Ok-clause-looks
returns-in-Ok-clause-looks g c =
    looks_with (Ok c.leaves_import.result) c.in-Ok.ensures.looks
    (λ rows same. c.leaves_import.ensures ∙ ap has_import (c.deref.ensures.value ∙ same)) tt
