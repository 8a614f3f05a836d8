use Rattle.archive_tables.proofs.PageLooked.{refused_by}
use Rattle.archive_tables.proofs.looking.settled_looks.Goals as goal

pub returns-in-Err-clause-looked : goal.returns-in-Err-clause-looked
returns-in-Err-clause-looked c = rw c.in-Err.is (λ right sure agrees.
    refused_by c.in-Err.kind c.unbroken.result right c.unbroken.ensures.stops c.unbroken.ensures.same sure agrees)
