use Rattle.std.proofs.Common.{◌∙◌, ap₂, false, true, List, ℕ}
use Rattle.sqlite_wal.specs.Recovery.{Image}
use Rattle.archive_files.proofs.Fresh.{if_some, left_is, seen_is}
use Rattle.archive_files.proofs.database_opening.tried.Goals as goal

abbrev image : List ℕ → List ℕ → Image
image log db = record { log = log; db = db }

pub returns-in-Ok-clause-opened : goal.returns-in-Ok-clause-opened
returns-in-Ok-clause-opened g c = λ clean. (c.in-Ok.ensures.opened clean, c.in-Ok.ensures.found clean)

pub returns-in-Err-clause-unopened : goal.returns-in-Err-clause-unopened
returns-in-Err-clause-unopened g c = if_some c.in-Err.left (λ left was.
    let start = g.S.Start in
    let log = was.1 in
    let db = was.2 in (
      was.0,
      record {
        seen = ap₂ image (seen_is start.log start.db _ true _ _ log.0 log.1)
            (seen_is start.log start.db _ false _ _ db.0 db.1);
        kept = λ after may.
            ap₂ image (left_is start.is_mixing start.log start.db _ true _ _ log.0 log.1 after.log may.0)
            (left_is start.is_mixing start.log start.db _ false _ _ db.0 db.1 after.db may.1);
      },
      λ clean. (was.3 clean).1,
    )) c.in-Err.ensures.cause
