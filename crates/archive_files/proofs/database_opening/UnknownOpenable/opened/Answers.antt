use Rattle.archive_files.proofs.database_opening.UnknownOpenable.opened.Goals as goal

pub returns-in-Err-clause-unopened : goal.returns-in-Err-clause-unopened
returns-in-Err-clause-unopened c = c.left_of.ensures _ c.in-Err.ensures.unopened
