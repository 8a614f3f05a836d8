use Rattle.sqlite.specs.Held.{state}
use Rattle.archive_core.specs.Machine.{import_of}
use Rattle.store.specs.Calls.{OnArchive}
use Rattle.store.specs.Telling.{TellsDone}
use Rattle.archive_input.proofs.Imported.{all_imported, file_told, none_imported}
use Rattle.archive_input.proofs.importing.import_forest.Goals as goal

pub returns-clause-imported : goal.returns-clause-imported
returns-clause-imported g c = λ file read.
    all_imported _ c.args.token file c.args.archive.now c.import_reported.new.archive c.args.forest read
    c.import_reported.result c.import_reported.ensures.imported

pub returns-clause-refused : goal.returns-clause-refused
returns-clause-refused g c = λ file read.
    none_imported _ c.args.token file c.args.archive.now c.import_reported.new.archive c.args.forest read
    c.import_reported.result c.import_reported.ensures.refused

pub returns-clause-told_done : goal.returns-clause-told_done
returns-clause-told_done g c = λ file read.
    file_told file
    (λ forest. OnArchive (state g.S.Store c.args.archive.now.conn) (λ society content rows.
    TellsDone g.P.Progress.Tells content (import_of c.args.token forest) c.args.progress.now
    c.import_reported.new.progress))
    c.args.forest read c.import_reported.result c.import_reported.ensures.told_done
