use Rattle.std.proofs.Common.{refl}
use Rattle.store.specs.Histories.{has_broken}
use Rattle.store.specs.Standing.{standing}
use Rattle.store.proofs.Called.{read_call, still_call}
use Rattle.store.proofs.archive.Archive.recall.Goals as goal

pub returns-then-self-clause-called : goal.returns-then-self-clause-called
returns-then-self-clause-called g c r = still_call g.S.Store _ _ _ _ _ refl refl refl

pub returns-clause-called : goal.returns-clause-called
returns-clause-called g c r =
    let was = c.args.self.now in
    read_call g.S.Store was.conn c.recall_on-read.new.conn (standing r was.is_lost was.import)
    (standing r c.has_broken-self.result was.import) c.an_import_that_is_begun_is_in_no_view.ensures
    (has_broken c.recall_on-read.result) c.if-self.false refl c.has_broken-self.ensures
    (λ clean. (c.recall_on-read.ensures.recalls clean).stays)
