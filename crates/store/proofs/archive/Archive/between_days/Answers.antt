use Rattle.std.proofs.Common.{refl, w32}
use Rattle.std.proofs.lemmas.Int.{to_z-of_z}
use Rattle.store.specs.Histories.{has_broken}
use Rattle.store.specs.Standing.{standing}
use Rattle.store.proofs.Called.{read_call, still_call}
use Rattle.store.proofs.Looked.{days_same, reads_as}
use Rattle.store.proofs.archive.Archive.between_days.Goals as goal

pub returns-then-self-clause-called : goal.returns-then-self-clause-called
returns-then-self-clause-called g c r = still_call g.S.Store _ _ _ _ _ refl refl refl

pub returns-clause-called : goal.returns-clause-called
returns-clause-called g c r =
    let was = c.args.self.now in
    read_call g.S.Store was.conn c.between_on-read.new.conn (standing r was.is_lost was.import)
    (standing r c.has_broken-self.result was.import) c.an_import_that_is_begun_is_in_no_view.ensures
    (has_broken c.between_on-read.result) c.if-self.false refl c.has_broken-self.ensures
    (λ clean. (c.between_on-read.ensures.reads clean).stays)

pub returns-clause-reads : goal.returns-clause-reads
returns-clause-reads g c clean lost = reads_as _ _ _ _ c.between_on-read.result
    (λ society content found. days_same content.records found.items _ _ c.args.first c.args.last
    (to_z-of_z w32 c.args.first c.ranges.first) (to_z-of_z w32 c.args.last c.ranges.last))
    (c.between_on-read.ensures.reads clean)
