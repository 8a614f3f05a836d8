use Rattle.std.proofs.Common.{◌∙◌, false, sym, w32}
use Rattle.std.proofs.lemmas.Int.{to_z-of_z}
use Rattle.sqlite.specs.Held.{state}
use Rattle.sqlite.specs.State.{HasCleanDisk}
use Rattle.archive_output.proofs.Asked.{unread_as}
use Rattle.archive_output.proofs.Calls.{reads_any}
use Rattle.archive_output.specs.Reading.{OnOpen}
use Rattle.date_spans.specs.Between.{AreAll, IsBetween}
use Rattle.store.specs.Archives.{HasArchive}
use Rattle.store.specs.Histories.{is_storage}
use Rattle.archive_output.proofs.Finds.{found_as, in_days}
use Rattle.archive_output.proofs.finding.found_in.Goals as goal

pub returns-in-Ok-clause-found : goal.returns-in-Ok-clause-found
returns-in-Ok-clause-found g c =
    let old = state g.S.Store c.args.archive.now.conn in
    let new = state g.S.Store c.between_days.new.self.conn in
    let was = found_as old new c.in-Ok.found
    (λ (clean : HasCleanDisk new). c.in-Ok.ensures.reads clean c.requires.kept) in
    in_days (λ f l. OnOpen old new (λ society of. AreAll (IsBetween of.records f l) c.in-Ok.found.items
    × HasArchive society of new)) _ c.args.first _ c.args.last
    (to_z-of_z w32 c.args.first c.ranges.first) (to_z-of_z w32 c.args.last c.ranges.last) was

pub returns-in-Err-clause-unfound : goal.returns-in-Err-clause-unfound
returns-in-Err-clause-unfound g c =
    unread_as _ (state g.S.Store c.args.archive.now.conn) (state g.S.Store c.between_days.new.self.conn) c.in-Err.kind
    c.read_refusal.result c.read_refusal.ensures.same (λ clean. c.in-Err.ensures.reads clean c.requires.kept)

pub returns-in-Ok-clause-lost : goal.returns-in-Ok-clause-lost
returns-in-Ok-clause-lost g c = c.in-Ok.ensures.lost c.requires.kept

pub returns-in-Ok-clause-reads : goal.returns-in-Ok-clause-reads
returns-in-Ok-clause-reads g c =
    reads_any g.S.Store c.args.archive.now c.between_days.new.self false (c.in-Ok.ensures.lost c.requires.kept)
    c.in-Ok.ensures.called c.in-Ok.ensures.open (λ clean. (c.in-Ok.ensures.reads clean c.requires.kept).stays)

pub returns-in-Err-clause-lost : goal.returns-in-Err-clause-lost
returns-in-Err-clause-lost g c = c.in-Err.ensures.lost c.requires.kept ∙ sym c.read_refusal.ensures.lost

pub returns-in-Err-clause-reads : goal.returns-in-Err-clause-reads
returns-in-Err-clause-reads g c =
    reads_any g.S.Store c.args.archive.now c.between_days.new.self (is_storage c.in-Err.kind)
    (c.in-Err.ensures.lost c.requires.kept) c.in-Err.ensures.called c.in-Err.ensures.open
    (λ clean. (c.in-Err.ensures.reads clean c.requires.kept).stays)
