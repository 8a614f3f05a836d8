use Rattle.std.proofs.Common.{◌≡◌, ◌∙◌, false, sym}
use Rattle.sqlite.specs.Held.{state}
use Rattle.store.specs.Histories.{is_storage}
use Rattle.archive_output.proofs.Asked.{failure_as, read_as, unread_as}
use Rattle.archive_output.proofs.Calls.{reads_any}
use Rattle.archive_output.proofs.reading.society_of.Goals as goal

pub returns-in-Ok-clause-named : goal.returns-in-Ok-clause-named
returns-in-Ok-clause-named g c =
    read_as (λ society _ text. text ≡ society) (state g.S.Store c.args.archive.now.conn)
    (state g.S.Store c.society.new.self.conn) (λ society _. c.in-Ok.society ≡ society) c.in-Ok.society
    (λ _ _ _ is. is) (λ clean. c.in-Ok.ensures.reads clean c.requires.kept)

pub returns-in-Err-clause-unnamed : goal.returns-in-Err-clause-unnamed
returns-in-Err-clause-unnamed g c =
    unread_as (λ society _ text. text ≡ society) (state g.S.Store c.args.archive.now.conn)
    (state g.S.Store c.society.new.self.conn) c.in-Err.kind c.read_refusal.result c.read_refusal.ensures.same
    (λ clean. c.in-Err.ensures.reads clean c.requires.kept)

pub returns-in-Err-clause-lost : goal.returns-in-Err-clause-lost
returns-in-Err-clause-lost g c = c.in-Err.ensures.lost c.requires.kept ∙ sym c.read_refusal.ensures.lost

pub returns-in-Err-clause-unread : goal.returns-in-Err-clause-unread
returns-in-Err-clause-unread g c clean rows was =
    failure_as c.in-Err.kind c.read_refusal.result c.read_refusal.ensures.same
    (c.in-Err.ensures.unread clean c.requires.kept rows was)

pub returns-in-Ok-clause-reads : goal.returns-in-Ok-clause-reads
returns-in-Ok-clause-reads g c =
    reads_any g.S.Store c.args.archive.now c.society.new.self false (c.in-Ok.ensures.lost c.requires.kept)
    c.in-Ok.ensures.called c.in-Ok.ensures.open (λ clean. (c.in-Ok.ensures.reads clean c.requires.kept).stays)

pub returns-in-Err-clause-reads : goal.returns-in-Err-clause-reads
returns-in-Err-clause-reads g c =
    reads_any g.S.Store c.args.archive.now c.society.new.self (is_storage c.in-Err.kind)
    (c.in-Err.ensures.lost c.requires.kept) c.in-Err.ensures.called c.in-Err.ensures.open
    (λ clean. (c.in-Err.ensures.reads clean c.requires.kept).stays)
