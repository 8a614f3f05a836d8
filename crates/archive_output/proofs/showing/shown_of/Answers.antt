use Rattle.std.proofs.Common.{◌≡◌, ◌∙◌, false, sym, w32}
use Rattle.std.proofs.lemmas.Int.{to_z-of_z}
use Rattle.sqlite.specs.Held.{state}
use Rattle.store.specs.Histories.{is_storage}
use Rattle.archive_output.proofs.Asked.{unread_as}
use Rattle.archive_output.proofs.Calls.{reads_any}
use Rattle.archive_output.proofs.Masked.{read, shown_as}
use Rattle.archive_output.proofs.Sound.{only_shown, sound_as, sound_fails, unsound_alone, unsound_stops}
use Rattle.archive_output.proofs.showing.shown_of.Goals as goal

pub returns-in-Ok-clause-shown : goal.returns-in-Ok-clause-shown
returns-in-Ok-clause-shown g c =
    shown_as (state g.S.Store c.args.archive.now.conn) (state g.S.Store c.state.new.self.conn)
    c.in-Ok.state (λ clean. c.in-Ok.ensures.reads clean c.requires.kept) _ c.args.today
    (to_z-of_z w32 c.args.today c.ranges.today) c.masked_if_sound.result
    (only_shown c.in-Ok.state _ c.masked_if_sound.result c.masked_if_sound.ensures.shown)

pub returns-in-Ok-clause-unshown : goal.returns-in-Ok-clause-unshown
returns-in-Ok-clause-unshown g c =
    sound_fails (state g.S.Store c.args.archive.now.conn) (state g.S.Store c.state.new.self.conn) c.in-Ok.state
    c.masked_if_sound.result
    (read (state g.S.Store c.args.archive.now.conn) (state g.S.Store c.state.new.self.conn)
    c.in-Ok.state (λ clean. c.in-Ok.ensures.reads clean c.requires.kept)) c.masked_if_sound.ensures.refused

pub returns-in-Ok-clause-stops : goal.returns-in-Ok-clause-stops
returns-in-Ok-clause-stops g c =
    unsound_stops c.in-Ok.state c.masked_if_sound.result c.masked_if_sound.ensures.refused

pub returns-in-Ok-clause-sound : goal.returns-in-Ok-clause-sound
returns-in-Ok-clause-sound g c =
    sound_as (state g.S.Store c.args.archive.now.conn) (state g.S.Store c.state.new.self.conn) c.in-Ok.state
    (λ clean. c.in-Ok.ensures.read clean c.requires.kept) _ c.args.today
    (to_z-of_z w32 c.args.today c.ranges.today) c.masked_if_sound.result
    c.masked_if_sound.ensures.shown

pub returns-in-Err-clause-unshown : goal.returns-in-Err-clause-unshown
returns-in-Err-clause-unshown g c =
    unread_as (λ _ of found. found ≡ of) (state g.S.Store c.args.archive.now.conn)
    (state g.S.Store c.state.new.self.conn) c.in-Err.kind c.read_refusal.result c.read_refusal.ensures.same
    (λ clean. c.in-Err.ensures.reads clean c.requires.kept)

pub returns-in-Ok-clause-lost : goal.returns-in-Ok-clause-lost
returns-in-Ok-clause-lost g c =
    c.in-Ok.ensures.lost c.requires.kept
    ∙ sym (unsound_alone c.in-Ok.state c.masked_if_sound.result c.masked_if_sound.ensures.refused)

pub returns-in-Ok-clause-reads : goal.returns-in-Ok-clause-reads
returns-in-Ok-clause-reads g c =
    reads_any g.S.Store c.args.archive.now c.state.new.self false (c.in-Ok.ensures.lost c.requires.kept)
    c.in-Ok.ensures.called c.in-Ok.ensures.open (λ clean. (c.in-Ok.ensures.reads clean c.requires.kept).stays)

pub returns-in-Err-clause-lost : goal.returns-in-Err-clause-lost
returns-in-Err-clause-lost g c = c.in-Err.ensures.lost c.requires.kept ∙ sym c.read_refusal.ensures.lost

pub returns-in-Err-clause-reads : goal.returns-in-Err-clause-reads
returns-in-Err-clause-reads g c =
    reads_any g.S.Store c.args.archive.now c.state.new.self (is_storage c.in-Err.kind)
    (c.in-Err.ensures.lost c.requires.kept) c.in-Err.ensures.called c.in-Err.ensures.open
    (λ clean. (c.in-Err.ensures.reads clean c.requires.kept).stays)
