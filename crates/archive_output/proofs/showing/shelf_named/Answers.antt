use Rattle.std.proofs.Common.{subst, sym, w32}
use Rattle.std.proofs.lemmas.Int.{to_z-of_z}
use Rattle.sqlite.specs.Held.{state}
use Rattle.archive_state.specs.Content.{Content}
use Rattle.store.specs.Archives.{HasArchive}
use Rattle.archive_output.specs.Reading.{OnOpen}
use Rattle.archive_output.specs.Showing.{IsShown, OfSound}
use Rattle.archive_output.proofs.Masked.{of_day}
use Rattle.archive_output.proofs.Sound.{day_sound}
use Rattle.archive_output.proofs.showing.shelf_named.Goals as goal

pub returns-in-Ok-clause-shown : goal.returns-in-Ok-clause-shown
returns-in-Ok-clause-shown g c =
    let old = state g.S.Store c.args.archive.now.conn in
    let new = state g.S.Store c.shown_of.new.archive.conn in
    subst (λ (l : Content). OnOpen old new (λ society of. IsShown of c.args.today l × HasArchive society of new))
    (sym c.shelf_with.ensures)
    (of_day old new _ c.args.today c.in-Ok.shown (to_z-of_z w32 c.args.today c.ranges.today) c.in-Ok.ensures.shown)

pub returns-in-Ok-clause-sound : goal.returns-in-Ok-clause-sound
returns-in-Ok-clause-sound g c =
    let old = state g.S.Store c.args.archive.now.conn in
    let new = state g.S.Store c.shown_of.new.archive.conn in
    subst (λ (l : Content). OfSound old new (λ of. IsShown of c.args.today l)) (sym c.shelf_with.ensures)
    (day_sound old new _ c.args.today c.in-Ok.shown (to_z-of_z w32 c.args.today c.ranges.today) c.in-Ok.ensures.sound)
