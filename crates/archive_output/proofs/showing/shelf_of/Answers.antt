use Rattle.std.proofs.Common.{ℤ, List, ℕ, subst, w32}
use Rattle.std.proofs.lemmas.Int.{to_z-of_z}
use Rattle.std.specs.Prelude.{IfOk}
use Rattle.sqlite.specs.Held.{state}
use Rattle.archive_state.specs.Content.{Content}
use Rattle.store.specs.Archives.{HasArchive}
use Rattle.archive_output.specs.Reading.{OnOpen}
use Rattle.archive_output.specs.Showing.{IsShown, OfSound}
use Rattle.archive_output.proofs.Calls.{reads_any_then}
use Rattle.archive_output.proofs.Named.{fails_then, then_each}
use Rattle.archive_output.proofs.Sound.{then_sound}
use Rattle.archive_output.proofs.showing.shelf_of.Goals as goal

pub returns-in-Ok-clause-shown : goal.returns-in-Ok-clause-shown
returns-in-Ok-clause-shown g c =
    let old = state g.S.Store c.args.archive.now.conn in
    let new = state g.S.Store c.shelf_named.new.archive.conn in
    subst (λ (t : ℤ). IfOk c.shelf_named.result
    (λ (l : Content). OnOpen old new (λ society of. IsShown of t l × HasArchive society of new)))
    (to_z-of_z w32 c.args.today c.ranges.today)
    (then_each c.shelf_named.result old (state g.S.Store c.society_of.new.archive.conn) new c.in-Ok.society
    (λ (l : Content) (society : List ℕ) of. IsShown of _ l × HasArchive society of new) c.in-Ok.ensures.named
    c.shelf_named.ensures.shown)

pub returns-in-Ok-clause-unshown : goal.returns-in-Ok-clause-unshown
returns-in-Ok-clause-unshown g c =
    fails_then c.shelf_named.result (state g.S.Store c.args.archive.now.conn)
    (state g.S.Store c.society_of.new.archive.conn) (state g.S.Store c.shelf_named.new.archive.conn) c.in-Ok.society
    c.in-Ok.ensures.named c.shelf_named.ensures.unshown

pub returns-in-Ok-clause-sound : goal.returns-in-Ok-clause-sound
returns-in-Ok-clause-sound g c =
    let old = state g.S.Store c.args.archive.now.conn in
    let new = state g.S.Store c.shelf_named.new.archive.conn in
    subst (λ (t : ℤ). IfOk c.shelf_named.result (λ (l : Content). OfSound old new (λ of. IsShown of t l)))
    (to_z-of_z w32 c.args.today c.ranges.today)
    (then_sound old (state g.S.Store c.society_of.new.archive.conn) new c.society_of.new.archive.is_lost
    c.in-Ok.ensures.lost (λ clean. (c.shelf_named.ensures.reads.stays clean).clean) c.in-Ok.ensures.reads.stays
    c.shelf_named.result (λ (l : Content) of. IsShown of _ l) c.shelf_named.ensures.sound)

pub returns-in-Ok-clause-reads : goal.returns-in-Ok-clause-reads
returns-in-Ok-clause-reads g c =
    reads_any_then g.S.Store c.args.archive.now c.society_of.new.archive c.shelf_named.new.archive
    c.in-Ok.ensures.lost c.in-Ok.ensures.reads c.shelf_named.ensures.reads
