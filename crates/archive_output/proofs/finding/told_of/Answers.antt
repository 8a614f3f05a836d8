use Rattle.std.proofs.Common.{◌≡◌, string_bytes, w32}
use Rattle.std.proofs.lemmas.Int.{to_z-of_z}
use Rattle.std.specs.Prelude.{IfOk, true}
use Rattle.sqlite.specs.Held.{state}
use Rattle.archive_output.specs.Reading.{OnOpen}
use Rattle.archive_output.proofs.Calls.{reads_any_then}
use Rattle.archive_output.specs.Ends.{OnFound}
use Rattle.archive_output.proofs.Finds.{in_days, told_are, untold_are}
use Rattle.archive_output.proofs.finding.told_of.Goals as goal

pub returns-in-Ok-clause-found : goal.returns-in-Ok-clause-found
returns-in-Ok-clause-found g c =
    let old = state g.S.Store c.args.archive.now.conn in
    let new = state g.S.Store c.told_by.new.archive.conn in
    in_days
    (λ f l. IfOk c.told_by.result (λ s. OnOpen old new (λ _ of. OnFound true f l (λ text. string_bytes s ≡ text) of)))
    _ c.args.first _ c.args.last (to_z-of_z w32 c.args.first c.ranges.first)
    (to_z-of_z w32 c.args.last c.ranges.last)
    (told_are string_bytes old (state g.S.Store c.found_in.new.archive.conn) _ _ c.in-Ok.found.items
    c.deref.result.now c.deref.ensures.value c.in-Ok.ensures.found new c.told_by.result c.told_by.ensures.told)

pub returns-in-Ok-clause-unfound : goal.returns-in-Ok-clause-unfound
returns-in-Ok-clause-unfound g c =
    untold_are string_bytes (state g.S.Store c.args.archive.now.conn) (state g.S.Store c.found_in.new.archive.conn)
    _ _ c.in-Ok.found.items c.deref.result.now c.deref.ensures.value c.in-Ok.ensures.found
    (state g.S.Store c.told_by.new.archive.conn) c.told_by.result c.told_by.ensures.untold

pub returns-in-Ok-clause-reads : goal.returns-in-Ok-clause-reads
returns-in-Ok-clause-reads g c =
    reads_any_then g.S.Store c.args.archive.now c.found_in.new.archive c.told_by.new.archive c.in-Ok.ensures.lost
    c.in-Ok.ensures.reads c.told_by.ensures.reads
