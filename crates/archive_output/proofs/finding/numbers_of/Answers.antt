use Rattle.std.proofs.Common.{◌≡◌, ◌∙◌, string_bytes, sym, w32}
use Rattle.std.proofs.lemmas.Int.{to_z-of_z}
use Rattle.std.specs.Prelude.{IfOk, false}
use Rattle.sqlite.specs.Held.{state}
use Rattle.archive_output.specs.Reading.{OnOpen}
use Rattle.archive_output.specs.Ends.{OnFound}
use Rattle.archive_output.proofs.Finds.{in_days, numbers_are}
use Rattle.archive_output.proofs.finding.numbers_of.Goals as goal
use Rattle.archive_output.proofs.Calls.{want_alone}
use Rattle.archive_output.proofs.Stopped.{want_fails}
use Rattle.archive_state.proofs.Stops.{want_stops}

pub returns-in-Ok-clause-found : goal.returns-in-Ok-clause-found
returns-in-Ok-clause-found g c =
    let old = state g.S.Store c.args.archive.now.conn in
    let new = state g.S.Store c.found_in.new.archive.conn in
    in_days
    (λ f l. IfOk c.numbers_text.result
    (λ s. OnOpen old new (λ _ of. OnFound false f l (λ text. string_bytes s ≡ text) of)))
    _ c.args.first _ c.args.last (to_z-of_z w32 c.args.first c.ranges.first)
    (to_z-of_z w32 c.args.last c.ranges.last)
    (numbers_are string_bytes old new _ _ c.in-Ok.found.items c.deref.result.now c.deref.ensures.value
    c.in-Ok.ensures.found c.numbers_text.result c.numbers_text.ensures.text)

pub returns-in-Ok-clause-unfound : goal.returns-in-Ok-clause-unfound
returns-in-Ok-clause-unfound g c =
    want_fails c.numbers_text.result (state g.S.Store c.args.archive.now.conn)
    (state g.S.Store c.found_in.new.archive.conn) _ c.in-Ok.ensures.found c.numbers_text.ensures.refused

pub returns-in-Ok-clause-stops : goal.returns-in-Ok-clause-stops
returns-in-Ok-clause-stops g c = want_stops c.numbers_text.result c.numbers_text.ensures.refused

pub returns-in-Ok-clause-lost : goal.returns-in-Ok-clause-lost
returns-in-Ok-clause-lost g c =
    c.in-Ok.ensures.lost ∙ sym (want_alone c.numbers_text.result c.numbers_text.ensures.refused)
