use Rattle.std.proofs.Common.{◌≡◌, ◌∙◌, ◌&&◌, ◌==◌, subst, sym, true}
use Rattle.archive_files.specs.Closing.{found_no_room}
use Rattle.tasks.specs.Faults.{IsReported}
use Rattle.archive_runs.proofs.hints.say_no_place.Goals as goal

pub returns-then-found_no_room : goal.returns-then-found_no_room
returns-then-found_no_room g c =
    let full : (c.args.status == 1 && found_no_room c.args.closed.now) ≡ true =
    rw c.if-status-eq1.true (sym c.found_no_room.ensures ∙ c.if-found_no_room.true) in
    let text = c.as_bytes.ensures.value in
    rw full
    (subst (IsReported g.F.Write.contents g.F.Device.failed c.args.faults.now c.report.new.self) text c.report.ensures)
