use Rattle.std.proofs.Common.{◌∙◌}
use Rattle.room_requests.proofs.Fronts.{behind_number, no_number}
use Rattle.room_requests.proofs.page.number_behind.Goals as goal

pub returns-in-Some : goal.returns-in-Some
returns-in-Some c =
    let found = c.in-Some.ensures.cases in
    c.number_in.ensures ∙ behind_number c.args.front.now c.args.path.now _ found.0 found.1.0 found.1.1 found.2

pub returns-in-None : goal.returns-in-None
returns-in-None c = no_number c.args.front.now c.args.path.now c.in-None.ensures.cases
