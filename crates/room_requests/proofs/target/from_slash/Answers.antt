use Rattle.std.proofs.Common.{lit<, sym, ◌∙◌}
use Rattle.std.proofs.lemmas.Str.Pattern.{find_char}
use Rattle.room_requests.proofs.Slashes.{first_slash, no_slash}
use Rattle.room_requests.proofs.target.from_slash.Goals as goal

pub returns-in-Some : goal.returns-in-Some
returns-in-Some c =
    let at = find_char 47 c.args.rest.now c.find.result c.find.ensures.cases (lit< tt) in
    let here = rw c.in-Some.is at at in
    c.range_from.ensures.value ∙ sym (first_slash c.args.rest.now c.in-Some.at here.0 here.1 here.2)

pub returns-in-None : goal.returns-in-None
returns-in-None c =
    let at = find_char 47 c.args.rest.now c.find.result c.find.ensures.cases (lit< tt) in
    sym (no_slash c.args.rest.now (rw c.in-None.is at at))
