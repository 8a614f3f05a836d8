use Rattle.std.specs.Prelude.{Some}
use Rattle.command_checks.specs.Checks.{each, passed, said_place_at}
use Rattle.page_answers.proofs.answers.number_refusal.Goals as goal

pub returns-in-Err-clause-shows : goal.returns-in-Err-clause-shows
returns-in-Err-clause-shows g c honest =
    let look = c.in-Err.ensures.decides honest in (
      look.0,
      λ held shown.
          let found = look.1 held shown in (
            found.0,
            c.unless_stop.ensures.refusal
                (passed (each (said_place_at (g.V.View.content held)) (Some c.args.number))) found.1,
          ),
    )
