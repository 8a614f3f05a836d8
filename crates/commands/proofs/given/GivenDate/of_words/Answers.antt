use Rattle.std.proofs.Common.{rules, IfOk, MatchOption}
use Rattle.commands.specs.Given.{IsGiven}
use Rattle.commands.proofs.Dated.{gives_ok}
use Rattle.commands.proofs.given.GivenDate.of_words.Goals as goal

pub returns-in-Ok-clause-gives : goal.returns-in-Ok-clause-gives
returns-in-Ok-clause-gives c =
    let given : IfOk c.of_value.result
    (λ found. MatchOption found (Unit {0}) (λ given. IsGiven given.spelling given.date)) = search rules in
    gives_ok c.args.words.now c.in-Ok.value c.of_value.result c.in-Ok.ensures c.of_value.ensures given
