use Rattle.std.proofs.Common.{map}
use Rattle.commands.proofs.Outcomes.{read_by_verb, read_unknown}
use Rattle.commands.proofs.row_command.RowCommand.of_row.Goals as goal

pub returns-in-Some : goal.returns-in-Some
returns-in-Some c =
    read_by_verb c.args.verb.now (map (λ f. f.now) c.args.fields.now) c.in-Some.verb c.of_fields.result
    c.in-Some.ensures c.of_fields.ensures

pub returns-in-None : goal.returns-in-None
returns-in-None c = λ w. read_unknown c.args.verb.now (map (λ f. f.now) c.args.fields.now) c.in-None.ensures
