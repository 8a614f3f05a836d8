use Rattle.audit.proofs.Inside.{joinable_there}
use Rattle.audit.proofs.persons.is_joinable_at.Goals as goal

pub returns-in-Some : goal.returns-in-Some
returns-in-Some c = joinable_there c.args.olds.now.records c.args.keep c.args.gone c.args.number c.in-Some.found.now
    c.clashes_in.result c.in-Some.ensures c.clashes_in.ensures
