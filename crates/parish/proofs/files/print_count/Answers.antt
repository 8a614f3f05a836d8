use Rattle.std.proofs.Common.{◌≡◌, List, ℕ, rules, subst}
use Rattle.std.specs.Prelude.{OnErr}
use Rattle.devices.specs.Devices.{AppendsBeginning}
use Rattle.parish.specs.Ends.{records_text}
use Rattle.parish.proofs.files.print_count.Goals as goal

pub returns-clause-err : goal.returns-clause-err
returns-clause-err g c =
    let all : c.deref.result.now ≡ records_text c.args.records = search rules in
    subst (λ (text : List ℕ). OnErr c.print.result (AppendsBeginning (g.W.Write.contents c.args.output.now)
    (g.W.Write.contents c.print.new.output) text)) all c.print.ensures.err
