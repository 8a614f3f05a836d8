use Rattle.std.proofs.Common.{◌∙◌, sym}
use Rattle.archive_input.proofs.Refused.{refused_shut}
use Rattle.expected_rows.proofs.Foretold.{foreseen_shut}
use Rattle.expected_rows.proofs.foreseeing.foresee.Goals as goal

pub returns-then-is_shut-clause-foresees : goal.returns-then-is_shut-clause-foresees
returns-then-is_shut-clause-foresees g c =
    let r = c.args.request.now in
    let old = c.args.archive.now in
    let new = c.perform.new.self in
    let did = c.perform.ensures in
    foreseen_shut g.S.Store r c.perform.result old new (sym c.is_shut.ensures ∙ c.if-is_shut.true)
    (refused_shut g.S.Store old new r c.perform.result did.reopen did.waits)
