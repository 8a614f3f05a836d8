use Rattle.archive_core.specs.Machine.{import_of}
use Rattle.archive_input.proofs.Refused.{refused_shut}
use Rattle.archive_input.proofs.importing.import_once.Goals as goal

pub returns-clause-steps : goal.returns-clause-steps
returns-clause-steps g c =
    let did = c.import-outcome.ensures in (
      did.performs,
      did.lost,
      refused_shut g.S.Store c.args.archive.now c.import-outcome.new.self (import_of c.args.token c.args.forest)
          c.import-outcome.result did.reopen did.waits,
    )
