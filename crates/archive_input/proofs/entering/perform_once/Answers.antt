use Rattle.archive_input.proofs.Refused.{refused_shut}
use Rattle.archive_input.proofs.entering.perform_once.Goals as goal

pub returns : goal.returns
returns g c =
    let did = c.perform-outcome.ensures in (
      did.performs,
      did.lost,
      refused_shut g.S.Store c.args.archive.now c.perform-outcome.new.self c.args.request c.perform-outcome.result
          did.reopen did.waits,
    )
