use Rattle.std.proofs.lemmas.Bool.Decides.{Decides-at}
use Rattle.audit.specs.Parts.{changed}
use Rattle.audit.specs.Rising.{rises_from}
use Rattle.audit.proofs.Rising.{rise}
use Rattle.audit.proofs.numbers.are_in_order.Goals as goal

pub returns : goal.returns
returns c = Decides-at c.rise_from.result (rises_from 0 (changed c.args.changes.now)) c.rise_from.ensures
    (rise 0 (changed c.args.changes.now))
