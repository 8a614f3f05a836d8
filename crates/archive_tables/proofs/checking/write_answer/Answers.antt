use Rattle.std.proofs.Common.{rules}
use Rattle.std.specs.Io.KnownBytes.{Keeps}
use Rattle.archive_tables.proofs.Checked.{refused_by}
use Rattle.archive_tables.proofs.checking.write_answer.Goals as goal

pub returns-in-Err-clause-ended : goal.returns-in-Err-clause-ended
returns-in-Err-clause-ended g c = rw c.in-Err.is (λ right sure agrees unblamed.
    let kept : Keeps (g.W.Write.contents c.args.writer.now) (g.W.Write.contents c.args.writer.now) = search rules in
    refused_by c.in-Err.kind c.unbroken.result _ _ right c.unbroken.ensures.stops c.unbroken.ensures.same sure agrees
    unblamed kept)
