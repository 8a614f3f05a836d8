use Rattle.member_changes.proofs.Refusing.{own_counts}
use Rattle.member_changes.proofs.families.put_family.Goals as goal

pub returns-in-Err-clause-counts : goal.returns-in-Err-clause-counts
returns-in-Err-clause-counts g c =
    own_counts c.args.changed c.in-Err.e (g.V.View.failed c.args.view.now) c.requires.own c.in-Err.is
