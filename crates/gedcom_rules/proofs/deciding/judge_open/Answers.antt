use Rattle.std.proofs.Common.{refl, sym}
use Rattle.gedcom_rules.specs.Views.{progress}
use Rattle.gedcom_rules.proofs.deciding.judge_open.Goals as goal

pub returns-in-Some : goal.returns-in-Some
returns-in-Some c = sym (c.in-Some.ensures (progress c.args.seen.now) refl)

pub returns-in-None : goal.returns-in-None
returns-in-None c = sym (c.in-None.ensures (progress c.args.seen.now) refl)
