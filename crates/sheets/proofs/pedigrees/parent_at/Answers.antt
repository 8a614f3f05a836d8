use Rattle.std.proofs.Common.{sym}
use Rattle.sheets.specs.Indexed.{indexed}
use Rattle.sheets.proofs.pedigrees.parent_at.Goals as goal

pub returns-in-Some : goal.returns-in-Some
returns-in-Some c = λ known. c.known_parent.ensures (indexed c.args.state.now.records c.args.index.now) c.args.child
    (known c.args.child c.in-Some.ancestor.now (sym c.in-Some.ensures))
