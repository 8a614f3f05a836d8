use Rattle.records.proofs.Shallow.{one_kept, no_tree}
use Rattle.std.proofs.Common.{rules}
use Rattle.records.proofs.keeping.found_in.Goals as goal

pub returns-in-Some-2 : goal.returns-in-Some-2
returns-in-Some-2 c = one_kept c.args.lines.now c.in_ok-tree.field-0 c.in-Some.tree c.in_ok-found.field-0
    c.in-Some-2.found c.in_ok-tree.ensures c.in-Some.is c.in_ok-found.ensures c.in-Some-2.is c.kept_alone.result
    c.kept_alone.ensures

pub returns-in_default : goal.returns-in_default
returns-in_default c = no_tree c.args.lines.now c.in_ok-tree.field-0 c.in_ok-tree.ensures (search rules)
