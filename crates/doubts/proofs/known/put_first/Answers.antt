use Rattle.std.proofs.Common.{sym}
use Rattle.std.specs.BTreeMap as tree
use Rattle.std.specs.Ordering.{nat_cmp}
use Rattle.list_laws.proofs.Outcomes.{on_ok_more}
use Rattle.doubts.proofs.Gathered.{one_put, one_there}
use Rattle.doubts.proofs.known.put_first.Goals as goal

pub returns-in-Some : goal.returns-in-Some
returns-in-Some c = one_there (tree.get nat_cmp c.args.spans.now) c.args.person c.args.span c.in-Some.field-0
    (sym c.in-Some.ensures)

pub returns-in-None : goal.returns-in-None
returns-in-None c = on_ok_more
    (one_put (tree.get nat_cmp c.args.spans.now) (tree.get nat_cmp c.put_new.new.spans) c.args.person c.args.span
    (sym c.in-None.ensures))
    c.put_new.result c.put_new.ensures
