use Rattle.std.proofs.Common.{[]}
use Rattle.gedcom_rules.specs.Views.{fault_view}
use Rattle.gedcom_rules.proofs.Walks.{or_err}
use Rattle.gedcom_tree.proofs.Ends.{decides_fault}
use Rattle.file_faults.proofs.streams.first_of.Goals as goal

pub returns-in-Err : goal.returns-in-Err
returns-in-Err c = c.of_fault.ensures c.args.bytes.now
    (or_err (decides_fault c.args.bytes.now (fault_view c.in-Err.fault))
    (c.in-Err.ensures.fed [] c.new-lines.ensures).1)

pub returns-in-Err-finish : goal.returns-in-Err-finish
returns-in-Err-finish c = c.of_fault-in-Err-finish.ensures c.args.bytes.now
    (c.in-Err-finish.ensures.finished c.args.bytes.now (c.in-Ok.ensures.fed [] c.new-lines.ensures).0)
