use Rattle.records.proofs.Shallow.{copy_is}
use Rattle.records.proofs.keeping.copy_record.Goals as goal

pub returns : goal.returns
returns c = copy_is c.args.record.now c.in-Some.copy c.in_ok-kept.kept c.in_ok-copy.field-0 c.in_ok-kept.ensures.shallow
    c.in_ok-copy.ensures c.in_ok-kept.ensures.kept c.in-Some.is
