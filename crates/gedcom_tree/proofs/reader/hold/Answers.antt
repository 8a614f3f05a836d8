use Rattle.std.proofs.Common.{inr, arith}
use Rattle.gedcom_rules.proofs.Resumed.{start_joined}
use Rattle.gedcom_tree.proofs.reader.hold.Goals as goal

pub returns-then-more-len-clause-fault : goal.returns-then-more-len-clause-fault
returns-then-more-len-clause-fault c =
    inr (
      c.too_long.ensures,
      omega (
        arith,
        start_joined c.args.is_start c.args.rest.now.items c.args.more.now,
        c.len.ensures,
        c.requires.short,
        c.if-more-len.true,
        c.args.rest.now.ok.0,
      ),
    )
