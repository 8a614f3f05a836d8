use Rattle.std.proofs.Common.{◌<◌, arith, inr, length, option_copied, refl}
use Rattle.std.proofs.lemmas.Grind.{common_steps}
use Rattle.packed_rows.proofs.Lines.{no_first}
use Rattle.packed_rows.proofs.reading.first_line.Goals as goal

pub returns-then-not-is_empty-clause-err : goal.returns-then-not-is_empty-clause-err
returns-then-not-is_empty-clause-err c =
    let some : 0 < length c.parted.result.0.now = grind (arith, common_steps) in
    inr (
      refl,
      no_first c.args.tag c.args.target c.args.rest.now c.parted.result.0.now (option_copied c.parted.result.1)
          c.parted.ensures.front c.parted.ensures.whole some,
    )
