use Rattle.std.proofs.Common.{◌≡◌, arith}
use Rattle.std.proofs.lemmas.Grind.{common_steps}
use Rattle.plain_export.proofs.Trimming.{all_kept, kept_each}
use Rattle.plain_export.proofs.kept.kept_lines.Goals as goal

pub returns : goal.returns
returns c =
    let m = c.args.state.now.records in
    let made : c.lines.made.items ≡ kept_each m c.args.lines.now = grind (arith, common_steps) in
    all_kept m c.args.lines.now c.lines.made.items made
