use Rattle.std.proofs.Common.{◌≡◌, ◌≤◌, Err, rules, subst, sym}
use Rattle.stored_lines.specs.Line.{Lines}
use Rattle.stored_lines.specs.Levels.{forest_levels}
use Rattle.stored_lines.specs.Tree.{forest_of}
use Rattle.plain_export.specs.Added.{below_data}
use Rattle.plain_export.proofs.Failing.{few_in_data, weaker}
use Rattle.plain_export.proofs.entries.put_data.Goals as goal

pub returns-in_err-line-clause-refused : goal.returns-in_err-line-clause-refused
returns-in_err-line-clause-refused c =
    let same : c.from_residual-in_err-line.result ≡ Err c.in_err-line.field-0.0 = search rules in
    rw same (weaker _ (λ whole. subst (λ (ts : Lines). forest_levels (forest_of ts) ≤ 98) (sym c.in_ok-data.ensures)
    (few_in_data (below_data c.args.entry.now) whole)) c.in_err-line.ensures.refused)
