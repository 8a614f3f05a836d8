use Rattle.std.proofs.Common.{◌≡◌, ◌≤◌, Err, rules, subst, sym}
use Rattle.stored_lines.specs.Line.{Lines}
use Rattle.stored_lines.specs.Levels.{forest_levels}
use Rattle.stored_lines.specs.Tree.{forest_of}
use Rattle.plain_export.proofs.Failing.{fails_by, weaker}
use Rattle.plain_export.proofs.events.association.Goals as goal

pub returns-in_err-below-clause-refused : goal.returns-in_err-below-clause-refused
returns-in_err-below-clause-refused c =
    let same : c.from_residual.result ≡ Err c.in_err-below.field-0.0 = search rules in
    rw same (weaker _ (λ whole. whole.1.1) c.in_err-below.ensures.refused)

pub returns-clause-refused : goal.returns-clause-refused
returns-clause-refused c = fails_by c.line.result
    (λ whole. subst (λ (ts : Lines). forest_levels (forest_of ts) ≤ 98) (sym c.in_ok-below.ensures.made) whole.1.0)
    c.line.ensures.refused
