use Rattle.std.proofs.Common.{◌≡◌, ◌≤◌, inr, subst, sym, true}
use Rattle.stored_lines.specs.Line.{Lines}
use Rattle.stored_lines.specs.Levels.{forest_levels}
use Rattle.stored_lines.specs.Tree.{forest_of}
use Rattle.plain_export.proofs.lines.line.Goals as goal

pub returns-then-not-are_within-clause-refused : goal.returns-then-not-are_within-clause-refused
returns-then-not-are_within-clause-refused c = inr (λ few.
    let found : c.are_within.result ≡ true = c.are_within.ensures.1
    (subst (λ (ts : Lines). forest_levels (forest_of ts) ≤ 98) (sym c.deref.ensures.value) few) in
    absurd cc)
