use Rattle.std.proofs.Common.{◌≡◌, ℕ, ◌-◌, sym, subst, arith}
use Rattle.std.specs.Str.{IsCharBoundary}
use Rattle.gedcom_line.specs.Split.{front_len}
use Rattle.gedcom_line.proofs.Fronts.{front_whole, front_chars}
use Rattle.gedcom_line.proofs.splitting.excess.Goals as goal

pub range-requires-clause-end_boundary : goal.range-requires-clause-end_boundary
range-requires-clause-end_boundary c = subst (IsCharBoundary c.args.segment.now) (sym c.window-end.ensures)
    (front_whole c.args.chars c.args.segment.now)

pub written_count-requires : goal.written_count-requires
written_count-requires c =
    let end : ℕ = front_len c.args.chars c.args.segment.now in
    let whole : end - 0 ≡ end = omega arith in
    rw (c.range.ensures.value, c.window-end.ensures, whole)
    (omega (arith, c.requires, front_chars c.args.chars c.args.segment.now))
