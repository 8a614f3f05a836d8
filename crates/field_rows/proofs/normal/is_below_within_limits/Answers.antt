use Rattle.std.proofs.Common.{◌≡◌, ◌-◌, length, ap, ◌∙◌, arith}
use Rattle.std.specs.Prelude.{◌&&◌, nat_le}
use Rattle.record_shapes.specs.Paths.{parts}
use Rattle.field_rows.proofs.Parted.{room_is}
use Rattle.field_rows.proofs.normal.is_below_within_limits.Goals as goal

pub returns : goal.returns
returns c =
    let own : c.part_count-own.result ≡ length (parts c.args.name.now) = c.part_count-own.ensures in
    c.is_within.ensures
    ∙ ap (λ k. nat_le (length (parts c.args.above.now)) (32 - k)
    && nat_le (length c.args.above.now) (4094 - length c.args.name.now)) own
    ∙ room_is c.args.name.now c.args.above.now (omega arith) (omega arith)
