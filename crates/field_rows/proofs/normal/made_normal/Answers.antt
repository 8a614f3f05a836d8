use Rattle.std.proofs.Common.{rules, string_bytes}
use Rattle.record_shapes.specs.Paths.{normal}
use Rattle.field_rows.proofs.Parted.{turn, last_turn}
use Rattle.field_rows.proofs.normal.made_normal.Goals as goal

pub loop-part-preserved : goal.loop-part-preserved
loop-part-preserved c = (
  search rules,
  rw (c.in_ok-push_str-2.ensures.bytes, c.in_ok-push_str.ensures.bytes, c.trimmed.ensures)
      (turn (string_bytes c.loop-part.out) c.in-Some.part.now c.in-Some.after.now c.loop-part.rest.now
      (normal c.args.text.now) c.in-Some.ensures.0 c.in-Some.ensures.1 c.loop-part.invariant.1),
)

pub returns : goal.returns
returns c = rw (c.in_ok-push_str-3.ensures.bytes, c.trimmed-2.ensures)
    (last_turn (string_bytes c.loop-part.out) c.loop-part.rest.now (normal c.args.text.now) c.in_default.ensures
    c.loop-part.invariant.1)
