use Rattle.std.proofs.Common.{◌∙◌}
use Rattle.node_writing.proofs.Appending.{head_pointer}
use Rattle.node_writing.proofs.heads.push_other_head.Goals as goal

pub returns-in_ok-pointer-in-Ref : goal.returns-in_ok-pointer-in-Ref
returns-in_ok-pointer-in-Ref g c = rw (
  c.in-Ref.is,
  head_pointer (g.N.Named.names c.args.index.now) c.args.number c.args.tag.now c.in-Ref.named c.as_str-in-Ref.result.now
      c.as_str-in-Ref-2.result.now
      (c.as_str-in-Ref.ensures.value ∙ c.in_ok-name-in-Ref.ensures)
      (c.as_str-in-Ref-2.ensures.value ∙ c.in_ok-pointer-in-Ref.ensures),
) c.write_line.ensures.ok
