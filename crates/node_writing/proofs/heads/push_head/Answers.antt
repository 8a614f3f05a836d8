use Rattle.std.proofs.Common.{◌∙◌}
use Rattle.stored_lines.specs.declared.carried.Value.TheVariants as value
use Rattle.node_writing.proofs.Appending.{head_text}
use Rattle.node_writing.proofs.heads.push_head.Goals as goal

pub returns : goal.returns
returns g c = rw (head_text (g.N.Named.names c.args.index.now) c.args.number c.args.tag.now (value.Text c.args.text.now)
    c.as_str.result.now (c.as_str.ensures.value ∙ c.in_ok-name.ensures)) c.push_text.ensures
