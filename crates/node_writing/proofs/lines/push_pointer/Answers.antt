use Rattle.std.proofs.Common.{◌∙◌}
use Rattle.node_writing.proofs.Appending.{pointer_page}
use Rattle.node_writing.proofs.lines.push_pointer.Goals as goal

pub returns : goal.returns
returns g c = rw (pointer_page (g.N.Named.names c.args.index.now) c.args.level c.args.tag.now c.args.number
    c.as_str.result.now (c.as_str.ensures.value ∙ c.in_ok-name.ensures)) c.write_line.ensures.ok
