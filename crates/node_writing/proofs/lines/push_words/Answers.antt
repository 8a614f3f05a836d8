use Rattle.stored_lines.specs.declared.carried.Value.TheVariants as value
use Rattle.node_writing.proofs.Pages.{page-bare}
use Rattle.node_writing.proofs.lines.push_words.Goals as goal

pub returns : goal.returns
returns g c = rw (page-bare (g.N.Named.names c.args.index.now) c.args.level c.args.tag.now (value.Text c.args.text.now))
    c.push_text.ensures
