use Rattle.std.specs.Prelude.{None}
use Rattle.gedcom_line.specs.Value.{Text}
use Rattle.node_writing.proofs.Pages.{nodes-bare}
use Rattle.node_writing.proofs.heads.push_leaf.Goals as goal

pub returns : goal.returns
returns c = rw (nodes-bare c.args.level (record { xref = None; tag = c.args.tag.now; value = Text c.args.text.now }))
    c.push_text.ensures
