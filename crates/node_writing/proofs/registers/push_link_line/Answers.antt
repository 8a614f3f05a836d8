use Rattle.std.proofs.Common.{◌∙◌, sym}
use Rattle.node_writing.proofs.Appending.{then_below}
use Rattle.node_writing.proofs.registers.push_link_line.Goals as goal
use Rattle.list_laws.proofs.Outcomes.{ok_then}

pub returns : goal.returns
returns g c = rw (sym c.link.view_is, sym c.as_str.ensures.same) (ok_then c.push_words.result (λ e. e
    ∙ then_below (g.N.Named.names c.args.index.now) 2 _ _ _ _ _ c.in_ok-push_pointer.ensures)
    c.push_words.ensures)
