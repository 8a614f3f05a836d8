use Rattle.std.proofs.Common.{◌∙◌, sym}
use Rattle.node_writing.proofs.Appending.{then_below, then_page}
use Rattle.node_writing.proofs.registers.push_mention.Goals as goal
use Rattle.list_laws.proofs.Outcomes.{ok_then}

pub returns : goal.returns
returns g c = rw (sym c.mention.view_is, sym c.as_str.ensures.same, sym c.as_str-2.ensures)
    (ok_then c.push_link.result (λ e. e
    ∙ then_page (g.N.Named.names c.args.index.now) 2 _ _ _ _ c.in_ok-push_words-2.ensures
    ∙ then_below (g.N.Named.names c.args.index.now) 1 _ _ _ _ _ c.in_ok-push_words.ensures)
    c.push_link.ensures)
