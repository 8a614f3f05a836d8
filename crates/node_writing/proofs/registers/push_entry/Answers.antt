use Rattle.std.proofs.Common.{◌∙◌, sym}
use Rattle.node_writing.proofs.Appending.{then_page}
use Rattle.node_writing.proofs.registers.push_entry.Goals as goal
use Rattle.list_laws.proofs.Outcomes.{ok_then}

pub returns : goal.returns
returns g c = rw (
  sym c.entry.view_is,
  sym c.as_str.ensures.same,
  sym c.as_str-2.ensures.same,
  sym c.deref.ensures.value,
) (ok_then c.push_mentions.result (λ e. e
    ∙ then_page (g.N.Named.names c.args.index.now) 1 _ _ _ _ c.in_ok-push_words-2.ensures
    ∙ then_page (g.N.Named.names c.args.index.now) 1 _ _ _ _ c.in_ok-push_entry_place.ensures
    ∙ then_page (g.N.Named.names c.args.index.now) 1 _ _ _ _ c.in_ok-push_date.ensures
    ∙ then_page (g.N.Named.names c.args.index.now) 1 _ _ _ _ c.in_ok-push_item.ensures
    ∙ then_page (g.N.Named.names c.args.index.now) 1 _ _ _ _ c.in_ok-push_words.ensures
    ∙ then_page (g.N.Named.names c.args.index.now) 1 _ _ _ _ c.in_ok-push_pointer.ensures)
    c.push_mentions.ensures)
