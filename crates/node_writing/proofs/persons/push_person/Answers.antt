use Rattle.std.proofs.Common.{◌∙◌, sym}
use Rattle.node_writing.proofs.Appending.{then_page}
use Rattle.node_writing.proofs.persons.push_person.Goals as goal
use Rattle.list_laws.proofs.Outcomes.{ok_then}

pub returns : goal.returns
returns g c = rw (sym c.person.view_is, sym c.deref.ensures.value) (ok_then c.push_sex.result (λ e. e
    ∙ then_page (g.N.Named.names c.args.index.now) 1 _ _ _ _ c.in_ok-push_names.ensures)
    c.push_sex.ensures)
