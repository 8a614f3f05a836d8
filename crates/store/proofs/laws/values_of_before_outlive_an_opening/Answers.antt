use Rattle.std.proofs.Common.{ap, refl, ◌++◌, ◌∙◌}
use Rattle.sqlite.specs.Held.{state}
use Rattle.store.proofs.laws.values_of_before_outlive_an_opening.Goals as goal

pub returns : goal.returns
returns g c old taken new calls takes performs none society content rows was keeps =
    let mid = takes.pasts.same refl society content rows was keeps in
    let last = performs.rows none society content mid.0 mid.1 mid.2.0 in
    let added = c.values_of_before_are_only_added.ensures calls content last.0 mid.0 last.1 last.2 in
    (last.0, last.1, last.3, last.4, (added.0, added.1 ∙ ap (λ ps. ps ++ added.0) mid.2.1))
