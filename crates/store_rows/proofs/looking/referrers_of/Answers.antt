use Rattle.std.proofs.Common.{◌≡◌, ◌<◌, ap, ◌∙◌}
use Rattle.sqlite.specs.Tree.{IsAscending}
use Rattle.store_tables.specs.Keyed.{links_to}
use Rattle.store_tables.specs.Rows.{link_place}
use Rattle.store_tables.proofs.Pairing.{links_rise}
use Rattle.store_tables.proofs.ReadingRows.{looks_where}
use Rattle.store_rows.specs.Links.{linked_naming}
use Rattle.store_rows.proofs.Ascending.{same_referrers}
use Rattle.store_rows.proofs.Found.{sees_after}
use Rattle.store_rows.proofs.looking.referrers_of.Goals as goal

pub returns-clause-sees : goal.returns-clause-sees
returns-clause-sees g c =
    let n = c.args.number in
    sees_after c.naming_of.result
    (λ rows content found was keeps is. is ∙ ap (linked_naming n content) was.0
    ∙ same_referrers rows content n keeps was.1)
    (looks_where {Q = λ rows items. (items.items ≡ links_to n rows)
    × IsAscending (λ a b. link_place a < link_place b) rows.links} _
    (λ rows was items is. (is, links_rise rows _ was.good.holds)) c.in_ok-links.ensures.looks)
    (rw (c.deref.ensures.value) at c.naming_of.ensures.sees)
