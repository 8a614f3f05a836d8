-- One turn more.
use Rattle.std.proofs.Common.{◌≡◌, drop, ap, sym, ◌∙◌, ◌+◌}
use Rattle.store_tables.specs.Rows.{LinkRow, without_link}
use Rattle.store_tables.proofs.Loops.{item_left}
use Rattle.store_rows.specs.Links.{without_all_links}
use Rattle.store_rows.proofs.Dated.{goes_on}
use Rattle.store_rows.proofs.writing.link_rows.remove_links.Goals as goal

pub links-preserved : goal.links-preserved
links-preserved g c =
    let links = c.args.links.now in
    let link = c.link-item.result in
    let target = c.link.inside.target in
    let number = c.link.inside.number in
    let same : link ≡ record { target = target; no = number } = sym c.link.view_is in
    let rest = drop (c.links.link-index + 1) links in
    let left = item_left links c.links.link-index link link c.links-test.true c.link-item.is in (
      c.delete_link.ensures.same_reference ∙ c.links.invariant.0,
      goes_on _ _ _ _ _ (without_link target number) (without_all_links rest) c.links.invariant.1
          (λ rows has. has) c.in_ok-delete_link.ensures.ok c.delete_link.ensures.survives
          (λ rows. ap (λ all. without_all_links all rows) left
          ∙ ap (λ (l : LinkRow). without_all_links rest (without_link l.target l.no rows)) same),
    )
