use Rattle.std.proofs.Common.{◌≡◌, [], ◌∷◌, get_or, sym, subst, ◌∙◌}
use Rattle.sqlite.specs.Held.{state}
use Rattle.store_tables.specs.Rows.{LinkRow}
use Rattle.bulk_inserts.specs.Links.{eight}
use Rattle.bulk_inserts.proofs.Cut.{eight_and_rest, one_and_rest}
use Rattle.bulk_inserts.proofs.Joined.{IsOnTheWay, goes_on}
use Rattle.bulk_inserts.proofs.links.insert_links.Goals as goal

pub eights-preserved : goal.eights-preserved
eights-preserved g c =
    let old = state g.S.Store c.args.tx.now.conn.now in
    let mid = state g.S.Store c.eights.tx.conn.now in
    let now = state g.S.Store c.insert_eight.new.tx.conn.now in
    let these = eight c.a-item.result c.b-item.result c.c-item.result c.d-item.result c.e-item.result c.f-item.result
    c.g-item.result c.h-item.result in
    let did = c.in_ok-insert_eight.ensures in
    record {
      same = did.same_reference ∙ c.eights.invariant.same;
      way = goes_on old mid now c.args.links.now these _
          (subst (IsOnTheWay old mid c.args.links.now) (eight_and_rest c.eights.rest.now c.a-item.result
          c.b-item.result c.c-item.result c.d-item.result c.e-item.result c.f-item.result c.g-item.result
          c.h-item.result c.in-len8-up.len_at_least c.a-item.is c.b-item.is c.c-item.is c.d-item.is c.e-item.is
          c.f-item.is c.g-item.is c.h-item.is) c.eights.invariant.way) did.ok did.fresh did.survives;
    }

pub singles-preserved : goal.singles-preserved
singles-preserved g c =
    let old = state g.S.Store c.args.tx.now.conn.now in
    let mid = state g.S.Store c.singles.tx.conn.now in
    let now = state g.S.Store c.insert_link.new.tx.conn.now in
    let did = c.in_ok-insert_link.ensures in
    let item : LinkRow = record { target = c.link.inside.target; no = c.link.inside.number } in
    let is : item ≡ get_or c.singles.rest.now 0 item = subst (λ x. x ≡ get_or c.singles.rest.now 0 x)
    (sym c.link.view_is) c.link-item.is in
    record {
      same = did.same_reference ∙ c.singles.invariant.same;
      way = goes_on old mid now c.args.links.now (item ∷ []) _
          (subst (IsOnTheWay old mid c.args.links.now) (one_and_rest c.singles.rest.now item
          c.in-len1-up.len_at_least is) c.singles.invariant.way) did.ok
          (λ clean rows dated inside. (did.fresh clean rows dated inside, tt)) did.survives;
    }
