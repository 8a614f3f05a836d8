use Rattle.std.proofs.Common.{◌≡◌, ℕ, List, [], ◌∷◌, get_or, sym, ap, subst, ◌∙◌}
use Rattle.sqlite.specs.Held.{state}
use Rattle.store_tables.proofs.Loops.{goes_on}
use Rattle.bulk_inserts.specs.Records.{with_records}
use Rattle.bulk_inserts.proofs.Cut.{four_and_rest, one_and_rest}
use Rattle.bulk_inserts.proofs.records.insert_records.Goals as goal

pub fours-preserved : goal.fours-preserved
fours-preserved g c =
    let old = state g.S.Store c.args.tx.now.conn.now in
    let mid = state g.S.Store c.fours.tx.conn.now in
    let now = state g.S.Store c.insert_four.new.tx.conn.now in
    let batch = c.args.batch in
    let four = c.a-item.result ∷ c.b-item.result ∷ c.c-item.result ∷ c.d-item.result ∷ [] in
    let did = c.in_ok-insert_four.ensures in
    record {
      same = did.same_reference ∙ c.fours.invariant.same;
      way = goes_on old mid now (with_records batch c.args.records.now) (with_records batch c.fours.rest.now)
          (with_records batch four) _ c.fours.invariant.way did.ok did.survives
          (λ rows. ap (λ rs. with_records batch rs rows) (four_and_rest c.fours.rest.now c.a-item.result
          c.b-item.result c.c-item.result c.d-item.result c.in-len4-up.len_at_least c.a-item.is c.b-item.is c.c-item.is
          c.d-item.is));
    }

pub singles-preserved : goal.singles-preserved
singles-preserved g c =
    let old = state g.S.Store c.args.tx.now.conn.now in
    let mid = state g.S.Store c.singles.tx.conn.now in
    let now = state g.S.Store c.insert_record.new.tx.conn.now in
    let batch = c.args.batch in
    let did = c.in_ok-insert_record.ensures in
    let item : ℕ × List ℕ = (c.record.inside.number, c.record.inside.kind.now) in
    let is : item ≡ get_or c.singles.rest.now 0 item = subst (λ x. x ≡ get_or c.singles.rest.now 0 x)
    (sym c.record.view_is) c.record-item.is in
    record {
      same = did.same_reference ∙ c.singles.invariant.same;
      way = goes_on old mid now (with_records batch c.args.records.now) (with_records batch c.singles.rest.now)
          (with_records batch (item ∷ [])) _ c.singles.invariant.way did.ok did.survives
          (λ rows. ap (λ rs. with_records batch rs rows) (one_and_rest c.singles.rest.now item
          c.in-len1-up.len_at_least is));
    }
