use Rattle.std.proofs.Common.{arith, ◌∙◌}
use Rattle.sqlite.specs.Held.{state}
use Rattle.sqlite.specs.State.{HasCleanDisk}
use Rattle.store_tables.proofs.Widening.{
  adds_links,
  adds_packs,
  adds_pasts,
  adds_sides,
  adds_soughts,
  adds_spans,
  all_widened,
  loses_lines,
}
use Rattle.store_tables.proofs.creating.create_later_tables.Goals as goal

pub returns-clause-ok : goal.returns-clause-ok
returns-clause-ok g c clean rows undated inside =
    let began = state g.S.Store c.args.tx.now.conn.now in
    let base = began.now.trees in
    let half = state g.S.Store c.execute.new.self.conn.now in
    let one = state g.S.Store c.execute-2.new.self.conn.now in
    let two = state g.S.Store c.execute-3.new.self.conn.now in
    let three = state g.S.Store c.execute-4.new.self.conn.now in
    let four = state g.S.Store c.execute-5.new.self.conn.now in
    let five = state g.S.Store c.execute-6.new.self.conn.now in
    let six = state g.S.Store c.execute-7.new.self.conn.now in
    let seven = state g.S.Store c.execute-8.new.self.conn.now in
    let last = state g.S.Store c.execute-9.new.self.conn.now in
    let clean_seven : HasCleanDisk seven = omega (arith, clean, c.execute-9.ensures.survives.clean) in
    let clean_six : HasCleanDisk six = omega (arith, clean_seven, c.execute-8.ensures.survives.clean) in
    let clean_five : HasCleanDisk five = omega (arith, clean_six, c.execute-7.ensures.survives.clean) in
    let clean_four : HasCleanDisk four = omega (arith, clean_five, c.execute-6.ensures.survives.clean) in
    let clean_three : HasCleanDisk three = omega (arith, clean_four, c.execute-5.ensures.survives.clean) in
    let clean_two : HasCleanDisk two = omega (arith, clean_three, c.execute-4.ensures.survives.clean) in
    let clean_one : HasCleanDisk one = omega (arith, clean_two, c.execute-3.ensures.survives.clean) in
    let clean_half : HasCleanDisk half = omega (arith, clean_one, c.execute-2.ensures.survives.clean) in
    let lost = c.in_ok-execute.ensures.runs clean_half inside.inside in
    let gone = loses_lines began half one rows c.in_ok-execute.field-0 c.in_ok-execute-2.field-0 undated lost
    (c.in_ok-execute-2.ensures.runs clean_one lost.1.mode) inside in
    let sides = adds_sides base one two c.in_ok-execute-3.field-0
    (c.in_ok-execute-3.ensures.runs clean_two gone.0.inside) gone.0 in
    let packs = adds_packs base two three c.in_ok-execute-4.field-0
    (c.in_ok-execute-4.ensures.runs clean_three sides.0.inside) sides.0 in
    let spans = adds_spans base three four c.in_ok-execute-5.field-0
    (c.in_ok-execute-5.ensures.runs clean_four packs.0.inside) packs.0 in
    let links = adds_links base four five c.in_ok-execute-6.field-0
    (c.in_ok-execute-6.ensures.runs clean_five spans.0.inside) spans.0 in
    let soughts = adds_soughts base five six c.in_ok-execute-7.field-0
    (c.in_ok-execute-7.ensures.runs clean_six links.0.inside) links.0 in
    let pasts = adds_pasts base six seven c.in_ok-execute-8.field-0
    (c.in_ok-execute-8.ensures.runs clean_seven soughts.0.inside) soughts.0 in
    let all = all_widened began seven last rows c.in_ok-execute-9.field-0 undated inside pasts.0
    (c.in_ok-execute-9.ensures.runs clean pasts.0.inside) in
    (all.0, all.1 ∙ pasts.1 ∙ soughts.1 ∙ links.1 ∙ spans.1 ∙ packs.1 ∙ sides.1 ∙ gone.1)
