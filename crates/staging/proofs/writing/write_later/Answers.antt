use Rattle.std.proofs.Common.{◌+◌, ◌<◌, ◌≤◌, ap, arith, drop, length, map, subst, take, ◌∙◌}
use Rattle.sqlite.specs.Held.{state}
use Rattle.store_tables.specs.Calls.{FollowsDated}
use Rattle.staged_rows.specs.Staging.{a_link, with_staged}
use Rattle.staging.specs.Opened.{FollowsStaged, later_left, row_of_sought_row, row_of_span}
use Rattle.staging.proofs.Cursors.{links_behind, links_written, sought_behind, sought_written, span_written}
use Rattle.staging.proofs.writing.write_later.Goals as goal

-- links
pub returns-then-cursor-links-clause-ok : goal.returns-then-cursor-links-clause-ok
returns-then-cursor-links-clause-ok g c clean =
    let old = state g.S.Store c.args.tx.now.conn.now in
    let new = state g.S.Store c.write_links.new.tx.conn.now in
    let later = c.args.later.now in
    let cursor = c.args.cursor.now in
    let n = c.in_ok-written.written in
    let few : cursor.links + n ≤ length later.links.items = omega (
      arith,
      c.in_ok-written.ensures.few.2,
      ap length c.as_slice-links.ensures.value,
    ) in
    links_written later cursor n few old new
    (subst (λ ls. FollowsStaged old new (map a_link (take n (drop cursor.links ls)))) c.as_slice-links.ensures.value
    (c.in_ok-written.ensures.ok clean))

pub returns-then-cursor-links-clause-left : goal.returns-then-cursor-links-clause-left
returns-then-cursor-links-clause-left g c =
    let later = c.args.later.now in
    let cursor = c.args.cursor.now in
    let n = c.in_ok-written.written in
    let few : cursor.links + n ≤ length later.links.items = omega (
      arith,
      c.in_ok-written.ensures.few.2,
      ap length c.as_slice-links.ensures.value,
    ) in
    ap (later_left later) c.in_ok-written.ensures.next ∙ links_behind later cursor n few

-- what a record is looked for by
pub returns-then-cursor-soughts-clause-ok : goal.returns-then-cursor-soughts-clause-ok
returns-then-cursor-soughts-clause-ok g c clean =
    let old = state g.S.Store c.args.tx.now.conn.now in
    let new = state g.S.Store c.write_sought.new.tx.conn.now in
    let later = c.args.later.now in
    let cursor = c.args.cursor.now in
    let past : length later.links.items ≤ cursor.links = omega (
      arith,
      c.if-cursor-links.false,
      ap length c.as_slice-links.ensures.value,
    ) in
    let low : cursor.soughts < length later.soughts.items = omega (
      arith,
      c.if-cursor-soughts.true,
      ap length c.as_slice-soughts.ensures.value,
    ) in
    sought_written later cursor past low old new
    (subst (λ ss. FollowsDated old new (with_staged (take 1 (map row_of_sought_row (drop cursor.soughts ss)))))
    c.as_slice-soughts.ensures.value (c.in_ok-write_sought.ensures.ok clean))

pub returns-then-cursor-soughts-clause-left : goal.returns-then-cursor-soughts-clause-left
returns-then-cursor-soughts-clause-left g c =
    let later = c.args.later.now in
    let cursor = c.args.cursor.now in
    let past : length later.links.items ≤ cursor.links = omega (
      arith,
      c.if-cursor-links.false,
      ap length c.as_slice-links.ensures.value,
    ) in
    let low : cursor.soughts < length later.soughts.items = omega (
      arith,
      c.if-cursor-soughts.true,
      ap length c.as_slice-soughts.ensures.value,
    ) in
    ap (later_left later) c.in_ok-write_sought.ensures.next ∙ sought_behind later cursor past low

-- a span, where one is left
pub returns-clause-ok : goal.returns-clause-ok
returns-clause-ok g c clean =
    let old = state g.S.Store c.args.tx.now.conn.now in
    let new = state g.S.Store c.write_span.new.tx.conn.now in
    let later = c.args.later.now in
    let cursor = c.args.cursor.now in
    let past : length later.links.items ≤ cursor.links = omega (
      arith,
      c.if-cursor-links.false,
      ap length c.as_slice-links.ensures.value,
    ) in
    let more : length later.soughts.items ≤ cursor.soughts = omega (
      arith,
      c.if-cursor-soughts.false,
      ap length c.as_slice-soughts.ensures.value,
    ) in
    span_written later cursor past more old new
    (subst (λ ds. FollowsDated old new (with_staged (take 1 (map row_of_span (drop cursor.spans ds)))))
    c.as_slice-spans.ensures.value (c.in_ok-write_span.ensures.ok clean))
