use Rattle.std.proofs.Common.{◌≡◌, ◌≤ℤ◌, ◌<ℤ◌, arith, inl, refl, w32}
use Rattle.std.proofs.lemmas.Int.{ints, to_z-of_z}
use Rattle.std.specs.Prelude.{IfErr, OnOk}
use Rattle.sqlite.specs.Held.{state}
use Rattle.store_tables.proofs.Queries.{only_committed}
use Rattle.archive_output.specs.Reading.{OnOpen}
use Rattle.archive_output.proofs.Calls.{reads_none}
use Rattle.archive_output.specs.Ends.{AreCut, AreReversed, AreWritten}
use Rattle.archive_output.proofs.Finds.{all_in_order, in_days, part_in_order}
use Rattle.archive_output.proofs.day_writing.write_days.Goals as goal
use Rattle.list_laws.proofs.Outcomes.{keeps}

pub returns-then-first-last-clause-cut : goal.returns-then-first-last-clause-cut
returns-then-first-last-clause-cut g c =
    let behind : c.args.last <ℤ c.args.first = omega (arith, ints, c.if-first-last.true) in
    inl ((refl, behind, keeps (g.W.Write.contents c.args.writer.now)), refl)

pub returns-then-first-last-clause-unread : goal.returns-then-first-last-clause-unread
returns-then-first-last-clause-unread g c = λ _. keeps (g.W.Write.contents c.args.writer.now)

pub returns-clause-written : goal.returns-clause-written
returns-clause-written g c =
    let old = state g.S.Store c.args.archive.now.conn in
    let new = state g.S.Store c.write_found.new.archive.conn in
    let before = g.W.Write.contents c.args.writer.now in
    let after = g.W.Write.contents c.write_found.new.writer in
    let order : c.args.first ≤ℤ c.args.last = omega (arith, ints, c.if-first-last.false) in
    all_in_order c.write_found.result
    (OnOpen old new (λ _ of. AreWritten c.args.words c.args.first c.args.last before after of)) order
    (in_days (λ f l. OnOk c.write_found.result (OnOpen old new (λ _ of. AreWritten c.args.words f l before after of)))
    _ c.args.first _ c.args.last (to_z-of_z w32 c.args.first c.ranges.first)
    (to_z-of_z w32 c.args.last c.ranges.last) c.write_found.ensures.written)

pub returns-clause-cut : goal.returns-clause-cut
returns-clause-cut g c =
    let old = state g.S.Store c.args.archive.now.conn in
    let new = state g.S.Store c.write_found.new.archive.conn in
    let before = g.W.Write.contents c.args.writer.now in
    let after = g.W.Write.contents c.write_found.new.writer in
    let order : c.args.first ≤ℤ c.args.last = omega (arith, ints, c.if-first-last.false) in
    part_in_order c.write_found.result
    (λ kind. AreReversed kind c.args.first c.args.last before after
    × (c.write_found.new.archive.conn ≡ c.args.archive.now.conn))
    (λ kind. OnOpen old new (λ _ of. AreCut kind c.args.words c.args.first c.args.last before after of)) order
    (in_days
    (λ f l. IfErr c.write_found.result (λ kind. OnOpen old new (λ _ of. AreCut kind c.args.words f l before after of)))
    _ c.args.first _ c.args.last (to_z-of_z w32 c.args.first c.ranges.first)
    (to_z-of_z w32 c.args.last c.ranges.last) c.write_found.ensures.cut)

pub returns-then-first-last-clause-reads : goal.returns-then-first-last-clause-reads
returns-then-first-last-clause-reads g c =
    let conn = c.args.archive.now.conn in
    reads_none g.S.Store c.args.archive.now
    (λ rows was t l. only_committed (state g.S.Store conn) rows t was
    (g.met.S.Store.settled conn.store t was.is_open l))
