use Rattle.sqlite.specs.Held.{state}
use Rattle.store_tables.proofs.Queries.{only_committed}
use Rattle.archive_state.specs.Sound.{IsSound}
use Rattle.gedcom_export.specs.Ends.{IsBegun, IsWhole}
use Rattle.archive_output.specs.Exporting.{IsPart, export_text}
use Rattle.archive_output.proofs.Exported.{on_open, stays_viewed, stopped}
use Rattle.archive_output.proofs.exporting.write_looked.Goals as goal

pub returns-in-Ok-clause-written : goal.returns-in-Ok-clause-written
returns-in-Ok-clause-written g c =
    let old = c.args.archive.now in
    let new = c.export.new.view in
    let before = g.W.Write.contents c.args.output.now in
    let after = g.W.Write.contents c.export.new.writer in
    on_open (λ of. IsWhole before after (export_text c.args.society.now of))
    (λ _ of. IsWhole before after (export_text c.args.society.now of)) (state g.S.Store old.conn)
    (state g.S.Store new.conn) old.is_lost new.is_lost old.failures new.failures c.requires.quiet
    (λ rows was t l. only_committed (state g.S.Store old.conn) rows t was
    (g.met.S.Store.settled old.conn.store t was.is_open l))
    c.in-Ok.ensures.written (λ _ _ _ whole. whole)

pub returns-in-Err-clause-begun : goal.returns-in-Err-clause-begun
returns-in-Err-clause-begun g c =
    let old = c.args.archive.now in
    let new = c.export.new.view in
    let before = g.W.Write.contents c.args.output.now in
    let after = g.W.Write.contents c.export.new.writer in
    let kind = c.in-Err.refusal.kind in
    on_open (λ of. IsBegun before after (export_text c.args.society.now of) kind)
    (λ _ of. IsPart c.unless_lost.result before after (export_text c.args.society.now of))
    (state g.S.Store old.conn) (state g.S.Store new.conn) old.is_lost new.is_lost old.failures new.failures
    c.requires.quiet
    (λ rows was t l. only_committed (state g.S.Store old.conn) rows t was
    (g.met.S.Store.settled old.conn.store t was.is_open l))
    c.in-Err.ensures.written
    (λ last society of begun. stopped new.is_lost old.failures new.failures before after
    (export_text c.args.society.now of) kind c.unless_lost.result c.unless_lost.ensures.lost
    c.unless_lost.ensures.same c.requires.quiet last c.in-Err.ensures.view.1.0 begun)

pub returns-in-Ok-clause-stays : goal.returns-in-Ok-clause-stays
returns-in-Ok-clause-stays g c =
    let old = c.args.archive.now in
    let new = c.export.new.view in
    let before = g.W.Write.contents c.args.output.now in
    let after = g.W.Write.contents c.export.new.writer in
    stays_viewed (λ of. IsSound of → IsWhole before after (export_text c.args.society.now of))
    (state g.S.Store old.conn) (state g.S.Store new.conn) old.is_lost new.is_lost old.failures new.failures
    c.requires.quiet
    (λ rows was t l. only_committed (state g.S.Store old.conn) rows t was
    (g.met.S.Store.settled old.conn.store t was.is_open l))
    c.in-Ok.ensures.written

pub returns-in-Err-clause-stays : goal.returns-in-Err-clause-stays
returns-in-Err-clause-stays g c =
    let old = c.args.archive.now in
    let new = c.export.new.view in
    let before = g.W.Write.contents c.args.output.now in
    let after = g.W.Write.contents c.export.new.writer in
    stays_viewed (λ of. IsSound of → IsBegun before after (export_text c.args.society.now of) c.in-Err.refusal.kind)
    (state g.S.Store old.conn) (state g.S.Store new.conn) old.is_lost new.is_lost old.failures new.failures
    c.requires.quiet
    (λ rows was t l. only_committed (state g.S.Store old.conn) rows t was
    (g.met.S.Store.settled old.conn.store t was.is_open l))
    c.in-Err.ensures.written
