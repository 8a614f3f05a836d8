use Rattle.std.proofs.Common.{None, inl, refl}
use Rattle.sqlite.specs.Held.{state}
use Rattle.archive_core.specs.Machine.{import_of}
use Rattle.store_tables.proofs.Queries.{only_committed}
use Rattle.store.proofs.Committed.{ok_performs, refusal_performs, want_refused}
use Rattle.store.proofs.Steps.{all_done, all_undone, done_or_not_all, none_anew, not_done}
use Rattle.store.proofs.Told.{told_done, told_of}
use Rattle.store.proofs.whole_imports.import_whole.Goals as goal

-- ---- all steps are done, or the answer was kept
pub returns-in-Ok-finish_begun-clause-acknowledged : goal.returns-in-Ok-finish_begun-clause-acknowledged
returns-in-Ok-finish_begun-clause-acknowledged g c clean =
    let finished = c.in-Ok-finish_begun.ensures in
    let mid = c.begin_on.new.archive.conn in
    let before = finished.clean clean in
    all_done g.S.Store (state g.S.Store c.args.archive.now.conn) mid c.finish_begun.new.conn
    (import_of c.args.token.now c.args.forest) c.in-Ok.answer c.in-Ok.begun (c.in-Ok.ensures.begun before)
    (c.in-Ok.ensures.answered before) finished.none (finished.done clean)

pub returns-in-Ok-finish_begun-clause-performs : goal.returns-in-Ok-finish_begun-clause-performs
returns-in-Ok-finish_begun-clause-performs g c clean =
    let finished = c.in-Ok-finish_begun.ensures in
    let mid = c.begin_on.new.archive.conn in
    let before = finished.clean clean in
    let r = import_of c.args.token.now c.args.forest in
    let old = state g.S.Store c.args.archive.now.conn in
    let new = state g.S.Store c.finish_begun.new.conn in
    ok_performs old new r c.in-Ok.answer
    (all_done g.S.Store old mid c.finish_begun.new.conn r c.in-Ok.answer c.in-Ok.begun (c.in-Ok.ensures.begun before)
    (c.in-Ok.ensures.answered before) finished.none (finished.done clean))
    (λ rows was t l. only_committed new rows t was
    (g.met.S.Store.settled c.finish_begun.new.conn.store t was.is_open l))
    (c.in-Ok.ensures.clean before)

pub returns-in-Ok-finish_begun-clause-repeated : goal.returns-in-Ok-finish_begun-clause-repeated
returns-in-Ok-finish_begun-clause-repeated g c clean =
    let finished = c.in-Ok-finish_begun.ensures in
    let before = finished.clean clean in
    none_anew g.S.Store (state g.S.Store c.args.archive.now.conn) c.begin_on.new.archive.conn c.finish_begun.new.conn
    (import_of c.args.token.now c.args.forest) c.in-Ok.answer c.in-Ok.begun (c.in-Ok.ensures.begun before)
    (c.in-Ok.ensures.repeated before) finished.none

pub returns-in-Ok-finish_begun-clause-quiet : goal.returns-in-Ok-finish_begun-clause-quiet
returns-in-Ok-finish_begun-clause-quiet g c clean society content rows was keeps =
    c.in-Ok.ensures.quiet (c.in-Ok-finish_begun.ensures.clean clean) society content rows was keeps

pub returns-in-Ok-finish_begun-clause-told : goal.returns-in-Ok-finish_begun-clause-told
returns-in-Ok-finish_begun-clause-told g c =
    let finished = c.in-Ok-finish_begun.ensures in
    told_of g.P.Progress.Tells c.in-Ok.begun c.args.progress.now c.finish_begun.new.progress c.in-Ok.ensures.whole
    finished.silent finished.told

pub returns-in-Ok-finish_begun-clause-told_done : goal.returns-in-Ok-finish_begun-clause-told_done
returns-in-Ok-finish_begun-clause-told_done g c clean =
    let finished = c.in-Ok-finish_begun.ensures in
    let before = finished.clean clean in
    told_done g.P.Progress.Tells (state g.S.Store c.args.archive.now.conn)
    (state g.S.Store c.begin_on.new.archive.conn) (import_of c.args.token.now c.args.forest) c.in-Ok.answer
    c.in-Ok.begun c.args.progress.now c.finish_begun.new.progress c.in-Ok.ensures.whole (c.in-Ok.ensures.begun before)
    (c.in-Ok.ensures.answered before) finished.silent finished.told_all

-- ---- a step is refused
pub returns-in-Err-finish_begun-clause-told : goal.returns-in-Err-finish_begun-clause-told
returns-in-Err-finish_begun-clause-told g c =
    let finished = c.in-Err-finish_begun.ensures in
    told_of g.P.Progress.Tells c.in-Ok.begun c.args.progress.now c.finish_begun.new.progress c.in-Ok.ensures.whole
    finished.silent finished.told

pub returns-in-Err-finish_begun-clause-performs : goal.returns-in-Err-finish_begun-clause-performs
returns-in-Err-finish_begun-clause-performs g c clean =
    let finished = c.in-Err-finish_begun.ensures in
    let mid = c.begin_on.new.archive.conn in
    let before = finished.clean clean in
    let kind = c.in-Err-finish_begun.kind in
    let r = import_of c.args.token.now c.args.forest in
    let old = state g.S.Store c.args.archive.now.conn in
    let new = state g.S.Store c.finish_begun.new.conn in
    refusal_performs old new r (record { kind = kind; at = None })
    (λ sure society content rows was keeps.
    let undone = all_undone g.S.Store old mid c.finish_begun.new.conn r c.in-Ok.answer kind c.in-Ok.begun finished.some
    (c.in-Ok.ensures.begun before) (finished.undone clean sure) society content rows was keeps in (
      want_refused content r kind (inl undone.0) sure,
      undone.1,
      λ t l. only_committed new rows t undone.1
          (g.met.S.Store.settled c.finish_begun.new.conn.store t undone.1.is_open l),
    ))
    (done_or_not_all g.S.Store old mid c.finish_begun.new.conn r c.in-Ok.answer c.in-Ok.begun finished.some
    (c.in-Ok.ensures.begun before) (finished.crash clean))
    (c.in-Ok.ensures.clean before)

pub returns-in-Err-finish_begun-clause-refused : goal.returns-in-Err-finish_begun-clause-refused
returns-in-Err-finish_begun-clause-refused g c clean sure society content rows was keeps =
    let finished = c.in-Err-finish_begun.ensures in
    (all_undone g.S.Store (state g.S.Store c.args.archive.now.conn) c.begin_on.new.archive.conn
    c.finish_begun.new.conn (import_of c.args.token.now c.args.forest) c.in-Ok.answer c.in-Err-finish_begun.kind
    c.in-Ok.begun finished.some (c.in-Ok.ensures.begun (finished.clean clean)) (finished.undone clean sure)
    society content rows was keeps).1

pub returns-in-Err-finish_begun-clause-repeated : goal.returns-in-Err-finish_begun-clause-repeated
returns-in-Err-finish_begun-clause-repeated g c clean =
    let finished = c.in-Err-finish_begun.ensures in
    let before = finished.clean clean in
    none_anew g.S.Store (state g.S.Store c.args.archive.now.conn) c.begin_on.new.archive.conn c.finish_begun.new.conn
    (import_of c.args.token.now c.args.forest) c.in-Ok.answer c.in-Ok.begun (c.in-Ok.ensures.begun before)
    (c.in-Ok.ensures.repeated before) finished.none

-- ---- it is refused before it is begun
pub returns-in-Err-clause-told : goal.returns-in-Err-clause-told
returns-in-Err-clause-told g c = inl refl

pub returns-in-Err-clause-performs : goal.returns-in-Err-clause-performs
returns-in-Err-clause-performs g c clean =
    let begun = c.in-Err.ensures in
    let r = import_of c.args.token.now c.args.forest in
    let old = state g.S.Store c.args.archive.now.conn in
    let new = state g.S.Store c.begin_on.new.archive.conn in
    refusal_performs old new r c.in-Err.refusal
    (λ sure society content rows was keeps.
    let did = begun.refused clean sure society content rows was keeps in (
      did.0,
      did.1,
      λ t l. only_committed new rows t did.1
          (g.met.S.Store.settled c.begin_on.new.archive.conn.store t did.1.is_open l),
    ))
    (λ society content rows was keeps.
    not_done new society content r (begun.crash clean society content rows was keeps))
    (begun.clean clean)

pub returns-in-Err-clause-refused : goal.returns-in-Err-clause-refused
returns-in-Err-clause-refused g c clean sure society content rows was keeps =
    (c.in-Err.ensures.refused clean sure society content rows was keeps).1
