use Rattle.std.proofs.Common.{ap, inl, refl, subst, sym}
use Rattle.sqlite.specs.Held.{state}
use Rattle.archive_state.specs.Changes.{Changes}
use Rattle.archive_core.specs.Machine.{import_of}
use Rattle.store_tables.specs.Calls.{LeavesOnly, Settled}
use Rattle.store.specs.Importing.{HasBegun, HasAnswered}
use Rattle.store.proofs.Committed.{by_kept, no_stop, want_refused, writes_nothing}
use Rattle.store.proofs.Imports.{begin_leaves, has_answered, has_begun, none_then, only_leaves, some_then}
use Rattle.store.proofs.Told.{whole_of}
use Rattle.store.proofs.Viewed.{seen_of}
use Rattle.store.proofs.beginning.try_begin.Goals as goal

-- it is accepted anew
pub returns-in-Ok-open_import-clause-begun : goal.returns-in-Ok-open_import-clause-begun
returns-in-Ok-open_import-clause-begun g c clean =
    let r = import_of c.args.token.now (g.F.Given.forest_of c.args.given) in
    let changes = c.in-Ok.changes in
    let made = c.in-Ok-open_import.ensures in
    let before = made.clean clean in
    let new = state g.S.Store c.open_import.new.conn in
    let old = state g.S.Store c.args.archive.now.conn in
    some_then _ _ _ _ c.in-Ok-open_import.import made.whole (made.begun clean)
    (λ i whole next society content rows was keeps.
    let did = next rows (c.in-Ok.ensures.same before rows content was (seen_of keeps)).0 in
    subst (λ a. HasBegun society content rows r a i new) (sym (ap (λ (x : Changes). x.answer) c.changes.view_is))
    (subst (λ x. HasBegun society content rows r changes.answer x new) (sym whole.1.2)
    (has_begun c.an_import_that_is_begun_is_in_no_view.ensures c.nothing_is_there_of_the_next_batch.ensures society
    content rows changes old was keeps (c.in-Ok.ensures.adds before rows content was (seen_of keeps)) r
    i.batch whole.1.0 new whole.1.1 (c.in-Ok.ensures.decides before rows content was (seen_of keeps))
    (c.in-Ok.ensures.exact before rows content was (seen_of keeps)) c.in-Ok.ensures.words whole.0 did.0
    did.1)))

-- the answer was kept before
pub returns-in-Ok-open_import-clause-answered : goal.returns-in-Ok-open_import-clause-answered
returns-in-Ok-open_import-clause-answered g c clean without society content rows was keeps =
    let r = import_of c.args.token.now (g.F.Given.forest_of c.args.given) in
    let changes = c.in-Ok.changes in
    let made = c.in-Ok-open_import.ensures in
    let before = made.clean clean in
    let new = state g.S.Store c.open_import.new.conn in
    let none = none_then _ _ c.in-Ok-open_import.import made.whole without in
    let settled = (c.in-Ok.ensures.same before rows content was (seen_of keeps)).0 in
    subst (λ a. HasAnswered content rows r a new) (sym (ap (λ (x : Changes). x.answer) c.changes.view_is))
    (has_answered content rows r changes new
    (c.in-Ok.ensures.decides before rows content was (seen_of keeps))
    (c.in-Ok.ensures.exact before rows content was (seen_of keeps)) none
    (subst (λ h. Settled (state g.S.Store h) rows) (sym (made.again none)) settled))

pub returns-in-Ok-open_import-clause-crash : goal.returns-in-Ok-open_import-clause-crash
returns-in-Ok-open_import-clause-crash g c clean society content rows was keeps =
    let r = import_of c.args.token.now (g.F.Given.forest_of c.args.given) in
    let changes = c.in-Ok.changes in
    let made = c.in-Ok-open_import.ensures in
    let before = made.clean clean in
    let new = state g.S.Store c.open_import.new.conn in
    let old = state g.S.Store c.args.archive.now.conn in
    by_kept changes.kept
    (λ none. only_leaves society content rows new keeps
    (subst (λ h. LeavesOnly (state g.S.Store h) rows) (sym (made.again none))
    (c.in-Ok.ensures.crash before rows content was (seen_of keeps))))
    (λ some. begin_leaves c.an_import_that_is_begun_is_in_no_view.ensures c.nothing_is_there_of_the_next_batch.ensures
    society content rows changes old was keeps
    (c.in-Ok.ensures.adds before rows content was (seen_of keeps)) new
    (made.crash some clean rows (c.in-Ok.ensures.same before rows content was (seen_of keeps)).0))

pub returns-in-Ok-open_import-clause-repeated : goal.returns-in-Ok-open_import-clause-repeated
returns-in-Ok-open_import-clause-repeated g c clean society content rows was keeps kept =
    let r = import_of c.args.token.now (g.F.Given.forest_of c.args.given) in
    let changes = c.in-Ok.changes in
    let made = c.in-Ok-open_import.ensures in
    let before = made.clean clean in
    let none = writes_nothing content r changes
    (c.in-Ok.ensures.exact before rows content was (seen_of keeps)) kept in
    subst (λ h. LeavesOnly (state g.S.Store h) rows) (sym (made.again none))
    (c.in-Ok.ensures.crash before rows content was (seen_of keeps))

pub returns-in-Ok-open_import-clause-quiet : goal.returns-in-Ok-open_import-clause-quiet
returns-in-Ok-open_import-clause-quiet g c clean society content rows was keeps =
    (c.in-Ok.ensures.same (c.in-Ok-open_import.ensures.clean clean) rows content was (seen_of keeps)).1

pub returns-in-Ok-open_import-clause-whole : goal.returns-in-Ok-open_import-clause-whole
returns-in-Ok-open_import-clause-whole g c =
    whole_of c.in-Ok.changes c.in-Ok-open_import.import c.in-Ok-open_import.ensures.whole

-- its batch was not opened, or nobody knows whether it was
pub returns-in-Err-open_import-clause-refused : goal.returns-in-Err-open_import-clause-refused
returns-in-Err-open_import-clause-refused g c clean sure society content rows was keeps =
    let r = import_of c.args.token.now (g.F.Given.forest_of c.args.given) in
    let made = c.in-Err-open_import.ensures in
    let did = made.refused clean sure rows
    (c.in-Ok.ensures.same (made.clean clean) rows content was (seen_of keeps)).0 in
    (want_refused content r c.in-Err-open_import.kind (inl did.0) sure, did.1)

pub returns-in-Err-open_import-clause-crash : goal.returns-in-Err-open_import-clause-crash
returns-in-Err-open_import-clause-crash g c clean society content rows was keeps =
    let changes = c.in-Ok.changes in
    let made = c.in-Err-open_import.ensures in
    let before = made.clean clean in
    begin_leaves c.an_import_that_is_begun_is_in_no_view.ensures c.nothing_is_there_of_the_next_batch.ensures
    society content rows changes (state g.S.Store c.args.archive.now.conn) was keeps
    (c.in-Ok.ensures.adds before rows content was (seen_of keeps))
    (state g.S.Store c.open_import.new.conn) (made.crash made.kept clean rows
    (c.in-Ok.ensures.same before rows content was (seen_of keeps)).0)

pub returns-in-Err-open_import-clause-repeated : goal.returns-in-Err-open_import-clause-repeated
returns-in-Err-open_import-clause-repeated g c clean society content rows was keeps kept =
    let r = import_of c.args.token.now (g.F.Given.forest_of c.args.given) in
    let made = c.in-Err-open_import.ensures in
    absurd (made.kept (writes_nothing content r c.in-Ok.changes
    (c.in-Ok.ensures.exact (made.clean clean) rows content was (seen_of keeps)) kept))

-- nothing was decided, and nothing written
pub returns-in-Err-clause-refused : goal.returns-in-Err-clause-refused
returns-in-Err-clause-refused g c clean sure society content rows was keeps =
    let decided = c.in-Err.ensures in
    let e = c.in-Err.refusal in
    let readable = decided.readable clean rows content was (seen_of keeps) in (
      (
        refl,
        λ want. decided.decides clean rows content was (seen_of keeps)
            (no_stop e.kind want sure readable),
      ),
      decided.crash clean rows content was (seen_of keeps),
    )

pub returns-in-Err-clause-crash : goal.returns-in-Err-clause-crash
returns-in-Err-clause-crash g c clean society content rows was keeps =
    only_leaves society content rows (state g.S.Store c.decide_given.new.archive.conn) keeps
    (c.in-Err.ensures.crash clean rows content was (seen_of keeps))

pub returns-in-Err-clause-repeated : goal.returns-in-Err-clause-repeated
returns-in-Err-clause-repeated g c clean society content rows was keeps kept =
    c.in-Err.ensures.crash clean rows content was (seen_of keeps)
