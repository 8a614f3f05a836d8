use Rattle.sqlite.specs.Held.{state}
use Rattle.staged_rows.specs.Staging.{with_published}
use Rattle.store.proofs.Closed.{published_closed}
use Rattle.store.proofs.Imports.{ok_both, publish_leaves, published_keeps, published_rows}
use Rattle.store.proofs.Overwritten.{published_adds}
use Rattle.store.proofs.importing.publish_on.Goals as goal

pub returns-clause-published : goal.returns-clause-published
returns-clause-published g c clean =
    let import = c.args.import.now in
    let whole = c.a_published_import_is_whole.ensures in
    ok_both c.publish.result (λ did shallow society content r has none. (
      has.2.accepted.accepted,
      (
        with_published import.batch import.changes has.0,
        did has.0 has.1,
        published_keeps whole.means (record { spans = whole.spans; links = whole.links; soughts = whole.soughts })
            c.what_an_import_adds_can_be_read.ensures society content
            r import has.0 has.2 none (shallow none),
        published_rows c.a_published_import_leaves_the_rows_of_other_numbers.ensures society content r import has.0
            has.2 none,
        published_closed has.2.before has.0 import has.2.begun,
        published_adds content r has.2.before has.0 import has.2.begun has.2.accepted.adds,
      ),
    )) (c.publish.ensures.published clean) c.publish.ensures.shallow

pub returns-clause-crash : goal.returns-clause-crash
returns-clause-crash g c clean society content r has none t l =
    let whole = c.a_published_import_is_whole.ensures in
    publish_leaves c.an_import_that_is_begun_is_in_no_view.ensures whole.means
    (record { spans = whole.spans; links = whole.links; soughts = whole.soughts })
    c.what_an_import_adds_can_be_read.ensures society content r c.args.import.now has.0
    (state g.S.Store c.publish.new.conn) has.2 none (c.publish.ensures.crash clean has.0 has.1) t l
