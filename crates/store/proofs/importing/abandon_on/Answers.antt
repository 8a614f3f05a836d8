use Rattle.std.proofs.Common.{ap, ap₂, subst, sym, ◌∙◌}
use Rattle.sqlite.specs.Held.{state}
use Rattle.store_tables.specs.Calls.{Settled}
use Rattle.store_tables.proofs.Calls.{on_ok}
use Rattle.store_rows.specs.Meaning.{is_closed}
use Rattle.staged_rows.specs.Removing.{AreAside, AreOf, without_batch}
use Rattle.staged_rows.specs.Staging.{numbers_of}
use Rattle.store.proofs.Imports.{abandon_leaves, aside_of, gone_of, has_spans}
use Rattle.store.proofs.importing.abandon_on.Goals as goal

pub returns-clause-gone : goal.returns-clause-gone
returns-clause-gone g c clean =
    let new = state g.S.Store c.remove_batch.new.conn in
    let i = c.args.import.now in
    on_ok c.remove_batch.result (λ gone society content r has. (
      gone_of c.an_import_that_is_taken_out_leaves_what_was.ensures society content r c.args.import.now has.0 new has.2
          (subst (Settled new) (ap₂ (λ b ns. without_batch b ns c.links.result.now has.0) c.batch.ensures
          c.numbers.ensures ∙ ap (λ ls. without_batch i.batch (numbers_of i.changes.puts) ls has.0) c.links.ensures)
          (gone has.0 has.1
          (has_spans c.an_import_that_is_begun_is_in_no_view.ensures society content r c.args.import.now has.0 has.2))),
      has.2.keeps,
    )) (c.remove_batch.ensures.gone clean)

pub returns-clause-crash : goal.returns-clause-crash
returns-clause-crash g c clean society content r has t l =
    let aside = aside_of c.an_import_that_is_begun_can_be_taken_out.ensures society content r c.args.import.now has.0
    has.2 in
    abandon_leaves c.an_import_that_is_begun_is_in_no_view.ensures society content r c.args.import.now has.0
    (state g.S.Store c.remove_batch.new.conn) has.2
    (c.remove_batch.ensures.crash clean has.0 has.1
    (has_spans c.an_import_that_is_begun_is_in_no_view.ensures society content r c.args.import.now has.0 has.2)
    (ap (λ b. is_closed b has.0.batches) c.batch.ensures ∙ aside.1)
    (subst (λ ns. AreAside ns has.0) (sym c.numbers.ensures) aside.0)
    (subst (λ ns. AreOf ns c.links.result.now) (sym c.numbers.ensures)
    (subst (AreOf (numbers_of c.args.import.now.changes.puts)) (sym c.links.ensures) aside.2))) t l
