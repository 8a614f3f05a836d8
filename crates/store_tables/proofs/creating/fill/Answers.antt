use Rattle.std.proofs.Common.{arith, refl, ◌∙◌}
use Rattle.store_tables.proofs.Calls.{on_ok}
use Rattle.store_tables.proofs.creating.fill.Goals as goal

pub returns-clause-ok : goal.returns-clause-ok
returns-clause-ok g c clean =
    let one = c.in_ok-create_indexes.ensures.ok (omega (
      arith,
      c.insert_meta.ensures.survives.clean,
      c.insert_batch.ensures.survives.clean,
      c.create_later_tables.ensures.survives.clean,
      c.set_version.ensures.survives.clean,
    )) in
    let two = c.in_ok-insert_meta.ensures.ok (omega (
      arith,
      c.insert_batch.ensures.survives.clean,
      c.create_later_tables.ensures.survives.clean,
      c.set_version.ensures.survives.clean,
    )) in
    let three = c.in_ok-insert_batch.ensures.ok
    (omega (arith, c.create_later_tables.ensures.survives.clean, c.set_version.ensures.survives.clean)) in
    let four = c.in_ok-create_later_tables.ensures.ok (omega (arith, c.set_version.ensures.survives.clean)) in
    on_ok c.set_version.result (λ follows was.
    let built = one was in
    let began = two built.0 in
    let first = three _ began.0 in
    let later = four _ refl first.0 in
    let last = follows _ refl later.0 in
    (last.0, last.1 ∙ later.1 ∙ first.1 ∙ began.1 ∙ built.1)) (c.set_version.ensures.ok clean)
