-- What goes with what is removed, the changes, and what goes with what is put.
use Rattle.std.proofs.Common.{arith}
use Rattle.archive_state.specs.Changes.{Changes}
use Rattle.store_rows.proofs.Dated.{dated_all}
use Rattle.store_rows.proofs.writing.write_dated.Goals as goal

pub returns-clause-ok : goal.returns-clause-ok
returns-clause-ok g c clean =
    let inside = c.changes.inside in
    let changes : Changes = record {
      puts = inside.puts.items;
      removals = inside.removals.items;
      next = inside.next;
      answer = inside.answer;
      kept = inside.kept;
      slip = inside.slip;
    } in
    let last = rw c.deref-2.ensures.value at (c.put_all_of.ensures.ok clean) in
    let two = rw (← c.changes.view_is) at (c.in_ok-write_all.ensures.ok
    (omega (arith, c.put_all_of.ensures.survives.clean))) in
    let one = rw c.deref.ensures.value at (c.in_ok-remove_all_of.ensures.ok
    (omega (arith, c.write_all.ensures.survives.clean, c.put_all_of.ensures.survives.clean))) in
    rw (← c.changes.view_is) (dated_all c.put_all_of.result _ _ _ _ changes one two last)
