-- All changes, and values of before.
use Rattle.std.proofs.Common.{arith}
use Rattle.archive_state.specs.Changes.{Changes}
use Rattle.store_rows.proofs.PastsAside.{all_written}
use Rattle.store_rows.proofs.writing.write_wholly.Goals as goal

pub returns-clause-ok : goal.returns-clause-ok
returns-clause-ok g c clean =
    let inside = c.changes.inside in
    let changes : Changes = record {
      puts = inside.puts.items;
      removals = inside.removals.items;
      next = inside.next;
      answer = inside.answer;
      kept = inside.kept;
      slip = inside.slip;
    } in
    let one = rw (← c.changes.view_is) at (c.in_ok-write_dated.ensures.ok
    (omega (arith, c.write_pasts.ensures.survives.clean))) in
    rw (← c.changes.view_is) (all_written c.write_pasts.result _ _ _ changes c.args.pasts.now one
    (c.write_pasts.ensures.ok clean))
