use Rattle.std.proofs.Common.{arith}
use Rattle.std.proofs.Math.Logic.{∥∥₁_map}
use Rattle.sqlite.specs.Files.{HoldsDatabase, file_state}
use Rattle.sqlite.specs.Tree.{Trees}
use Rattle.sqlite_store.specs.Laws.{stays_at}
use Rattle.archive_files.proofs.Found.{found_again}
use Rattle.archive_files.proofs.left.close_files.Goals as goal

pub returns-in-Ok : goal.returns-in-Ok
returns-in-Ok g c =
    let did = c.in-Ok.ensures.ok in
    record {
      closed = (did.0, did.1, did.2);
      copied = c.in-Ok.ensures.copied;
      again = λ clean.
          let copied = c.in-Ok.ensures.copied clean in
          record {
            clean = copied.was_clean;
            found = λ after may. ∥∥₁_map (copied.left after may).both (λ h.
                let r : (t : Trees) × (file_state c.args.conn).may_leave t × HoldsDatabase after t = (
                  (file_state c.args.conn).committed.trees,
                  stays_at c.args.conn.store g.met.D.Disk.seen_may_stay copied.was_open,
                  h,
                ) in r);
          };
    }

pub returns-in-Err : goal.returns-in-Err
returns-in-Err g c =
    let closed = c.in-Err.ensures.err.0 in
    record {
      closed = closed;
      again = λ clean numbered. record {
        clean = omega (arith, closed.quiet.clean);
        found = found_again c.args.conn c.in-Err.store numbered (closed.sound clean) closed.quiet.outcomes;
      };
    }
