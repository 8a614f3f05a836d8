use Rattle.std.proofs.Common.{ℕ, List, inr, subst}
use Rattle.sqlite.specs.Held.{state}
use Rattle.archive_tables.specs.Checks.{EndsChecking, check_by}
use Rattle.archive_tables.specs.Ends.{OnRead}
use Rattle.tasks.proofs.checking.check_table.Goals as goal

pub returns-in-Ok : goal.returns-in-Ok
returns-in-Ok g c =
    let did = c.write_check-found.ensures in
    let ended = subst (λ (bs : List ℕ). OnRead (state g.S.Store c.args.archive.now.conn)
    (state g.S.Store c.write_check-found.new.archive.conn) (λ k. EndsChecking c.write_check-found.result
    (g.W.Write.contents c.args.output.now) (g.W.Write.contents c.write_check-found.new.writer)
    (check_by k c.args.source.now c.args.form.order c.args.form.makes bs))) c.deref.ensures.value did.ended in
    inr (
      c.in-Ok.text.items,
      c.in-Ok.ensures.text,
      record {
        found = c.write_check-found.result;
        is = c.conclude_check.ensures.outcome;
        ended = ended;
        said = c.conclude_check.ensures.said;
        unread = did.unread;
        blamed = did.writer;
        stays = did.reads;
        lost = did.lost;
      },
    )
