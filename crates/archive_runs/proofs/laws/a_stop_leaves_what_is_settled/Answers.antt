use Rattle.std.proofs.Common.{inr, refl}
use Rattle.sqlite.specs.Held.{state}
use Rattle.store_tables.proofs.Queries.{only_committed}
use Rattle.archive_runs.proofs.laws.a_stop_leaves_what_is_settled.Goals as goal

pub returns : goal.returns
returns g c = record {
  second = λ conn society content has t may. (
    content,
    refl,
    (
      has.0,
      only_committed (state g.S.Store conn) has.0 t has.1
          (g.met.S.Store.settled conn.store t has.1.is_open may),
      has.2,
    ),
  );
  first = λ conn society content had t may. inr (
    had.0,
    had.1,
    (
      had.2.0,
      only_committed (state g.S.Store conn) had.2.0 t had.2.1
          (g.met.S.Store.settled conn.store t had.2.1.is_open may),
      had.2.2,
    ),
  );
}
