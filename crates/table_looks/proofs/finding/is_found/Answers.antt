-- Days that do not meet: nothing is read, and the tables are as they were.
use Rattle.std.proofs.Common.{rules, sym, ap, subst, ◌∙◌}
use Rattle.sqlite.specs.Effect.{Database}
use Rattle.sqlite.specs.Held.{state}
use Rattle.store_tables.specs.Calls.{Good}
use Rattle.table_looks.proofs.finding.is_found.Goals as goal

pub returns-then-not-meet-clause-looks : goal.returns-then-not-meet-clause-looks
returns-then-not-meet-clause-looks g c =
    let here = state g.S.Store c.args.conn.now in
    record {
      read = λ clean rows was. search rules;
      same = λ clean rows was. was;
      refused = λ clean. tt;
      crash = λ clean rows was t left.
          let back = g.met.S.Store.settled c.args.conn.now.store t was.is_open left
          ∙ ap (λ (d : Database). d.trees) was.settled in
          subst (Good rows) (sym back) was.good;
      clean = λ clean. clean;
    }
