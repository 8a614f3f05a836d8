use Rattle.std.proofs.Common.{rules, ◌≡◌, ℕ, List, [], ◌∷◌, subst}
use Rattle.sqlite.specs.Held.{state}
use Rattle.store_tables.specs.Reading.{IsU32}
use Rattle.store_tables.specs.Calls.{Inside}
use Rattle.store_tables.proofs.Calls.{followed}
use Rattle.bulk_inserts.specs.Records.{with_records}
use Rattle.bulk_inserts.proofs.FourRecords.{four_inserted, still_typed}
use Rattle.bulk_inserts.proofs.records.insert_four.Goals as goal

pub returns-clause-ok : goal.returns-clause-ok
returns-clause-ok g c clean rows inside =
    let old = state g.S.Store c.args.tx.now.conn.now in
    let new = state g.S.Store c.execute.new.self.conn.now in
    let a : ℕ × List ℕ = (c.a.inside.number, c.a.inside.kind.now) in
    let b : ℕ × List ℕ = (c.b.inside.number, c.b.inside.kind.now) in
    let d : ℕ × List ℕ = (c.c.inside.number, c.c.inside.kind.now) in
    let e : ℕ × List ℕ = (c.d.inside.number, c.d.inside.kind.now) in
    let low-a : IsU32 c.a.inside.number = search rules in
    let low-b : IsU32 c.b.inside.number = search rules in
    let low-c : IsU32 c.c.inside.number = search rules in
    let low-d : IsU32 c.d.inside.number = search rules in
    let low : IsU32 c.args.batch = search rules in
    let ran = rw (
      c.params-to_sql.ensures,
      c.params-to_sql-2.ensures,
      c.params-to_sql-3.ensures,
      c.params-to_sql-4.ensures,
      c.params-to_sql-5.ensures,
      c.params-to_sql-6.ensures,
      c.params-to_sql-7.ensures,
      c.params-to_sql-8.ensures,
      c.params-to_sql-9.ensures,
    ) at (c.in_ok-execute.ensures.runs clean inside.inside) in
    let done = followed _ _ old new _ (with_records c.args.batch (a ∷ b ∷ d ∷ e ∷ []))
    (four_inserted old new a b d e c.args.batch c.in_ok-execute.field-0)
    (still_typed c.args.batch low (a ∷ b ∷ d ∷ e ∷ []) (low-a, (low-b, (low-c, (low-d, tt))))) ran rows inside in
    let all = λ (ws : List (ℕ × List ℕ)).
    Inside new (with_records c.args.batch ws rows) × (new.committed ≡ old.committed) in
    subst (λ x. all (c.args.a.now ∷ c.args.b.now ∷ c.args.c.now ∷ x ∷ [])) c.d.view_is
    (subst (λ x. all (c.args.a.now ∷ c.args.b.now ∷ x ∷ e ∷ [])) c.c.view_is
    (subst (λ x. all (c.args.a.now ∷ x ∷ d ∷ e ∷ [])) c.b.view_is
    (subst (λ x. all (x ∷ b ∷ d ∷ e ∷ [])) c.a.view_is done)))
