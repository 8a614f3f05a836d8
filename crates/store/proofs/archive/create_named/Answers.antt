use Rattle.std.proofs.Common.{inl, inr, refl, Bool, true, ◌≡◌}
use Rattle.std.specs.Prelude.{IsTrue}
use Rattle.sqlite.specs.Held.{state}
use Rattle.store_tables.specs.Rows.{nothing_yet}
use Rattle.store_tables.proofs.Queries.{only_committed}
use Rattle.archive_state.specs.Content.{nothing}
use Rattle.store.proofs.Adopted.{no_import}
use Rattle.store.proofs.Looked.{new_keeps}
use Rattle.store.proofs.archive.create_named.Goals as goal

is_true : (b : Bool) → b ≡ true → IsTrue b
is_true b e = e

pub returns-in-Ok-clause-created : goal.returns-in-Ok-clause-created
returns-in-Ok-clause-created g c clean blank =
    let society = c.args.society.now in
    let new = state g.S.Store c.create.new.conn in
    let rows = nothing_yet society in
    let settled = c.in-Ok.ensures.done clean blank in
    let keeps = new_keeps society in (
      (rows, settled, keeps),
      λ t l. (
        nothing,
        refl,
        (
          rows,
          only_committed new rows t settled (g.met.S.Store.settled c.create.new.conn.store t settled.is_open l),
          keeps,
        ),
      ),
    )

pub returns-in-Ok-clause-closed : goal.returns-in-Ok-clause-closed
returns-in-Ok-clause-closed g c clean blank =
    no_import (state g.S.Store c.create.new.conn) (nothing_yet c.args.society.now) (c.in-Ok.ensures.done clean blank)
    refl

pub returns-in-Err-clause-refused : goal.returns-in-Err-clause-refused
returns-in-Err-clause-refused g c =
    let society = c.args.society.now in
    inr (
      refl,
      c.is_blank.ensures.0 (is_true _ c.if-not-is_blank.false),
      λ clean blank t l. elim (c.in-Err.ensures.crash clean blank t l) [
        | inl still ↦ inl still
        | inr good ↦ inr (nothing_yet society, good, new_keeps society)
      ],
    )
