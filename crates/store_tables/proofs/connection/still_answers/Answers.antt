use Rattle.std.proofs.Common.{◌≡◌, inl, inr, false, sym, subst, ◌∙◌, arith}
use Rattle.sqlite.specs.Effect.{Database}
use Rattle.sqlite.specs.Held.{state}
use Rattle.sqlite.specs.State.{State, HasCleanDisk, IsLive, IsRolledBack, IsUnchanged, Survives}
use Rattle.sqlite.specs.Tree.{Trees}
use Rattle.store_tables.specs.Calls.{Good, LeavesOnly, Settled}
use Rattle.store_tables.specs.Rows.{Rows}
use Rattle.store_tables.proofs.Reopening.{sound_once}
use Rattle.store_tables.proofs.connection.still_answers.Goals as goal

-- a connection that is open, and at the last commit, which is among what a crash may have left
settled_again : (old mid new : State) (rows : Rows) → IsRolledBack old mid → IsUnchanged mid new → IsLive new
    → old.may_leave new.committed.trees → new.in_transaction ≡ false → LeavesOnly old rows → Settled new rows
settled_again old mid new rows undone same live leaves ended only =
    let was = undone.undone same.0.was_open in
    let settled : new.committed ≡ new.now = same.0.committed_is ∙ was.1 ∙ sym (same.0.now_is ∙ was.0) in
    let good : Good rows new.now.trees = subst (λ (d : Database). Good rows d.trees) settled
    (only new.committed.trees leaves) in
    record {
      is_open = same.0.is_open;
      autocommit = ended;
      settled = settled;
      schema = sound_once rows.has_spans new.now.schema new.now.trees good.sound (live same.0.is_open).0;
      good = good;
    }

-- a call that commits nothing adds nothing to what a crash may leave
left_before : (old new : State) (t : Trees) → Survives old new (λ _. ⊥) → HasCleanDisk new → new.may_leave t
    → old.may_leave t
left_before old new t survives clean leaves = elim (survives.crash clean t leaves) [
  | inl before ↦ before
  | inr commits ↦
      absurd commits
]

pub returns-clause-settled : goal.returns-clause-settled
returns-clause-settled g c clean is rows only =
    let old = state g.S.Store c.args.conn.now in
    let mid = state g.S.Store c.take_back.new.conn in
    let new = state g.S.Store c.is_open.new.conn in
    let back = c.take_back.ensures in
    let open_again = c.is_open.ensures in
    let still : HasCleanDisk mid = omega (arith, open_again.survives.clean, clean) in
    let same = open_again.same clean is in
    let here = g.met.S.Store.stays c.is_open.new.conn.store same.0.is_open in
    settled_again old mid new rows (back.undone still) same open_again.live
    (left_before old mid _ back.survives still (left_before mid new _ open_again.survives clean here))
    open_again.ended only

pub returns-clause-kept : goal.returns-clause-kept
returns-clause-kept g c clean is was_open =
    let mid = state g.S.Store c.take_back.new.conn in
    let back = c.take_back.ensures in
    let open_again = c.is_open.ensures in
    let still : HasCleanDisk mid = omega (arith, open_again.survives.clean, clean) in
    let same = open_again.same clean is in
    let undone = (back.undone still).undone same.0.was_open in (
      same.0.now_is ∙ undone.0 ∙ sym (back.committed was_open),
      same.0.committed_is ∙ undone.1,
    )
