-- Calls in a transaction over tables that have spans: one after the other, and loops of them.
use Rattle.std.proofs.Common.{refl, ◌∙◌, Result, OnOk}
use Rattle.sqlite.specs.State.{State}
use Rattle.store_tables.specs.Calls.{Follows, FollowsDated, FollowsUndated}
use Rattle.store_tables.specs.Rows.{Rows, with_later_tables, with_version}
use Rattle.store_tables.proofs.Calls.{on_ok}
use Rattle.store_rows.proofs.Dated.{dated_then, KeepsTable}

pub dated : (a b : State) (f : Rows → Rows) → Follows a b f → FollowsDated a b f
dated a b f p rows has was = p rows was

pub dated_last : {A E : Type 0} (r : Result A E) (a b c : State) (f g : Rows → Rows) → KeepsTable f → Follows a b f
    → OnOk r (FollowsDated b c g) → OnOk r (FollowsDated a c (λ rows. g (f rows)))
dated_last r a b c f g keeps one = on_ok r (dated_then a b c f g keeps (dated a b f one))

-- three calls over such tables, the last of which has the result of all
pub dated_three : {A E : Type 0} (r : Result A E) (a b c d : State) (f g h : Rows → Rows) → KeepsTable f → KeepsTable g
    → FollowsDated a b f → FollowsDated b c g → OnOk r (FollowsDated c d h)
    → OnOk r (FollowsDated a d (λ rows. h (g (f rows))))
dated_three r a b c d f g h first next one two = on_ok r (dated_then a c d (λ rows. g (f rows)) h
    (λ rows has. next (f rows) (first rows has)) (dated_then a b c f g first one two))

-- the tables and the version, then what is of records, then what is of slips
pub renewed : {A E : Type 0} (r : Result A E) (a b c d e : State) (f g : Rows → Rows) → KeepsTable f
    → FollowsUndated a b with_later_tables → FollowsDated b c (with_version 2) → FollowsDated c d f
    → OnOk r (FollowsDated d e g)
    → OnOk r (FollowsUndated a e (λ rows. g (f (with_version 2 (with_later_tables rows)))))
renewed r a b c d e f g keeps p q s = on_ok r (λ last rows none was.
    let one = p rows none was in
    let two = q (with_later_tables rows) refl one.0 in
    let three = s (with_version 2 (with_later_tables rows)) refl two.0 in
    let mid : Rows = with_version 2 (with_later_tables rows) in
    let four = last (f mid) (keeps mid refl) three.0 in
    (four.0, four.1 ∙ three.1 ∙ two.1 ∙ one.1))
