-- A correction leaves all but its record as it was.
use Rattle.std.proofs.Common.{◌≡◌, ℕ, subst}
use Rattle.std.specs.Prelude.{Result, Ok, IfOk}
use Rattle.record_kinds.specs.declared.record.Record.{Record}
use Rattle.archive_state.specs.Content.{Content}
use Rattle.commands.specs.Rows.{and_then}
use Rattle.record_changes.specs.Laws.{ChangesOnly}
use Rattle.record_changes.specs.Steps.{replaced}
use Rattle.commands.specs.declared.correction.GivenCorrection.{GivenCorrection}
use Rattle.commands.specs.declared.correction.GivenCorrection.TheVariants as given
use Rattle.field_changes.proofs.Retagging.{leaves_all_else_of_tags}
use Rattle.field_changes.proofs.Stepping.{if_answered, leaves_all_else as else_left, then_ok}
use Rattle.place_names.specs.Laws.{LeavesAllElse}
use Rattle.place_names.specs.Steps.{correct, corrected_record, paths_pass}

-- what holds of an answer that is there
pub of_answer : {A E : Type 0} (P : A → Type 0) (r : Result A E) (a : A) → IfOk r P → r ≡ Ok a → P a
of_answer P r a h e = subst (λ x. IfOk x P) e h

record_left : (c : Content) (n : ℕ) (x : GivenCorrection) (r : Record) → corrected_record c n x ≡ Ok r
    → ChangesOnly c n (replaced c n r)
record_left c n (given.Tag words) r e =
    of_answer (λ s. ChangesOnly c n (replaced c n s)) (corrected_record c n (given.Tag words)) r
    (leaves_all_else_of_tags c n words) e
record_left c n (given.Value v) r e =
    of_answer (λ s. ChangesOnly c n (replaced c n s)) (corrected_record c n (given.Value v)) r (else_left c n v) e

pub leaves_all_else : LeavesAllElse
leaves_all_else c n x =
    if_answered (ChangesOnly c n) (correct c n x) (λ done e.
    let r = then_ok (corrected_record c n x) (λ r. and_then (paths_pass c n r) (λ _. Ok (replaced c n r))) done e in
    let p = then_ok (paths_pass c n r.0) (λ _. Ok (replaced c n r.0)) done r.2 in
    let same : replaced c n r.0 ≡ done = let f = p.2 in cc in
    subst (ChangesOnly c n) same (record_left c n x r.0 r.1))
