-- What looks at an archive have found, as what is said of an archive that is read.
use Rattle.std.proofs.Common.{◌≡◌, ◌∙◌, ℕ, List, Bool, true, false, Ok, Err, arith, inl, inr, refl, sym, subst}
use Rattle.std.specs.Prelude.{Option, Result, IfErr, option_map}
use Rattle.sqlite.specs.State.{State}
use Rattle.archive_state.specs.Content.{Content}
use Rattle.archive_state.specs.Looks.{CountsFailures, Looked, is_failure}
use Rattle.devices.specs.Devices.{Rose}
use Rattle.record_text.specs.declared.refusal.RefusalKind.{RefusalKind}
use Rattle.store_tables.specs.Calls.{LeavesOnly, Settled}
use Rattle.store_tables.specs.Rows.{Rows}
use Rattle.store.specs.Viewing.{Shows}
use Rattle.store.proofs.Viewed.{kept_of}
use Rattle.archive_output.proofs.Exported.{Viewed}
use Rattle.archive_tables.specs.Ends.{EndsWriting, OnRead}

not_risen : Rose 0 0 → ⊥
not_risen (inl less) = absurd (omega (arith, less))
not_risen (inr last) = absurd (omega (arith, last))

not_true : (b : Bool) → (b ≡ true → ⊥) → b ≡ false
not_true true none = absurd (none refl)
not_true false none = refl

-- where no look has failed, none was refused as one that fails
none_failed : {A : Type 0} (r : Result A RefusalKind) (before after : ℕ) → before ≡ 0 → after ≡ 0
    → CountsFailures before after r → IfErr r (λ kind. is_failure kind ≡ false)
none_failed (Ok a) before after first last counts = tt
none_failed (Err kind) before after first last counts = not_true (is_failure kind)
    (λ fails. not_risen (subst (λ n. Rose n 0) first (subst (λ n. Rose before n) last (counts.1 fails))))

-- P of what an archive shows to looks that were counted so is Q of an archive that is read
pub read_by : {A : Type 0} (found : Result A RefusalKind) (P Q : Content → Type 0) (old new : State)
    (lost lost_now : Bool) (failures failures_now : ℕ) → failures ≡ 0
    → ((rows : Rows) → Settled old rows → LeavesOnly old rows) → Viewed old lost failures new lost_now failures_now P
    → (told : Bool) → told ≡ lost_now → CountsFailures failures failures_now found
    → ((c : Content) → (told ≡ false → IfErr found (λ kind. is_failure kind ≡ false)) → P c → Q c)
    → OnRead old new Q
read_by found P Q old new lost lost_now failures failures_now none leaves viewed told same counts so clean =
    let at = viewed clean in (
      at.0,
      λ rows c was seen.
          let shown : Shows old lost failures (kept_of rows c seen) =
          record { crash = leaves rows was; settled = λ _. was; none = λ _. none } in
          let still = at.1 (kept_of rows c seen) shown in
          let sure = λ (kept : told ≡ false).
          none_failed found failures failures_now none (still.0.none (sym same ∙ kept)) counts in
          (so c sure still.1, still.0.crash),
    )

module _ {A : Type 0} (bytes : A → List ℕ) (found : Result (Option A) RefusalKind) (right : Content → Option (List ℕ))
    (old new : State) (lost lost_now : Bool) (failures failures_now : ℕ) (none : failures ≡ 0)
    (leaves : (rows : Rows) → Settled old rows → LeavesOnly old rows)
    (viewed : Viewed old lost failures new lost_now failures_now
    (λ c. Looked found (λ text. option_map bytes text ≡ right c))) where
  -- how the writing of what was found ended
  pub ended_by : (r : Result (Unit {0}) RefusalKind) (before after : Option (List ℕ)) (told : Bool) → told ≡ lost_now
      → CountsFailures failures failures_now found
      → ((text : Option (List ℕ)) → (told ≡ false → IfErr found (λ kind. is_failure kind ≡ false))
      → Looked found (λ t. option_map bytes t ≡ text) → EndsWriting r before after text)
      → OnRead old new (λ c. EndsWriting r before after (right c))
  ended_by r before after told same counts written =
      read_by found (λ c. Looked found (λ text. option_map bytes text ≡ right c))
      (λ c. EndsWriting r before after (right c)) old new lost lost_now failures failures_now none leaves viewed told
      same counts (λ c sure seen. written (right c) sure seen)
