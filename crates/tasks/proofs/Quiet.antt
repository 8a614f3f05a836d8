-- The status of a task, and what is said on the faults where it is 0.
use Rattle.std.proofs.Common.{
  ◌≡◌,
  ◌∙◌,
  ◌≤◌,
  ℕ,
  List,
  Bool,
  true,
  false,
  ap,
  arith,
  inl,
  inr,
  refl,
  subst,
  sym,
  true≢false,
  Ok,
  Err,
}
use Rattle.std.specs.Prelude.{MatchBool, Option, Result, OnOk}
use Rattle.std.specs.declared.io.Read as read
use Rattle.std.specs.declared.io.Write as write
use Rattle.sqlite_trees.specs.declared.store.Store.{Ghosts}
use Rattle.archive_tables.specs.declared.checking.PageFound.TheVariants.{Checked, Unread}
use Rattle.archive_state.specs.Content.{Content}
use Rattle.devices.specs.declared.device.Device as device
use Rattle.record_text.specs.declared.refusal.RefusalText.{RefusalText}
use Rattle.row_references.specs.declared.words.NumberWord.{NumberWord}
use Rattle.tasks.specs.Ends.{ChecksTable, Does, Ends}
use Rattle.tasks.proofs.Aloud.{far_quiet}
use Rattle.tasks.specs.Checking.{Checking, SaysFound, as_checked}
use Rattle.tasks.specs.Moments.{Moment}
use Rattle.tasks.specs.Status.{Finishes, Outcome}
use Rattle.tasks.specs.Stopping.{Concludes, is_said, reporting_of}
use Rattle.tasks.specs.declared.task.TableForm.{TableForm}
use Rattle.tasks.specs.declared.task.Task.{Task}
use Rattle.tasks.specs.declared.task.Task.TheVariants as task

-- something may be said on the faults though the task is done
abbrev pub says : Task → Bool
says task.Apply = true
says task.ApplyUntilRefused = true
says (task.ApplyAsExpected expected stops) = true
says (task.Import token progress) = progress
says (task.EnterTable token source form) = true
says task.ExportPlain = true
says (task.ExportPublicPlain today) = true
says _ = false

-- ---- a status
pub at_most_1 : {F : Type 0} (said : F → Option (List ℕ)) (failed : F → ℕ) (o : Outcome) (status : ℕ) (old new : F)
    → Finishes said failed o status old new → status ≤ 1
at_most_1 said failed (Ok done) status old new f = omega (arith, f.0)
at_most_1 said failed (Err t) status old new f = omega (arith, f.0)

pub done_quiet : {F : Type 0} (said : F → Option (List ℕ)) (failed : F → ℕ) (o : Outcome) (status : ℕ)
    (first old new : F) → Finishes said failed o status old new → OnOk o (old ≡ first) → status ≡ 0 → new ≡ first
done_quiet said failed (Ok done) status first old new f quiet zero = f.1 ∙ quiet
done_quiet said failed (Err t) status first old new f quiet zero = absurd (omega (arith, f.0, zero))

-- a row may have been reported
concludes_at_most_1 : {F : Type 0} (said : F → Option (List ℕ)) (failed : F → ℕ) (reported : Bool) (o : Outcome)
    (status : ℕ) (old new : F) → MatchBool reported ((status ≡ 1) × (new ≡ old)) (Finishes said failed o status old new)
    → status ≤ 1
concludes_at_most_1 said failed true o status old new f = omega (arith, f.0)
concludes_at_most_1 said failed false o status old new f = at_most_1 said failed o status old new f

one_of : {F : Type 0} (said : F → Option (List ℕ)) (failed : F → ℕ) (reported : Bool) (e : RefusalText)
    (status : ℕ) (old new : F)
    → MatchBool reported ((status ≡ 1) × (new ≡ old)) (Finishes said failed (Err e) status old new) → status ≡ 1
one_of said failed true e status old new f = f.0
one_of said failed false e status old new f = f.0

concludes_quietly : {F : Type 0} (said : F → Option (List ℕ)) (failed : F → ℕ) (reported : Bool) (o : Outcome)
    (status : ℕ) (first old new : F)
    → MatchBool reported ((status ≡ 1) × (new ≡ old)) (Finishes said failed o status old new)
    → OnOk o (old ≡ first) → status ≡ 0 → new ≡ first
concludes_quietly said failed true o status first old new f quiet zero = absurd (omega (arith, f.0, zero))
concludes_quietly said failed false o status first old new f quiet zero =
    done_quiet said failed o status first old new f quiet zero

-- a refusal, whether its row was reported or not
pub refused_with_1 : {F : Type 0} (said : F → Option (List ℕ)) (failed : F → ℕ) (t : Task) (e : RefusalText)
    (status : ℕ) (old new : F) → Concludes said failed t (Err e) status old new → status ≡ 1
refused_with_1 said failed t e status old new f =
    one_of said failed (is_said (reporting_of t) (Err e)) e status old new f

-- ---- a task
on_ok : {A E P : Type 0} (r : Result A E) → P → OnOk r P
on_ok (Ok a) p = p
on_ok (Err e) p = tt

-- whether the archive was lost before or not
either_way : (lost : Bool) (P : Type 0) → (lost ≡ false → P) → (lost ≡ true → P) → P
either_way false P kept lost = kept refl
either_way true P kept lost = lost refl

module _ {S R W F : Type 0} (g : Ghosts S) (reader : read.Ghosts R) (reads : device.Ghosts R) (writer : write.Ghosts W)
    (writes : device.Ghosts W) (faulter : write.Ghosts F) (fails : device.Ghosts F) where
  -- a table in which nothing is wrong
  looked_quietly : (a b : Moment g R W F) (r : Checking) (o : Outcome) → o ≡ as_checked r
      → SaysFound faulter.contents fails.failed r a.faults b.faults → OnOk o (b.faults ≡ a.faults)
  looked_quietly a b (Ok (Checked false)) o e said = on_ok o said
  looked_quietly a b (Ok (Checked true)) o e said = on_ok o said
  looked_quietly a b (Ok (Unread text)) o e said = subst (λ (q : Outcome). OnOk q (b.faults ≡ a.faults)) (sym e) tt
  looked_quietly a b (Err kind) o e said = on_ok o said

  checked_quietly : (a b : Moment g R W F) (source : NumberWord) (form : TableForm) (o : Outcome)
      → ChecksTable g reader reads writer writes faulter fails a b source form o → OnOk o (b.faults ≡ a.faults)
  checked_quietly a b source form o (inl none) = on_ok o none.5
  checked_quietly a b source form o (inr did) = looked_quietly a b did.2.found o did.2.is did.2.said

  does_quietly : (t : Task) (a b : Moment g R W F) (o : Outcome) (shown : Option Content)
      → Does g reader reads writer writes faulter fails a b t o shown → says t ≡ false → OnOk o (b.faults ≡ a.faults)
  does_quietly task.Apply a b o shown did is = absurd (true≢false is)
  does_quietly task.ApplyUntilRefused a b o shown did is = absurd (true≢false is)
  does_quietly (task.ApplyAsExpected expected stops) a b o shown did is = absurd (true≢false is)
  does_quietly (task.Entries token source) a b o shown did is = on_ok o did.1
  does_quietly (task.EnterTable token source form) a b o shown did is = absurd (true≢false is)
  does_quietly (task.CheckTable source form) a b o shown did is = checked_quietly a b source form o did.0
  does_quietly (task.Import token progress) a b o shown did is =
      on_ok o (far_quiet g reader reads writer writes faulter fails a b progress token o is did.1)
  does_quietly task.Export a b o shown did is = on_ok o did.2
  does_quietly (task.ExportPublic today) a b o shown did is = on_ok o did.2
  does_quietly task.ExportPlain a b o shown did is = absurd (true≢false is)
  does_quietly (task.ExportPublicPlain today) a b o shown did is = absurd (true≢false is)
  does_quietly (task.Sheet sheet today) a b o shown did is = on_ok o did.2
  does_quietly (task.Library today) a b o shown did is = on_ok o did.4
  does_quietly task.Audit a b o shown did is = did.0.4
  does_quietly (task.Days first last words) a b o shown did is = on_ok o did.2
  does_quietly (task.List source listing) a b o shown did is = on_ok o did.2
  does_quietly (task.Show numbers) a b o shown did is = on_ok o did.2
  does_quietly (task.History n) a b o shown did is = on_ok o did.2

  pub ends_at_most_1 : (t : Task) (a b : Moment g R W F) (status : ℕ) (shown : Option Content)
      → Ends g reader reads writer writes faulter fails t a b status shown → status ≤ 1
  ends_at_most_1 t a b status shown e =
      concludes_at_most_1 faulter.contents fails.failed (is_said (reporting_of t) e.outcome) e.outcome status
      e.between b.faults e.finishes

  pub ends_quietly : (t : Task) (a b : Moment g R W F) (status : ℕ) (shown : Option Content)
      → Ends g reader reads writer writes faulter fails t a b status shown → says t ≡ false → status ≡ 0
      → b.faults ≡ a.faults
  ends_quietly t a b status shown e is zero =
      let quiet = either_way a.archive.is_lost (OnOk e.outcome (e.between ≡ a.faults))
      (λ kept. does_quietly t a _ e.outcome shown (e.does kept) is)
      (λ lost. on_ok e.outcome (ap (λ (m : Moment g R W F). m.faults) (e.reopen lost).2)) in
      concludes_quietly faulter.contents fails.failed (is_said (reporting_of t) e.outcome) e.outcome status a.faults
      e.between b.faults e.finishes quiet zero
