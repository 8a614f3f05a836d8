-- What a trial of an import has come to, as its report.
use Rattle.std.proofs.Common.{◌≡◌, ℕ, List, true, false, Ok, Err, ap, inl, inr, refl, subst, sym, ◌∙◌}
use Rattle.std.specs.Prelude.{◌≢◌, ◌⊎◌, Option, None, Some, Result, option_map}
use Rattle.archive_state.specs.Content.{Content}
use Rattle.archive_state.specs.Looks.{Looked, is_stop}
use Rattle.gedcom_tree.specs.Forest.{Item}
use Rattle.import_definitions.specs.Made.{made}
use Rattle.import_definitions.specs.Report.{report}
use Rattle.imports.specs.Results.{IsUnreported}
use Rattle.imports.specs.RootNumbers.{root_numbers}
use Rattle.record_text.specs.declared.refusal.Refusal.{Refusal}
use Rattle.record_text.specs.declared.refusal.RefusalKind.{RefusalKind}
use Rattle.record_text.specs.declared.refusal.RefusalKind.TheVariants.{OutOfMemory}
use Rattle.import_reports.specs.Reports.{IsForeseen, IsReport, IsTrial, is_answered, text_with}

module _ {A : Type 0} (bytes : A → List ℕ) (f : List Item) where
  pub unreported_of : (numbers : List ℕ) (why : Refusal) (r : Result (Option A) RefusalKind)
      → (r ≡ Err OutOfMemory) ⊎ ((r ≡ Ok None) × (why.kind ≢ OutOfMemory)) → IsUnreported f why
      → Looked r (λ text. IsReport numbers f (option_map bytes text))
  unreported_of numbers why r (inl same) unreported =
      subst (λ x. Looked x (λ text. IsReport numbers f (option_map bytes text))) (sym same) refl
  unreported_of numbers why r (inr (none, other)) (inl same) = absurd (other (ap (λ (e : Refusal). e.kind) same))
  unreported_of numbers why r (inr (none, other)) (inr refused) =
      subst (λ x. Looked x (λ text. IsReport numbers f (option_map bytes text))) (sym none) (why, refused)

-- a refusal that comes in place of an answer, and else there is none
module _ {A : Type 0} (bytes : A → List ℕ) (c : Content) (f : List Item) where
  pub trial_of : (numbers : List ℕ) (r : Result (Option A) RefusalKind) → numbers ≡ root_numbers c f
      → Looked r (λ text. IsReport numbers f (option_map bytes text))
      → Looked r (λ text. IsTrial c f (option_map bytes text))
  trial_of numbers (Ok (Some s)) same is = is ∙ ap (λ ns. text_with ns (report f) f) same
  trial_of numbers (Ok None) same (e, is) = (e, inr is)
  trial_of numbers (Err e) same is = is

  pub untaken_of : (why : Refusal) (r : Result (Option A) RefusalKind) → (is_stop why.kind ≡ false → r ≡ Ok None)
      → (is_stop why.kind ≡ true → r ≡ Err why.kind) → (is_stop why.kind ≡ false → made c f ≡ Err why)
      → Looked r (λ text. IsTrial c f (option_map bytes text))
  untaken_of why r none stopped refused =
      elim (is_stop why.kind) as (λ b. is_stop why.kind ≡ b → Looked r (λ text. IsTrial c f (option_map bytes text))) [
        | true ↦ λ stop. subst (λ x. Looked x (λ text. IsTrial c f (option_map bytes text))) (sym (stopped stop)) stop
        | false ↦ λ own. subst (λ x. Looked x (λ text. IsTrial c f (option_map bytes text))) (sym (none own))
            (why, inl (refused own))
      ] refl

  pub foreseen_of : (token : List ℕ) (r : Result (Option A) RefusalKind) → is_answered c token ≡ false
      → Looked r (λ text. IsTrial c f (option_map bytes text))
      → Looked r (λ text. IsForeseen c token f (option_map bytes text))
  foreseen_of token (Ok (Some s)) none is = (none, is)
  foreseen_of token (Ok None) none is = inr is
  foreseen_of token (Err e) none is = is
