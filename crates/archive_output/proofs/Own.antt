-- What is refused of what was read: never 40 or 80.
use Rattle.std.proofs.Common.{◌≡◌, ◌∙◌, ◌⊎◌, inl, inr, ℕ, Bool, true, false, List, Ok, Err, refl, sym, ap, true≢false}
use Rattle.std.specs.Prelude.{Option, Some, None, Result, IfErr}
use Rattle.archive_state.specs.Content.{Records}
use Rattle.archive_state.specs.Looks.{is_failure}
use Rattle.record_kinds.specs.declared.record.Record.{Record}
use Rattle.record_kinds.specs.declared.record.Record.TheVariants as kind
use Rattle.record_text.specs.declared.refusal.RefusalKind.{RefusalKind}
use Rattle.record_text.specs.declared.refusal.RefusalKind.TheVariants.{OutOfMemory, WriteFailed}
use Rattle.sheets.specs.Answers.{IsRefused}
use Rattle.sheets.specs.Gathered.{Gathered, gathered}
use Rattle.sheets.specs.Pedigrees.{pedigree_in}
use Rattle.sheets.specs.Sheets.{family_in, person_in, register_in}
use Rattle.archive_output.specs.Sheets.{sheet_text}
use Rattle.archive_output.specs.declared.sheet.Sheet.{Sheet}
use Rattle.archive_output.specs.declared.sheet.Sheet.TheVariants as sheet

-- ---- sheets
abbrev fails : Result (List ℕ) RefusalKind → Bool
fails (Ok text) = false
fails (Err e) = is_failure e

module _ (g : Gathered) (n : ℕ) where
  person_own : (r : Option Record) → fails (person_in g n r) ≡ false
  person_own None = refl
  person_own (Some (kind.Person p)) = refl
  person_own (Some _) = refl

  family_own : (r : Option Record) → fails (family_in g n r) ≡ false
  family_own None = refl
  family_own (Some (kind.Family f)) = refl
  family_own (Some _) = refl

  register_own : (r : Option Record) → fails (register_in g n r) ≡ false
  register_own None = refl
  register_own (Some (kind.Source s)) = refl
  register_own (Some _) = refl

  pedigree_own : (generations : ℕ) (r : Option Record) → fails (pedigree_in g n generations r) ≡ false
  pedigree_own generations None = refl
  pedigree_own generations (Some (kind.Person p)) = refl
  pedigree_own generations (Some _) = refl

sheet_own : (m : Records) (which : Sheet) → fails (sheet_text m which) ≡ false
sheet_own m (sheet.Person n) = person_own (gathered m) n ((gathered m).at n)
sheet_own m (sheet.Family n) = family_own (gathered m) n ((gathered m).at n)
sheet_own m (sheet.Register n) = register_own (gathered m) n ((gathered m).at n)
sheet_own m (sheet.Pedigree n generations) =
    pedigree_own (gathered m) n generations.count ((gathered m).at n)

pub own_refusal : (m : Records) (which : Sheet) (e : RefusalKind) → IsRefused e (sheet_text m which)
    → is_failure e ≡ false
own_refusal m which e (inl want) = ap is_failure want
own_refusal m which e (inr is) = sym (ap fails is) ∙ sheet_own m which

-- ---- a text that was written, or not
pub own_writing : {A : Type 0} (r : Result A RefusalKind)
    → IfErr r (λ e. (e ≡ WriteFailed) ⊎ (e ≡ OutOfMemory)) → IfErr r (λ e. is_failure e ≡ false)
own_writing (Ok a) why = tt
own_writing (Err e) (inl failed) = ap is_failure failed
own_writing (Err e) (inr want) = ap is_failure want

-- so nothing is said of what could not be read
pub never_unread : {A : Type 0} (r : Result A RefusalKind) (P : Type 0) → IfErr r (λ e. is_failure e ≡ false)
    → IfErr r (λ e. is_failure e ≡ true → P)
never_unread (Ok a) P own = tt
never_unread (Err e) P own = λ is. absurd (true≢false (sym is ∙ own))
