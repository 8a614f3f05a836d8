-- How a check ends that was refused.
use Rattle.std.proofs.Common.{◌≡◌, ℕ, List, Bool, true, false, Ok, Err, inl, inr, refl, subst, sym}
use Rattle.std.specs.Prelude.{◌≢◌, Option, None, Some, Result, IfErr}
use Rattle.std.specs.Io.KnownBytes.{Keeps}
use Rattle.archive_state.specs.Looks.{is_failure, is_stop}
use Rattle.record_text.specs.declared.refusal.RefusalKind.{RefusalKind}
use Rattle.record_text.specs.declared.refusal.RefusalKind.TheVariants.{OutOfMemory, WriteFailed}
use Rattle.archive_state.specs.Content.{Content}
use Rattle.page_checks.proofs.Unblamed.{never_written}
use Rattle.page_entries.specs.declared.dates.DateOrder.{DateOrder}
use Rattle.row_references.specs.Words.{number_in}
use Rattle.row_references.specs.declared.words.NumberWord.{NumberWord}
use Rattle.table_pages.specs.Sheets.{Sheet, sheet_of}
use Rattle.table_pages.specs.declared.fault.PageFault.{PageFault}
use Rattle.archive_tables.specs.Checks.{EndsChecking, Right, check_by, check_with, unsourced}

module _ (kind told : RefusalKind) (before after : Option (List ℕ)) (right : Right)
    (stops : is_stop kind ≡ true → is_failure kind ≡ false → told ≡ OutOfMemory)
    (same : is_stop kind ≡ false → kind ≢ WriteFailed → told ≡ kind) (sure : is_failure kind ≡ false)
    (agrees : is_stop kind ≡ false → right ≡ Err kind) (unblamed : IfErr right (λ k. k ≢ WriteFailed))
    (kept : Keeps before after) where
  by_stop : (stop : Bool) → is_stop kind ≡ stop → EndsChecking (Err told) before after right
  by_stop true e = inl (inl (stops e sure), kept)
  by_stop false e =
      let is : right ≡ Err kind = agrees e in
      let other : kind ≢ WriteFailed = subst (λ (r : Right). IfErr r (λ k. k ≢ WriteFailed)) is unblamed in
      subst (λ (r : Right). EndsChecking (Err told) before after r) (sym is) (inr (same e other, kept))

  pub refused_by : EndsChecking (Err told) before after right
  refused_by = by_stop (is_stop kind) refl

-- the writer is not to blame for what a check answers
never_unsourced : (sheet : Result Sheet PageFault) → IfErr (unsourced sheet) (λ kind. kind ≢ WriteFailed)
never_unsourced (Ok sheet) = λ same. absurd cc
never_unsourced (Err fault) = tt

never_with : (c : Content) (source : Option ℕ) (order : Option DateOrder) (makes : Bool) (bytes : List ℕ)
    → IfErr (check_with c source order makes bytes) (λ kind. kind ≢ WriteFailed)
never_with c (Some n) order makes bytes = never_written c n order makes bytes
never_with c None order makes bytes = never_unsourced (sheet_of bytes)

pub never_written_by : (c : Content) (word : NumberWord) (order : Option DateOrder) (makes : Bool) (bytes : List ℕ)
    → IfErr (check_by c word order makes bytes) (λ kind. kind ≢ WriteFailed)
never_written_by c word order makes bytes = never_with c (number_in c word) order makes bytes
