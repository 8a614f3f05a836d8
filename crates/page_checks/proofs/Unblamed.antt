-- No check is refused as a failed write.
use Rattle.std.proofs.Common.{ℕ, List, Bool, true, false, Ok, Err, Some, None}
use Rattle.std.specs.Prelude.{◌≢◌, Option, Result, IfErr}
use Rattle.std.specs.FinMap.{get}
use Rattle.archive_state.specs.Content.{Content}
use Rattle.command_checks.specs.Checks.{demanded_at, demanded_in, need}
use Rattle.command_checks.specs.declared.kinds.Demand.TheVariants.{Source}
use Rattle.commands.specs.Rows.{and_then}
use Rattle.page_checks.specs.Page.{found_on, page_check, unless_unread}
use Rattle.page_checks.specs.declared.page.PageCheck.{PageCheck}
use Rattle.page_entries.specs.declared.dates.DateOrder.{DateOrder}
use Rattle.record_text.specs.declared.refusal.RefusalKind.{RefusalKind}
use Rattle.record_text.specs.declared.refusal.RefusalKind.TheVariants.{WriteFailed, WrongKind}
use Rattle.table_pages.specs.Sheets.{Sheet, sheet_of}
use Rattle.table_pages.specs.declared.fault.PageFault.{PageFault}

abbrev pub IsUnblamed : {A : Type 0} → Result A RefusalKind → Type 0
IsUnblamed r = IfErr r (λ kind. kind ≢ WriteFailed)

needed : (b : Bool) → IsUnblamed (need b WrongKind)
needed true = tt
needed false = λ e. absurd cc

demanded : (o : _) → IsUnblamed (demanded_in Source o)
demanded None = λ e. absurd cc
demanded (Some r) = needed _

with_found : (check : PageCheck) (r : Result (Unit {0}) RefusalKind) → IsUnblamed r
    → IsUnblamed {A = Result PageCheck PageFault} (and_then r (λ u. Ok (Ok check)))
with_found check (Ok u) ok = tt
with_found check (Err kind) ok = ok

read : (c : Content) (source : ℕ) (order : Option DateOrder) (makes : Bool) (r : Result Sheet PageFault)
    → IsUnblamed (unless_unread c source order makes r)
read c source order makes (Ok sheet) =
    with_found (found_on c source order makes sheet) (demanded_at c Source source) (demanded (get c.records source))
read c source order makes (Err fault) = tt

pub never_written : (c : Content) (source : ℕ) (order : Option DateOrder) (makes : Bool) (bytes : List ℕ)
    → IfErr (page_check c source order makes bytes) (λ kind. kind ≢ WriteFailed)
never_written c source order makes bytes = read c source order makes (sheet_of bytes)
