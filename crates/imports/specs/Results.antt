-- The batch beside the report, and why there is no report.
use Rattle.std.specs.Prelude.{◌≡◌, ◌⊎◌, List, None, Result, Ok, Err}
use Rattle.record_text.specs.declared.refusal.Refusal.{Refusal}
use Rattle.record_text.specs.declared.refusal.RefusalKind.TheVariants.{OutOfMemory}
use Rattle.gedcom_tree.specs.Forest.{Item}
use Rattle.archive_state.specs.Content.{nothing}
use Rattle.import_definitions.specs.Made.{made}

-- the first of two answers
abbrev pub batch_in : {A B E : Type 0} → Result (A × B) E → Result A E
batch_in (Ok both) = Ok both.0
batch_in (Err e) = Err e

-- why there is no report of a forest: memory was refused, or an empty archive does not take it
abbrev pub IsUnreported : List Item → Refusal → Type 0
IsUnreported forest e = (e ≡ record { kind = OutOfMemory; at = None }) ⊎ (made nothing forest ≡ Err e)
