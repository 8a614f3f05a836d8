-- How a call for a sheet ends.
use Rattle.std.specs.Prelude.{ℕ, ◌≡◌, ◌⊎◌, List, Result, Err}
use Rattle.record_text.specs.declared.refusal.RefusalKind.{RefusalKind}
use Rattle.record_text.specs.declared.refusal.RefusalKind.TheVariants.{OutOfMemory}

-- memory was refused, or that is the refusal of the sheet
abbrev pub IsRefused : RefusalKind → Result (List ℕ) RefusalKind → Type 0
IsRefused e sheet = (e ≡ OutOfMemory) ⊎ (sheet ≡ Err e)
