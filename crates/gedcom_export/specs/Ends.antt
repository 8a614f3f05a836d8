-- How an export ends: rules of our own.
use Rattle.std.specs.Prelude.{ℕ, ◌≡◌, ◌⊎◌, ◌≤◌, ◌<◌, List, length, Option, true}
use Rattle.std.specs.Io.KnownBytes.{Appends}
use Rattle.devices.specs.Devices.{AppendsBeginning}
use Rattle.record_text.specs.declared.refusal.RefusalKind.{RefusalKind}
use Rattle.record_text.specs.declared.refusal.RefusalKind.TheVariants.{ExportTooLarge, WriteFailed}
use Rattle.archive_state.specs.Looks.{is_stop}

-- the writer has got the whole text, which has at most 67,108,864 bytes
pub record IsWhole (old new : Option (List ℕ)) (text : List ℕ) : Type 0 where
  pub short : length text ≤ 67108864
  pub written : Appends old new text

-- why not: it was stopped (1, 40, 80), the writer failed, or the text, of so many bytes, is longer
abbrev pub IsReason : ℕ → RefusalKind → Type 0
IsReason size e = (is_stop e ≡ true) ⊎ ((e ≡ WriteFailed) ⊎ ((e ≡ ExportTooLarge) × (67108864 < size)))

-- the writer has got a beginning of the text
pub record IsBegun (old new : Option (List ℕ)) (text : List ℕ) (e : RefusalKind) : Type 0 where
  pub reason : IsReason (length text) e
  pub written : AppendsBeginning old new text
