-- Text on its way to a writer, of which some waits to be handed over.
use Rattle.std.specs.Prelude.{ℕ, ◌≡◌, ◌+◌, ◌≤◌, List, ◌++◌, length, Option, string_bytes}
use Rattle.std.specs.Io.KnownBytes.{Appends}
use Rattle.devices.specs.Devices.{AppendsBeginning}
use Rattle.record_text.specs.declared.refusal.RefusalKind.{RefusalKind}
use Rattle.gedcom_export.specs.Ends.{IsReason}
use Rattle.gedcom_export.specs.declared.output.Output.{Output}

-- a text is put after what waits, and of both a front is handed over, and counted
pub record Moves (old new : Option (List ℕ)) (before after : Output) (added : List ℕ) : Type 0 where
  pub front : List ℕ
  pub taken : Appends old new front
  pub parts : front ++ string_bytes after.text ≡ string_bytes before.text ++ added
  pub counted : after.written ≡ before.written + length front

-- all that was counted and what waits are short enough
abbrev pub IsShort : Output → Type 0
IsShort o = o.written + length (string_bytes o.text) ≤ 67108864

-- it ends there: a beginning of what waited and of the text is handed over
pub record Halts (old new : Option (List ℕ)) (before : Output) (added : List ℕ) (e : RefusalKind) : Type 0 where
  pub reason : IsReason (before.written + length (string_bytes before.text ++ added)) e
  pub written : AppendsBeginning old new (string_bytes before.text ++ added)
