-- A text on the stream of faults. Rules of our own.
use Rattle.std.specs.Prelude.{◌⊎◌, ℕ, List, Option}
use Rattle.std.specs.Io.KnownBytes.{Appends}
use Rattle.devices.specs.Devices.{AppendsBeginning, Rose}

-- a text was written, whole but where the count of failures rose: then a prefix of it. `said` is what the faults have
-- got, `failed` how often they failed
abbrev pub IsReported : {F : Type 0} → (F → Option (List ℕ)) → (F → ℕ) → F → F → List ℕ → Type 0
IsReported said failed old new text = Appends (said old) (said new) text
    ⊎ (AppendsBeginning (said old) (said new) text × Rose (failed old) (failed new))
