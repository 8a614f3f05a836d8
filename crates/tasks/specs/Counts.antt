-- How far an import is, on the faults. Rules of our own.
use Rattle.std.specs.Prelude.{◌≡◌, ◌≢◌, ◌⊎◌, ◌++◌, ◌∷◌, [], ℕ, Bool, false, List, Option, codes}
use Rattle.std.specs.Fmt.{decimal}
use Rattle.std.specs.Io.KnownBytes.{Appends}
use Rattle.std.specs.declared.io.Write as write
use Rattle.devices.specs.Devices.{AppendsBeginning, Rose}
use Rattle.devices.specs.declared.device.Device as device
use Rattle.staging.specs.Counts.{RowCount}
use Rattle.tasks.specs.declared.progress.ProgressLines.{ProgressLines}

-- how many rows are written, and how many there are
abbrev pub count_line : RowCount → List ℕ
count_line rows = codes "staged "
    ++ (decimal rows.written ++ (codes " of " ++ (decimal rows.all ++ (codes " rows" ++ 10 ∷ []))))

module _ {F : Type 0} (said : F → Option (List ℕ)) (failed : F → ℕ) where
  -- the line of a count, or a prefix of it
  abbrev pub SaysPart : F → RowCount → F → Type 0
  SaysPart old rows new = AppendsBeginning (said old) (said new) (count_line rows)

  -- the line of a count, whole but where the faults failed, by their count; it may be left out before all is written
  abbrev pub SaysCount : F → RowCount → F → Type 0
  SaysCount old rows new = Appends (said old) (said new) (count_line rows)
      ⊎ ((SaysPart old rows new × Rose (failed old) (failed new)) ⊎ ((new ≡ old) × (rows.written ≢ rows.all)))

  -- the same of who reports it, and whether no memory was found for a line, before and now
  abbrev pub SaysOrStarves : F → Bool → RowCount → F → Bool → Type 0
  SaysOrStarves old was rows new is = SaysPart old rows new × (is ≡ false → (was ≡ false) × SaysCount old rows new)

-- and these faults are kept to
abbrev pub SaysAloud : {C F : Type 0} → write.Ghosts F → device.Ghosts F → ProgressLines C F → RowCount
    → ProgressLines C F → Type 0
SaysAloud faulter fails old rows new = (new.faults.ghost_name ≡ old.faults.ghost_name)
    × SaysOrStarves faulter.contents fails.failed old.faults.now old.starved rows new.faults.now new.starved
