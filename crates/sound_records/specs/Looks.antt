-- What one look for the path of a place finds.
use Rattle.std.specs.Prelude.{ℕ, ◌≡◌, Bool, true, false, List, Option, Some, None, string_bytes}
use Rattle.std.specs.FinMap.{insert}
use Rattle.record_shapes.specs.Paths.{is_within_limits}
use Rattle.sound_records.specs.Knowing.{PathMap}
use Rattle.sound_records.specs.declared.survey.PathLook.{PathLook}
use Rattle.sound_records.specs.declared.survey.PathLook.TheVariants as look

-- no path, a path within the limits, or one that is not
abbrev pub IsLook : Option (List ℕ) → PathLook → Type 0
IsLook o look.Nothing = o ≡ None
IsLook o (look.Path p) = (o ≡ Some (string_bytes p)) × (is_within_limits (string_bytes p) ≡ true)
IsLook o look.TooLong = (path : List ℕ) × (o ≡ Some path) × (is_within_limits path ≡ false)

abbrev pub is_too_long : PathLook → Bool
is_too_long look.TooLong = true
is_too_long _ = false

-- a path that was found is added
abbrev pub Keeps : PathMap → PathMap → ℕ → PathLook → Type 0
Keeps before after n (look.Path p) = after ≡ insert before n (string_bytes p)
Keeps before after n _ = after ≡ before
