-- What looks for the places and the source of a page or a batch have come to: rules of our own.
use Rattle.std.specs.Prelude.{◌≡◌, ◌⊎◌, ℕ, List, Option, Some, None, Result, Ok, Err}
use Rattle.record_text.specs.declared.refusal.RefusalKind.{RefusalKind}
use Rattle.record_text.specs.declared.refusal.RefusalKind.TheVariants.{NoSuch}
use Rattle.page_batches.specs.Looks.{Found}
use Rattle.store_tables.specs.Looking.{IsFailure}

-- the places, or why the page is refused
abbrev pub Looks : Type 0
Looks = Result (List Found) RefusalKind

-- it is what is right; or memory was refused or the database failed
abbrev pub AreLooked : Looks → Looks → Type 0
AreLooked (Ok found) right = right ≡ Ok found
AreLooked (Err kind) right = IsFailure kind ⊎ (right ≡ Err kind)

-- what was found is so; or memory was refused or the database failed
abbrev pub IsFound : {A : Type 0} → Result A RefusalKind → (A → Type 0) → Type 0
IsFound (Ok a) P = P a
IsFound (Err kind) P = IsFailure kind

-- it is the number that is right; or there is none, which is 50; or memory was refused or the database failed
abbrev pub IsSourced : Result ℕ RefusalKind → Option ℕ → Type 0
IsSourced (Ok n) right = right ≡ Some n
IsSourced (Err kind) right = IsFailure kind ⊎ ((kind ≡ NoSuch) × (right ≡ None))
