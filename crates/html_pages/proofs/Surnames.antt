-- The persons of a surname.
use Rattle.std.proofs.Common.{◌≡◌, ℕ, true, false, List, [], ◌∷◌, length}
use Rattle.std.specs.Prelude.{◌==◌}
use Rattle.archive_state.specs.Content.{Records}
use Rattle.record_text.specs.Naming.{key_of}
use Rattle.sheet_lines.specs.Numbers.{under}
use Rattle.sheet_lines.specs.declared.index.SurnameIndex.{SurnameIndex}
use Rattle.sheets.specs.Called.{AreCalled}
use Rattle.sheets.specs.Gathered.{gathered}
use Rattle.html_pages.specs.Called.{called}

-- under the key of a surname that is not empty are its persons
pub some_called : (m : Records) (s : SurnameIndex) (surname : List ℕ) → AreCalled m s → (length surname == 0) ≡ false
    → under s.numbers (key_of surname) ≡ called (gathered m) surname
some_called m s [] are is = let both : true ≡ false = is in absurd cc
some_called m s (b ∷ bs) are is = are (key_of (b ∷ bs))
