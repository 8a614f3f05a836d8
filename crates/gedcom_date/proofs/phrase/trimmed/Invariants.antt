use Rattle.std.proofs.Common.{◌≡◌, List, ℕ, ◌++◌, true, length}
use Rattle.std.specs.List.{list_all}
use denote.Text.{Utf8}
use denote.Shadow.{shadow}
use Rattle.gedcom_date.specs.Words.{is_space}
use Rattle.gedcom_date.proofs.phrase.trimmed.Given as goal

abbrev pub invariant-loop-front : goal.invariant-loop-front
invariant-loop-front l = shadow (Utf8 l.rest)
    × ((after : List ℕ) × (l.text ≡ l.rest ++ after) × (list_all is_space after ≡ true))

abbrev pub decreases-loop-front : goal.decreases-loop-front
decreases-loop-front l = length l.rest
