-- The date that words give, by the value of the words. No clause that callers see names it.
use Rattle.std.specs.Prelude.{ℕ, List, [], ◌∷◌, Option, Some, None}
use Rattle.record_fields.specs.Dated.{date_from, spelt}
use Rattle.commands.specs.Fields.{text_of}
use Rattle.commands.specs.Given.{GivenDate}

-- a spelling, and the date that it is
abbrev pub dated : List ℕ → GivenDate
dated words = record { spelling = words; date = date_from (text_of words) }

unfoldable pub given_of : List ℕ → Option GivenDate
given_of [] = None
given_of (b ∷ more) = Some (dated (spelt (b ∷ more)))
