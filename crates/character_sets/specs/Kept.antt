-- What stays of lines.
use Rattle.std.specs.Prelude.{◌≡◌, List, map}
use Rattle.character_sets.specs.Lines.{Line}

-- as many lines, with the same units that end them
abbrev pub HaveSameEnds : List Line → List Line → Type 0
HaveSameEnds ls ms = map (λ (l : Line). l.ending) ls ≡ map (λ (l : Line). l.ending) ms
