-- What a page has outside of its tags.
use Rattle.std.specs.Prelude.{ℕ, Bool, true, false, not, nat_eq, if◌then◌else◌, List, [], ◌∷◌}
use Rattle.html_text.specs.Escapes.{escaped}
use Rattle.html_text.specs.Pages.{Piece, Start, Void, End, Words}

-- what is left where each tag, from `<` to the next `>`, is left out; within: whether the text begins within a tag
abbrev pub left : Bool → List ℕ → List ℕ
left within [] = []
left true (c ∷ cs) = left (not (nat_eq c 62)) cs
left false (c ∷ cs) = if nat_eq c 60 then left true cs else c ∷ left false cs

abbrev pub outside : List ℕ → List ℕ
outside text = left false text

-- what a piece has outside of tags
abbrev pub words_of : Piece → List ℕ
words_of (Start element attributes) = []
words_of (Void element attributes) = []
words_of (End element) = []
words_of (Words text) = escaped text
