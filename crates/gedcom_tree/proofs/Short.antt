-- No line of a forest's text is long.
use Rattle.std.proofs.Common.{◌≡◌, true, leb, List, [], ◌∷◌, ◌++◌, map, refl, ap, ◌∙◌}
use Rattle.std.specs.List.{list_all}
use Rattle.std.proofs.lemmas.Bool.{le-leb}
use Rattle.gedcom_line.specs.Reading.{Parts}
use Rattle.gedcom_line.specs.Spelling.{spelling}
use Rattle.gedcom_line.specs.Split.{char_count}
use Rattle.gedcom_tree.specs.Forest.{Item, lines_of}
use Rattle.gedcom_tree.specs.Text.{IsForest, HasShortLines, text, trailer}
use Rattle.gedcom_tree.proofs.Again.{text_pieces}
use Rattle.gedcom_tree.proofs.Same.{EachShort, lines_short}

pieces_short : (ls : List Parts) → EachShort ls → list_all (λ p. leb (char_count p) 300)
    (map spelling ls ++ [] ∷ []) ≡ true
unfolding char_count
pieces_short [] h = refl
pieces_short (l ∷ ls) h = rw (le-leb (char_count (spelling l)) 300 h.0) (pieces_short ls h.1)

pub text_short : (f : List Item) → IsForest f → HasShortLines (text f)
text_short f h = ap (list_all (λ p. leb (char_count p) 300)) (text_pieces f h) ∙ pieces_short
    (lines_of f ++ trailer ∷ []) (lines_short f h)
