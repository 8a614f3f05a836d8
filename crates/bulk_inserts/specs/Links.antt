-- Links that are inserted, each after those before it. Rules of our own.
use Rattle.std.specs.Prelude.{◌≡◌, false, List, [], ◌∷◌}
use Rattle.std.specs.List.{list_any}
use Rattle.store_tables.specs.Rows.{LinkRow, Rows, is_pair, with_link}

abbrev pub with_links : List LinkRow → Rows → Rows
with_links [] rows = rows
with_links (l ∷ ls) rows = with_links ls (with_link l.target l.no rows)

-- none of them was there
abbrev pub AreNewLinks : List LinkRow → Rows → Type 0
AreNewLinks [] rows = Unit {0}
AreNewLinks (l ∷ ls) rows = (list_any (is_pair l.target l.no) rows.links ≡ false)
    × AreNewLinks ls (with_link l.target l.no rows)

abbrev pub eight : LinkRow → LinkRow → LinkRow → LinkRow → LinkRow → LinkRow → LinkRow → LinkRow → List LinkRow
eight a b c d e f g h = a ∷ b ∷ c ∷ d ∷ e ∷ f ∷ g ∷ h ∷ []
