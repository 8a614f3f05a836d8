-- What is put back of a family: its members that are missing. Rules of our own.
use Rattle.std.specs.Prelude.{ℕ, ◌==◌, Bool, if◌then◌else◌, List, [], ◌∷◌, ◌++◌, codes, decimal}
use Rattle.std.specs.List.{flat_map, list_any}
use Rattle.record_fields.specs.Words.{partnership_word}
use Rattle.record_kinds.specs.Model as model
use Rattle.put_back.specs.Rows.{Cells}

abbrev pub is_partner : ℕ → model.Partner → Bool
is_partner n p = p.person == n

abbrev pub is_child : ℕ → model.Child → Bool
is_child n c = c.person == n

abbrev pub partner_back : ℕ → List model.Partner → model.Partner → List Cells
partner_back n now p = if list_any (is_partner p.person) now then []
    else (codes "partner" ∷ decimal n ∷ partnership_word p.partnership ∷ decimal p.person ∷ []) ∷ []

abbrev pub child_back : ℕ → List model.Child → model.Child → List Cells
child_back n now c =
    if list_any (is_child c.person) now then [] else (codes "child" ∷ decimal n ∷ decimal c.person ∷ []) ∷ []

abbrev pub family_back : ℕ → model.Family → model.Family → List Cells
family_back n old now =
    flat_map (partner_back n now.partners) old.partners ++ flat_map (child_back n now.children) old.children
