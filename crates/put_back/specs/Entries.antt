-- What is put back of a register entry: rules of our own.
use Rattle.std.specs.Prelude.{
  ℕ,
  ◌+◌,
  ◌==◌,
  ◌&&◌,
  if◌then◌else◌,
  List,
  [],
  ◌∷◌,
  ◌++◌,
  bytes_eq,
  codes,
  decimal,
  slice_get,
  Option,
  Some,
  None,
}
use Rattle.record_fields.specs.Words.{role_word}
use Rattle.record_kinds.specs.Model as model
use Rattle.put_back.specs.Rows.{Cells, date_cell, number_cell, put}

-- ---- a link
abbrev pub linked : ℕ → ℕ → model.Link → Cells
linked n k l = codes "link" ∷ decimal n ∷ decimal k ∷ decimal l.person ∷ l.reason ∷ []

abbrev pub unlinked : ℕ → ℕ → Cells
unlinked n k = codes "unlink" ∷ decimal n ∷ decimal k ∷ []

abbrev pub link_put : ℕ → ℕ → model.Link → model.Link → List Cells
link_put n k old now =
    if (old.person == now.person) && bytes_eq old.reason now.reason then [] else linked n k old ∷ []

abbrev pub link_back : ℕ → ℕ → Option model.Link → Option model.Link → List Cells
link_back n k None None = []
link_back n k None (Some now) = unlinked n k ∷ []
link_back n k (Some old) None = linked n k old ∷ []
link_back n k (Some old) (Some now) = link_put n k old now

-- ---- mentions, of which an entry has as many as ever
abbrev pub mention_back : ℕ → ℕ → model.Mention → model.Mention → List Cells
mention_back n k old now = put n (codes "name " ++ decimal k) old.name now.name
    ++ (put n (codes "role " ++ decimal k) (role_word old.role) (role_word now.role) ++ link_back n k old.link now.link)

abbrev pub mention_at : ℕ → ℕ → model.Mention → Option model.Mention → List Cells
mention_at n k old None = []
mention_at n k old (Some now) = mention_back n k old now

-- those from a place of the list on, which is counted from 0
abbrev pub mentions_back : ℕ → ℕ → List model.Mention → List model.Mention → List Cells
mentions_back n i [] now = []
mentions_back n i (x ∷ xs) now = mention_at n (i + 1) x (slice_get now i) ++ mentions_back n (i + 1) xs now

-- ---- the entry
abbrev pub key_back : ℕ → model.Entry → model.Entry → List Cells
key_back n old now = put n (codes "page") old.page now.page
    ++ put n (codes "item") (number_cell (Some old.item.number)) (number_cell (Some now.item.number))

abbrev pub entry_back : ℕ → model.Entry → model.Entry → List Cells
entry_back n old now = key_back n old now ++ (put n (codes "date") (date_cell old.date) (date_cell now.date)
    ++ (put n (codes "place") (number_cell old.place) (number_cell now.place)
    ++ (put n (codes "text") old.text now.text ++ mentions_back n 0 old.mentions now.mentions)))
