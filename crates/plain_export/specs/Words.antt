-- The words of notes and pages in a plain export: rules of our own.
use Rattle.std.specs.Prelude.{ℕ, List, [], ◌∷◌, ◌++◌, codes, decimal, Option, Some, None}
use Rattle.std.specs.List.{flat_map}
use Rattle.record_fields.specs.declared.date.Date.{Date}
use Rattle.record_fields.specs.Words.{entry_kind_word, role_word}
use Rattle.record_kinds.specs.Model as model

-- a text after a mark; nothing of an empty one
abbrev pub after : List ℕ → List ℕ → List ℕ
after mark [] = []
after mark (b ∷ bs) = mark ++ b ∷ bs

-- a text before a mark; nothing of an empty one
abbrev pub before : List ℕ → List ℕ → List ℕ
before mark [] = []
before mark (b ∷ bs) = (b ∷ bs) ++ mark

-- the words of a date; none of no date
abbrev pub date_words : Option Date → List ℕ
date_words None = []
date_words (Some d) = d.text

-- ---- participants
abbrev pub role_words : List ℕ → List ℕ
role_words [] = []
role_words (b ∷ bs) = codes " (" ++ ((b ∷ bs) ++ codes ")")

-- below the event: who took part, by the name that is displayed, and as what
abbrev pub with_words : List ℕ → List ℕ → List ℕ
with_words shown role = codes "with " ++ (shown ++ role_words role)

-- below the association: in what
abbrev pub event_words : model.Event → List ℕ
event_words e = e.tag ++ after (codes ", ") (date_words e.date)

-- as what; `participant` where it is not said
abbrev pub relation_words : List ℕ → List ℕ
relation_words [] = codes "participant"
relation_words (b ∷ bs) = b ∷ bs

-- ---- register entries
-- where an entry stands in its register
abbrev pub page_words : model.Entry → List ℕ
page_words e = before (codes ", ") e.page ++ (codes "no. " ++ decimal e.item.number)

abbrev pub reason_words : Option model.Link → List ℕ
reason_words None = []
reason_words (Some l) = after (codes ": ") l.reason

-- who is named, as what, and, where the mention is linked, why
abbrev pub mention_words : model.Mention → List ℕ
mention_words x = role_word x.role ++ (codes " " ++ (x.name ++ reason_words x.link))

-- the same on a line of its own
abbrev pub mention_line : model.Mention → List ℕ
mention_line x = codes "\n" ++ mention_words x

-- a whole entry, at a place with that path: where it stands, its kind, date and place, and on further lines its
-- mentions and its text
abbrev pub entry_words : List ℕ → model.Entry → List ℕ
entry_words path e = page_words e ++ (codes ": " ++ (entry_kind_word e.kind
    ++ (after (codes ", ") (date_words e.date) ++ (after (codes ", ") path
    ++ (flat_map mention_line e.mentions ++ after (codes "\n") e.text)))))
