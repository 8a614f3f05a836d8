-- What a record adds to other records in a plain export: an event who took part, and a register entry where it is
-- cited. Lines of the standard in place of our own (The GEDCOM Standard Release 5.5.1, chapter 2,
-- ASSOCIATION_STRUCTURE, NOTE_STRUCTURE and SOURCE_CITATION).
use Rattle.std.specs.Prelude.{
  ℕ,
  ◌==◌,
  Bool,
  true,
  if◌then◌else◌,
  List,
  [],
  ◌∷◌,
  ◌++◌,
  map,
  fold,
  codes,
  Option,
  Some,
  None,
  option_map,
}
use Rattle.std.specs.List.{filter, flat_map, list_any}
use Rattle.std.specs.FinMap.{get, keys}
use Rattle.stored_lines.specs.Tree.{Tree}
use Rattle.stored_lines.specs.Line.{Line, Lines}
use Rattle.stored_lines.specs.declared.carried.Value.TheVariants as value
use Rattle.record_fields.specs.declared.date.Date.{Date}
use Rattle.record_kinds.specs.Model as model
use Rattle.record_kinds.specs.declared.record.Record.{Record}
use Rattle.record_kinds.specs.declared.record.Record.TheVariants as kind
use Rattle.record_shapes.specs.Shapes.{Around, line, pointer_line, text_line}
use Rattle.sheet_lines.specs.Words.{display_of}
use Rattle.archive_state.specs.Content.{Records}
use Rattle.plain_export.specs.Allowed.{one_line, page_line, said_lines}
use Rattle.plain_export.specs.Firsts.{Firsts, cited_by, firsts, persons_of}
use Rattle.plain_export.specs.Kept.{kept}
use Rattle.plain_export.specs.Words.{
  entry_words,
  event_words,
  mention_words,
  page_words,
  relation_words,
  with_words,
}
use Rattle.plain_export.specs.declared.added.Added.{Added}
use Rattle.plain_export.specs.declared.noted.Noted.{Noted}

abbrev pub add : ℕ → Tree Line → Added
add n t = record { number = n; line = t }

-- ---- participants
-- a person by the first name, as it is displayed; `?` without one
abbrev pub shown : Option Record → List ℕ
shown (Some (kind.Person p)) = display_of p.names
shown _ = codes "?"

-- below the event
abbrev pub note_of : Records → model.Participant → Tree Line
note_of m p = text_line (codes "NOTE") (with_words (shown (get m p.person)) p.role)

-- below a person whose event it is: as what, in which event, and what is carried by the participant
abbrev pub below_association : Records → model.Event → model.Participant → Lines
below_association m e p = text_line (codes "RELA") (one_line (relation_words p.role))
    ∷ text_line (codes "NOTE") (event_words e) ∷ kept m p.carried

abbrev pub association : Records → model.Event → model.Participant → Tree Line
association m e p = pointer_line (codes "ASSO") p.person (below_association m e p)

abbrev pub associations : Records → model.Event → ℕ → List Added
associations m e n = map (λ p. add n (association m e p)) e.participants

abbrev pub added_by_event : Records → ℕ → model.Event → List Added
added_by_event m n e = map (λ p. add n (note_of m p)) e.participants
    ++ flat_map (associations m e) (persons_of e.owner (get m e.owner))

-- ---- register entries
-- a mention in words, and what cites its entry for it, if it is linked
abbrev pub noted_of : Firsts → model.Entry → model.Mention → Noted
noted_of f e x = record { at = option_map (cited_by f e.date x.role) x.link; words = mention_words x }

abbrev pub noted : Firsts → model.Entry → List Noted
noted f e = map (noted_of f e) e.mentions

-- what cites an entry, each once, in the order of the mentions
abbrev pub with_number : List ℕ → ℕ → List ℕ
with_number ns n = if list_any (λ k. k == n) ns then ns else ns ++ n ∷ []

abbrev pub with_place : List ℕ → Option ℕ → List ℕ
with_place ns None = ns
with_place ns (Some n) = with_number ns n

abbrev pub cited : List Noted → List ℕ
cited xs = fold (λ ns (x : Noted). with_place ns x.at) [] xs

-- a citation speaks of the mentions for which it is made, and of those that are linked to nobody
abbrev pub is_of : ℕ → Option ℕ → Bool
is_of n None = true
is_of n (Some k) = k == n

abbrev pub note_line : Noted → Tree Line
note_line x = text_line (codes "NOTE") x.words

-- the date and the text of an entry
abbrev pub date_lines : Option Date → Lines
date_lines None = []
date_lines (Some d) = text_line (codes "DATE") d.text ∷ []

abbrev pub below_data : model.Entry → Lines
below_data e = date_lines e.date ++ said_lines (codes "TEXT") e.text

-- the same below a line of their own, where there is one of them
abbrev pub data_of : Lines → Lines
data_of [] = []
data_of (t ∷ ts) = line (codes "DATA") (value.Text []) (t ∷ ts) ∷ []

abbrev pub data_lines : model.Entry → Lines
data_lines e = data_of (below_data e)

-- the citation of an entry: the page, the data, and a note for each mention that it speaks of
abbrev pub below_citation : model.Entry → List Noted → ℕ → Lines
below_citation e xs n = page_line (page_words e) ∷ (data_lines e
    ++ map note_line (filter (λ (x : Noted). is_of n x.at) xs))

abbrev pub citation : model.Entry → List Noted → ℕ → Tree Line
citation e xs n = pointer_line (codes "SOUR") e.source (below_citation e xs n)

abbrev pub citations : model.Entry → List Noted → List ℕ → List Added
citations e xs ns = map (λ n. add n (citation e xs n)) ns

-- the path of the place of an entry; nothing without a place
abbrev pub path_of : Around → Option ℕ → List ℕ
path_of a None = []
path_of a (Some n) = a.path n

-- the note of an entry without a link, below its source
abbrev pub entry_note : Around → model.Entry → Tree Line
entry_note a e = text_line (codes "NOTE") (entry_words (path_of a e.place) e)

-- an entry is cited by each of these, and is a note of its source where there is none
abbrev pub cited_or_noted : Around → model.Entry → List Noted → List ℕ → List Added
cited_or_noted a e xs [] = add e.source (entry_note a e) ∷ []
cited_or_noted a e xs (n ∷ ns) = citations e xs (n ∷ ns)

abbrev pub added_by_entry : Around → Firsts → model.Entry → List Added
added_by_entry a f e = cited_or_noted a e (noted f e) (cited (noted f e))

-- ---- all records
abbrev pub added_by : Records → Around → Firsts → ℕ → Option Record → List Added
added_by m a f n (Some (kind.Event e)) = added_by_event m n e
added_by m a f n (Some (kind.Entry e)) = added_by_entry a f e
added_by m a f n _ = []

abbrev pub added_at : Records → Around → Firsts → ℕ → List Added
added_at m a f n = added_by m a f n (get m n)

-- what all records add, by number
abbrev pub added : Records → Around → List Added
added m a = flat_map (added_at m a (firsts m)) (keys m)

-- what is added to a record
abbrev pub lines_of : ℕ → List Added → Lines
lines_of n xs = map (λ (x : Added). x.line) (filter (λ (x : Added). x.number == n) xs)
