-- The line of a record in a list: rules of our own. It shows what stands in the record itself.
use Rattle.std.specs.Prelude.{ℕ, List, [], ◌∷◌, ◌++◌, codes, decimal, drop, if◌then◌else◌, map, nat_lt, take}
use Rattle.std.specs.List.{filter, flat_map}
use Rattle.record_fields.specs.Words.{entry_kind_word, partnership_word}
use Rattle.record_kinds.specs.Model as model
use Rattle.record_kinds.specs.declared.record.Record.{Record}
use Rattle.record_kinds.specs.declared.record.Record.TheVariants as kind
use Rattle.sheet_lines.specs.Lines.{page_words, title_words}
use Rattle.sheet_lines.specs.Words.{dated, display_of}
use Rattle.searching.specs.Printing.{shown}
use Rattle.searching.specs.Wanted.{is_wanted}
use Rattle.searching.specs.declared.wanted.Wanted.{Wanted}

abbrev pub partner_words : model.Partner → List ℕ
partner_words p = codes "  " ++ (partnership_word p.partnership ++ (codes " " ++ decimal p.person))

abbrev pub child_words : model.Child → List ℕ
child_words c = codes "  child " ++ decimal c.person

-- the item, the kind and the date of a register entry
abbrev pub entry_end : model.Entry → List ℕ
entry_end e = codes "  no. " ++ (decimal e.item.number ++ (codes "  " ++ (entry_kind_word e.kind
    ++ dated (codes "  ") e.date)))

-- the word of the kind, and what tells the record from others of its kind
abbrev pub words : Record → List ℕ
words (kind.Person p) = codes "person  " ++ display_of p.names
words (kind.Family f) = codes "family" ++ (flat_map partner_words f.partners ++ flat_map child_words f.children)
words (kind.Event e) = codes "event  " ++ (e.tag ++ (dated (codes "  ") e.date ++ (codes "  of " ++ decimal e.owner)))
words (kind.Place p) = codes "place  " ++ p.name
words (kind.Repo r) = codes "repository  " ++ title_words r.name
words (kind.Source s) = codes "source  " ++ title_words s.title
words (kind.Citation c) = codes "citation  of " ++ (decimal c.owner ++ (codes "  source " ++ (decimal c.source
    ++ page_words c.page)))
words (kind.Entry e) = codes "entry  source " ++ (decimal e.source ++ (codes "  page " ++ (e.page ++ entry_end e)))
words (kind.Other o) = codes "other  " ++ o.tag

-- the number, two spaces, and these words
abbrev pub line : ℕ → Record → List ℕ
line n r = shown (decimal n ++ (codes "  " ++ words r))

-- a record that is wanted has a line
abbrev pub line_of : Wanted → ℕ × Record → List (ℕ × List ℕ)
line_of w e = if is_wanted w e.1 then (e.0, line e.0 e.1) ∷ [] else []

-- the lines of the records that are wanted, by number
abbrev pub lines_of : Wanted → List (ℕ × Record) → List (ℕ × List ℕ)
lines_of w es = flat_map (line_of w) es

-- the same of those after a number
abbrev pub later : Wanted → ℕ → List (ℕ × Record) → List (ℕ × List ℕ)
later w after es = lines_of w (filter (λ e. nat_lt after e.0) es)

-- the first of these lines, so many at the most
abbrev pub page : Wanted → ℕ → ℕ → List (ℕ × Record) → List (ℕ × List ℕ)
page w after limit es = take limit (later w after es)

-- the first of some lines, so many at the most, and the numbers of the others
abbrev pub divided : ℕ → List (ℕ × List ℕ) → List (ℕ × List ℕ) × List ℕ
divided limit ls = (take limit ls, map (λ l. l.0) (drop limit ls))

-- a page, and the numbers of the records that are wanted after it
abbrev pub page_and_others : Wanted → ℕ → ℕ → List (ℕ × Record) → List (ℕ × List ℕ) × List ℕ
page_and_others w after limit es = divided limit (later w after es)
