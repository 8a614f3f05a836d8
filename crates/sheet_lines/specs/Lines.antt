-- The lines of sheets, from the records that they show: rules of our own. What a line shows of another record is a text
-- beside it: the display of a person, the path of a place.
use Rattle.std.specs.Prelude.{ℕ, List, [], ◌∷◌, ◌++◌, codes, decimal, Option, Some, None}
use Rattle.std.specs.List.{flat_map}
use Rattle.record_fields.specs.declared.date.Date.{Date}
use Rattle.record_fields.specs.declared.words.Partnership.{Partnership}
use Rattle.record_fields.specs.declared.words.Partnership.TheVariants as partnership
use Rattle.record_fields.specs.declared.words.Quality.{Quality}
use Rattle.record_fields.specs.declared.words.Sex.{Sex}
use Rattle.record_fields.specs.Words.{entry_kind_word, quality_word, role_word, sex_word}
use Rattle.record_text.specs.Naming.{displayed}
use Rattle.record_kinds.specs.Model as model
use Rattle.sheet_lines.specs.Words.{at_right, dated, line, printed, who}

-- ---- persons
abbrev pub person_head : ℕ → List ℕ
person_head n = line (codes "Person " ++ decimal n)

abbrev pub name_line : model.Name → List ℕ
name_line x = line (codes "Name: " ++ displayed x.text)

abbrev pub sex_line : Option Sex → List ℕ
sex_line None = []
sex_line (Some s) = line (codes "Sex: " ++ sex_word s)

-- the family with that number
abbrev pub child_of_line : ℕ → List ℕ
child_of_line family = line (codes "Child of: " ++ decimal family)

abbrev pub partner_in_line : ℕ → List ℕ
partner_in_line family = line (codes "Partner in: " ++ decimal family)

-- ---- citations
abbrev pub page_words : Option (List ℕ) → List ℕ
page_words None = []
page_words (Some page) = codes ", page " ++ printed page

abbrev pub quality_words : Option Quality → List ℕ
quality_words None = []
quality_words (Some q) = codes ", quality " ++ quality_word q

-- a citation after the word for its source
abbrev pub citation_line : List ℕ → model.Citation → List ℕ
citation_line word c = line (word ++ (decimal c.source ++ (page_words c.page ++ quality_words c.quality)))

-- below a person or a family; below an event
abbrev pub own_source : List ℕ
own_source = codes "Source "

abbrev pub event_source : List ℕ
event_source = codes "  source "

-- ---- events
-- a part after its mark, where it is not empty; the mark of the next part, a semicolon after one that is there
abbrev pub part_behind : List ℕ → List ℕ → List ℕ
part_behind mark [] = []
part_behind mark (b ∷ bs) = mark ++ printed (b ∷ bs)

abbrev pub mark_behind : List ℕ → List ℕ → List ℕ
mark_behind mark [] = mark
mark_behind mark (b ∷ bs) = codes "; "

-- the parts that are not empty: the first after that mark, the others after semicolons
abbrev pub parts_behind : List ℕ → List (List ℕ) → List ℕ
parts_behind mark [] = []
parts_behind mark (part ∷ parts) = part_behind mark part ++ parts_behind (mark_behind mark part) parts

abbrev pub date_text : Option Date → List ℕ
date_text None = []
date_text (Some d) = d.text

-- the tag, and after it the value, the date and the path of the place
abbrev pub event_line : List ℕ → model.Event → List ℕ
event_line path e = line (e.tag ++ parts_behind (codes ": ") (e.value ∷ date_text e.date ∷ path ∷ []))

abbrev pub role_words : List ℕ → List ℕ
role_words [] = []
role_words (b ∷ bs) = codes " (" ++ (printed (b ∷ bs) ++ codes ")")

abbrev pub participant_line : List ℕ → model.Participant → List ℕ
participant_line shown p = line (codes "  with " ++ (who p.person shown ++ role_words p.role))

-- ---- families
abbrev pub family_head : ℕ → List ℕ
family_head n = line (codes "Family " ++ decimal n)

abbrev pub partner_word : Partnership → List ℕ
partner_word partnership.Husband = codes "Husband: "
partner_word partnership.Wife = codes "Wife: "

abbrev pub partner_line : List ℕ → model.Partner → List ℕ
partner_line shown p = line (partner_word p.partnership ++ who p.person shown)

abbrev pub child_line : List ℕ → model.Child → List ℕ
child_line shown c = line (codes "Child: " ++ who c.person shown)

-- ---- pedigrees
-- a person as displayed, with the dates of birth and death
abbrev pub ancestor_words : List ℕ → Option Date → Option Date → List ℕ
ancestor_words shown birth death = shown ++ (dated (codes ", b. ") birth ++ dated (codes ", d. ") death)

-- the words of who stands at a number
abbrev pub ancestor_line : ℕ → List ℕ → List ℕ
ancestor_line n words = line (at_right 4 n ++ (codes "  " ++ words))

-- ---- registers
abbrev pub title_words : Option (List ℕ) → List ℕ
title_words None = codes "?"
title_words (Some title) = printed title

abbrev pub register_head : ℕ → Option (List ℕ) → List ℕ
register_head n title = line (codes "Register " ++ (decimal n ++ (codes ": " ++ title_words title)))

abbrev pub entry_line : model.Entry → List ℕ
entry_line e = line (at_right 6 e.item.number ++ (codes "  " ++ (printed e.page ++ (codes "  "
    ++ (entry_kind_word e.kind ++ dated (codes "  ") e.date)))))

abbrev pub link_words : Option model.Link → List ℕ
link_words None = []
link_words (Some l) = codes " = " ++ (decimal l.person ++ (codes ", " ++ printed l.reason))

abbrev pub mention_line : model.Mention → List ℕ
mention_line x = line (codes "        " ++ (role_word x.role ++ (codes ": " ++ (printed x.name ++ link_words x.link))))

-- an entry with its mentions
abbrev pub entry_lines : model.Entry → List ℕ
entry_lines e = entry_line e ++ flat_map mention_line e.mentions

-- ---- pages of many records
abbrev pub index_page : ℕ → ℕ → ℕ → List ℕ
index_page persons families registers = line (codes "Persons: " ++ decimal persons)
    ++ (line (codes "Families: " ++ decimal families) ++ line (codes "Registers: " ++ decimal registers))

abbrev pub surname_line : ℕ → List ℕ → List ℕ
surname_line n shown = line (at_right 10 n ++ (codes "  " ++ shown))
