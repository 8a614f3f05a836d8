-- Tags, texts and the shapes of records: archives that break one rule, each with its nearest neighbour that is sound.
use Rattle.std.specs.Prelude.{ℕ, ◌≡◌, zero, suc, List, [], ◌∷◌, ◌++◌, codes, replicate, Some, None, refl}
use Rattle.std.specs.Str.{chars, is_utf8}
use Rattle.std.specs.Fmt.{digits}
use Rattle.stored_lines.specs.Line.{Lines}
use Rattle.stored_lines.specs.Tree.{Tree}
use Rattle.stored_lines.specs.Line.{Line}
use Rattle.stored_lines.specs.declared.carried.Value.TheVariants as value
use Rattle.record_fields.specs.declared.entry_words.Role.TheVariants as role
use Rattle.record_fields.specs.Items.{item_of}
use Rattle.record_kinds.specs.declared.record.Record.{Record}
use Rattle.record_kinds.specs.declared.record.Record.TheVariants as kind
use Rattle.record_shapes.specs.Entries.{entry_of}
use Rattle.record_shapes.specs.Paths.{has_part, is_within_limits, normal}
use Rattle.record_shapes.specs.Shapes.{line, pointer_line, text_line}
use Rattle.record_rules.specs.Rules.{
  OneBreaks,
  broken,
  event_tags,
  levels,
  of_records,
  paths,
  shapes,
  tags,
  texts,
  trailers,
}
use Rattle.record_rules.proofs.Hands.{baptism, called, citation, event, family, holding, other, person, place, source}

-- a person with one carried line of that tag
abbrev tagged : List ℕ → List (ℕ × Record)
tagged tag = (1, person (text_line tag [] ∷ [])) ∷ []

-- ---- tags
pub a_tag_with_a_hyphen : OneBreaks (of_records tags) (holding (tagged (codes "A-B")) 2)
    (holding (tagged (codes "A_B")) 2)
a_tag_with_a_hyphen = (refl, refl)

pub an_empty_tag : OneBreaks (of_records tags) (holding (tagged []) 2) (holding (tagged (codes "_")) 2)
an_empty_tag = (refl, refl)

pub a_tag_of_32_letters : OneBreaks (of_records tags) (holding (tagged (replicate 32 65)) 2)
    (holding (tagged (replicate 31 65)) 2)
a_tag_of_32_letters = (refl, refl)

pub a_line_that_joins_a_text : OneBreaks (of_records tags) (holding (tagged (codes "CONC")) 2)
    (holding (tagged (codes "conc")) 2)
a_line_that_joins_a_text = (refl, refl)

pub a_line_that_continues_a_text : OneBreaks (of_records tags) (holding (tagged (codes "CONT")) 2)
    (holding (tagged (codes "CONTI")) 2)
a_line_that_continues_a_text = (refl, refl)

pub a_continuation_below_another_line : OneBreaks (of_records tags)
    (holding ((1, person (line (codes "NOTE") (value.Text []) (text_line (codes "CONT") [] ∷ []) ∷ [])) ∷ []) 2)
    (holding ((1, person (line (codes "NOTE") (value.Text []) (text_line (codes "NOTE") [] ∷ []) ∷ [])) ∷ []) 2)
a_continuation_below_another_line = (refl, refl)

pub a_record_of_no_other_kind_that_is_a_continuation : OneBreaks (of_records tags)
    (holding ((1, other (codes "CONT") []) ∷ []) 2) (holding ((1, other (codes "NOTE") []) ∷ []) 2)
a_record_of_no_other_kind_that_is_a_continuation = (refl, refl)

-- the trailer is only a tag of level 0
pub a_trailer_among_records : OneBreaks (of_records trailers) (holding ((1, other (codes "TRLR") []) ∷ []) 2)
    (holding ((1, other (codes "HEAD") (text_line (codes "TRLR") [] ∷ [])) ∷ []) 2)
a_trailer_among_records = (refl, refl)

pub a_marriage_of_a_person : OneBreaks (of_records event_tags)
    (holding ((1, person []) ∷ (2, event 1 (codes "MARR") None [] []) ∷ []) 3)
    (holding ((1, family [] [] []) ∷ (2, event 1 (codes "MARR") None [] []) ∷ []) 3)
a_marriage_of_a_person = (refl, refl)

pub a_birth_of_a_family : OneBreaks (of_records event_tags)
    (holding ((1, family [] [] []) ∷ (2, event 1 (codes "BIRT") None [] []) ∷ []) 3)
    (holding ((1, family [] [] []) ∷ (2, event 1 (codes "CENS") None [] []) ∷ []) 3)
a_birth_of_a_family = (refl, refl)

pub an_event_of_no_event_tag : OneBreaks (of_records event_tags)
    (holding ((1, person []) ∷ (2, event 1 (codes "NOTE") None [] []) ∷ []) 3)
    (holding ((1, person []) ∷ (2, event 1 (codes "FACT") None [] []) ∷ []) 3)
an_event_of_no_event_tag = (refl, refl)

-- ---- texts: U+0000, a carriage return, half a character, half of a pair of UTF-16 instead of U+D7FF
pub a_name_with_a_null : OneBreaks (of_records texts) (holding ((1, called (codes "Ann" ++ 0 ∷ [])) ∷ []) 2)
    (holding ((1, called (codes "Ann" ++ 1 ∷ [])) ∷ []) 2)
a_name_with_a_null = (refl, refl)

pub a_name_with_a_carriage_return : OneBreaks (of_records texts) (holding ((1, called (codes "Ann" ++ 13 ∷ [])) ∷ []) 2)
    (holding ((1, called (codes "Ann" ++ 10 ∷ [])) ∷ []) 2)
a_name_with_a_carriage_return = (refl, refl)

pub a_page_that_is_no_utf8 : OneBreaks (of_records texts)
    (holding ((1, person []) ∷ (2, source None [] []) ∷ (3, citation 1 2 (Some (195 ∷ [])) []) ∷ []) 4)
    (holding ((1, person []) ∷ (2, source None [] []) ∷ (3, citation 1 2 (Some (195 ∷ 169 ∷ [])) []) ∷ []) 4)
unfolding is_utf8 chars lib.Utf8.encode
a_page_that_is_no_utf8 = (refl, refl)

pub a_carried_line_that_is_no_utf8 : OneBreaks (of_records texts)
    (holding ((1, person (text_line (codes "NOTE") (237 ∷ 160 ∷ 128 ∷ []) ∷ [])) ∷ []) 2)
    (holding ((1, person (text_line (codes "NOTE") (237 ∷ 159 ∷ 191 ∷ []) ∷ [])) ∷ []) 2)
unfolding is_utf8 chars lib.Utf8.encode
a_carried_line_that_is_no_utf8 = (refl, refl)

-- Ann of a baptism, who is the person 1 for that reason
abbrev known_by : List ℕ → Record
known_by reason = baptism 2 [] None
    (record { role = role.Child; name = codes "Ann"; link = Some (record { person = 1; reason = reason }) } ∷ [])

pub a_reason_with_a_null_on_its_second_line : OneBreaks (of_records texts)
    (holding ((1, person []) ∷ (2, source None [] []) ∷ (3, known_by (codes "Named\n" ++ 0 ∷ [])) ∷ []) 4)
    (holding ((1, person []) ∷ (2, source None [] []) ∷ (3, known_by (codes "Named\n")) ∷ []) 4)
a_reason_with_a_null_on_its_second_line = (refl, refl)

-- ---- shapes of other kinds
pub a_person_as_no_other_kind : OneBreaks (of_records shapes) (holding ((1, other (codes "INDI") []) ∷ []) 2)
    (holding ((1, other (codes "indi") []) ∷ []) 2)
a_person_as_no_other_kind = (refl, refl)

pub a_place_as_no_other_kind : OneBreaks (of_records shapes) (holding ((1, other (codes "_LOC") []) ∷ []) 2)
    (holding ((1, other (codes "LOC") []) ∷ []) 2)
a_place_as_no_other_kind = (refl, refl)

-- the lines of a baptism from a source, who is named in it with that role
abbrev of_baptism : List ℕ → Lines
of_baptism word = pointer_line (codes "SOUR") 1 [] ∷ text_line (codes "PAGE") [] ∷ text_line (codes "_ITEM") (codes "1")
    ∷ text_line (codes "TEXT") []
    ∷ line (codes "_MENT") (value.Text (codes "Ann")) (text_line (codes "_ROLE") word ∷ []) ∷ []

abbrev registered : List ℕ → Lines → Record
registered word carried = kind.Other (record { tag = codes "_REG"; value = value.Text word; carried = carried })

pub an_entry_as_no_other_kind : OneBreaks (of_records shapes)
    (holding ((1, source None [] []) ∷ (2, registered (codes "BAPTISM") (of_baptism (codes "child"))) ∷ []) 3)
    (holding ((1, source None [] []) ∷ (2, registered (codes "BAPTISM") (of_baptism (codes "groom"))) ∷ []) 3)
unfolding digits item_of entry_of has_part
an_entry_as_no_other_kind = (refl, refl)

-- a word in small letters is not canonical; an entry names a source
pub an_entry_of_no_kind : (broken
    (holding ((1, source None [] []) ∷ (2, registered (codes "baptism") (of_baptism (codes "child"))) ∷ []) 3) ≡ [])
    × (broken (holding ((1, person []) ∷ (2, registered (codes "BAPTISM") (of_baptism (codes "child"))) ∷ []) 3) ≡ [])
unfolding digits item_of entry_of has_part
an_entry_of_no_kind = (refl, refl)

-- ---- levels
-- a line with that many levels below it
abbrev nested : ℕ → Tree Line
nested zero = text_line (codes "NOTE") []
nested (suc n) = line (codes "NOTE") (value.Text []) (nested n ∷ [])

pub a_line_at_level_99 : OneBreaks (of_records levels) (holding ((1, person (nested 98 ∷ [])) ∷ []) 2)
    (holding ((1, person (nested 97 ∷ [])) ∷ []) 2)
a_line_at_level_99 = (refl, refl)

pub a_line_of_an_event_at_level_99 : OneBreaks (of_records levels)
    (holding ((1, person []) ∷ (2, event 1 (codes "BIRT") None [] (nested 97 ∷ [])) ∷ []) 3)
    (holding ((1, person []) ∷ (2, event 1 (codes "BIRT") None [] (nested 96 ∷ [])) ∷ []) 3)
a_line_of_an_event_at_level_99 = (refl, refl)

pub a_line_of_a_citation_of_a_person_at_level_99 : OneBreaks (of_records levels)
    (holding ((1, person []) ∷ (2, source None [] []) ∷ (3, citation 1 2 None (nested 97 ∷ [])) ∷ []) 4)
    (holding ((1, person []) ∷ (2, source None [] []) ∷ (3, citation 1 2 None (nested 96 ∷ [])) ∷ []) 4)
a_line_of_a_citation_of_a_person_at_level_99 = (refl, refl)

pub a_line_of_a_citation_of_an_event_at_level_99 : OneBreaks (of_records levels)
    (holding ((1, person []) ∷ (2, source None [] []) ∷ (3, event 1 (codes "BIRT") None [] [])
    ∷ (4, citation 3 2 None (nested 96 ∷ [])) ∷ []) 5)
    (holding ((1, person []) ∷ (2, source None [] []) ∷ (3, event 1 (codes "BIRT") None [] [])
    ∷ (4, citation 3 2 None (nested 95 ∷ [])) ∷ []) 5)
a_line_of_a_citation_of_an_event_at_level_99 = (refl, refl)

-- ---- a long path: 31 parts of 126 bytes and a last one
abbrev long : ℕ → ℕ → List ℕ
long zero last = replicate last 97
long (suc n) last = replicate 126 97 ++ codes ", " ++ long n last

pub a_path_of_4097_bytes : OneBreaks (of_records paths) (holding ((1, place (long 31 129) None []) ∷ []) 2)
    (holding ((1, place (long 31 128) None []) ∷ []) 2)
unfolding normal is_within_limits has_part
a_path_of_4097_bytes = (refl, refl)
