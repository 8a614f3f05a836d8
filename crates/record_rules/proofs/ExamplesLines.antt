-- Carried lines that a field would take: archives that break one rule, each with its nearest neighbour that is sound.
use Rattle.std.specs.Prelude.{ℕ, List, [], ◌∷◌, codes, Some, None, refl}
use Rattle.stored_lines.specs.Line.{Lines}
use Rattle.stored_lines.specs.declared.carried.Value.TheVariants as value
use Rattle.record_fields.specs.declared.words.Sex.TheVariants as sex
use Rattle.record_kinds.specs.Model as model
use Rattle.record_kinds.specs.declared.record.Record.{Record}
use Rattle.record_kinds.specs.declared.record.Record.TheVariants as kind
use Rattle.record_shapes.specs.Paths.{has_part, is_within_limits, normal}
use Rattle.record_shapes.specs.Shapes.{line, pointer_line, text_line}
use Rattle.record_rules.specs.Archives.{Archive}
use Rattle.record_rules.specs.Rules.{OneBreaks, of_records, untaken}
use Rattle.record_rules.proofs.Hands.{citation, event, family, holding, person, place, repo, source}

-- one is broken only by such a line, the other is sound
abbrev pub OneIsTaken : Archive → Archive → Type 0
OneIsTaken a b = OneBreaks (of_records untaken) a b

-- a person 2, a family 3, a source 4, a repository 5, an event 6 of the person, and one more
abbrev others : Record → List (ℕ × Record)
others r = (2, person []) ∷ (3, family [] [] []) ∷ (4, source None [] []) ∷ (5, repo None [])
    ∷ (6, event 2 (codes "BIRT") None [] []) ∷ (7, r) ∷ []

abbrev with_one : Record → Archive
with_one r = holding (others r) 8

-- and a place 1
abbrev with_place : Record → Archive
with_place r = holding ((1, place (codes "Kent") None []) ∷ others r) 8

-- ---- persons
abbrev woman : Lines → Record
woman carried = kind.Person (record { names = []; sex = Some sex.Female; carried = carried })

pub a_sex_of_a_person_without_one : OneIsTaken (with_one (person (text_line (codes "SEX") (codes "M") ∷ [])))
    (with_one (woman (text_line (codes "SEX") (codes "M") ∷ [])))
a_sex_of_a_person_without_one = (refl, refl)

pub a_sex_that_is_one : OneIsTaken (with_one (person (text_line (codes "SEX") (codes "U") ∷ [])))
    (with_one (person (text_line (codes "SEX") (codes "X") ∷ [])))
a_sex_that_is_one = (refl, refl)

pub a_name_of_a_person : OneIsTaken (with_one (woman (text_line (codes "NAME") [] ∷ [])))
    (with_one (woman (pointer_line (codes "NAME") 2 [] ∷ [])))
a_name_of_a_person = (refl, refl)

pub an_event_of_a_person : OneIsTaken (with_one (person (text_line (codes "BIRT") [] ∷ [])))
    (with_one (person (text_line (codes "MARR") [] ∷ [])))
an_event_of_a_person = (refl, refl)

pub a_family_of_a_person : OneIsTaken (with_one (person (pointer_line (codes "FAMC") 3 [] ∷ [])))
    (with_one (person (pointer_line (codes "FAMC") 2 [] ∷ [])))
a_family_of_a_person = (refl, refl)

pub a_citation_of_a_person : OneIsTaken (with_one (person (pointer_line (codes "SOUR") 4 [] ∷ [])))
    (with_one (person (text_line (codes "SOUR") (codes "a letter") ∷ [])))
a_citation_of_a_person = (refl, refl)

-- ---- families
pub a_child_of_a_family : OneIsTaken (with_one (family [] [] (pointer_line (codes "CHIL") 2 [] ∷ [])))
    (with_one (family [] [] (pointer_line (codes "CHIL") 3 [] ∷ [])))
a_child_of_a_family = (refl, refl)

pub an_event_of_a_family : OneIsTaken (with_one (family [] [] (text_line (codes "MARR") [] ∷ [])))
    (with_one (family [] [] (text_line (codes "BIRT") [] ∷ [])))
an_event_of_a_family = (refl, refl)

-- ---- events
abbrev birth : Lines → Record
birth carried = event 2 (codes "BIRT") None [] carried

pub a_date_of_an_event_without_one : OneIsTaken (with_one (birth (text_line (codes "DATE") [] ∷ [])))
    (with_one (birth (line (codes "DATE") (value.Text []) (text_line (codes "TIME") [] ∷ []) ∷ [])))
a_date_of_an_event_without_one = (refl, refl)

pub a_place_of_an_event_without_one : OneIsTaken (with_place (birth (text_line (codes "PLAC") (codes " Kent") ∷ [])))
    (with_place (birth (text_line (codes "PLAC") (codes " , ") ∷ [])))
unfolding normal is_within_limits has_part
a_place_of_an_event_without_one = (refl, refl)

pub a_further_place_of_an_event : OneIsTaken (with_place (birth (text_line (codes "PLAC") (codes "Kent") ∷ [])))
    (with_place (event 2 (codes "BIRT") (Some 1) [] (text_line (codes "PLAC") (codes "Kent") ∷ [])))
unfolding normal is_within_limits has_part
a_further_place_of_an_event = (refl, refl)

pub a_witness_of_an_event : OneIsTaken (with_one (birth (pointer_line (codes "_PART") 2 [] ∷ [])))
    (with_one (birth (pointer_line (codes "_PART") 3 [] ∷ [])))
a_witness_of_an_event = (refl, refl)

abbrev witness : List ℕ → Lines → model.Participant
witness role carried = record { person = 2; role = role; carried = carried }

pub a_role_of_a_witness_without_one : OneIsTaken
    (with_one (event 2 (codes "BIRT") None (witness [] (text_line (codes "_ROLE") (codes "friend") ∷ []) ∷ []) []))
    (with_one (event 2 (codes "BIRT") None
    (witness (codes "aunt") (text_line (codes "_ROLE") (codes "friend") ∷ []) ∷ []) []))
a_role_of_a_witness_without_one = (refl, refl)

pub an_empty_role_of_a_witness : OneIsTaken
    (with_one (event 2 (codes "BIRT") None (witness [] (text_line (codes "_ROLE") (codes " ") ∷ []) ∷ []) []))
    (with_one (event 2 (codes "BIRT") None (witness [] (text_line (codes "_ROLE") [] ∷ []) ∷ []) []))
an_empty_role_of_a_witness = (refl, refl)

-- ---- citations, sources, repositories
pub a_page_of_a_citation_without_one : OneIsTaken
    (with_one (citation 2 4 None (text_line (codes "PAGE") (codes "f. 3") ∷ [])))
    (with_one (citation 2 4 (Some []) (text_line (codes "PAGE") (codes "f. 3") ∷ [])))
a_page_of_a_citation_without_one = (refl, refl)

pub a_quality_of_a_citation_without_one : OneIsTaken
    (with_one (citation 6 4 None (text_line (codes "QUAY") (codes "3") ∷ [])))
    (with_one (citation 6 4 None (text_line (codes "QUAY") (codes "4") ∷ [])))
a_quality_of_a_citation_without_one = (refl, refl)

pub a_title_of_a_source_without_one : OneIsTaken
    (with_one (source None [] (text_line (codes "TITL") (codes "Register") ∷ [])))
    (with_one (source (Some (codes "Book")) [] (text_line (codes "TITL") (codes "Register") ∷ [])))
a_title_of_a_source_without_one = (refl, refl)

pub where_a_source_is_kept : OneIsTaken (with_one (source None [] (pointer_line (codes "REPO") 5 [] ∷ [])))
    (with_one (source None [] (pointer_line (codes "REPO") 4 [] ∷ [])))
where_a_source_is_kept = (refl, refl)

pub a_call_number_of_none : OneIsTaken
    (with_one (source None
    (record { repo = 5; call_number = None; carried = text_line (codes "CALN") (codes "12") ∷ [] } ∷ []) []))
    (with_one (source None
    (record { repo = 5; call_number = Some (codes "11"); carried = text_line (codes "CALN") (codes "12") ∷ [] } ∷ [])
    []))
a_call_number_of_none = (refl, refl)

pub a_name_of_a_repository_without_one : OneIsTaken (with_one (repo None (text_line (codes "NAME") [] ∷ [])))
    (with_one (repo (Some []) (text_line (codes "NAME") [] ∷ [])))
a_name_of_a_repository_without_one = (refl, refl)

-- ---- places: one that stands before it could be above it, itself not
pub a_place_that_could_be_above : OneIsTaken
    (with_place (place (codes "Ashby") None (pointer_line (codes "_LOC") 1 [] ∷ [])))
    (with_place (place (codes "Ashby") None (pointer_line (codes "_LOC") 7 [] ∷ [])))
unfolding normal is_within_limits has_part
a_place_that_could_be_above = (refl, refl)

pub a_further_place_above : OneIsTaken (with_place (place (codes "Ashby") None (pointer_line (codes "_LOC") 1 [] ∷ [])))
    (with_place (place (codes "Ashby") (Some 1) (pointer_line (codes "_LOC") 1 [] ∷ [])))
unfolding normal is_within_limits has_part
a_further_place_above = (refl, refl)
