-- Which carried lines a record may have, computed: for each rule a line that a field would take, and its nearest
-- neighbour that none would.
use Rattle.std.specs.Prelude.{ℕ, ◌≡◌, zero, suc, Bool, true, false, [], ◌∷◌, codes, Some, None, refl}
use Rattle.std.specs.List.{list_all}
use Rattle.stored_lines.specs.Tree.{Tree, forest_of}
use Rattle.stored_lines.specs.Line.{Line}
use Rattle.stored_lines.specs.Levels.{forest_levels}
use Rattle.stored_lines.specs.declared.carried.Value.TheVariants as value
use Rattle.record_kinds.specs.Model as model
use Rattle.record_fields.specs.declared.words.Sex.TheVariants as sex
use Rattle.record_fields.specs.declared.words.Quality.TheVariants as quality
use Rattle.record_shapes.specs.Paths.{has_part, is_within_limits, normal}
use Rattle.record_shapes.specs.declared.field.Field.{Field}
use Rattle.record_shapes.specs.Fields.{
  citation_field,
  event_field,
  family_field,
  holding_field,
  parent_field,
  participant_field,
  person_field,
  repo_field,
  source_field,
}
use Rattle.record_shapes.specs.Shapes.{line, pointer_line, text_line}
use Rattle.record_shapes.specs.Untaken.{
  citation_leaves,
  event_leaves,
  family_leaves,
  holding_leaves,
  participant_leaves,
  person_leaves,
  place_leaves,
  repo_leaves,
  source_leaves,
}
use Rattle.record_shapes.proofs.Examples.{known}

abbrev may_have : (Tree Line → Field) → (Field → Bool) → Tree Line → Bool
may_have field leaves t = list_all (λ u. leaves (field u)) (t ∷ [])

-- ---- persons
abbrev nobody : model.Person
nobody = record { names = []; sex = None; carried = [] }

abbrev somebody : model.Person
somebody = record { names = []; sex = Some sex.Female; carried = [] }

pub a_sex_of_a_person_without_one : (may_have (person_field known) (person_leaves nobody)
    (text_line (codes "SEX") (codes "M")) ≡ false)
    × (may_have (person_field known) (person_leaves somebody) (text_line (codes "SEX") (codes "M")) ≡ true)
    × (may_have (person_field known) (person_leaves nobody) (text_line (codes "SEX") (codes "X")) ≡ true)
a_sex_of_a_person_without_one = (refl, refl, refl)

pub a_name_of_a_person : (may_have (person_field known) (person_leaves somebody)
    (text_line (codes "NAME") (codes "Ann /Lee/")) ≡ false)
    × (may_have (person_field known) (person_leaves somebody) (pointer_line (codes "NAME") 7 []) ≡ true)
a_name_of_a_person = (refl, refl)

pub an_event_of_a_person : (may_have (person_field known) (person_leaves somebody)
    (text_line (codes "BIRT") []) ≡ false)
    × (may_have (person_field known) (person_leaves somebody) (text_line (codes "MARR") []) ≡ true)
an_event_of_a_person = (refl, refl)

pub a_family_of_a_person : (may_have (person_field known) (person_leaves somebody)
    (pointer_line (codes "FAMS") 6 []) ≡ false)
    × (may_have (person_field known) (person_leaves somebody) (pointer_line (codes "FAMS") 5 []) ≡ true)
a_family_of_a_person = (refl, refl)

pub a_citation_of_a_person : (may_have (person_field known) (person_leaves somebody)
    (pointer_line (codes "SOUR") 4 []) ≡ false)
    × (may_have (person_field known) (person_leaves somebody) (text_line (codes "SOUR") (codes "a letter")) ≡ true)
a_citation_of_a_person = (refl, refl)

-- ---- families
pub a_member_of_a_family : (may_have (family_field known) family_leaves (pointer_line (codes "CHIL") 5 []) ≡ false)
    × (may_have (family_field known) family_leaves (pointer_line (codes "CHIL") 6 []) ≡ true)
a_member_of_a_family = (refl, refl)

pub an_event_of_a_family : (may_have (family_field known) family_leaves (text_line (codes "MARR") []) ≡ false)
    × (may_have (family_field known) family_leaves (text_line (codes "BIRT") []) ≡ true)
an_event_of_a_family = (refl, refl)

-- ---- events, participants, citations
abbrev plain : model.Event
plain = record { owner = 5; tag = codes "BIRT"; value = []; date = None; place = None; participants = []; carried = [] }

abbrev placed : model.Event
placed = record {
  owner = 5;
  tag = codes "BIRT";
  value = [];
  date = None;
  place = Some (record { place = 1; carried = [] });
  participants = [];
  carried = [];
}

pub a_date_of_an_event_without_one : (may_have (event_field known) (event_leaves plain)
    (text_line (codes "DATE") (codes "1700")) ≡ false)
    × (may_have (event_field known) (event_leaves plain)
    (line (codes "DATE") (value.Text (codes "1700")) (text_line (codes "TIME") [] ∷ [])) ≡ true)
a_date_of_an_event_without_one = (refl, refl)

pub a_place_of_an_event_without_one : (may_have (event_field known) (event_leaves plain)
    (text_line (codes "PLAC") (codes "Kent")) ≡ false)
    × (may_have (event_field known) (event_leaves placed) (text_line (codes "PLAC") (codes "Kent")) ≡ true)
    × (may_have (event_field known) (event_leaves plain) (text_line (codes "PLAC") (codes ", ")) ≡ true)
unfolding normal is_within_limits has_part
a_place_of_an_event_without_one = (refl, refl, refl)

pub who_took_part : (may_have (event_field known) (event_leaves plain) (pointer_line (codes "_PART") 8 []) ≡ false)
    × (may_have (event_field known) (event_leaves plain) (pointer_line (codes "_PART") 6 []) ≡ true)
who_took_part = (refl, refl)

pub a_role_of_none : (may_have participant_field (participant_leaves (record { person = 5; role = []; carried = [] }))
    (text_line (codes "_ROLE") (codes "witness")) ≡ false)
    × (may_have participant_field (participant_leaves (record { person = 5; role = codes "godmother"; carried = [] }))
    (text_line (codes "_ROLE") (codes "witness")) ≡ true)
    × (may_have participant_field (participant_leaves (record { person = 5; role = []; carried = [] }))
    (text_line (codes "_ROLE") []) ≡ true)
a_role_of_none = (refl, refl, refl)

abbrev cited : model.Citation
cited = record { owner = 5; source = 4; page = None; quality = Some quality.Primary; carried = [] }

pub a_page_and_a_quality : (may_have citation_field (citation_leaves cited)
    (text_line (codes "PAGE") (codes "f. 3")) ≡ false)
    × (may_have citation_field (citation_leaves cited) (text_line (codes "QUAY") (codes "0")) ≡ true)
    × (may_have citation_field (citation_leaves cited)
    (line (codes "PAGE") (value.Text (codes "f. 3")) (text_line (codes "NOTE") [] ∷ [])) ≡ true)
a_page_and_a_quality = (refl, refl, refl)

-- ---- sources, repositories
abbrev untitled : model.Source
untitled = record { title = None; author = Some (codes "Lee"); publisher = None; holdings = []; carried = [] }

pub a_title_of_a_source_without_one : (may_have (source_field known) (source_leaves untitled)
    (text_line (codes "TITL") []) ≡ false)
    × (may_have (source_field known) (source_leaves untitled) (text_line (codes "AUTH") []) ≡ true)
a_title_of_a_source_without_one = (refl, refl)

pub where_a_source_is_kept : (may_have (source_field known) (source_leaves untitled)
    (pointer_line (codes "REPO") 3 []) ≡ false)
    × (may_have (source_field known) (source_leaves untitled) (pointer_line (codes "REPO") 4 []) ≡ true)
where_a_source_is_kept = (refl, refl)

pub a_call_number_of_none : (may_have holding_field
    (holding_leaves (record { repo = 3; call_number = None; carried = [] }))
    (text_line (codes "CALN") (codes "12")) ≡ false)
    × (may_have holding_field (holding_leaves (record { repo = 3; call_number = Some []; carried = [] }))
    (text_line (codes "CALN") (codes "12")) ≡ true)
a_call_number_of_none = (refl, refl)

pub a_name_of_a_repository_without_one : (may_have repo_field (repo_leaves (record { name = None; carried = [] }))
    (text_line (codes "NAME") []) ≡ false)
    × (may_have repo_field (repo_leaves (record { name = Some []; carried = [] })) (text_line (codes "NAME") []) ≡ true)
a_name_of_a_repository_without_one = (refl, refl)

-- ---- places
abbrev alone : model.Place
alone = record { name = codes "Ashby"; parent = None; carried = [] }

abbrev within : model.Place
within = record { name = codes "Ashby"; parent = Some 1; carried = [] }

pub a_place_above_none : (may_have (parent_field known (codes "Ashby")) (place_leaves alone)
    (pointer_line (codes "_LOC") 1 []) ≡ false)
    × (may_have (parent_field known (codes "Ashby")) (place_leaves within) (pointer_line (codes "_LOC") 2 []) ≡ true)
    × (may_have (parent_field known (codes "Ashby")) (place_leaves alone) (pointer_line (codes "_LOC") 3 []) ≡ true)
    × (may_have (parent_field known (codes "Ashby")) (place_leaves alone)
    (text_line (codes "NAME") (codes "Kent")) ≡ true)
unfolding is_within_limits
a_place_above_none = (refl, refl, refl, refl)

-- ---- levels
abbrev nested : ℕ → Tree Line
nested zero = text_line (codes "NOTE") []
nested (suc n) = line (codes "NOTE") (value.Text []) (nested n ∷ [])

pub a_line_with_97_below_it : forest_levels (forest_of (nested 97 ∷ [])) ≡ 98
a_line_with_97_below_it = refl
