-- The definitions computed: small records and lines, as a reader of the standard writes them.
use Rattle.std.specs.Fmt.{digits}
use Rattle.std.specs.Prelude.{ℕ, ◌≡◌, ◌==◌, true, List, [], ◌∷◌, codes, Some, None, if◌then◌else◌, refl}
use Rattle.stored_lines.specs.Tree.{Tree, node, none}
use Rattle.stored_lines.specs.Line.{Line}
use Rattle.stored_lines.specs.declared.carried.Value.TheVariants as value
use Rattle.record_kinds.specs.Model as model
use Rattle.record_kinds.specs.declared.record.Record.{Record}
use Rattle.record_kinds.specs.declared.record.Record.TheVariants as kind
use Rattle.record_fields.specs.Items.{first_item, item_of}
use Rattle.record_fields.specs.declared.words.Sex.TheVariants as sex
use Rattle.record_fields.specs.declared.words.Partnership.TheVariants as partnership
use Rattle.record_fields.specs.declared.entry_words.EntryKind.TheVariants as entry_kind
use Rattle.record_fields.specs.declared.entry_words.Role.TheVariants as role
use Rattle.record_shapes.specs.Paths.{has_part, is_within_limits, normal}
use Rattle.record_shapes.specs.Forms.{Known, is_some}
use Rattle.record_shapes.specs.Fields.{
  a_citation,
  a_date,
  a_member,
  a_name,
  a_place,
  a_quality,
  a_sex,
  a_side,
  an_event,
  carried,
  citation_field,
  event_field,
  family_field,
  participant_field,
  person_field,
  repo_field,
}
use Rattle.record_shapes.specs.Shapes.{Around, entry_lines, line, person_lines, pointer_line, shape, text_line}
use Rattle.record_shapes.specs.Entries.{entry_of}
use Rattle.record_shapes.specs.Reading.{family_from, place_from, repo_from, registered, source_from}

-- the places 1, Kent, and 2, Ashby in Kent; a repository 3, a source 4, the persons 5 and 8, a family 6, a note 7
abbrev pub tag_at : ℕ → List ℕ
tag_at n = if n == 1 then codes "_LOC"
    else (if n == 2 then codes "_LOC" else (if n == 3 then codes "REPO" else (if n == 4 then codes "SOUR"
    else (if n == 5 then codes "INDI"
    else (if n == 8 then codes "INDI"
    else (if n == 6 then codes "FAM" else (if n == 7 then codes "NOTE" else [])))))))

abbrev pub known : Known
known = record {
  tag = tag_at;
  path = λ n. if n == 1 then Some (codes "Kent")
      else (if n == 2 then Some (codes "Ashby, Kent") else None);
}

-- the families of person 5: a child in 6
abbrev around : Around
around = record {
  path = λ n. if n == 1 then codes "Kent" else (if n == 2 then codes "Ashby, Kent" else []);
  child_in = λ n. if n == 5 then record { family = 6; carried = [] } ∷ [] else [];
  partner_in = λ n. if n == 8 then record { family = 6; carried = [] } ∷ [] else [];
}

-- ---- fields
-- a sex is M, F or U
pub a_sex_is_read : person_field known (text_line (codes "SEX") (codes "M")) ≡ a_sex
a_sex_is_read = refl

pub another_sex_is_carried : person_field known (text_line (codes "SEX") (codes "X")) ≡ carried
another_sex_is_carried = refl

-- a line with another below it is no sex, and is a name
pub a_sex_is_bare : person_field known (line (codes "SEX") (value.Text (codes "M")) (text_line (codes "NOTE") [] ∷ []))
    ≡ carried
a_sex_is_bare = refl

pub a_name_has_lines : person_field known (line (codes "NAME") (value.Text (codes "Ann /Lee/"))
    (text_line (codes "NICK") [] ∷ [])) ≡ a_name
a_name_has_lines = refl

-- FAMC names a family; where it names a person it is carried, as it is below a family
pub a_family_is_named : person_field known (pointer_line (codes "FAMC") 6 []) ≡ a_side
a_family_is_named = refl

pub another_kind_is_carried : person_field known (pointer_line (codes "FAMC") 5 []) ≡ carried
another_kind_is_carried = refl

pub a_family_below_a_family_is_carried : family_field known (pointer_line (codes "FAMC") 6 []) ≡ carried
a_family_below_a_family_is_carried = refl

-- a partner is a member of a family; below a person the same line is carried
pub a_partner_is_a_member : family_field known (pointer_line (codes "HUSB") 5 []) ≡ a_member
a_partner_is_a_member = refl

pub a_partner_below_a_person_is_carried : person_field known (pointer_line (codes "HUSB") 5 []) ≡ carried
a_partner_below_a_person_is_carried = refl

-- a marriage is an event only of families, a census one of both
pub a_marriage_is_of_families : (family_field known (text_line (codes "MARR") []) ≡ an_event)
    × (person_field known (text_line (codes "MARR") []) ≡ carried)
a_marriage_is_of_families = (refl, refl)

pub a_census_is_of_both : (family_field known (text_line (codes "CENS") []) ≡ an_event)
    × (person_field known (text_line (codes "CENS") []) ≡ an_event)
a_census_is_of_both = (refl, refl)

-- an event has a text: with a pointer the line is carried
pub an_event_has_a_text : person_field known (pointer_line (codes "BIRT") 7 []) ≡ carried
an_event_has_a_text = refl

-- a citation names a source; a text is carried, and so is the line below a repository
pub a_source_is_cited : (event_field known (pointer_line (codes "SOUR") 4 []) ≡ a_citation)
    × (event_field known (text_line (codes "SOUR") (codes "a letter")) ≡ carried)
a_source_is_cited = (refl, refl)

pub a_repository_cites_nothing : repo_field (pointer_line (codes "SOUR") 4 []) ≡ carried
a_repository_cites_nothing = refl

-- a quality is 0 to 3
pub a_quality_is_a_digit : (citation_field (text_line (codes "QUAY") (codes "3")) ≡ a_quality)
    × (citation_field (text_line (codes "QUAY") (codes "4")) ≡ carried)
a_quality_is_a_digit = (refl, refl)

-- a date may be empty, a role may not
pub a_date_may_be_empty : event_field known (text_line (codes "DATE") []) ≡ a_date
a_date_may_be_empty = refl

pub a_role_is_not_empty : participant_field (text_line (codes "_ROLE") []) ≡ carried
a_role_is_not_empty = refl

-- ---- places
-- a place text is made normal, and has a part that is not empty
pub a_place_text_is_made_normal : normal (codes " Ashby ,Kent") ≡ codes "Ashby, Kent"
unfolding normal
a_place_text_is_made_normal = refl

pub a_place_has_a_part : (event_field known (text_line (codes "PLAC") (codes " Ashby ,Kent")) ≡ a_place)
    × (event_field known (text_line (codes "PLAC") (codes " , ")) ≡ carried)
unfolding normal is_within_limits has_part
a_place_has_a_part = (refl, refl)

-- a place names one that is known before it; itself it does not
pub a_place_is_above : place_from known (text_line (codes "NAME") (codes "Ashby") ∷ pointer_line (codes "_LOC") 1 []
    ∷ []) ≡ record { name = codes "Ashby"; parent = Some 1; carried = [] }
unfolding normal is_within_limits
a_place_is_above = refl

pub no_place_is_above_itself : place_from known
    (text_line (codes "NAME") (codes "Ashby") ∷ pointer_line (codes "_LOC") 9 [] ∷ [])
    ≡ record { name = codes "Ashby"; parent = None; carried = pointer_line (codes "_LOC") 9 [] ∷ [] }
unfolding normal is_within_limits
no_place_is_above_itself = refl

-- ---- records
-- the first name of a repository counts, also an empty one; a further one is carried
pub the_first_name_counts : repo_from (text_line (codes "NAME") [] ∷ text_line (codes "NAME") (codes "Kent") ∷ [])
    ≡ record { name = Some []; carried = text_line (codes "NAME") (codes "Kent") ∷ [] }
the_first_name_counts = refl

-- a line stays in order among those that are carried
pub carried_lines_stay_in_order : source_from known
    (text_line (codes "NOTE") (codes "a") ∷ text_line (codes "TITL") (codes "Ashby") ∷ pointer_line
    (codes "REPO") 5 [] ∷ [])
    ≡ record {
      title = Some (codes "Ashby");
      author = None;
      publisher = None;
      holdings = [];
      carried = text_line (codes "NOTE") (codes "a") ∷ pointer_line (codes "REPO") 5 [] ∷ [];
    }
carried_lines_stay_in_order = refl

-- no person is twice in a family: the first line counts
pub a_member_is_there_once : family_from known
    (pointer_line (codes "WIFE") 5 [] ∷ pointer_line (codes "CHIL") 5 [] ∷ pointer_line (codes "CHIL") 8 [] ∷ [])
    ≡ record {
      partners = record { partnership = partnership.Wife; person = 5; carried = []; carried_by_person = [] } ∷ [];
      children = record { person = 8; carried = []; carried_by_person = [] } ∷ [];
      carried = [];
    }
a_member_is_there_once = refl

-- ---- the lines of records
-- a place below another, an event at it
pub the_lines_of_a_place : shape around 2
    (node (kind.Place (record { name = codes "Ashby"; parent = Some 1; carried = [] })) none)
    ≡ line (codes "_LOC") (value.Text []) (text_line (codes "NAME") (codes "Ashby") ∷ pointer_line
    (codes "_LOC") 1 [] ∷ [])
the_lines_of_a_place = refl

abbrev burial : Tree Record
burial = node (kind.Event
    (record {
      owner = 5;
      tag = codes "BURI";
      value = [];
      date = None;
      place = Some (record { place = 2; carried = [] });
      participants = [];
      carried = [];
    })) none

pub the_lines_of_a_person : person_lines around 5
    (record {
      names = record { text = codes "John /Smith/"; carried = [] } ∷ [];
      sex = Some sex.Male;
      carried = text_line (codes "NOTE") [] ∷ [];
    }) (burial ∷ [])
    ≡ text_line (codes "NAME") (codes "John /Smith/") ∷ text_line (codes "SEX") (codes "M")
    ∷ line (codes "BURI") (value.Text []) (line (codes "PLAC") (value.Text (codes "Ashby, Kent"))
    (pointer_line (codes "_LOC") 2 [] ∷ []) ∷ [])
    ∷ pointer_line (codes "FAMC") 6 [] ∷ text_line (codes "NOTE") [] ∷ []
the_lines_of_a_person = refl

-- ---- register entries
abbrev entry : model.Entry
entry = record {
  source = 4;
  kind = entry_kind.Baptism;
  page = codes "f. 3";
  item = first_item;
  date = None;
  place = Some 1;
  text = [];
  mentions = record { role = role.Child; name = codes "Ann"; link = Some (record { person = 5; reason = [] }) } ∷ [];
}

abbrev mention : Tree Line
mention = line (codes "_MENT") (value.Text (codes "Ann"))
    (text_line (codes "_ROLE") (codes "child") ∷ pointer_line (codes "_LINK") 5 (text_line (codes "_WHY") [] ∷ []) ∷ [])

abbrev place_line : Tree Line
place_line = line (codes "PLAC") (value.Text (codes "Kent")) (pointer_line (codes "_LOC") 1 [] ∷ [])

pub the_lines_of_an_entry : entry_lines around entry
    ≡ pointer_line (codes "SOUR") 4 [] ∷ text_line (codes "PAGE") (codes "f. 3") ∷ text_line (codes "_ITEM") (codes "1")
    ∷ place_line ∷ text_line (codes "TEXT") [] ∷ mention ∷ []
unfolding digits
the_lines_of_an_entry = refl

-- a node of these lines is an entry, also with an empty reason
pub an_entry_is_read : is_some (entry_of known (value.Text (codes "BAPTISM")) (entry_lines around entry)) ≡ true
unfolding digits item_of entry_of has_part
an_entry_is_read = refl

-- without its text, with its lines in another order, or with a role of another kind it is none
pub without_its_text_it_is_none : entry_of known (value.Text (codes "BAPTISM"))
    (pointer_line (codes "SOUR") 4 [] ∷ text_line (codes "PAGE") (codes "f. 3") ∷ text_line (codes "_ITEM") (codes "1")
    ∷ place_line ∷ mention ∷ []) ≡ None
unfolding digits item_of entry_of has_part
without_its_text_it_is_none = refl

pub in_another_order_it_is_none : entry_of known (value.Text (codes "BAPTISM"))
    (pointer_line (codes "SOUR") 4 [] ∷ text_line (codes "PAGE") (codes "f. 3") ∷ text_line (codes "_ITEM") (codes "1")
    ∷ text_line (codes "TEXT") [] ∷ place_line ∷ mention ∷ []) ≡ None
unfolding digits item_of entry_of has_part
in_another_order_it_is_none = refl

pub with_another_role_it_is_none : entry_of known (value.Text (codes "BURIAL")) (entry_lines around entry) ≡ None
unfolding digits item_of entry_of has_part
with_another_role_it_is_none = refl

-- a node of level 0 that is none of these is of no other kind, with its value
pub a_note_is_of_no_kind : registered known (codes "NOTE") (value.Ref 7) (text_line (codes "NAME") [] ∷ [])
    ≡ kind.Other (record { tag = codes "NOTE"; value = value.Ref 7; carried = text_line (codes "NAME") [] ∷ [] })
a_note_is_of_no_kind = refl
