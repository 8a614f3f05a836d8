-- Persons and families with what they own, as drafts; and what is read of one from some of its lines.
use Rattle.std.specs.Prelude.{ℕ, ◌==◌, ◌||◌, not, Bool, List, [], ◌∷◌, ◌++◌, map, None, if◌then◌else◌}
use Rattle.std.specs.List.{filter, flat_map}
use Rattle.stored_lines.specs.Tree.{Tree, node, none}
use Rattle.stored_lines.specs.Line.{Line, Lines}
use Rattle.record_kinds.specs.Model as model
use Rattle.record_kinds.specs.declared.record.Record.TheVariants as kind
use Rattle.record_fields.specs.Words.{sex_of}
use Rattle.record_shapes.specs.declared.field.Field.{Field}
use Rattle.record_shapes.specs.Forms.{Known, number_of}
use Rattle.record_shapes.specs.Fields.{
  a_citation,
  a_member,
  a_name,
  a_sex,
  an_event,
  family_field,
  is_same,
  person_field,
}
use Rattle.record_shapes.specs.Picking.{all_of, text_at}
use Rattle.record_shapes.specs.Reading.{
  Draft,
  child_from,
  citation_draft,
  draft_if,
  event_draft,
  is_child_line,
  name_from,
  partner_from,
  read,
  read_by,
}
use Rattle.node_reading.specs.Partly.{left_with, or_told, unless}
use Rattle.node_reading.specs.Drafts.{event_tree}
use Rattle.node_reading.specs.declared.owners.Owned.{Owned}
use Rattle.node_reading.specs.declared.owners.Owned.TheVariants as owned

abbrev pub owned_tree : Owned → Tree Draft
owned_tree (owned.Event d) = event_tree d
owned_tree (owned.Citation c) = node (read (kind.Citation c) None) none

-- the drafts of the lines that are events or citations
abbrev pub owned_on : Known → (Tree Line → Field) → Lines → List (Tree Draft)
owned_on known field ts = flat_map (λ t. draft_if known (field t) t) ts

-- the draft of a line of that field, as the code tests it
abbrev pub drafts_if : Known → Field → Tree Line → List (Tree Draft)
drafts_if known x t = if is_same x an_event then event_draft known t ∷ []
    else (if is_same x a_citation then citation_draft t ∷ [] else [])

-- ---- a person that is read from some lines, with those that are left
abbrev pub person_with : Known → model.Person → Lines → model.Person
person_with known p ts = record {
  names = p.names ++ map name_from (all_of (person_field known) a_name ts);
  sex = or_told p.sex (read_by sex_of (text_at (person_field known) a_sex ts));
  carried = p.carried ++ left_with (person_field known) (a_sex ∷ []) (unless p.sex a_sex) ts;
}

-- ---- a family
-- the first line of each person, where some were seen before
abbrev pub once_of : (ℕ → Bool) → Lines → Lines
once_of seen [] = []
once_of seen (t ∷ ts) = if seen (number_of t) then once_of seen ts
    else t ∷ once_of (λ n. number_of t == n || seen n) ts

abbrev pub family_with : Known → (ℕ → Bool) → model.Family → Lines → model.Family
family_with known seen f ts = record {
  partners = f.partners ++ map partner_from (filter (λ t. not (is_child_line t))
      (once_of seen (all_of (family_field known) a_member ts)));
  children = f.children ++ map child_from (filter is_child_line
      (once_of seen (all_of (family_field known) a_member ts)));
  carried = f.carried ++ left_with (family_field known) [] [] ts;
}

-- the family with the person of a line
abbrev pub joined_by : model.Family → Tree Line → model.Family
joined_by f t = if is_child_line t
    then record { partners = f.partners; children = f.children ++ child_from t ∷ []; carried = f.carried }
    else record { partners = f.partners ++ partner_from t ∷ []; children = f.children; carried = f.carried }
