-- What the lines of a record show of other records of an archive: the paths of places, and the families of a person
-- (The GEDCOM Standard Release 5.5.1, chapter 2, PLACE_STRUCTURE, CHILD_TO_FAMILY_LINK and SPOUSE_TO_FAMILY_LINK).
use Rattle.std.specs.Prelude.{ℕ, ◌==◌, List, [], map}
use Rattle.std.specs.List.{filter, flat_map}
use Rattle.std.specs.Option.{unwrap_or}
use Rattle.std.specs.FinMap.{entries}
use Rattle.record_kinds.specs.Model as model
use Rattle.record_kinds.specs.declared.record.Record.TheVariants as kind
use Rattle.record_shapes.specs.Shapes.{Around, Side}
use Rattle.archive_state.specs.Content.{Records}
use Rattle.archive_state.specs.Known.{path_of}
use Rattle.gedcom_export.specs.Order.{Numbered}

-- the sides of a person who is a child in a family, with the lines that are carried by the person; of another none
abbrev pub child_sides : ℕ → Numbered → List Side
child_sides n (k, kind.Family f) = map (λ (c : model.Child). record { family = k; carried = c.carried_by_person })
    (filter (λ (c : model.Child). c.person == n) f.children)
child_sides n (k, _) = []

-- the same of a person who is a partner
abbrev pub partner_sides : ℕ → Numbered → List Side
partner_sides n (k, kind.Family f) = map (λ (p : model.Partner). record { family = k; carried = p.carried_by_person })
    (filter (λ (p : model.Partner). p.person == n) f.partners)
partner_sides n (k, _) = []

-- the path of each place, and the families of each person, by the numbers of the families
abbrev pub around : Records → Around
around m = record {
  path = λ n. unwrap_or (path_of m n) [];
  child_in = λ n. flat_map (child_sides n) (entries m);
  partner_in = λ n. flat_map (partner_sides n) (entries m);
}
