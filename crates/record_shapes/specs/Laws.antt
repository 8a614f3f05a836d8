-- What is read from the lines of a record: that record.
use Rattle.std.specs.Prelude.{ℕ, ◌≡◌, [], ◌++◌, map, codes, List, Some, None}
use Rattle.stored_lines.specs.Tree.{Tree, relabel}
use Rattle.record_kinds.specs.Model as model
use Rattle.record_kinds.specs.declared.record.Record.{Record}
use Rattle.record_kinds.specs.declared.record.Record.TheVariants as kind
use Rattle.record_shapes.specs.Forms.{Known}
use Rattle.record_shapes.specs.Fields.{a_side, path_below, person_field}
use Rattle.record_shapes.specs.Picking.{all_of}
use Rattle.record_shapes.specs.Shapes.{Around, person_lines, place_lines, shape, side_line}
use Rattle.record_shapes.specs.Reading.{Draft, draft_of, path_from, read}
use Rattle.record_shapes.specs.Readable.{IsReadable, IsReadablePerson, IsReadablePlace}

-- a membership without the lines that the person's record has below it
abbrev pub apart_partner : model.Partner → model.Partner
apart_partner p = record { partnership = p.partnership; person = p.person; carried = p.carried; carried_by_person = [] }

abbrev pub apart_child : model.Child → model.Child
apart_child c = record { person = c.person; carried = c.carried; carried_by_person = [] }

-- a record as its own lines tell it: an event or a citation without its owner, which is what it is below, and a family
-- without the persons' side of its memberships
abbrev pub apart : Record → Record
apart (kind.Event e) =
    kind.Event (record {
      owner = 0;
      tag = e.tag;
      value = e.value;
      date = e.date;
      place = e.place;
      participants = e.participants;
      carried = e.carried;
    })
apart (kind.Citation c) =
    kind.Citation (record { owner = 0; source = c.source; page = c.page; quality = c.quality; carried = c.carried })
apart (kind.Family f) =
    kind.Family (record {
      partners = map apart_partner f.partners;
      children = map apart_child f.children;
      carried = f.carried;
    })
apart r = r

-- a record with what it owns, as drafts of which no place is to be found
abbrev pub drafted : Tree Record → Tree Draft
drafted t = relabel (λ r. read (apart r) None) t

-- a record that is written at level 0, with what it owns, is read again from its lines
abbrev pub IsReadAgain : Type 0
IsReadAgain = (earlier known : Known) (a : Around) (n : ℕ) (t : Tree Record) → IsReadable earlier known a n t
    → draft_of earlier known (shape a n t) ≡ drafted t

-- the lines of a person that name families are those of the families where the person is a child, and then of those
-- where the person is a partner
abbrev pub FindsFamilies : Type 0
FindsFamilies = (known : Known) (a : Around) (n : ℕ) (p : model.Person) (under : List (Tree Record))
    → IsReadablePerson known a n p under
    → all_of (person_field known) a_side (person_lines a n p under)
    ≡ map (side_line (codes "FAMC")) (a.child_in n) ++ map (side_line (codes "FAMS")) (a.partner_in n)

-- the path of a place is its name, and below another one that name with the path of the other
abbrev pub FindsPath : Type 0
FindsPath = (earlier : Known) (p : model.Place) → IsReadablePlace earlier p
    → ((p.parent ≡ None → path_from earlier (place_lines p) ≡ p.name)
    × ((q : ℕ) (above : List ℕ) → p.parent ≡ Some q → earlier.path q ≡ Some above
    → path_from earlier (place_lines p) ≡ path_below p.name above))
