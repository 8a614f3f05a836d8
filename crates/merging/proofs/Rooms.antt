-- How deep the carried lines of a record go after a merge.
use Rattle.std.proofs.Common.{ℕ, ◌++◌, arith}
use Rattle.std.specs.Prelude.{Option, Some, None}
use Rattle.stored_lines.specs.Line.{Lines}
use Rattle.stored_lines.proofs.Levels.{levels-append}
use Rattle.record_kinds.specs.Model as model
use Rattle.record_fields.specs.declared.words.Sex.{Sex}
use Rattle.record_kinds.specs.declared.record.Record.{Record}
use Rattle.record_kinds.specs.declared.record.Record.TheVariants as kind
use Rattle.record_shapes.specs.Levels.{AreWithin, HasRoom}
use Rattle.archive_state.specs.Merging.{once_in, joined_child, joined_person, second_sex}
use Rattle.record_shapes.proofs.Each.{each_both}
use Rattle.merging.proofs.Carrying.{children_into}
use Rattle.archive_state.proofs.Texts.{ChildWithin}

both_within : (n : ℕ) (ts us : Lines) → AreWithin n ts → AreWithin n us → AreWithin n (ts ++ us)
both_within n ts us h k = omega (arith, levels-append ts us)

-- ---- children joined
child_room : (c d : model.Child) → ChildWithin c → ChildWithin d → ChildWithin (joined_child c d)
child_room c d h k = (
  both_within 97 c.carried d.carried h.0 k.0,
  both_within 97 c.carried_by_person d.carried_by_person h.1 k.1,
)

pub room_once : (owner : Option Record) (n : ℕ) (r : Record) → HasRoom owner r → HasRoom owner (once_in n r)
room_once owner n (kind.Family x) h = (h.0, children_into ChildWithin child_room n x.children h.1, h.2)
room_once owner n (kind.Place x) h = h
room_once owner n (kind.Repo x) h = h
room_once owner n (kind.Source x) h = h
room_once owner n (kind.Person x) h = h
room_once owner n (kind.Citation x) h = h
room_once owner n (kind.Event x) h = h
room_once owner n (kind.Entry x) h = h
room_once owner n (kind.Other x) h = h

-- ---- two persons
sex_within : (s t : Option Sex) → AreWithin 98 (second_sex s t)
sex_within None t = omega arith
sex_within (Some s) None = omega arith
sex_within (Some s) (Some t) = omega arith

pub room_joined : (owner : Option Record) (k g : model.Person) → HasRoom owner (kind.Person k)
    → HasRoom owner (kind.Person g) → HasRoom owner (kind.Person (joined_person k g))
room_joined owner k g h i = (
  each_both (λ (x : model.Name). AreWithin 97 x.carried) k.names g.names h.0 i.0,
  both_within 98 k.carried (g.carried ++ second_sex k.sex g.sex) h.1
      (both_within 98 g.carried (second_sex k.sex g.sex) i.1 (sex_within k.sex g.sex)),
)
