-- What lines are read with where one path is looked at, and what is looked at afterwards.
use Rattle.std.specs.Prelude.{ℕ, List, Bool, ◌&&◌, ◌==◌, bytes_eq, codes, if◌then◌else◌}
use Rattle.std.specs.FinMap.{get}
use Rattle.std.specs.List.{list_all}
use Rattle.record_kinds.specs.Model as model
use Rattle.record_shapes.specs.Entries.{names_person}
use Rattle.record_shapes.specs.Forms.{Known}
use Rattle.archive_state.specs.Content.{Content}
use Rattle.archive_state.specs.Known.{known_of, tag_at}
use Rattle.place_names.specs.Naming.{path_only}

-- the path of one place, and the number of a source; each other number counts as that of a person
abbrev pub one_path : ℕ → List ℕ → ℕ → Known
one_path n path source = record {
  tag = λ k. if k == source then codes "SOUR" else codes "INDI";
  path = path_only n path;
}

-- the entry names a source, and its mentions persons
abbrev pub names_right : Content → model.Entry → Bool
names_right c e =
    bytes_eq (tag_at (get c.records e.source)) (codes "SOUR")
    && list_all (λ (m : model.Mention). names_person (known_of c.records) m.link) e.mentions
