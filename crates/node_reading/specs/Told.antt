-- What is known by the lines below that of a place, and below one that names who took part; and with the lines left.
use Rattle.std.specs.Prelude.{ℕ, Bool, List, [], ◌∷◌, Option, Some, None, option_map}
use Rattle.std.specs.List.{filter}
use Rattle.stored_lines.specs.Tree.{Tree}
use Rattle.stored_lines.specs.Line.{Line, Lines}
use Rattle.record_shapes.specs.Forms.{number_of}
use Rattle.record_shapes.specs.Fields.{a_role, participant_field}
use Rattle.record_shapes.specs.Picking.{first}
use Rattle.record_shapes.specs.Reading.{without}
use Rattle.node_reading.specs.Partly.{left_with, or_told, unless}

-- the carried lines of who took part, where a role was found or is still to be
abbrev pub roles_left : Option (List ℕ) → Lines → Lines
roles_left role ts = left_with participant_field (a_role ∷ []) (unless role a_role) ts

-- the number on the first line of a kind, where none was found yet
abbrev pub number_or : (Tree Line → Bool) → Option ℕ → Lines → Option ℕ
number_or P o ts = or_told o (option_map number_of (first (filter P ts)))

-- the lines without the first of a kind, where none was found yet
abbrev pub unlocated : (Tree Line → Bool) → Option ℕ → Lines → Lines
unlocated P None ts = without P ts
unlocated P (Some n) ts = ts
