-- What contracts see of paths that may be missing, and of the kinds of nodes.
use Rattle.std.specs.Prelude.{ℕ, Bool, true, false, List, Option, Some, None, option_map, string_bytes}
use Rattle.std.specs.declared.string.String.{String}
use Rattle.std.specs.Global.{Global}
use Rattle.field_rows.specs.declared.known.Named.{Named}
use Rattle.field_rows.specs.declared.known.Named.TheVariants as named
use Rattle.import_definitions.specs.declared.kinds.RootKind.{RootKind}
use Rattle.import_definitions.specs.declared.kinds.RootKind.TheVariants as kind

abbrev pub path_said : Option (String Global) → Option (List ℕ)
path_said p = option_map string_bytes p

-- a node of that kind is a record of that
abbrev pub is_kind : Named → RootKind → Bool
is_kind named.Repo kind.Repo = true
is_kind named.Source kind.Source = true
is_kind named.Person kind.Person = true
is_kind named.Family kind.Family = true
is_kind n k = false

abbrev pub is_kind_at : Named → Option RootKind → Bool
is_kind_at n None = false
is_kind_at n (Some k) = is_kind n k
