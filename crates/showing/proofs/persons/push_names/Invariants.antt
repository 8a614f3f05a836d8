use Rattle.std.proofs.Common.{◌≡◌, ◌++◌, take, string_bytes}
use Rattle.std.specs.List.{flat_map}
use Rattle.showing.specs.Fields as fields
use Rattle.showing.proofs.persons.push_names.Given as goal

abbrev pub invariant-each : goal.invariant-each
invariant-each l = string_bytes l.out ≡ string_bytes l.fn.out ++ flat_map fields.name_field (take l.name-index l.names)
