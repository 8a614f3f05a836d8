use Rattle.std.proofs.Common.{◌≡◌, take}
use Rattle.plain_export.specs.Plain.{plain_names}
use Rattle.plain_export.proofs.parts.plain_names.Given as goal

abbrev pub invariant-names : goal.invariant-names
invariant-names l = l.made.items ≡ plain_names l.state.records (take l.name-index l.names)
