use Rattle.std.proofs.Common.{◌≡◌, [], set, take}
use Rattle.csv.specs.Records.{fields_of, partial_of}
use Rattle.row_references.proofs.fields.with_field.Given as goal

abbrev pub invariant-fields : goal.invariant-fields
invariant-fields l = (fields_of l.out ≡ take l.i (set (fields_of l.row) l.at l.field)) × (partial_of l.out ≡ [])
