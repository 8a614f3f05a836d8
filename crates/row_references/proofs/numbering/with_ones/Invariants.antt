use Rattle.std.proofs.Common.{◌≡◌, take}
use Rattle.std.specs.Prelude.{Some}
use Rattle.csv.specs.Records.{fields_of}
use Rattle.row_references.specs.References.{any_number}
use Rattle.row_references.proofs.InPlace.{so_far}
use Rattle.row_references.proofs.numbering.with_ones.Given as goal

abbrev pub invariant-each : goal.invariant-each
invariant-each l = so_far any_number (fields_of l.fn.row) (take l.at-index l.places) ≡ Some (fields_of l.out)
