use Rattle.std.proofs.Common.{◌≡◌, ◌≤◌, take}
use Rattle.std.specs.Prelude.{Some, option_map}
use Rattle.archive_state.specs.Looks.{OnView}
use Rattle.csv.specs.Records.{fields_of}
use Rattle.row_references.specs.References.{Fills, kept_number}
use Rattle.row_references.proofs.InPlace.{so_far}
use Rattle.row_references.proofs.numbering.numbered_in.Given as goal

abbrev pub invariant-each : goal.invariant-each
invariant-each g l = record {
  shown : OnView g.V.View.is_honest g.V.View.shows g.V.View.content l.fn.view l.view
      (λ c. option_map fields_of l.found ≡ so_far (kept_number c) (fields_of l.fn.row) (take l.at-index l.places));
  form : Fills (take l.at-index l.places) (Some (fields_of l.fn.row)) (option_map fields_of l.found);
  counted : g.V.View.failed l.fn.view ≤ g.V.View.failed l.view;
}
