use Rattle.std.proofs.Common.{◌≡◌, ◌≤◌, map, take}
use Rattle.archive_state.specs.Looks.{OnView}
use Rattle.row_references.specs.References.{kept_number}
use Rattle.request_csv.specs.Batches.{number_for}
use Rattle.request_csv.proofs.batch_rows.numbers_of.Given as goal

abbrev pub invariant-rows : goal.invariant-rows
invariant-rows g l = record {
  shown : OnView g.V.View.is_honest g.V.View.shows g.V.View.content l.fn.view l.view
      (λ c. l.numbers.items ≡ map (number_for (kept_number c)) (take l.row-index l.rows));
  counted : g.V.View.failed l.fn.view ≤ g.V.View.failed l.view;
}
