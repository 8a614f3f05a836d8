use Rattle.std.proofs.Common.{◌≡◌, ◌++◌, drop}
use Rattle.page_answers.specs.Likes.{like_in}
use Rattle.page_checks.specs.Rows.{under_columns}
use Rattle.page_checks.proofs.rows.push_columns.Given as goal

abbrev pub invariant-loop-column : goal.invariant-loop-column
invariant-loop-column l = record {
  place : l.at ≡ l.column-index;
  so_far : l.out.items ++ under_columns l.known (like_in l.likes) l.news l.sheet.names l.row.cells l.at
      (drop l.column-index l.columns)
      ≡ l.fn.out.items ++ under_columns l.known (like_in l.likes) l.news l.sheet.names l.row.cells 0 l.columns;
}
