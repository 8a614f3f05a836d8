use Rattle.std.proofs.Common.{◌≡◌, [], drop}
use Rattle.table_pages.specs.Headers.{columns_from}
use Rattle.table_pages.proofs.headers.columns_of.Given as goal

abbrev pub invariant-loop-name : goal.invariant-loop-name
invariant-loop-name l = columns_from l.columns.items (drop l.name-index l.names) ≡ columns_from [] l.names
