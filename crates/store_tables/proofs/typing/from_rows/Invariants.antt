use Rattle.std.proofs.Common.{List, ◌++◌}
use Rattle.std.specs.List.{AllByRecursion}
use Rattle.std.specs.Vec.Iter.{into_iter_items, into_iter_len}
use Rattle.store_tables.specs.Conversion.{EachWith}
use Rattle.store_tables.proofs.typing.from_rows.Given as goal

-- what the rows that are left are read as goes after the items
abbrev pub invariant-rows : goal.invariant-rows
invariant-rows g l = record {
  read : (more : List _) → EachWith g.T.FromRow.reads_as (into_iter_items l.rows) more
      → EachWith g.T.FromRow.reads_as l.fn.rows.items (l.items.items ++ more);
  readable : AllByRecursion g.T.FromRow.is_readable l.fn.rows.items → AllByRecursion g.T.FromRow.is_readable
      (into_iter_items l.rows);
}

abbrev pub decreases-rows : goal.decreases-rows
decreases-rows g l = into_iter_len l.rows
