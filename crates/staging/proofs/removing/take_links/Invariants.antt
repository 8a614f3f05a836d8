-- At each turn what is in front of the rest is removed.
use Rattle.std.proofs.Common.{◌≡◌, ◌++◌, List, false, length}
use Rattle.sqlite.specs.Held.{state}
use Rattle.store_tables.specs.Rows.{LinkRow}
use Rattle.store_rows.specs.Links.{without_all_links}
use Rattle.staging.proofs.Spans.{AreGone, links_go}
use Rattle.staging.proofs.removing.take_links.Given as goal

abbrev pub invariant-links : goal.invariant-links
invariant-links g l = record {
  ended : l.conn.in_transaction ≡ false;
  taken : (front : List LinkRow) × (l.fn.links ≡ front ++ l.rest)
      × AreGone (λ (l : LinkRow). l.no) without_all_links links_go front (state g.S.Store l.fn.conn)
      (state g.S.Store l.conn);
}

abbrev pub decreases-links : goal.decreases-links
decreases-links g l = length l.rest
