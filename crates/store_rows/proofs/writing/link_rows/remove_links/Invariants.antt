-- At each turn, what is left leads from here to where all leads.
use Rattle.std.proofs.Common.{◌≡◌, drop}
use Rattle.sqlite.specs.Held.{state}
use Rattle.store_rows.specs.Links.{without_all_links}
use Rattle.store_rows.proofs.Dated.{IsOnItsWay}
use Rattle.store_rows.proofs.writing.link_rows.remove_links.Given as goal

abbrev pub invariant-links : goal.invariant-links
invariant-links g l =
    (l.tx.conn.ghost_name ≡ l.fn.tx.conn.ghost_name)
    × IsOnItsWay (state g.S.Store l.fn.tx.conn.now) (state g.S.Store l.tx.conn.now) (without_all_links l.links)
    (without_all_links (drop l.link-index l.links))
