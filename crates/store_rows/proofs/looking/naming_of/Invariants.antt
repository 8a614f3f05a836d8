-- At each turn, what is found so far and what is found of the links that are left are what is found of all.
use Rattle.std.proofs.Common.{◌≡◌, ◌++◌, false, drop, Ok}
use Rattle.sqlite.specs.Held.{state}
use Rattle.store_rows.specs.Links.{linked_naming}
use Rattle.store_rows.specs.Looking.{Sees}
use Rattle.store_rows.proofs.looking.naming_of.Given as goal

abbrev pub invariant-links : goal.invariant-links
invariant-links g l =
    (l.conn.in_transaction ≡ false)
    × Sees (λ c (_ : Unit {0}). l.found.items ++ linked_naming l.number c (drop l.link-index l.links)
    ≡ linked_naming l.number c l.links) (state g.S.Store l.fn.conn) (state g.S.Store l.conn) (Ok tt)
