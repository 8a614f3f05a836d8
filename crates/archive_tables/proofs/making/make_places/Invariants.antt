use Rattle.archive_tables.specs.Making.{HasMade}
use Rattle.archive_tables.proofs.making.make_places.Given as goal

abbrev pub invariant-loop-path : goal.invariant-loop-path
invariant-loop-path g l = HasMade g.S.Store l.token l.paths l.path-index l.made.items l.fn.archive l.archive
