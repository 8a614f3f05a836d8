-- The lines of the sides that were gone over.
use Rattle.std.proofs.Common.{◌≡◌, flat_map}
use Rattle.store_tables.specs.Reading.{lines_in_pack}
use Rattle.store_tables.proofs.sides.lines_in.Given as goal

abbrev pub invariant-packs : goal.invariant-packs
invariant-packs l = l.found.items ≡ flat_map lines_in_pack l.yielded
