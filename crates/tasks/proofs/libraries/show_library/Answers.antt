use Rattle.std.proofs.Common.{w32}
use Rattle.std.proofs.lemmas.Int.{to_z-of_z}
use Rattle.sqlite.specs.Held.{state}
use Rattle.tasks.proofs.Days.{library_on}
use Rattle.tasks.proofs.libraries.show_library.Goals as goal

pub returns-in-Ok-clause-shelves : goal.returns-in-Ok-clause-shelves
returns-in-Ok-clause-shelves g c =
    library_on (state g.S.Store c.args.archive.now.conn) (state g.S.Store c.shelf_of.new.archive.conn) _ c.args.today
    c.in-Ok.shelf (to_z-of_z w32 c.args.today c.ranges.today) c.in-Ok.ensures.shown c.in-Ok.ensures.sound

pub returns-in-Err-clause-shelves : goal.returns-in-Err-clause-shelves
returns-in-Err-clause-shelves g c = rw c.placeless.ensures c.in-Err.ensures.unshown

pub returns-in-Err-clause-lost : goal.returns-in-Err-clause-lost
returns-in-Err-clause-lost g c = rw c.placeless.ensures c.in-Err.ensures.lost
