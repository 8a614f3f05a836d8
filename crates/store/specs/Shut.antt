-- An archive that takes no requests, as crates above see it. Rules of our own.
use Rattle.std.specs.Prelude.{Bool}
use Rattle.sqlite_trees.specs.declared.store.Store.{Ghosts}
use Rattle.store.specs.Standing.{shuts}
use Rattle.store.specs.declared.archive.Archive.{Archive}

-- the database has failed, or an import is open
abbrev pub is_shut : {S : Type 0} {g : Ghosts S} → Archive S g → Bool
is_shut a = shuts a.is_lost a.import
