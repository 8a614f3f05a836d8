-- What is reported of an import, as another sees it.
use Rattle.std.proofs.Common.{ℕ, List}
use Rattle.std.specs.Prelude.{Option}
use Rattle.sqlite_trees.specs.declared.store.Store.{Ghosts}
use Rattle.archive_core.specs.Machine.{import_of}
use Rattle.archive_input.specs.Importing.{TellsImported}
use Rattle.staging.specs.Counts.{RowCount}
use Rattle.store.proofs.Told.{done_seen}
use Rattle.store.specs.declared.archive.Archive.{Archive}

module _ {P F : Type 0} (b a : P) (Tells : P → RowCount → P → Type 0) (Says : F → RowCount → F → Type 0) (seen : P → F)
    (Still : P → Type 0) (each : (a b : P) (rows : RowCount) → Tells a rows b → Still b
    → Still a × Says (seen a) rows (seen b)) (still : Still b) where
  pub imported_seen : {S : Type 0} (g : Ghosts S) (token : List ℕ) (input : Option (List ℕ)) (old new : Archive S g)
      → TellsImported g Tells token input old new a b → TellsImported g Says token input old new (seen a) (seen b)
  imported_seen g token input old new (forest, read, told) = (
    forest,
    read,
    λ clean society content rows was keeps. done_seen b a Tells Says seen Still each still content
        (import_of token forest) (told clean society content rows was keeps),
  )
