-- The archive and the streams at a moment. Rules of our own.
use Rattle.sqlite_trees.specs.declared.store.Store.{Ghosts}
use Rattle.store.specs.declared.archive.Archive.{Archive}

-- the reader of the input, and the writers of the output and of the faults
pub record Streams (R W F : Type 0) : Type 0 where
  pub input : R
  pub output : W
  pub faults : F

-- an archive that is open, and the streams
pub record Moment {S : Type 0} (g : Ghosts S) (R W F : Type 0) : Type 0 where
  pub archive : Archive S g
  pub input : R
  pub output : W
  pub faults : F

abbrev pub at : {S R W F : Type 0} {g : Ghosts S} → Archive S g → Streams R W F → Moment g R W F
at archive streams =
    record { archive = archive; input = streams.input; output = streams.output; faults = streams.faults }
