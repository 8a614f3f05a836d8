-- What is seen of a run of a task on the archive in a file. Rules of our own.
use Rattle.std.specs.Prelude.{◌≡◌, ◌++◌, [], ℕ, List, Option, Some, None}
use Rattle.std.specs.declared.io.Read as read
use Rattle.std.specs.declared.io.Write as write
use Rattle.tasks.specs.Moments.{Streams}

-- a run that ended with this status, and then all that it wrote was seen; or it was stopped
abbrev pub IsSeenAs : ℕ → List ℕ → Option ℕ → Type 0
IsSeenAs status unseen None = Unit {0}
IsSeenAs status unseen (Some seen) = (seen ≡ status) × (unseen ≡ [])

-- the run read of this input, wrote nothing before, and of what it wrote this was seen first, and not the rest
module _ {R W F : Type 0} (reader : read.Ghosts R) (writer : write.Ghosts W) where
  pub record IsSeen (x y : Streams R W F) (input seen unseen : List ℕ) : Type 0 where
    pub reads : reader.remaining x.input ≡ Some input
    pub begins : writer.contents x.output ≡ Some []
    pub writes : writer.contents y.output ≡ Some (seen ++ unseen)
