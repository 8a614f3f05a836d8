-- A request on an archive that takes none, by what a call that performs one says of it.
use Rattle.std.proofs.Common.{◌≡◌, ◌||◌, Bool, true, false, [], ◌∷◌, Option, None, Some, cond, is_some, refl}
use Rattle.std.specs.Prelude.{IsSome, IsTrue}
use Rattle.std.proofs.lemmas.Bool.{false≢true}
use Rattle.sqlite_trees.specs.declared.store.Store.{Ghosts}
use Rattle.archive_core.specs.declared.request.Request.{Request}
use Rattle.store.specs.Histories.{Outcome, must_reopen}
use Rattle.store.specs.Standing.{must_wait}
use Rattle.store.specs.declared.archive.Archive.{Archive}
use Rattle.archive_input.specs.Applying.{RefusesAll}

-- it is lost, or an import is open on it
refused_by : {N I : Type 0} (o : Outcome) (lost : Bool) (i : Option I) → (IsTrue lost → (o ≡ must_reopen) × N)
    → (lost ≡ false → IsSome i → (o ≡ must_wait) × N) → (is_some i || lost) ≡ true
    → (o ≡ cond lost must_reopen must_wait) × N
refused_by o true i reopen waits shut = reopen refl
refused_by o false None reopen waits shut = absurd (false≢true shut)
refused_by o false (Some i) reopen waits shut = waits refl refl

pub refused_shut : {S : Type 0} (g : Ghosts S) (old new : Archive S g) (r : Request) (o : Outcome)
    → (IsTrue old.is_lost → (o ≡ must_reopen) × (new ≡ old))
    → (old.is_lost ≡ false → IsSome old.import → (o ≡ must_wait) × (new ≡ old))
    → RefusesAll g old ((r, o) ∷ []) new
refused_shut g old new r o reopen waits = λ shut.
    let refused = refused_by o old.is_lost old.import reopen waits shut in ((refused.0, tt), refused.1)
