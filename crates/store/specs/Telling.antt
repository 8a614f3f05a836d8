-- What whoever wants to know how far an import is has got of a request to import. Rules of our own.
use Rattle.std.specs.Prelude.{◌≡◌, ◌≢◌, ◌⊎◌, ℕ, None, length}
use Rattle.std.specs.FinMap.{get}
use Rattle.archive_core.specs.declared.request.Request.{Request}
use Rattle.archive_state.specs.Content.{Content}
use Rattle.staging.specs.Counts.{RowCount, TellsAll, TellsSome}
use Rattle.staging.specs.Opened.{Import}
use Rattle.import_commits.specs.Commits.{IsWhole}
use Rattle.store.specs.Importing.{IsAccepted}

module _ {P : Type 0} (Tells : P → RowCount → P → Type 0) where
  -- nothing was reported, or how far an import went
  abbrev pub TellsImport : P → P → Type 0
  TellsImport old new = (new ≡ old) ⊎ ((all : ℕ) × TellsSome Tells all old new)

  -- of a request that was accepted: nothing, where it was done before; else all stages of its import
  abbrev pub TellsDone : Content → Request → P → P → Type 0
  TellsDone c r old new = ((get c.receipts r.token ≢ None) × (new ≡ old))
      ⊎ ((i : Import) × IsAccepted c r i × IsWhole i.batch i.changes i × TellsAll Tells (length i.left) old new)
