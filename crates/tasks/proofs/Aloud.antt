-- What an import says on the faults of how far it is.
use Rattle.std.proofs.Common.{
  ◌≡◌,
  ◌≢◌,
  ◌∙◌,
  ℕ,
  List,
  Bool,
  ap,
  true,
  false,
  inl,
  inr,
  refl,
  suc,
  true≢false,
  zero,
}
use Rattle.std.specs.Prelude.{Option, OnOk}
use Rattle.std.specs.Io.KnownBytes.{Appends}
use Rattle.std.specs.declared.io.Read as read
use Rattle.std.specs.declared.io.Write as write
use Rattle.sqlite_trees.specs.declared.store.Store.{Ghosts}
use Rattle.devices.proofs.Begun.{all_begins, begins_none}
use Rattle.devices.specs.Devices.{Rose}
use Rattle.devices.specs.declared.device.Device as device
use Rattle.archive_input.specs.Importing.{TellsImported}
use Rattle.staging.specs.Counts.{RowCount, TellsStages, after_stages}
use Rattle.store.specs.Telling.{TellsImport}
use Rattle.tasks.specs.Counts.{SaysCount, SaysOrStarves, SaysPart, count_line}
use Rattle.tasks.specs.Ends.{SaysHowFar}
use Rattle.tasks.specs.Moments.{Moment}
use Rattle.tasks.specs.Status.{Outcome}

module _ {S R W F : Type 0} (g : Ghosts S) (reader : read.Ghosts R) (reads : device.Ghosts R) (writer : write.Ghosts W)
    (writes : device.Ghosts W) (faulter : write.Ghosts F) (fails : device.Ghosts F) (a b : Moment g R W F) where
  pub says_far : (progress : Bool) (token : List ℕ) (o : Outcome) → (progress ≡ false → b.faults ≡ a.faults)
      → (progress ≡ true → TellsImport (SaysPart faulter.contents fails.failed) a.faults b.faults)
      → (progress ≡ true → OnOk o (TellsImported g (SaysCount faulter.contents fails.failed) token
      (reader.remaining a.input) a.archive b.archive a.faults b.faults))
      → SaysHowFar g reader reads writer writes faulter fails a b progress token o
  says_far false token o quiet told done = quiet refl
  says_far true token o quiet told done = (told refl, done refl)

  pub far_quiet : (progress : Bool) (token : List ℕ) (o : Outcome) → progress ≡ false
      → SaysHowFar g reader reads writer writes faulter fails a b progress token o → b.faults ≡ a.faults
  far_quiet false token o is said = said
  far_quiet true token o is said = absurd (true≢false is)

-- ---- a line
module _ {F : Type 0} (said : F → Option (List ℕ)) (failed : F → ℕ) (a b : F) (rows : RowCount) where
  pub left_out : (was : Bool) → rows.written ≢ rows.all → SaysOrStarves said failed a was rows a was
  left_out was some = (begins_none (said a) (count_line rows), λ is. (is, inr (inr (refl, some))))

  pub said_whole : Appends (said a) (said b) (count_line rows) → SaysOrStarves said failed a false rows b false
  said_whole whole = (all_begins (said a) (said b) (count_line rows) whole, λ is. (refl, inl whole))

  pub said_part : SaysPart said failed a rows b → Rose (failed a) (failed b)
      → SaysOrStarves said failed a false rows b false
  said_part part rose = (part, λ is. (refl, inr (inl (part, rose))))

  pub said_starved : (was : Bool) → SaysPart said failed a rows b → SaysOrStarves said failed a was rows b true
  said_starved was part = (part, λ is. absurd (true≢false is))

  pub said_now : (was : Bool) → SaysOrStarves said failed a false rows b false
      → SaysOrStarves said failed a was rows b was
  said_now was said = (said.0, λ is. (is, (said.1 refl).1))

-- ---- what no count changes stays the same
module _ {P X : Type 0} (Tells : P → RowCount → P → Type 0) (of : P → X)
    (each : (a b : P) (rows : RowCount) → Tells a rows b → of b ≡ of a) where
  stages_keep : (all n : ℕ) (a b : P) → TellsStages Tells all n a b → of b ≡ of a
  stages_keep all zero a b told = each a b (after_stages all 0) told
  stages_keep all (suc n) a b (mid, told, last) =
      each mid b (after_stages all (suc n)) last ∙ stages_keep all n a mid told

  pub import_keeps : (a b : P) → TellsImport Tells a b → of b ≡ of a
  import_keeps a b (inl same) = ap of same
  import_keeps a b (inr (all, (n, some, told))) = stages_keep all n a b told
