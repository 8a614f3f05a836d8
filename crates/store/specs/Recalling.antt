-- A call that reads rows by themselves, be they those of an archive or not. Rules of our own.
use Rattle.std.specs.Prelude.{◌≡◌, ◌⊎◌, Result, IfOk, IfErr}
use Rattle.sqlite.specs.State.{State}
use Rattle.record_text.specs.declared.refusal.RefusalKind.{RefusalKind}
use Rattle.record_text.specs.declared.refusal.RefusalKind.TheVariants.{BadStored}
use Rattle.store_tables.specs.Calls.{Settled}
use Rattle.store_tables.specs.Looking.{IsFailure}
use Rattle.store_tables.specs.Rows.{Rows}
use Rattle.store.specs.Calls.{Stays}
use Rattle.store.specs.Histories.{has_broken}

-- it answers this of settled tables; it is refused for out of memory, because the database failed, or with 40 where
-- these rows cannot be read
pub record Recalls {A : Type 0} (Is : Rows → A → Type 0) (CanBeRead : Rows → Type 0) (old : State)
    (result : Result A RefusalKind) (new : State) : Type 0 where
  pub read : IfOk result (λ (a : A). (rows : Rows) → Settled old rows → Is rows a)
  pub refused : IfErr result (λ kind. (rows : Rows) → Settled old rows
      → IsFailure kind ⊎ ((kind ≡ BadStored) × ¬ (CanBeRead rows)))
  pub stays : Stays old (has_broken result) new
