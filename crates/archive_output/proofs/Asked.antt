-- A call of `store` that reads, as what is said of an archive that is open.
use Rattle.std.proofs.Common.{◌≡◌, ◌∙◌, inl, inr, ℕ, true, List, Ok, Err, refl, ap}
use Rattle.sqlite.specs.State.{HasCleanDisk, State}
use Rattle.archive_state.specs.Content.{Content}
use Rattle.archive_state.specs.Sound.{IsSound}
use Rattle.archive_state.specs.Looks.{is_stop}
use Rattle.record_text.specs.declared.refusal.RefusalKind.{RefusalKind}
use Rattle.store_tables.specs.Looking.{IsFailure}
use Rattle.store.specs.Archives.{HasArchive}
use Rattle.store.specs.Calls.{Reads}
use Rattle.archive_output.specs.Reading.{OnOpen}

-- a refusal of a read that stops
abbrev pub StopsAs : RefusalKind → RefusalKind → Type 0
StopsAs kind told = is_stop kind ≡ true → told ≡ kind

pub failure_as : (kind told : RefusalKind) → StopsAs kind told → IsFailure kind → IsFailure told
failure_as kind told same (inl want) = inl (same (ap is_stop want) ∙ want)
failure_as kind told same (inr lost) = inr (same (ap is_stop lost) ∙ lost)

pub follows : (old new : State) (P Q : List ℕ → Content → Type 0)
    → ((society : List ℕ) (c : Content) → P society c → Q society c) → OnOpen old new P → OnOpen old new Q
follows old new P Q so is clean =
    let at = is clean in (
      at.0,
      λ society c has.
          let did = at.1 society c has in
          (so society c did.0, did.1),
    )

module _ {A : Type 0} (Is : List ℕ → Content → A → Type 0) (old new : State) where
  -- what was read, and what follows of it
  pub read_as : (P : List ℕ → Content → Type 0) (a : A)
      → ((society : List ℕ) (c : Content) → IsSound c → Is society c a → P society c)
      → (HasCleanDisk new → Reads Is old (Ok a) new)
      → OnOpen old new (λ society c. P society c × HasArchive society c new)
  read_as P a so reads clean =
      let r = reads clean in (
        r.stays.clean,
        λ society c has. (
          (so society c has.2.sound (r.read society c has), (has.0, r.stays.same refl has.0 has.1, has.2)),
          λ t l. (c, refl, (has.0, r.stays.crash has.0 has.1 t l, has.2)),
        ),
      )

  pub unread_as : (kind told : RefusalKind) → StopsAs kind told → (HasCleanDisk new → Reads Is old (Err kind) new)
      → OnOpen old new (λ _ _. IsFailure told)
  unread_as kind told same reads clean =
      let r = reads clean in (
        r.stays.clean,
        λ society c has. (
          failure_as kind told same (r.refused society c has),
          λ t l. (c, refl, (has.0, r.stays.crash has.0 has.1 t l, has.2)),
        ),
      )
