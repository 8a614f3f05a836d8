-- A new archive, made in a store where nothing was made, in one transaction that is committed.
use Rattle.std.proofs.Common.{◌≡◌, ◌⊎◌, inl, inr, false, true, List, ℕ, IsTrue, refl, sym, ap, subst, ◌∙◌}
use Rattle.sqlite.specs.Effect.{Database}
use Rattle.sqlite.specs.State.{Shows, State}
use Rattle.sqlite.specs.Tree.{Trees}
use Rattle.sqlite_catalog.specs.Listing.{IsSound}
use Rattle.store_tables.specs.Calls.{Built, Good, Inside, IsBlank, Settled, SettledBlank}
use Rattle.store_tables.specs.Rows.{nothing_yet}
use Rattle.store_tables.specs.Schema.{no_schema}
use Rattle.store_tables.proofs.Calls.{committed}

-- what the calls make that build the archive in a transaction that has begun
module _ (old mid : State) (society : List ℕ)
    (builds : Built (record old { in_transaction = true }) no_schema → Inside mid (nothing_yet society)
    × (mid.committed ≡ old.committed)) (was : SettledBlank old) where
  built : Inside mid (nothing_yet society)
  built = (builds (record {
    is_open = was.is_open;
    inside = refl;
    schema = was.schema;
    sound = was.blank.sound;
    empty = tt;
  })).0

  pub settles : (new : State) → Shows mid new mid.now mid.now false → Settled new (nothing_yet society)
  settles new shows = committed mid new (nothing_yet society) built shows

  pub leaves : (t : Trees) → (IsTrue old.is_open → old.may_leave t → t ≡ old.committed.trees)
      → (old.may_leave t) ⊎ (t ≡ mid.now.trees) → IsBlank t ⊎ Good (nothing_yet society) t
  leaves t only (inl before) = inl (record {
    sound = subst (IsSound no_schema) (sym (only was.is_open before ∙ ap (λ (d : Database). d.trees) was.settled))
        was.blank.sound;
  })
  leaves t only (inr is) = inr (subst (Good (nothing_yet society)) (sym is) built.good)
