-- What runs keep, one after the other.
use Rattle.std.proofs.Common.{inl, inr, List, [], ◌∷◌, ◌++◌, ℕ, refl, sym, subst}
use Rattle.std.proofs.Math.Logic.{∥∥₁_elim, ∥∥₁_map}
use Rattle.sqlite.specs.Tree.{Trees}
use Rattle.sqlite_wal.specs.Recovery.{Image}
use Rattle.archive_core.specs.Machine.{Done, Runs}
use Rattle.archive_core.proofs.Serving.{joined}
use Rattle.archive_state.specs.Content.{Content}
use Rattle.archive_state.specs.Sound.{IsSound}
use Rattle.older_archives.specs.Anew.{IsAnew, IsSoundOld, OldContent}
use Rattle.store.specs.Earlier.{HoldsArchive}
use Rattle.archive_runs.specs.Runs.{Follow, KeepAll, Run, Stands}

-- what is found after runs
abbrev pub Found : List ℕ → Content → List Run → Image → Type 0
Found society c runs last = (kept : List Done) × (found : Content) × KeepAll c runs kept found
    × Runs c kept found × ∥ Stands society found last ∥₁

pub followed : (runs : List Run) (first last : Image) (society : List ℕ) (c : Content) → Follow first runs last
    → Stands society c first → ∥ Found society c runs last ∥₁
followed [] first last society c same stands =
    ∣ ([], c, (refl, refl), refl, ∣ subst (Stands society c) (sym same) stands ∣₁) ∣₁
followed (run ∷ more) first last society c s stands = ∥∥₁_elim (s.1 society c stands) squash₁ (λ one.
    ∥∥₁_elim one.2.2 squash₁ (λ between.
    ∥∥₁_map (followed more s.0 last society one.1 s.2 between) (λ rest. let r : Found society c (run ∷ more) last = (
      one.0 ++ rest.0,
      rest.1,
      (one.0, rest.0, one.1, one.2.0, one.2.1, rest.2, refl),
      joined one.0 rest.0 c one.1 rest.1 one.2.1 rest.3,
      rest.4,
    ) in r)))

-- an archive that a file holds is sound, of either version
pub sound_of : ((before : OldContent) (c : Content) → IsSoundOld before → IsAnew before c → IsSound c)
    → (society : List ℕ) (c : Content) (t : Trees) → HoldsArchive society c t → IsSound c
sound_of anew society c t (inl is) = is.2.sound
sound_of anew society c t (inr was) = anew was.0 c was.2.2.sound was.1
