-- What was in a file that was just opened.
use Rattle.std.proofs.Common.{◌≡◌, ap, ◌∙◌, subst, refl, inl, inr, ℕ, List, Ok}
use Rattle.sqlite.specs.Effect.{Database}
use Rattle.sqlite.specs.State.{IsLive, Opens, State}
use Rattle.sqlite.specs.Tree.{Trees}
use Rattle.store_tables.specs.Calls.{IsBlank}
use Rattle.store_tables.specs.Schema.{no_schema}
use Rattle.archive_state.specs.Content.{Content}
use Rattle.store.specs.Adopting.{HasNoImport, TakesUp}
use Rattle.store.specs.Archives.{HasArchive, LeavesArchive}
use Rattle.store.specs.Earlier.{HoldsArchive}
use Rattle.store.proofs.Opened.{opened_blank, opened_over, opened_over_old}

-- nothing was made in it, and so nothing in what it found
pub was_blank : (s : State) (t : Trees) → Opens s → IsLive s → s.now.schema ≡ no_schema → s.committed.trees ≡ t
    → IsBlank t
was_blank s t opens live schema found =
    subst IsBlank (ap (λ (d : Database). d.trees) opens.clean ∙ found) (opened_blank s opens live schema).blank

-- an archive of either version that was taken up over these tables
pub has_of : (opened made : State) → TakesUp opened (Ok tt) made → (t : Trees) (society : List ℕ) (c : Content)
    → Opens opened → IsLive opened → opened.committed.trees ≡ t → HoldsArchive society c t
    → HasArchive society c made × HasNoImport made × LeavesArchive made society (λ found. found ≡ c)
has_of opened made takes t society c opens live held (inl is) =
    let has = opened_over opened t society c opens live held is in
    (takes.keeps.same refl society c has, takes.finished society c has, takes.keeps.crash society c has)
has_of opened made takes t society c opens live held (inr was) =
    takes.anew.finished society c (opened_over_old opened t society c opens live held was)
