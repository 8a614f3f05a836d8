-- What counts of one request.
use Rattle.std.proofs.Common.{
  ◌≡◌,
  ◌⊎◌,
  ◌∙◌,
  ◌++◌,
  ◌∷◌,
  [],
  ap,
  inl,
  inr,
  refl,
  subst,
  Bool,
  List,
  true,
  false,
  Some,
  None,
  Ok,
  Err,
}
use Rattle.std.specs.Prelude.{cond}
use Rattle.archive_core.specs.Machine.{Done, Runs}
use Rattle.archive_core.specs.declared.request.Request.{Request}
use Rattle.archive_state.specs.Content.{Content}
use Rattle.receipts.specs.declared.answer.Answer.{Answer}
use Rattle.record_text.specs.declared.refusal.Refusal.{Refusal}
use Rattle.store.specs.Histories.{is_storage}
use Rattle.store.specs.Lives.{Counts}

none_is_not : (r : Request) → None ≡ Some r → ⊥
none_is_not r same = cc

the_same : (r s : Request) → Some r ≡ Some s → s ≡ r
the_same r s same = cc

-- the request is kept, with an answer
abbrev pub IsKept : Request → List Done → Type 0
IsKept r kept = (answer : Answer) × (kept ≡ (r, Ok answer) ∷ [])

pub accepted : (r : Request) (answer : Answer) (kept : List Done) → Counts ((r, Ok answer) ∷ []) kept
    → kept ≡ (r, Ok answer) ∷ []
accepted r answer kept (inl same) = same
accepted r answer kept (inr doubt) = absurd (none_is_not doubt.0 doubt.2)

-- of a request that was refused or is in doubt
counted_by : (doubted : Bool) (r : Request) (e : Refusal) (kept : List Done)
    → (kept ≡ cond doubted [] ((r, Err e) ∷ []))
    ⊎ ((s : Request) × (answer : Answer) × (cond doubted (Some r) None ≡ Some s)
    × (kept ≡ cond doubted [] ((r, Err e) ∷ []) ++ (s, Ok answer) ∷ []))
    → (kept ≡ []) ⊎ ((kept ≡ (r, Err e) ∷ []) ⊎ IsKept r kept)
counted_by true r e kept (inl none) = inl none
counted_by true r e kept (inr did) =
    inr (inr (did.1, did.3 ∙ ap (λ (s : Request). (s, Ok did.1) ∷ []) (the_same r did.0 did.2)))
counted_by false r e kept (inl one) = inr (inl one)
counted_by false r e kept (inr did) = absurd (none_is_not did.0 did.2)

-- what was found after what counts
abbrev pub Ran : Request → Content → Content → Type 0
Ran r c found = (kept : List Done) × ((kept ≡ []) ⊎ IsKept r kept) × Runs c kept found

ran_by : (r : Request) (e : Refusal) (c found : Content) (kept : List Done)
    → (kept ≡ []) ⊎ ((kept ≡ (r, Err e) ∷ []) ⊎ IsKept r kept) → Runs c kept found → Ran r c found
ran_by r e c found kept (inl none) runs = (kept, inl none, runs)
ran_by r e c found kept (inr (inl one)) runs =
    let ran : Runs c ((r, Err e) ∷ []) found = subst (λ (all : List Done). Runs c all found) one runs in
    ([], inl refl, ran.2 ∙ ran.1.0)
ran_by r e c found kept (inr (inr did)) runs = (kept, inr did, runs)

-- it is kept, or nothing is kept
pub refused : (r : Request) (e : Refusal) (c found : Content) (kept : List Done) → Counts ((r, Err e) ∷ []) kept
    → Runs c kept found → Ran r c found
refused r e c found kept counts runs =
    ran_by r e c found kept (counted_by (is_storage e.kind) r e kept counts) runs
