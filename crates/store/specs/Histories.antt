-- What may be found after a stop: what the answered requests make, and perhaps the one that was in doubt. Rules of our
-- own.
use Rattle.std.specs.Prelude.{◌≡◌, ◌⊎◌, Bool, true, false, List, [], ◌∷◌, cond, Option, Some, None, Result, Ok, Err}
use Rattle.record_text.specs.declared.refusal.Refusal.{Refusal}
use Rattle.record_text.specs.declared.refusal.RefusalKind.{RefusalKind}
use Rattle.record_text.specs.declared.refusal.RefusalKind.TheVariants.{Reopen, Storage}
use Rattle.receipts.specs.declared.answer.Answer.{Answer}
use Rattle.archive_state.specs.Content.{Content}
use Rattle.archive_core.specs.Machine.{Done, Runs, outcome}
use Rattle.archive_core.specs.Steps.{refused_at}
use Rattle.archive_core.specs.declared.request.Request.{Request}

abbrev pub Outcome : Type 0
Outcome = Result Answer Refusal

-- the refusal by which a call says that the database failed
abbrev pub is_storage : RefusalKind → Bool
is_storage Storage = true
is_storage _ = false

-- a call that read was refused because the database failed
abbrev pub has_broken : {A : Type 0} → Result A RefusalKind → Bool
has_broken (Ok a) = false
has_broken (Err kind) = is_storage kind

-- the database failed, so that nobody knows whether the request was done
abbrev pub has_failed : Outcome → Bool
has_failed (Ok answer) = false
has_failed (Err e) = is_storage e.kind

-- the same of any call that refuses with a place
abbrev pub loses : {A : Type 0} → Result A Refusal → Bool
loses (Ok a) = false
loses (Err e) = is_storage e.kind

-- calls in their order: those that were answered, up to the first at which the database failed
abbrev pub answered : List Done → List Done
answered [] = []
answered (call ∷ calls) = cond (has_failed call.1) [] (call ∷ answered calls)

-- the request that is in doubt: that of the first call at which the database failed
abbrev pub in_doubt : List Done → Option Request
in_doubt [] = None
in_doubt (call ∷ calls) = cond (has_failed call.1) (Some call.0) (in_doubt calls)

-- the request is accepted, and leaves this
abbrev pub Accepts : Content → Request → Content → Type 0
Accepts c r after = (answer : Answer) × (outcome c r ≡ Ok (after, answer))

-- what a stop may leave, where these requests were answered and perhaps one more was in doubt: what the run of the
-- first leaves; or that with the one in doubt done, where it is accepted
abbrev pub Allows : Content → List Done → Option Request → Content → Type 0
Allows start dones None found = Runs start dones found
Allows start dones (Some r) found = (before : Content) × Runs start dones before
    × ((found ≡ before) ⊎ Accepts before r found)

-- what a stop may leave after these calls
abbrev pub MayBeFound : Content → List Done → Content → Type 0
MayBeFound start calls = Allows start (answered calls) (in_doubt calls)

-- 81: a call before said that the database failed
abbrev pub must_reopen : Outcome
must_reopen = Err (refused_at None Reopen)

-- outcomes in their order: once the archive is lost each is 81, and it is lost from the first failure on
abbrev pub AreLost : Bool → List Outcome → Bool → Type 0
AreLost before [] after = after ≡ before
AreLost true (o ∷ os) after = (o ≡ must_reopen) × AreLost true os after
AreLost false (o ∷ os) after = AreLost (has_failed o) os after
