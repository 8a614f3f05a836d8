-- How an archive stands between two calls: it takes requests, an import is open on it, or it has to be opened again.
-- Rules of our own.
use Rattle.std.specs.Prelude.{Bool, ◌||◌, false, is_some, List, [], ◌∷◌, cond, Option, None, Some, Result, Ok, Err}
use Rattle.record_text.specs.declared.refusal.Refusal.{Refusal}
use Rattle.record_text.specs.declared.refusal.RefusalKind.{RefusalKind}
use Rattle.record_text.specs.declared.refusal.RefusalKind.TheVariants.{ImportOpen}
use Rattle.receipts.specs.declared.answer.Answer.{Answer}
use Rattle.archive_core.specs.Machine.{Done}
use Rattle.archive_core.specs.Steps.{refused_at}
use Rattle.archive_core.specs.declared.request.Request.{Request}
use Rattle.staging.specs.Opened.{Import}
use Rattle.store.specs.Histories.{Outcome, is_storage}

-- whether it is lost, and the import that is open, with the request that asked for it
pub record Standing : Type 0 where
  pub is_lost : Bool
  pub import : Option (Request × Import)

-- it takes requests
abbrev pub ready : Standing
ready = record { is_lost = false; import = None }

abbrev pub asked_by : Request → Option Import → Option (Request × Import)
asked_by r None = None
asked_by r (Some i) = Some (r, i)

-- how an archive stands whose import, where one is open, was asked for by this request
abbrev pub standing : Request → Bool → Option Import → Standing
standing r lost import = record { is_lost = lost; import = asked_by r import }

-- an archive takes no request while an import is open on it, and none after the database has failed
abbrev pub shuts : Bool → Option Import → Bool
shuts lost import = is_some import || lost

-- requests on an archive that takes none are not heard
abbrev pub heard : Bool → List Done → List Done
heard shut calls = cond shut [] calls

-- 84: an import is open
abbrev pub must_wait : Outcome
must_wait = Err (refused_at None ImportOpen)

-- what the beginning of an import tells, by what it was answered or is to be answered, and the import that is open then
abbrev pub begun_told : Result (Answer × Option Import) Refusal → Result (Option Answer) Refusal × Option Import
begun_told (Ok (answer, None)) = (Ok (Some answer), None)
begun_told (Ok (answer, Some i)) = (Ok None, Some i)
begun_told (Err e) = (Err e, None)

-- a request to import, by what its beginning answered: an import that is open is no request that was done yet
abbrev pub begun_as : Request → Result (Option Answer) Refusal → List Done
begun_as r (Ok None) = []
begun_as r (Ok (Some answer)) = (r, Ok answer) ∷ []
begun_as r (Err e) = (r, Err e) ∷ []

-- the same, by what its publishing answered
abbrev pub published_as : Request → Result Answer RefusalKind → Outcome
published_as r (Ok answer) = Ok answer
published_as r (Err kind) = Err (refused_at None kind)

-- an import whose publishing was refused for how the archive stands was not tried
abbrev pub published_by : Request → Result Answer RefusalKind → List Done
published_by r (Ok answer) = (r, Ok answer) ∷ []
published_by r (Err kind) = cond (is_storage kind) ((r, Err (refused_at None kind)) ∷ []) []
