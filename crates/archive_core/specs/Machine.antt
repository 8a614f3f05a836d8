-- What a request does: an accepted one acts once, and its answer is kept under its token for good. Rules of our own.
use Rattle.std.specs.Prelude.{
  ℕ,
  false,
  List,
  [],
  ◌∷◌,
  ◌≡◌,
  Option,
  Some,
  None,
  Result,
  Ok,
  Err,
  unwrap_or,
  if◌then◌else◌,
}
use Rattle.std.specs.Str.{bytes_eq}
use Rattle.std.specs.FinMap.{get, insert}
use Rattle.record_text.specs.declared.refusal.Refusal.{Refusal}
use Rattle.record_text.specs.declared.refusal.RefusalKind.TheVariants.{TokenReused}
use Rattle.archive_state.specs.Content.{Content}
use Rattle.receipts.specs.declared.answer.Answer.{Answer}
use Rattle.receipts.specs.declared.answer.Receipt.{Receipt}
use Rattle.commands.specs.Bytes.{digest_of}
use Rattle.commands.specs.Rows.{is_want}
use Rattle.commands.specs.declared.command.Command.TheVariants as command
use Rattle.gedcom_tree.specs.Forest.{Item}
use Rattle.archive_core.specs.Steps.{Step, refused_at, step}
use Rattle.archive_core.specs.declared.request.Request.{Request}

-- an accepted step, with its answer kept
abbrev pub kept_under : List ℕ → List ℕ → Step → Step
kept_under token digest (Ok done) =
    Ok (record done.0 { receipts = insert done.0.receipts token (record { digest = digest; answer = done.1 }) }, done.1)
kept_under token digest (Err e) = Err e

-- the kept answer, where the digest is the same
abbrev pub answered_again : Content → List ℕ → Receipt → Step
answered_again c digest receipt =
    if bytes_eq receipt.digest digest then Ok (c, receipt.answer) else Err (refused_at None TokenReused)

-- the request that imports a forest
abbrev pub import_of : List ℕ → List Item → Request
import_of token forest = record { token = token; command = command.Import forest; digest = None }

-- the digest of a request: its own where it was asked in other words than its command's, else that of its command
abbrev pub request_digest : Request → List ℕ
request_digest r = unwrap_or r.digest (digest_of r.command)

-- what a request leaves and is answered, by what is kept under its token
abbrev pub served : Content → Request → Option Receipt → Step
served c r None = kept_under r.token (request_digest r) (step c r.command)
served c r (Some receipt) = answered_again c (request_digest r) receipt

-- what a request leaves and is answered, or its refusal
abbrev pub outcome : Content → Request → Step
outcome c r = served c r (get c.receipts r.token)

-- a request with this answer or refusal leaves that; a refusal changes nothing, and out of memory may come in place of
-- any
abbrev pub Does : Content → Request → Result Answer Refusal → Content → Type 0
Does c r (Ok answer) after = outcome c r ≡ Ok (after, answer)
Does c r (Err e) after = (after ≡ c) × (is_want e.kind ≡ false → outcome c r ≡ Err e)

-- a request, with its answer or refusal
abbrev pub Done : Type 0
Done = Request × Result Answer Refusal

-- requests one after the other
abbrev pub Runs : Content → List Done → Content → Type 0
Runs c [] after = after ≡ c
Runs c (done ∷ more) after = (between : Content) × Does c done.0 done.1 between × Runs between more after
