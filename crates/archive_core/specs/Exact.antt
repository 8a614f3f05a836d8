-- How little a request changes: nothing where an answer is kept. Rules of our own.
use Rattle.std.specs.Prelude.{◌≡◌, Some, MatchOption}
use Rattle.std.specs.FinMap.{get}
use Rattle.archive_state.specs.Changes.{Changes}
use Rattle.archive_state.specs.Content.{Content}
use Rattle.command_checks.specs.Exact.{IsExact, ChangesNothing}
use Rattle.archive_core.specs.Machine.{request_digest}
use Rattle.archive_core.specs.declared.request.Request.{Request}

-- where an answer is kept under the token nothing changes; else the answer is kept under it, with the digest of the
-- request
abbrev pub KeepsOnce : Content → Request → Changes → Type 0
KeepsOnce c r changes = MatchOption (get c.receipts r.token)
    (changes.kept ≡ Some (record {
      token = r.token;
      receipt = record { digest = request_digest r; answer = changes.answer };
    }))
    (λ receipt. ChangesNothing c changes)

-- what a request changes is no more than it has to be
abbrev pub IsExactFor : Content → Request → Changes → Type 0
IsExactFor c r changes = KeepsOnce c r changes × IsExact c changes
