-- What a row asks for that is read before anything is looked for.
use Rattle.std.proofs.Common.{◌≡◌, ◌∙◌, ◌⊎◌, Bool, true, false, Ok, Err, ap, inl, inr, refl, subst, sym, true≢false}
use Rattle.std.specs.Prelude.{OnErr, not}
use Rattle.std.proofs.lemmas.Bool.{false≢true}
use Rattle.sqlite.specs.Held.{state}
use Rattle.sqlite.specs.State.{HasCleanDisk}
use Rattle.sqlite_trees.specs.declared.store.Store.{Ghosts}
use Rattle.archive_core.specs.declared.request.Request.{Request}
use Rattle.commands.specs.Rows.{is_want}
use Rattle.record_text.specs.declared.refusal.RefusalKind.{RefusalKind}
use Rattle.record_text.specs.declared.refusal.RefusalKind.TheVariants.{OutOfMemory, Storage}
use Rattle.request_csv.specs.Input.{Row}
use Rattle.row_references.specs.References.{any_number, has_references, kept_number, numbered}
use Rattle.store.specs.Histories.{Outcome, is_storage}
use Rattle.store.specs.Looking.{StaysReadable}
use Rattle.store.specs.Shut.{is_shut}
use Rattle.store.specs.declared.archive.Archive.{Archive}
use Rattle.archive_input.specs.Applying.{failing}
use Rattle.archive_input.specs.Referring.{IsAskedOr}
use Rattle.archive_input.specs.Requests.{Asked, Asks, OrWants, in_form}
use Rattle.archive_input.specs.declared.bad_request.BadRequest.{BadRequest}
use Rattle.archive_input.proofs.Asked.{asked_or, form_err, form_ok, plain_err, plain_ok, with_any}
use Rattle.archive_input.proofs.Stepped.{free_of, not_asked, shut_lost, steps_failing}
use Rattle.expected_rows.specs.Meeting.{AsksOf, EndsAsking, as_served, is_read}
use Rattle.expected_rows.proofs.Looked.{looks_only}

pub not_want : (b : Bool) → not b ≡ true → b ≡ false
not_want true e = absurd (false≢true e)
not_want false e = refl

module _ {S : Type 0} (g : Ghosts S) (row : Row) (archive : Archive S g) where
  -- a row without references
  of_plain : (asked : Asked) → has_references row ≡ false → OnErr asked (is_read asked ≡ true)
      → OrWants asked (Asks row) → AsksOf g row asked archive archive
  of_plain (Ok r) none read asks = record {
    is = λ o. with_any row (Ok (r, o)) (plain_ok any_number row (r, o) none asks);
    within = λ o clean was society c rows settled keeps sure. plain_ok (kept_number c) row (r, o) none asks;
    known = refl;
    looked = inl refl;
  }
  of_plain (Err bad) none read asks =
      let so = asks (not_want (is_want bad.kind) read) in
      record {
        is = λ o. with_any row (Err bad) (plain_err any_number row bad none so);
        within = λ o clean was society c rows settled keeps sure. plain_err (kept_number c) row bad none so;
        known = read;
        looked = inl refl;
      }

  pub asks_plain : (asked read : Asked) → has_references row ≡ false → OrWants read (Asks row)
      → (asked ≡ read) × OnErr asked (is_read read ≡ true) → AsksOf g row asked archive archive
  asks_plain asked read none asks kept =
      of_plain asked none (subst (λ (a : Asked). OnErr asked (is_read a ≡ true)) (sym kept.0) kept.1)
      (subst (λ (a : Asked). OrWants a (Asks row)) (sym kept.0) asks)

  -- a row whose form is wrong
  pub asks_form : (asked : Asked) (bad : BadRequest) → OrWants (Err bad) (Asks (in_form row))
      → (asked ≡ Err bad) × OnErr asked (is_read (Err bad) ≡ true) → AsksOf g row asked archive archive
  asks_form asked bad asks kept =
      let read = subst (λ (a : Asked). OnErr a (is_read (Err bad) ≡ true)) kept.0 kept.1 in
      let so = asks (not_want (is_want bad.kind) read) in
      subst (λ (a : Asked). AsksOf g row a archive archive) (sym kept.0) (record {
        is = λ o. with_any row (Err bad) (form_err (numbered any_number row) row bad so);
        within = λ o clean was society c rows settled keeps sure. form_err (numbered (kept_number c) row) row bad so;
        known = read;
        looked = inl refl;
      })

  -- one whose form is right, on an archive that takes no requests
  pub asks_shut : (r : Request) → Asks (in_form row) (Ok r) → is_shut archive ≡ true
      → AsksOf g row (Ok r) archive archive
  asks_shut r asks shut = record {
    is = λ o. with_any row (Ok (r, o)) (form_ok row r asks (r, o) refl);
    within = λ o. not_asked g row (Ok (r, o)) archive archive shut;
    known = refl;
    looked = inl refl;
  }

-- memory was found to read what was read
pub read_known : (asked read : Asked) → asked ≡ read → OnErr asked (is_read read ≡ true) → is_read asked ≡ true
read_known (Ok r) read same known = refl
read_known (Err bad) read same known = ap is_read same ∙ known

-- what is read of the row with its numbers
pub read_own : (own : Row) (asked : Asked) → OrWants asked (Asks own) → (o : Outcome)
    → IsAskedOr own (as_served asked o)
read_own own (Ok r) asks o = asks
read_own own (Err bad) asks o = asked_or own bad asks

-- its references were not found out
module _ {S : Type 0} (g : Ghosts S) (row : Row) (old mid : Archive S g) (r : Request)
    (refers : has_references row ≡ true) (asks : Asks (in_form row) (Ok r)) (was : is_shut old ≡ false)
    (looks : HasCleanDisk (state g mid.conn) → StaysReadable (state g old.conn) mid.is_lost (state g mid.conn)) where
  pub unread_ends : (kind : RefusalKind) → is_storage kind ≡ mid.is_lost → mid.import ≡ old.import
      → (kind ≡ Storage) ⊎ (kind ≡ OutOfMemory) → EndsAsking g row old mid kind
  unread_ends kind lost aside (inl storage) = inr (
    storage,
    r,
    with_any row (Ok (r, failing)) (form_ok row r asks (r, failing) refl),
    λ clean _ society k rows settled keeps sure. absurd (true≢false sure),
    steps_failing g row old mid refers was looks r (shut_lost g mid (sym lost ∙ ap is_storage storage)),
  )
  unread_ends kind lost aside (inr want) =
      let sure = sym lost ∙ ap is_storage want in
      inl (want, looks_only g old mid was (free_of g old mid was sure aside) sure looks)
