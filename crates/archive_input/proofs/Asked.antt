-- What rows ask for whose references have numbers.
use Rattle.std.proofs.Common.{◌≡◌, ◌∙◌, ◌⊎◌, ℕ, Bool, true, false, List, Ok, Err, ap, inl, inr, refl, subst, sym}
use Rattle.std.specs.Prelude.{Option, None, Some, unwrap_or}
use Rattle.std.proofs.lemmas.Bool.{false≢true}
use Rattle.archive_core.specs.Machine.{Done}
use Rattle.archive_core.specs.declared.request.Request.{Request}
use Rattle.record_text.specs.declared.refusal.RefusalKind.{RefusalKind}
use Rattle.record_text.specs.declared.refusal.RefusalKind.TheVariants.{BadStored, NoSuch, OutOfMemory}
use Rattle.commands.specs.Rows.{is_want}
use Rattle.request_csv.specs.Input.{Row}
use Rattle.row_references.specs.References.{any_number, has_references, numbered}
use Rattle.row_references.proofs.InPlace.{all_stays, any_numbered, is_numbered, only_itself}
use Rattle.archive_input.specs.Answers.{Served}
use Rattle.archive_input.specs.Applying.{IsServed, IsServedAsItIs, IsServedBy, IsServedWith}
use Rattle.archive_input.specs.Referring.{IsAskedOr}
use Rattle.archive_input.specs.Requests.{
  Asked,
  Asks,
  AsksAfter,
  AsksNumbered,
  AsksWith,
  OrWants,
  in_form,
  refused_under,
}
use Rattle.archive_input.specs.declared.bad_request.BadRequest.{BadRequest}

-- ---- rows without references
form_is : (row : Row) → has_references row ≡ false → in_form row ≡ row
form_is row none = ap (λ (o : Option Row). unwrap_or o row) (all_stays any_number row none)

asks_plain : (known : List ℕ → Option ℕ) (row : Row) (asked : Asked) → has_references row ≡ false → Asks row asked
    → AsksWith (numbered known row) row asked
asks_plain known row (Ok r) none asks = (
  Ok r,
  subst (λ (form : Row). Asks form (Ok r)) (sym (form_is row none)) asks,
  subst (λ (o : Option Row). AsksNumbered r.token o (Ok r)) (sym (all_stays known row none)) asks,
)
asks_plain known row (Err bad) none asks =
    (Err bad, subst (λ (form : Row). Asks form (Err bad)) (sym (form_is row none)) asks, refl)

-- and back
plain_after : (row : Row) (form asked : Asked) → Asks row form → AsksAfter (Some row) form asked → Asks row asked
plain_after row (Ok r) asked asks after = after
plain_after row (Err bad) asked asks after = subst (λ (a : Asked). Asks row a) (sym after) asks

plain_asked : (own : Option Row) (row : Row) (asked : Asked) → has_references row ≡ false → own ≡ Some row
    → AsksWith own row asked → Asks row asked
plain_asked own row asked none is h = plain_after row h.0 asked
    (subst (λ (form : Row). Asks form h.0) (form_is row none) h.1)
    (subst (λ (o : Option Row). AsksAfter o h.0 asked) is h.2)

plain_served : (own : Option Row) (row : Row) (s : Served) → has_references row ≡ false → own ≡ Some row
    → IsServedWith own row s → IsServedAsItIs row s
plain_served own row (Ok done) none is h = plain_asked own row (Ok done.0) none is h
plain_served own row (Err bad) none is (inl h) = plain_asked own row (Err bad) none is h
plain_served own row (Err bad) none is (inr unread) = absurd (false≢true (sym none ∙ unread.0))

pub as_it_is : (row : Row) (s : Served) → has_references row ≡ false → IsServed row s → IsServedAsItIs row s
as_it_is row s none h = plain_served h.0 row s none (only_itself row h.0 none h.1) h.2

pub plain_ok : (known : List ℕ → Option ℕ) (row : Row) (done : Done) → has_references row ≡ false
    → Asks row (Ok done.0) → IsServedBy (numbered known row) row (Ok done)
plain_ok known row done none asks = asks_plain known row (Ok done.0) none asks

pub plain_err : (known : List ℕ → Option ℕ) (row : Row) (bad : BadRequest) → has_references row ≡ false
    → Asks row (Err bad) → IsServedBy (numbered known row) row (Err bad)
plain_err known row bad none asks = inl (asks_plain known row (Err bad) none asks)

only_want : (kind : RefusalKind) → is_want kind ≡ true → kind ≡ OutOfMemory
only_want OutOfMemory e = refl
only_want kind e = let wrong : ⊥ = cc in absurd wrong

-- what is refused where memory may be: its refusal is that of the row, or out of memory
pub asked_or : (row : Row) (bad : BadRequest) → (is_want bad.kind ≡ false → Asks row (Err bad))
    → IsAskedOr row (Err bad)
asked_or row bad asks =
    elim (is_want bad.kind) as (λ (b : Bool). is_want bad.kind ≡ b → IsAskedOr row (Err bad)) [
      | true ↦ λ yes. inr (only_want bad.kind yes)
      | false ↦ λ no. inl (asks no)
    ] refl

-- ---- by what is said with the numbers of an archive, with some
pub served_with : (own : Option Row) (row : Row) (s : Served) → IsServedBy own row s → IsServedWith own row s
served_with own row (Ok done) is = is
served_with own row (Err bad) (inl asks) = inl asks
served_with own row (Err bad) (inr unread) = inr unread.0

pub unread_any : (row : Row) (s : Served) → IsServedWith (numbered any_number row) row s → IsServed row s
unread_any row s is = (numbered any_number row, is_numbered any_number row, is)

pub with_any : (row : Row) (s : Served) → IsServedBy (numbered any_number row) row s → IsServed row s
with_any row s is = unread_any row s (served_with (numbered any_number row) row s is)

-- ---- a row whose form is wrong
pub form_err : (own : Option Row) (row : Row) (bad : BadRequest) → Asks (in_form row) (Err bad)
    → IsServedBy own row (Err bad)
form_err own row bad asks = inl (Err bad, asks, refl)

-- ---- a row whose form is right
module _ (row : Row) (r : Request) (asks : Asks (in_form row) (Ok r)) where
  -- with any numbers
  pub form_ok : (done : Done) → done.0 ≡ r → IsServedBy (numbered any_number row) row (Ok done)
  form_ok done same =
      let own = any_numbered row in
      let is : in_form row ≡ own.0 = ap (λ (o : Option Row). unwrap_or o row) own.1 in
      subst (λ (q : Request). AsksWith (numbered any_number row) row (Ok q)) (sym same) (
        Ok r,
        asks,
        subst (λ (o : Option Row). AsksNumbered r.token o (Ok r)) (sym own.1)
            (subst (λ (form : Row). Asks form (Ok r)) is asks),
      )

  -- with these
  pub served_own : (own : Row) (s : Served) → has_references row ≡ true → IsAskedOr own s
      → IsServedBy (Some own) row s
  served_own own (Ok done) refers is = (Ok r, asks, is)
  served_own own (Err bad) refers (inl is) = inl (Ok r, asks, is)
  served_own own (Err bad) refers (inr want) = inr ((refers, inl want, r, asks), want)

  -- one of them is missing
  pub served_missing : IsServedBy None row (Err (refused_under r.token NoSuch))
  served_missing = inl (Ok r, asks, refl)

  -- they were not found out
  pub served_unread : (own : Option Row) (kind : RefusalKind) → has_references row ≡ true
      → (kind ≡ OutOfMemory) ⊎ (kind ≡ BadStored) → IsServedWith own row (Err (refused_under r.token kind))
  served_unread own kind refers why = inr (refers, why, r, asks)

  -- memory was refused to find them out
  pub served_wanting : (own : Option Row) (kind : RefusalKind) → has_references row ≡ true → kind ≡ OutOfMemory
      → IsServedBy own row (Err (refused_under r.token kind))
  served_wanting own kind refers want = inr ((refers, inl want, r, asks), want)

-- the row that was found to have any numbers
pub form_read : (row own : Row) (r : Asked) → numbered any_number row ≡ Some own → OrWants r (Asks own)
    → OrWants r (Asks (in_form row))
form_read row own r is asks =
    subst (λ (form : Row). OrWants r (Asks form)) (sym (ap (λ (o : Option Row). unwrap_or o row) is)) asks
