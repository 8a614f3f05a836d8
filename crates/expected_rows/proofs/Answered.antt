-- What becomes of a row that asks for something, by what becomes of that.
use Rattle.std.proofs.Common.{ℕ, List, Option, Ok, Err, inl, inr, refl, subst}
use Rattle.sqlite_trees.specs.declared.store.Store.{Ghosts}
use Rattle.archive_core.specs.declared.request.Request.{Request}
use Rattle.commands.specs.Rows.{is_want}
use Rattle.record_text.specs.declared.refusal.RefusalKind.{RefusalKind}
use Rattle.request_csv.specs.Input.{Row}
use Rattle.store.specs.declared.archive.Archive.{Archive}
use Rattle.archive_input.specs.Answers.{answer_text}
use Rattle.archive_input.specs.Applying.{WritesPart, failing}
use Rattle.archive_input.specs.RowByRow.{IsTold, Moment}
use Rattle.archive_input.specs.declared.bad_request.BadRequest.{BadRequest}
use Rattle.expected_rows.specs.Expecting.{Left, OnlyLooked}
use Rattle.expected_rows.specs.Meeting.{
  AnswersExpected,
  AsksOf,
  EndsAsking,
  EndsExpected,
  EndsForeseeing,
  EndsPerforming,
  Meets,
  PerformsExpected,
  RefusesExpected,
}
use Rattle.expected_rows.specs.declared.meeting.Met.{Met}
use Rattle.expected_rows.specs.declared.meeting.Met.TheVariants as met
use Rattle.expected_rows.proofs.Asking.{not_want}
use Rattle.expected_rows.proofs.Looked.{does_after, looked_on, steps_after, within_looked, within_steps, would_after}

module _ {S : Type 0} (g : Ghosts S) where
  -- a request
  module _ (row : Row) (r : Request) (old mid new : Archive S g) (left rest : Left) (before after : Option (List ℕ))
      (asks : AsksOf g row (Ok r) old mid) (looked : OnlyLooked g old mid) where
    pub performed : (what : Met) → PerformsExpected g r left rest mid new before after what
        → AnswersExpected g row left rest old new before after what
    performed (met.Served refused) h = (
      (
        Ok (r, h.0),
        asks.is h.0,
        within_steps g old mid new looked row (Ok (r, h.0)) (r, h.0) h.1 (asks.within h.0),
        steps_after g old mid new looked (r, h.0) h.1,
        h.2,
        h.3,
        h.4,
      ),
      h.5,
      h.6,
    )
    performed met.Unexpected h = (
      record {
        served = Ok (r, h.0);
        asked = asks.is h.0;
        asked_in = within_looked g old mid new looked row (Ok (r, h.0)) h.1.looked (asks.within h.0);
        would_be = would_after g old mid new looked (Ok (r, h.0)) h.1.looked h.1.would_be;
        otherwise = h.2;
        known = h.1.known;
        looked = looked_on g old mid new looked h.1.looked;
      },
      h.3,
    )

    pub performing_ended : (kind : RefusalKind) → EndsPerforming g r left mid new before after kind
        → EndsExpected g row left old new before after kind
    performing_ended kind (inl h) = inl (h.0, looked_on g old mid new looked h.1, h.2)
    performing_ended kind (inr h) = inr (
      (
        Ok (r, h.0),
        asks.is h.0,
        within_steps g old mid new looked row (Ok (r, h.0)) (r, h.0) h.1 (asks.within h.0),
        steps_after g old mid new looked (r, h.0) h.1,
        h.2,
      ),
      does_after g old mid new looked left (Ok (r, h.0)) (r, h.0) h.1 h.3,
    )

  -- none
  module _ (row : Row) (bad : BadRequest) (old new : Archive S g) (left rest : Left) (before after : Option (List ℕ))
      (asks : AsksOf g row (Err bad) old new) (looked : OnlyLooked g old new) where
    pub refused_so : (what : Met) → RefusesExpected bad left rest before after what
        → AnswersExpected g row left rest old new before after what
    refused_so (met.Served refused) h =
        ((Err bad, asks.is failing, asks.within failing, asks.looked, refl, h.0, h.1), h.2, h.3)
    refused_so met.Unexpected h = (
      record {
        served = Err bad;
        asked = asks.is failing;
        asked_in = asks.within failing;
        would_be = λ clean was society c rows settled keeps. tt;
        otherwise = h.0;
        known = not_want (is_want bad.kind) asks.known;
        looked = looked;
      },
      h.1,
    )

    pub refusing_ended : (kind : RefusalKind) → WritesPart kind before after (answer_text (Err bad))
        → EndsExpected g row left old new before after kind
    refusing_ended kind h = inr (
      (Err bad, asks.is failing, asks.within failing, asks.looked, h),
      λ clean was society c rows settled keeps. tt,
    )

  -- the call ended before it was known
  pub asking_ended : (row : Row) (old new : Archive S g) (left : Left) (written : Option (List ℕ)) (kind : RefusalKind)
      → EndsAsking g row old new kind → EndsExpected g row left old new written written kind
  asking_ended row old new left written kind (inl h) = inl (h.0, h.1, refl)
  asking_ended row old new left written kind (inr h) = inr (
    (Ok (h.1, failing), h.2, h.3, h.4, (h.0, refl)),
    λ clean was society c rows settled keeps. tt,
  )

  pub foreseeing_ended : (r : Request) (old new : Archive S g) (left : Left) (written : Option (List ℕ))
      (kind : RefusalKind) → EndsForeseeing g r old new kind → EndsPerforming g r left old new written written kind
  foreseeing_ended r old new left written kind (inl h) =
      inr (failing, h.1, (h.0, refl), λ clean was society c rows settled keeps. tt)
  foreseeing_ended r old new left written kind (inr h) = inl (h.0, h.1, refl)

-- what is said of it
module _ {S W F : Type 0} (g : Ghosts S) (written : W → Option (List ℕ)) (told : F → Option (List ℕ)) (number : ℕ)
    (row : Row) (left rest : Left) (a b : Moment g W F) where
  pub served_met : (refused : Option RefusalKind) → AnswersExpected g row left rest a.archive b.archive
      (written a.output) (written b.output) (met.Served refused) → IsTold number refused (told a.faults) (told b.faults)
      → Meets g written told number row left rest (met.Served refused) a b
  served_met refused h told_so = (
    h.0.0,
    h.0.1,
    record {
      asked = h.0.2;
      performed = h.0.3;
      certain = h.0.4;
      answered = h.0.5;
      faulted = subst (λ (o : Option RefusalKind). IsTold number o (told a.faults) (told b.faults)) h.0.6 told_so;
    },
    h.0.6,
    h.1,
    h.2,
  )
