-- What a row does to an archive that is looked at before it.
use Rattle.std.proofs.Common.{
  ◌≡◌,
  ◌∙◌,
  ◌||◌,
  Bool,
  true,
  false,
  ℕ,
  [],
  ◌∷◌,
  Ok,
  Err,
  ap,
  arith,
  inl,
  inr,
  refl,
  subst,
  sym,
}
use Rattle.std.specs.Prelude.{IfErr, IfOk, Option, None, Result, Some, is_some}
use Rattle.std.proofs.lemmas.Bool.{false≢true}
use Rattle.sqlite.specs.Held.{state}
use Rattle.sqlite.specs.State.{HasCleanDisk, State}
use Rattle.sqlite_trees.specs.declared.store.Store.{Ghosts}
use Rattle.archive_core.specs.Machine.{Done}
use Rattle.archive_core.specs.declared.request.Request.{Request}
use Rattle.archive_state.specs.Content.{Content}
use Rattle.archive_state.specs.Looks.{CountsFailures, Looked, is_failure, is_stop}
use Rattle.csv.specs.Records.{Row as Record}
use Rattle.devices.specs.Devices.{Rose}
use Rattle.record_text.specs.declared.refusal.RefusalKind.{RefusalKind}
use Rattle.record_text.specs.declared.refusal.RefusalKind.TheVariants.{BadStored, OutOfMemory, Storage}
use Rattle.request_csv.specs.Input.{Row}
use Rattle.row_references.specs.References.{has_references}
use Rattle.staging.specs.Opened.{Import}
use Rattle.store.specs.Calls.{Performs}
use Rattle.store.specs.Histories.{has_broken, is_storage}
use Rattle.store.specs.Looking.{StaysReadable}
use Rattle.store.specs.Shut.{is_shut}
use Rattle.store.specs.Standing.{shuts}
use Rattle.store.specs.Viewing.{Kept, OnReadable, Shows}
use Rattle.store.specs.declared.archive.Archive.{Archive}
use Rattle.store.proofs.Histories.{performs_then}
use Rattle.store.proofs.Viewed.{kept_of, seen_of}
use Rattle.store_tables.specs.Calls.{LeavesOnly, Settled}
use Rattle.store_tables.specs.Rows.{Rows}
use Rattle.archive_input.specs.Answers.{Served}
use Rattle.archive_input.specs.Applying.{IsServedIn, OnlyLooks, Steps, StepsRow, failing}
use Rattle.archive_input.specs.declared.bad_request.BadRequest.{BadRequest}

-- ---- looks, by the tables
module _ (old new : State) (lost : Bool) (stays : StaysReadable old lost new) where
  pub performs_looked : lost ≡ false → Performs old [] new
  performs_looked sure = record {
    done = λ none society c has.
        (c, refl, (has.0, stays.same sure has.0 c has.1 (seen_of has.2), has.2));
    rows = λ none society c rows was keeps. (
      c,
      rows,
      (refl, refl),
      stays.same sure rows c was (seen_of keeps),
      keeps,
      λ closed. closed,
    );
    crash = λ society c has t l. (c, refl, (has.0, stays.crash has.0 c has.1 (seen_of has.2) t l, has.2));
    clean = stays.clean;
  }

  pub performs_failing : (r : Request) → Performs old ((r, failing) ∷ []) new
  performs_failing r = record {
    done = λ none. let wrong : ⊥ = cc in absurd wrong;
    rows = λ none. let wrong : ⊥ = cc in absurd wrong;
    crash = λ society c has t l.
        (c, (c, refl, inl refl), (has.0, stays.crash has.0 c has.1 (seen_of has.2) t l, has.2));
    clean = stays.clean;
  }

-- what looks of an archive that was not lost have found, and what they leave
pub viewed_looks : (old new : State) (lost lost_now : Bool) (failures failures_now : ℕ) (P : Content → Type 0)
    → failures ≡ 0 → ((rows : Rows) → Settled old rows → LeavesOnly old rows)
    → (HasCleanDisk new → HasCleanDisk old × ((kept : Kept) → Shows old lost failures kept
    → Shows new lost_now failures_now kept × P kept.content))
    → HasCleanDisk new → StaysReadable old lost_now new
    × OnReadable old (λ rows c. P c × (lost_now ≡ false → failures_now ≡ 0))
viewed_looks old new lost lost_now failures failures_now P none leaves viewed clean =
    let at = viewed clean in (
      record {
        same = λ sure rows c was seen. (at.1 (kept_of rows c seen)
            (record { crash = leaves rows was; settled = λ _. was; none = λ _. none })).0.settled sure;
        crash = λ rows c was seen. (at.1 (kept_of rows c seen)
            (record { crash = leaves rows was; settled = λ _. was; none = λ _. none })).0.crash;
        clean = at.0;
      },
      λ rows c was seen.
          let found = at.1 (kept_of rows c seen)
          (record { crash = leaves rows was; settled = λ _. was; none = λ _. none }) in
          (found.1, found.0.none),
    )

-- what is handed on of what looks have found
module _ (found kept : Result (Option Record) RefusalKind) (P : Option Record → Type 0) where
  looked_then : IfOk kept (λ own. found ≡ Ok own) → Looked found P → IfOk kept P
  looked_then is looked = elim kept as (λ (r : Result (Option Record) RefusalKind). IfOk r (λ own. found ≡ Ok own)
      → IfOk r P) [
        | Ok own ↦ λ same. subst (λ (r : Result (Option Record) RefusalKind). Looked r P) same looked
        | Err kind ↦ λ same. tt
      ] is

  pub form_then : IfOk kept (λ own. found ≡ Ok own) → IfOk found P → IfOk kept P
  form_then is form = elim kept as (λ (r : Result (Option Record) RefusalKind). IfOk r (λ own. found ≡ Ok own)
      → IfOk r P) [
        | Ok own ↦ λ same. subst (λ (r : Result (Option Record) RefusalKind). IfOk r P) same form
        | Err kind ↦ λ same. tt
      ] is

-- looks of which none failed found an answer, unless memory was refused
module _ (lost : Bool) (failures : ℕ) (found kept : Result (Option Record) RefusalKind) (P : Option Record → Type 0)
    (counts : CountsFailures 0 failures found) (broken : has_broken kept ≡ lost)
    (own : lost ≡ false → IfOk found (λ x. kept ≡ Ok x))
    (want : lost ≡ false → found ≡ Err OutOfMemory → kept ≡ Err OutOfMemory) where
  not_risen : failures ≡ 0 → Rose 0 failures → ⊥
  not_risen none (inl less) = absurd (omega (arith, less, none))
  not_risen none (inr most) = absurd (omega (arith, most, none))

  only_want : (kind : RefusalKind) → is_stop kind ≡ true → (is_failure kind ≡ true → ⊥) → kind ≡ OutOfMemory
  only_want OutOfMemory stop none = refl
  only_want BadStored stop none = absurd (none refl)
  only_want Storage stop none = absurd (none refl)
  only_want kind stop none = let wrong : ⊥ = cc in absurd wrong

  wants_only : (lost ≡ false → failures ≡ 0) → lost ≡ false → Looked found P → IfErr kept (λ kind. kind ≡ OutOfMemory)
  wants_only none sure looked = elim found as (λ (r : Result (Option Record) RefusalKind).
      CountsFailures 0 failures r → IfOk r (λ x. kept ≡ Ok x) → (r ≡ Err OutOfMemory → kept ≡ Err OutOfMemory)
      → Looked r P → IfErr kept (λ kind. kind ≡ OutOfMemory)) [
        | Ok x ↦ λ _ same _ _. subst (λ (r : Result (Option Record) RefusalKind). IfErr r (λ kind. kind ≡ OutOfMemory))
            (sym same) tt
        | Err e ↦ λ counted _ wanted stop.
            let is = only_want e stop (λ failed. not_risen (none sure) (counted.1 failed)) in
            subst (λ (r : Result (Option Record) RefusalKind). IfErr r (λ kind. kind ≡ OutOfMemory))
            (sym (wanted (ap (λ (kind : RefusalKind). Err kind) is))) refl
      ] counts (own sure) (want sure) looked

  pub wanting : (lost ≡ false → failures ≡ 0) → Looked found P
      → IfErr kept (λ kind. is_storage kind ≡ false → kind ≡ OutOfMemory)
  wanting none looked = elim kept as (λ (r : Result (Option Record) RefusalKind). has_broken r ≡ lost
      → (lost ≡ false → IfErr r (λ kind. kind ≡ OutOfMemory))
      → IfErr r (λ kind. is_storage kind ≡ false → kind ≡ OutOfMemory)) [
        | Ok x ↦ λ _ _. tt
        | Err kind ↦ λ is only sound. only (sym is ∙ sound)
      ] broken (λ sure. wants_only none sure looked)

pub found_then : (old new : State) (lost : Bool) (failures : ℕ) (found kept : Result (Option Record) RefusalKind)
    (P : Content → Option Record → Type 0) → IfOk kept (λ own. found ≡ Ok own)
    → ((c : Content) → (lost ≡ false → failures ≡ 0) → Looked found (P c)
    → IfErr kept (λ kind. is_storage kind ≡ false → kind ≡ OutOfMemory))
    → (HasCleanDisk new → StaysReadable old lost new
    × OnReadable old (λ rows c. Looked found (P c) × (lost ≡ false → failures ≡ 0)))
    → HasCleanDisk new → StaysReadable old lost new × OnReadable old (λ rows c. IfOk kept (P c)
    × IfErr kept (λ kind. is_storage kind ≡ false → kind ≡ OutOfMemory))
found_then old new lost failures found kept P is wants looks clean =
    let seen = looks clean in (
      seen.0,
      λ rows c was keeps.
          let at = seen.1 rows c was keeps in (looked_then found kept (P c) is at.0, wants c at.1 at.0),
    )

-- ---- archives
module _ {S : Type 0} (g : Ghosts S) where
  or_true : (b : Bool) → (b || true) ≡ true
  or_true true = refl
  or_true false = refl

  pub shut_lost : (a : Archive S g) → a.is_lost ≡ true → is_shut a ≡ true
  shut_lost a lost = ap (λ (l : Bool). shuts l a.import) lost ∙ or_true (is_some a.import)

  none_open : (lost : Bool) (i : Option Import) → shuts lost i ≡ false → shuts false i ≡ false
  none_open lost None was = refl
  none_open lost (Some i) was = absurd (false≢true (sym was))

  -- looks open no import
  pub free_of : (old mid : Archive S g) → is_shut old ≡ false → mid.is_lost ≡ false → mid.import ≡ old.import
      → is_shut mid ≡ false
  free_of old mid was sure same = ap (λ (l : Bool). shuts l mid.import) sure
      ∙ ap (λ (i : Option Import). shuts false i) same ∙ none_open old.is_lost old.import was

  -- nothing is said of an archive that takes none
  pub not_asked : (row : Row) (s : Served) (old new : Archive S g) → is_shut old ≡ true → IsServedIn g row s old new
  not_asked row s old new shut = λ clean was. absurd (false≢true (sym was ∙ shut))

  -- a clean disk was clean before
  pub clean_of : (mid new : Archive S g) (s : Served) → is_shut mid ≡ false → Steps g s mid new
      → HasCleanDisk (state g new.conn) → HasCleanDisk (state g mid.conn)
  clean_of mid new (Ok done) free steps clean = (steps.0 clean free).clean
  clean_of mid new (Err bad) free same clean = subst (λ (a : Archive S g). HasCleanDisk (state g a.conn)) same clean

  module _ (old mid : Archive S g) (was : is_shut old ≡ false)
      (looks : HasCleanDisk (state g mid.conn) → StaysReadable (state g old.conn) mid.is_lost (state g mid.conn)) where
    -- a request that is performed after looks that did not fail
    pub steps_then : (new : Archive S g) (done : Done) → mid.is_lost ≡ false → is_shut mid ≡ false
        → Steps g (Ok done) mid new → Steps g (Ok done) old new
    steps_then new done sure free steps = (
      λ clean _.
          let p = steps.0 clean free in
          performs_then (state g old.conn) (state g mid.conn) (state g new.conn) [] (done ∷ [])
          (performs_looked (state g old.conn) (state g mid.conn) mid.is_lost (looks p.clean) sure) refl p,
      λ _. steps.1 free,
      λ shut. absurd (false≢true (sym was ∙ shut)),
    )

  module _ (row : Row) (old mid : Archive S g) (refers : has_references row ≡ true) (was : is_shut old ≡ false)
      (looks : HasCleanDisk (state g mid.conn) → StaysReadable (state g old.conn) mid.is_lost (state g mid.conn)) where
    -- looks that did not fail
    only_looks : mid.is_lost ≡ false → is_shut mid ≡ false → OnlyLooks g row old mid
    only_looks sure free = (
      refers,
      was,
      free,
      λ clean _. performs_looked (state g old.conn) (state g mid.conn) mid.is_lost (looks clean) sure,
    )

    -- the row is refused then
    pub steps_refused : (bad : BadRequest) → mid.is_lost ≡ false → is_shut mid ≡ false
        → StepsRow g row (Err bad) old mid
    steps_refused bad sure free = inr (only_looks sure free)

    -- what is done after them
    pub steps_looked : (new : Archive S g) (s : Served) → mid.is_lost ≡ false → is_shut mid ≡ false
        → Steps g s mid new → StepsRow g row s old new
    steps_looked new (Ok done) sure free steps = steps_then old mid was looks new done sure free steps
    steps_looked new (Err bad) sure free same =
        inr (subst (λ (a : Archive S g). OnlyLooks g row old a) (sym same) (only_looks sure free))

    -- looks failed: nobody did anything of the row
    pub steps_failing : (r : Request) → is_shut mid ≡ true → StepsRow g row (Ok (r, failing)) old mid
    steps_failing r lost = (
      λ clean _. performs_failing (state g old.conn) (state g mid.conn) mid.is_lost (looks clean) r,
      λ _. lost,
      λ shut. absurd (false≢true (sym was ∙ shut)),
    )
