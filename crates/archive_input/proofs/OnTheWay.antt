-- What is kept while rows are applied one after the other, and what follows of it where a call ends.
use Rattle.std.proofs.Common.{
  ◌≡◌,
  ◌∙◌,
  ◌⊎◌,
  ◌+◌,
  ◌++◌,
  ◌∷◌,
  ℕ,
  true,
  false,
  List,
  [],
  Option,
  None,
  Ok,
  Err,
  MatchBool,
  inl,
  inr,
  refl,
  ap,
  sym,
  subst,
  arith,
  length,
  length-append,
}
use Rattle.std.specs.Io.KnownBytes.{Appends}
use Rattle.std.proofs.KnownBytes.{Appends-nil, Appends-trans}
use Rattle.std.proofs.lemmas.Bool.{false≢true}
use Rattle.std.proofs.Math.Seq.{take-append-add}
use Rattle.csv.specs.declared.parser.State.{State}
use Rattle.csv.specs.declared.parser.State.TheVariants as st
use Rattle.sqlite_trees.specs.declared.store.Store.{Ghosts}
use Rattle.devices.specs.Devices.{AppendsBeginning}
use Rattle.record_text.specs.declared.refusal.RefusalKind.{RefusalKind}
use Rattle.record_text.specs.declared.refusal.RefusalKind.TheVariants.{OutOfMemory, ReadFailed, Storage, WriteFailed}
use Rattle.store.specs.Histories.{in_doubt, is_storage}
use Rattle.store.specs.Shut.{is_shut}
use Rattle.store.specs.declared.archive.Archive.{Archive}
use Rattle.archive_input.specs.Answers.{Served, answer_text}
use Rattle.archive_input.specs.Applying.{
  AppliedOf,
  AreServed,
  AreServedIn,
  Ended,
  Ends,
  IsServed,
  IsServedIn,
  PerformsAll,
  RefusesAll,
  StepsRow,
  WritesPart,
  answers,
  calls_of,
  is_in_doubt,
}
use Rattle.request_csv.specs.Input.{Row}
use Rattle.request_csv.proofs.Taking.{Took, took_first, took_none}
use Rattle.archive_input.proofs.Outcomes.{by_bool}
use Rattle.archive_input.proofs.Served.{
  answers_doubted,
  answers_sure,
  certain_more,
  kept_more,
  numbers_more,
  performed_more,
  refused_more,
  served_more,
}
use Rattle.devices.proofs.Begun.{all_begins}

-- ---- the answers that were written

part_written : (a b c : Option (List ℕ)) (served : List Served) (s : Served) → is_in_doubt s ≡ false
    → Appends a b (answers served) → AppendsBeginning b c (answer_text s) → AppendsBeginning a c
    (answers (served ++ s ∷ []))
part_written a b c served s sure h p = (
  length (answers served) + p.0,
  rw (answers_sure served s sure, length-append) (omega (arith, p.1)),
  rw (answers_sure served s sure, take-append-add) (Appends-trans a b c _ _ h p.2),
)

not_storage : (kind : RefusalKind) → (kind ≡ OutOfMemory) ⊎ (kind ≡ WriteFailed) → is_storage kind ≡ false
not_storage kind (inl e) = ap is_storage e
not_storage kind (inr e) = ap is_storage e

-- ---- rows applied so far

pub record OnTheWay {S : Type 0} (g : Ghosts S) (known left : Option (List ℕ)) (at : State)
    (before after : Option (List ℕ)) (old new : Archive S g) : Type 0 where
  pub rows : List Row
  pub served : List Served
  pub took : Took known rows at left
  pub each : AreServed rows served
  pub numbers : AreServedIn g rows served old new
  pub certain : in_doubt (calls_of served) ≡ None
  pub kept : is_shut old ≡ false → is_shut new ≡ false
  pub performed : PerformsAll g old (calls_of served) new
  pub refused : RefusesAll g old (calls_of served) new
  pub written : Appends before after (answers served)

-- of the rows that were served P is said beside it
abbrev pub OnTheWayWith : {S : Type 0} (g : Ghosts S) (known left : Option (List ℕ)) (at : State)
    (before after : Option (List ℕ)) (old new : Archive S g) → (List Row → List Served → Type 0) → Type 0
OnTheWayWith g known left at before after old new P =
    (w : OnTheWay g known left at before after old new) × P w.rows w.served

abbrev pub AppliedWith : (Option (List ℕ) → List Row → Type 0) → {S : Type 0} (g : Ghosts S)
    (known before after : Option (List ℕ)) (old new : Archive S g) → (List Row → List Served → Type 0) → Type 0
AppliedWith AreOf g known before after old new P =
    (all : AppliedOf AreOf g known before after old new) × P all.rows all.served

abbrev pub EndedWith : {S : Type 0} (g : Ghosts S) (kind : RefusalKind) (known before after : Option (List ℕ))
    (old new : Archive S g) → (List Row → List Served → Type 0) → Type 0
EndedWith g kind known before after old new P =
    (part : Ended g kind known before after old new) × P part.rows part.served

pub at_start : {S : Type 0} (g : Ghosts S) (known out : Option (List ℕ)) (archive : Archive S g)
    (P : List Row → List Served → Type 0) → PerformsAll g archive [] archive → P [] []
    → OnTheWayWith g known known st.StartRecord out out archive archive P
at_start g known out archive P none p = (
  record {
    rows = [];
    served = [];
    took = took_none known;
    each = tt;
    numbers = λ clean was society c has. tt;
    certain = refl;
    kept = λ was. was;
    performed = none;
    refused = λ shut. (tt, refl);
    written = Appends-nil out;
  },
  p,
)

module _ {S : Type 0} (g : Ghosts S) (known left : Option (List ℕ)) (at : State) (before after : Option (List ℕ))
    (old now : Archive S g) (w : OnTheWay g known left at before after old now) where
  -- a row more, which was answered
  pub one_more : (row : Row) (next : Archive S g) (rest out : Option (List ℕ)) (s : Served) (to : State)
      → Took known (w.rows ++ row ∷ []) to rest → IsServed row s → IsServedIn g row s now next
      → StepsRow g row s now next → is_in_doubt s ≡ false
      → Appends after out (answer_text s) → (P : List Row → List Served → Type 0)
      → P (w.rows ++ row ∷ []) (w.served ++ s ∷ []) → OnTheWayWith g known rest to before out old next P
  one_more row next rest out s to took is asked steps sure wrote P p = (
    record {
      rows = w.rows ++ row ∷ [];
      served = w.served ++ s ∷ [];
      took = took;
      each = served_more w.rows w.served row s w.each is;
      numbers = numbers_more g old now next w.served row w.rows s w.certain w.kept w.performed w.numbers asked steps;
      certain = certain_more w.served s w.certain sure;
      kept = kept_more g old now next w.served row s steps sure w.kept;
      performed = performed_more g old now next w.served row s w.certain w.kept w.performed steps;
      refused = refused_more g old now next w.served row s w.refused steps;
      written = subst (Appends before out) (sym (answers_sure w.served s sure))
          (Appends-trans before after out _ _ w.written wrote);
    },
    p,
  )

  pub all_applied : (AreOf : Option (List ℕ) → List Row → Type 0) (P : List Row → List Served → Type 0)
      → P w.rows w.served → AreOf known w.rows → AppliedWith AreOf g known before after old now P
  all_applied AreOf P p all = (
    record {
      rows = w.rows;
      served = w.served;
      all = all;
      each = w.each;
      numbers = w.numbers;
      certain = w.certain;
      kept = w.kept;
      performed = w.performed;
      refused = w.refused;
      written = w.written;
    },
    p,
  )

  ends_unread : (kind : RefusalKind) → (kind ≡ OutOfMemory) ⊎ (kind ≡ ReadFailed) → Ends kind w.served before after
  ends_unread kind (inl e) = inr (w.certain, inr (inl e, all_begins before after _ w.written))
  ends_unread kind (inr e) = inr (w.certain, inl (e, w.written))

  lost_unread : (kind : RefusalKind) → (kind ≡ OutOfMemory) ⊎ (kind ≡ ReadFailed) → is_shut old ≡ false
      → is_shut now ≡ is_storage kind
  lost_unread kind (inl e) was = w.kept was ∙ sym (ap is_storage e)
  lost_unread kind (inr e) was = w.kept was ∙ sym (ap is_storage e)

  -- no row more was read
  pub ended_unread : (P : List Row → List Served → Type 0) → P w.rows w.served → (kind : RefusalKind)
      → (kind ≡ OutOfMemory) ⊎ (kind ≡ ReadFailed) → EndedWith g kind known before after old now P
  ended_unread P p kind why = (
    record {
      rows = w.rows;
      served = w.served;
      first = took_first known left w.rows at w.took;
      each = w.each;
      numbers = w.numbers;
      performed = w.performed;
      refused = w.refused;
      lost = lost_unread kind why;
      written = ends_unread kind why;
    },
    p,
  )

  -- nothing was done of the row that was read
  pub ended_same : (P : List Row → List Served → Type 0) → P w.rows w.served → (kind : RefusalKind) (next : Archive S g)
      (out : Option (List ℕ)) → kind ≡ OutOfMemory → next ≡ now
      → out ≡ after → EndedWith g kind known before out old next P
  ended_same P p kind next out why same kept =
      subst (λ (a : Archive S g). EndedWith g kind known before out old a P) (sym same)
      (subst (λ (o : Option (List ℕ)). EndedWith g kind known before o old now P) (sym kept)
      (ended_unread P p kind (inl why)))

  ends_doubted : (kind : RefusalKind) (s : Served) → is_in_doubt s ≡ true → kind ≡ Storage
      → Ends kind (w.served ++ s ∷ []) before after
  ends_doubted kind (Ok done) doubted e =
      inl (
        e,
        (w.served, done, refl, w.certain, doubted),
        subst (Appends before after) (sym (answers_doubted w.served (Ok done) doubted)) w.written,
      )
  ends_doubted kind (Err bad) doubted e = absurd (false≢true doubted)

  ends_row : (kind : RefusalKind) (s : Served) (out : Option (List ℕ)) → MatchBool (is_in_doubt s)
      ((kind ≡ Storage) × (out ≡ after)) (WritesPart kind after out (answer_text s))
      → Ends kind (w.served ++ s ∷ []) before out
  ends_row kind s out h = by_bool (is_in_doubt s) h
      (λ doubted a. subst (λ (o : Option (List ℕ)). Ends kind (w.served ++ s ∷ []) before o) (sym a.1)
      (ends_doubted kind s doubted a.0))
      (λ sure p. let all = part_written before after out w.served s sure w.written p.1 in
      inr (certain_more w.served s w.certain sure, inr (p.0, all)))

  lost_doubted : (next : Archive S g) (row : Row) (s : Served) → StepsRow g row s now next → is_in_doubt s ≡ true
      → is_shut old ≡ false → is_shut next ≡ true
  lost_doubted next row (Ok done) steps doubted was = steps.1 (w.kept was) ∙ doubted
  lost_doubted next row (Err bad) steps doubted was = absurd (false≢true doubted)

  lost_row : (kind : RefusalKind) (next : Archive S g) (out : Option (List ℕ)) (row : Row) (s : Served)
      → StepsRow g row s now next
      → MatchBool (is_in_doubt s) ((kind ≡ Storage) × (out ≡ after)) (WritesPart kind after out (answer_text s))
      → is_shut old ≡ false → is_shut next ≡ is_storage kind
  lost_row kind next out row s steps h was = by_bool (is_in_doubt s) h
      (λ doubted a. lost_doubted next row s steps doubted was ∙ sym (ap is_storage a.0))
      (λ sure p. kept_more g old now next w.served row s steps sure w.kept was ∙ sym (not_storage kind p.0))

  -- a row more, which was not answered whole
  pub ended_row : (P : List Row → List Served → Type 0) (kind : RefusalKind) (row : Row) (next : Archive S g)
      (rest out : Option (List ℕ)) (s : Served) (to : State) → P (w.rows ++ row ∷ []) (w.served ++ s ∷ [])
      → Took known (w.rows ++ row ∷ []) to rest → IsServed row s → IsServedIn g row s now next
      → StepsRow g row s now next
      → MatchBool (is_in_doubt s) ((kind ≡ Storage) × (out ≡ after)) (WritesPart kind after out (answer_text s))
      → EndedWith g kind known before out old next P
  ended_row P kind row next rest out s to p took is asked steps h = (
    record {
      rows = w.rows ++ row ∷ [];
      served = w.served ++ s ∷ [];
      first = took_first known rest (w.rows ++ row ∷ []) to took;
      each = served_more w.rows w.served row s w.each is;
      numbers = numbers_more g old now next w.served row w.rows s w.certain w.kept w.performed w.numbers asked steps;
      performed = performed_more g old now next w.served row s w.certain w.kept w.performed steps;
      refused = refused_more g old now next w.served row s w.refused steps;
      lost = lost_row kind next out row s steps h;
      written = ends_row kind s out h;
    },
    p,
  )

-- ---- a reader that did not count its error
blameless_ends : (served : List Served) (before after : Option (List ℕ)) (kind : RefusalKind) → kind ≡ ReadFailed
    → Ends kind served before after → Ends OutOfMemory served before after
blameless_ends served before after kind is (inl h) = absurd cc
blameless_ends served before after kind is (inr h) = elim h.1 [
  | inl all ↦ inr (h.0, inr (inl refl, all_begins before after _ all.1))
  | inr part ↦ inr (h.0, inr (inl refl, part.1))
]

pub told_so : {S : Type 0} (g : Ghosts S) (kind told : RefusalKind) (known before after : Option (List ℕ))
    (old new : Archive S g) (P : List Row → List Served → Type 0) {Risen : Type 0}
    → ((told ≡ kind) × (kind ≡ ReadFailed → Risen)) ⊎ ((kind ≡ ReadFailed) × (told ≡ OutOfMemory))
    → EndedWith g kind known before after old new P → EndedWith g told known before after old new P
told_so g kind told known before after old new P (inl h) e =
    subst (λ (k : RefusalKind). EndedWith g k known before after old new P) (sym h.0) e
told_so g kind told known before after old new P (inr h) e =
    subst (λ (k : RefusalKind). EndedWith g k known before after old new P) (sym h.1) (
      record {
        rows = e.0.rows;
        served = e.0.served;
        first = e.0.first;
        each = e.0.each;
        numbers = e.0.numbers;
        performed = e.0.performed;
        refused = e.0.refused;
        lost = λ was. e.0.lost was ∙ ap is_storage h.0;
        written = blameless_ends e.0.served before after kind h.0 e.0.written;
      },
      e.1,
    )
