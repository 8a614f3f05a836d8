-- One row more that was served.
use Rattle.std.proofs.Common.{
  ◌≡◌,
  ◌++◌,
  ◌∷◌,
  ◌∙◌,
  Bool,
  true,
  false,
  List,
  [],
  None,
  Some,
  Ok,
  Err,
  cond,
  inl,
  inr,
  refl,
  sym,
  ap,
  subst,
}
use Rattle.std.specs.List.{AllByRecursion}
use Rattle.std.proofs.lemmas.Bool.{false≢true}
use Rattle.std.proofs.lemmas.List.{flat_map_more, append-nil}
use Rattle.list_laws.proofs.Lists.{all_then}
use Rattle.sqlite.specs.Held.{state}
use Rattle.sqlite.specs.State.{HasCleanDisk}
use Rattle.sqlite_trees.specs.declared.store.Store.{Ghosts}
use Rattle.archive_core.specs.Machine.{Does, Done, Runs}
use Rattle.archive_core.specs.Steps.{Step}
use Rattle.archive_core.specs.declared.request.Request.{Request}
use Rattle.archive_state.specs.Content.{Content}
use Rattle.store.specs.Calls.{Performs}
use Rattle.store.specs.Histories.{Outcome, in_doubt}
use Rattle.store.specs.Shut.{is_shut}
use Rattle.store.specs.declared.archive.Archive.{Archive}
use Rattle.store.proofs.Histories.{doubt_after, performs_then}
use Rattle.archive_input.specs.Answers.{Served, answer_text}
use Rattle.archive_input.specs.Applying.{
  AreServed,
  AreServedIn,
  AreServedOver,
  IsServed,
  IsServedIn,
  IsServedOver,
  PerformsAll,
  RefusesAll,
  StepsRow,
  answer_to,
  answers,
  calls_of,
  is_in_doubt,
  outcome_when_shut,
}
use Rattle.request_csv.specs.Input.{Row}
use Rattle.archive_input.specs.declared.bad_request.BadRequest.{BadRequest}

pub served_more : (rows : List Row) (served : List Served) (row : Row) (s : Served) → AreServed rows served
    → IsServed row s → AreServed (rows ++ row ∷ []) (served ++ s ∷ [])
served_more [] [] row s h is = (is, tt)
served_more [] (x ∷ xs) row s h is = absurd h
served_more (r ∷ rs) [] row s h is = absurd h
served_more (r ∷ rs) (x ∷ xs) row s h is = (h.0, served_more rs xs row s h.1 is)

calls_ok : (served : List Served) (done : Done) → calls_of (served ++ Ok done ∷ []) ≡ calls_of served ++ done ∷ []
calls_ok [] done = refl
calls_ok (Ok d ∷ served) done = ap (λ (calls : List Done). d ∷ calls) (calls_ok served done)
calls_ok (Err b ∷ served) done = calls_ok served done

calls_bad : (served : List Served) (bad : BadRequest) → calls_of (served ++ Err bad ∷ []) ≡ calls_of served
calls_bad [] bad = refl
calls_bad (Ok d ∷ served) bad = ap (λ (calls : List Done). d ∷ calls) (calls_bad served bad)
calls_bad (Err b ∷ served) bad = calls_bad served bad

-- ---- numbers
-- what is there after a run
abbrev left_by : Content → Step → Content
left_by c (Ok done) = done.0
left_by c (Err e) = c

same_step : (c x y : Content) (r : Request) (o : Outcome) → Does c r o x → Does c r o y → x ≡ y
same_step c x y r (Ok answer) h k = ap (left_by c) (sym h ∙ k)
same_step c x y r (Err e) h k = h.0 ∙ sym k.0

same_end : (calls : List Done) (c x y : Content) → Runs c calls x → Runs c calls y → x ≡ y
same_end [] c x y h k = h ∙ sym k
same_end (call ∷ calls) c x y h k = same_end calls k.0 x y
    (subst (λ (m : Content). Runs m calls x) (same_step c h.0 k.0 call.0 call.1 h.1 k.1) h.2) k.2

runs_with : (s : Served) (served : List Served) (c after end : Content) → Runs c (calls_of (s ∷ [])) after
    → Runs after (calls_of served) end → Runs c (calls_of (s ∷ served)) end
runs_with (Ok done) served c after end one more =
    (one.0, one.1, subst (λ (m : Content). Runs m (calls_of served) end) one.2 more)
runs_with (Err bad) served c after end one more = subst (λ (m : Content). Runs m (calls_of served) end) one more

over_more : (c : Content) (rows : List Row) (served : List Served) (row : Row) (s : Served)
    → AreServedOver c rows served → ((end : Content) → Runs c (calls_of served) end → IsServedOver end row s)
    → AreServedOver c (rows ++ row ∷ []) (served ++ s ∷ [])
over_more c [] [] row s all last = (last c refl, λ after one. tt)
over_more c [] (x ∷ xs) row s all last = absurd all
over_more c (r ∷ rs) [] row s all last = absurd all
over_more c (r ∷ rs) (x ∷ xs) row s all last = (
  all.0,
  λ after one. over_more after rs xs row s (all.1 after one)
      (λ end more. last end (runs_with x xs c after end one more)),
)

pub certain_more : (served : List Served) (s : Served) → in_doubt (calls_of served) ≡ None → is_in_doubt s ≡ false
    → in_doubt (calls_of (served ++ s ∷ [])) ≡ None
certain_more served (Ok done) none sure =
    ap in_doubt (calls_ok served done) ∙ doubt_after (calls_of served) (done ∷ []) none
    ∙ ap (λ (b : Bool). cond b (Some done.0) None) sure
certain_more served (Err bad) none sure = ap in_doubt (calls_bad served bad) ∙ none

answers_more : (served : List Served) (s : Served) → answers (served ++ s ∷ []) ≡ answers served ++ answer_to s
answers_more served s = sym (flat_map_more answer_to [] served s)

pub answers_sure : (served : List Served) (s : Served) → is_in_doubt s ≡ false → answers (served ++ s ∷ [])
    ≡ answers served ++ answer_text s
answers_sure served s sure = answers_more served s ∙ ap (λ (b : Bool). answers served ++ cond b [] (answer_text s)) sure

pub answers_doubted : (served : List Served) (s : Served) → is_in_doubt s ≡ true
    → answers (served ++ s ∷ []) ≡ answers served
answers_doubted served s doubted =
    answers_more served s ∙ ap (λ (b : Bool). answers served ++ cond b [] (answer_text s)) doubted
    ∙ append-nil (answers served)

module _ {S : Type 0} (g : Ghosts S) (old now next : Archive S g) (served : List Served) (row : Row) where
  pub kept_more : (s : Served) → StepsRow g row s now next → is_in_doubt s ≡ false
      → (is_shut old ≡ false → is_shut now ≡ false) → is_shut old ≡ false → is_shut next ≡ false
  kept_more (Ok done) steps sure kept was = steps.1 (kept was) ∙ sure
  kept_more (Err bad) (inl same) sure kept was = subst (λ (a : Archive S g). is_shut a ≡ false) (sym same) (kept was)
  kept_more (Err bad) (inr looked) sure kept was = looked.2

  pub performed_more : (s : Served) → in_doubt (calls_of served) ≡ None → (is_shut old ≡ false → is_shut now ≡ false)
      → PerformsAll g old (calls_of served) now → StepsRow g row s now next
      → PerformsAll g old (calls_of (served ++ s ∷ [])) next
  performed_more (Ok done) none kept first steps = λ clean was.
      let did = steps.0 clean (kept was) in
      subst (λ (calls : List Done). Performs (state g old.conn) calls (state g next.conn)) (sym (calls_ok served done))
      (performs_then (state g old.conn) (state g now.conn) (state g next.conn) (calls_of served) (done ∷ [])
      (first did.clean was) none did)
  performed_more (Err bad) none kept first (inl same) = λ clean was.
      subst (λ (calls : List Done). Performs (state g old.conn) calls (state g next.conn)) (sym (calls_bad served bad))
      (subst (λ (a : Archive S g). Performs (state g old.conn) (calls_of served) (state g a.conn)) (sym same)
      (first (subst (λ (a : Archive S g). HasCleanDisk (state g a.conn)) same clean) was))
  performed_more (Err bad) none kept first (inr looked) = λ clean was.
      let did = looked.3 clean (kept was) in
      subst (λ (calls : List Done). Performs (state g old.conn) calls (state g next.conn))
      (append-nil (calls_of served) ∙ sym (calls_bad served bad))
      (performs_then (state g old.conn) (state g now.conn) (state g next.conn) (calls_of served) []
      (first did.clean was) none did)

  pub refused_more : (s : Served) → RefusesAll g old (calls_of served) now → StepsRow g row s now next
      → RefusesAll g old (calls_of (served ++ s ∷ [])) next
  refused_more (Ok done) first steps = λ shut.
      let Is : Done → Type 0 = λ call. call.1 ≡ outcome_when_shut old in
      let before = first shut in
      let did = steps.2 (subst (λ (a : Archive S g). is_shut a ≡ true) (sym before.1) shut) in (
        subst (AllByRecursion Is) (sym (calls_ok served done))
            (all_then Is (calls_of served) done before.0
            (did.0.0 ∙ ap (λ (a : Archive S g). outcome_when_shut a) before.1)),
        did.1 ∙ before.1,
      )
  refused_more (Err bad) first (inl same) = λ shut.
      let Is : Done → Type 0 = λ call. call.1 ≡ outcome_when_shut old in
      let before = first shut in (
        subst (AllByRecursion Is) (sym (calls_bad served bad)) before.0,
        same ∙ before.1,
      )
  refused_more (Err bad) first (inr looked) = λ shut.
      absurd (false≢true (sym looked.1 ∙ subst (λ (a : Archive S g). is_shut a ≡ true) (sym (first shut).1) shut))

  clean_before : (s : Served) → StepsRow g row s now next → is_shut now ≡ false → HasCleanDisk (state g next.conn)
      → HasCleanDisk (state g now.conn)
  clean_before (Ok done) steps free clean = (steps.0 clean free).clean
  clean_before (Err bad) (inl same) free clean = subst (λ (a : Archive S g). HasCleanDisk (state g a.conn)) same clean
  clean_before (Err bad) (inr looked) free clean = (looked.3 clean free).clean

  pub numbers_more : (rows : List Row) (s : Served) → in_doubt (calls_of served) ≡ None
      → (is_shut old ≡ false → is_shut now ≡ false) → PerformsAll g old (calls_of served) now
      → AreServedIn g rows served old now → IsServedIn g row s now next → StepsRow g row s now next
      → AreServedIn g (rows ++ row ∷ []) (served ++ s ∷ []) old next
  numbers_more rows s none kept first before asked steps = λ clean was society c has.
      let free = kept was in
      let still = clean_before s steps free clean in
      let did = (first still was).done none society c has in
      over_more c rows served row s (before still was society c has) (λ end runs.
      subst (λ (k : Content). IsServedOver k row s) (same_end (calls_of served) c did.0 end did.1 runs)
      (asked clean free society did.0 did.2.0 did.2.1 did.2.2))
