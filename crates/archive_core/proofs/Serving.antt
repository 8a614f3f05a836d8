-- What requests leave: one, and one after the other.
use Rattle.std.proofs.Common.{
  ◌≡◌,
  ℕ,
  ◌<◌,
  ◌≤◌,
  List,
  [],
  ◌∷◌,
  ◌++◌,
  true,
  false,
  refl,
  sym,
  ap,
  ◌∙◌,
  cond,
  subst,
  arith,
}
use Rattle.std.specs.Prelude.{Option, Some, None, Result, Ok, Err, if◌then◌else◌, bytes_eq}
use Rattle.std.specs.FinMap.{get, insert, get-insert, nat_cmp-IsAntisymmetric, slice_cmp-IsAntisymmetric}
use Rattle.std.specs.Ordering.{nat_cmp, eq_by_cmp}
use Rattle.std.specs.Cmp.{eq_by_cmp_equiv, Equal-is}
use Rattle.std.specs.Cmp.Lexicographic.{slice_cmp, nat_list_cmp_total}
use Rattle.record_text.specs.declared.refusal.Refusal.{Refusal}
use Rattle.record_text.specs.declared.refusal.RefusalKind.TheVariants.{TokenReused}
use Rattle.record_fields.specs.Bytes.{bytes_same}
use Rattle.archive_state.specs.Content.{Content, Receipts}
use Rattle.archive_state.specs.Sound.{IsSound}
use Rattle.receipts.specs.declared.answer.Answer.{Answer}
use Rattle.receipts.specs.declared.answer.Receipt.{Receipt}
use Rattle.commands.specs.declared.command.Command.{Command}
use Rattle.archive_core.specs.Steps.{Step, refused_at, step}
use Rattle.command_checks.specs.Numbers.{Draws, UsesNoneAgain}
use Rattle.archive_core.specs.Machine.{Does, Runs, Done, served, kept_under, answered_again, request_digest}
use Rattle.archive_core.specs.Words.{HasUtf8Words}
use Rattle.archive_core.specs.declared.request.Request.{Request}
use Rattle.record_shapes.specs.Lists.{EachOf}
use Rattle.archive_steps.proofs.Following.{Follows}
use Rattle.archive_core.proofs.Following.{step_follows}

ok_is : {A : Type 0} (x y : A) (r : Result A Refusal) → r ≡ Ok x → r ≡ Ok y → x ≡ y
ok_is x y r e f = let both : Ok x ≡ Ok y = sym e ∙ f in cc

err_is_not : {A : Type 0} (k : Refusal) (y : A) (r : Result A Refusal) → r ≡ Err k → r ≡ Ok y → ⊥
err_is_not k y r e f = let both : Err k ≡ Ok y = sym e ∙ f in absurd cc

pub step_draws : (c t : Content) (k : Command) (a : Answer) → step c k ≡ Ok (t, a) → Draws c a t
step_draws c t k a e = let f : Follows {E = Refusal} (HasUtf8Words k) c (Ok (t, a)) =
    subst (Follows (HasUtf8Words k) c) e (step_follows c k) in f.1

-- ---- one request
at_itself : (token : List ℕ) → eq_by_cmp (slice_cmp nat_cmp) token token ≡ true
at_itself token = (eq_by_cmp_equiv nat_list_cmp_total).refl token

-- what is kept is found again
found_again : (c : Content) (token : List ℕ) (x : Receipt) → get (insert c.receipts token x) token ≡ Some x
found_again c token x = get-insert nat_list_cmp_total c.receipts token x token
    ∙ ap (λ b. cond b (Some x) (get c.receipts token)) (at_itself token)

same_again : (c : Content) (d : List ℕ) (a : Answer) → answered_again c d
    (record { digest = d; answer = a }) ≡ Ok (c, a)
same_again c d a = ap (λ b. if b then Ok (c, a) else Err (refused_at None TokenReused)) (bytes_same d d refl)

one_token : (a b : List ℕ) → eq_by_cmp (slice_cmp nat_cmp) a b ≡ true → a ≡ b
one_token a b e = slice_cmp-IsAntisymmetric nat_cmp-IsAntisymmetric a b ((Equal-is (slice_cmp nat_cmp a b)).0 e)

differs : (c : Content) (token other : List ℕ) (x : Receipt) → get c.receipts token ≡ None
    → get c.receipts other ≡ Some x → other ≡ token → ⊥
differs c token other x none some e = let both : Some x ≡ None = sym some ∙ ap (λ t. get c.receipts t) e
    ∙ none in absurd cc

-- an accepted step, with its answer kept
abbrev left_by : List ℕ → List ℕ → Content × Answer → Content
left_by token digest done =
    record done.0 { receipts = insert done.0.receipts token (record { digest = digest; answer = done.1 }) }

-- the answer of an accepted step is found under its token
kept_again : (s : Step) (token digest : List ℕ) (after : Content) (a : Answer) → kept_under token digest s
    ≡ Ok (after, a) → get after.receipts token ≡ Some (record { digest = digest; answer = a })
kept_again (Ok done) token digest after a e =
    let same : (left_by token digest done, done.1) ≡ (after, a) = ok_is _ _ _ refl e in
    ap (λ (p : Content × Answer). get p.0.receipts token) (sym same) ∙ found_again done.0 token
    (record { digest = digest; answer = done.1 })
    ∙ ap (λ (p : Content × Answer). Some (record { digest = digest; answer = p.1 })) same
kept_again (Err k) token digest after a e = absurd (err_is_not k (after, a) _ refl e)

-- where an answer was kept nothing changes
stays : (c after : Content) (digest : List ℕ) (x : Receipt) (a : Answer) → answered_again c digest x
    ≡ Ok (after, a) → c ≡ after
stays c after digest x a e =
    let here : Content × Answer = (c, x.answer) in
    let left : Content × Answer = (after, a) in
    let kept : Step = Ok here in
    let refused : Step = Err (refused_at None TokenReused) in
    elim (bytes_eq x.digest digest) as (λ b. (if b then kept else refused) ≡ Ok left → c ≡ after) [
      | true ↦ λ h. ap (λ (p : Content × Answer). p.0) (ok_is here left kept refl h)
      | false ↦ λ h. absurd (err_is_not (refused_at None TokenReused) left refused refl h)
    ] e

again : (c after : Content) (r : Request) (a : Answer) (o : Option Receipt) → get c.receipts r.token ≡ o
    → served c r o ≡ Ok (after, a) → served after r (get after.receipts r.token) ≡ Ok (after, a)
again c after r a None is e =
    ap (served after r) (kept_again (step c r.command) r.token (request_digest r) after a e)
    ∙ same_again after (request_digest r) a
again c after r a (Some x) is e =
    subst (λ (z : Content). served z r (get z.receipts r.token) ≡ Ok (after, a))
    (stays c after (request_digest r) x a e) (ap (served c r) is ∙ e)

-- an accepted request is answered as before, and leaves what it left
pub repeated : (c after : Content) (r : Request) (a : Answer) → Does c r (Ok a) after → Does after r (Ok a) after
repeated c after r a e = again c after r a (get c.receipts r.token) refl e

again_alike : (c after : Content) (r other : Request) (a : Answer) (o : Option Receipt) → get c.receipts r.token ≡ o
    → served c r o ≡ Ok (after, a) → other.token ≡ r.token → request_digest other ≡ request_digest r
    → served after other (get after.receipts other.token) ≡ Ok (after, a)
again_alike c after r other a None is e token digest =
    ap (λ t. served after other (get after.receipts t)) token
    ∙ ap (served after other) (kept_again (step c r.command) r.token (request_digest r) after a e)
    ∙ ap (λ d. answered_again after d (record { digest = request_digest r; answer = a })) digest
    ∙ same_again after (request_digest r) a
again_alike c after r other a (Some x) is e token digest =
    subst (λ (z : Content). served z other (get z.receipts other.token) ≡ Ok (after, a))
    (stays c after (request_digest r) x a e)
    (ap (λ t. served c other (get c.receipts t)) token ∙ ap (served c other) is
    ∙ ap (λ d. answered_again c d x) digest ∙ e)

-- and so is one of the same token and digest, whatever else it has
pub repeated_alike : (c after : Content) (r other : Request) (a : Answer) → Does c r (Ok a) after
    → other.token ≡ r.token → request_digest other ≡ request_digest r → Does after other (Ok a) after
repeated_alike c after r other a e = again_alike c after r other a (get c.receipts r.token) refl e

-- ---- receipts
still_there : (c : Content) (token other : List ℕ) (x v : Receipt) → get c.receipts token ≡ None
    → get c.receipts other ≡ Some x → get (insert c.receipts token v) other ≡ Some x
still_there c token other x v none some =
    get-insert nat_list_cmp_total c.receipts token v other ∙
    elim (eq_by_cmp (slice_cmp nat_cmp) other token) as (λ b. eq_by_cmp (slice_cmp nat_cmp) other token ≡ b
    → cond b (Some v) (get c.receipts other) ≡ Some x) [
      | true ↦ λ e. absurd (differs c token other x none some (one_token other token e))
      | false ↦ λ e. some
    ] refl

keeps_on : (W : Type 0) (c after : Content) (r : Request) (a : Answer) (other : List ℕ) (x : Receipt) (s : Step)
    → Follows W c s → kept_under r.token (request_digest r) s ≡ Ok (after, a) → get c.receipts r.token ≡ None
    → get c.receipts other ≡ Some x → get after.receipts other ≡ Some x
keeps_on W c after r a other x (Ok done) f e none some =
    let same : (left_by r.token (request_digest r) done, done.1) ≡ (after, a) = ok_is _ _ _ refl e in
    let v : Receipt = record { digest = request_digest r; answer = done.1 } in
    ap (λ (p : Content × Answer). get p.0.receipts other) (sym same) ∙ ap (λ m. get (insert m r.token v) other) f.0
    ∙ still_there c r.token other x v none some
keeps_on W c after r a other x (Err k) f e none some = absurd (err_is_not k (after, a) _ refl e)

kept_on : (c after : Content) (r : Request) (a : Answer) (o : Option Receipt) (other : List ℕ) (x : Receipt)
    → get c.receipts r.token ≡ o → served c r o ≡ Ok (after, a) → get c.receipts other ≡ Some x
    → get after.receipts other ≡ Some x
kept_on c after r a None other x is e some = keeps_on (HasUtf8Words r.command) c after r a other x (step c r.command)
    (step_follows c r.command) e is some
kept_on c after r a (Some y) other x is e some = ap (λ (z : Content). get z.receipts other)
    (sym (stays c after (request_digest r) y a e)) ∙ some

-- what is kept under a token is kept for good
pub kept_for_good : (c after : Content) (r : Request) (o : Result Answer Refusal) (other : List ℕ) (x : Receipt)
    → Does c r o after → get c.receipts other ≡ Some x → get after.receipts other ≡ Some x
kept_for_good c after r (Ok a) other x e some = kept_on c after r a (get c.receipts r.token) other x refl e some
kept_for_good c after r (Err k) other x e some = ap (λ (z : Content). get z.receipts other) e.0 ∙ some

-- ---- runs
pub goes_on : (first rest : List Done) (c after : Content) → Runs c (first ++ rest) after → (between : Content)
    × Runs c first between × Runs between rest after
goes_on [] rest c after h = (c, refl, h)
goes_on (done ∷ first) rest c after (next, does, more) = let g = goes_on first rest next after more in
    (g.0, (next, does, g.1), g.2)

pub joined : (first rest : List Done) (c between after : Content) → Runs c first between → Runs between rest after
    → Runs c (first ++ rest) after
joined [] rest c between after here more = rw here at more
joined (done ∷ first) rest c between after run more = (run.0, run.1, joined first rest run.0 between after run.2 more)

-- ---- sound archives, and numbers
none_here : (c : Content) → UsesNoneAgain c c
none_here c = (omega arith, (λ n less h. h), (λ n h. h))

none_between : (c d e : Content) → UsesNoneAgain c d → UsesNoneAgain d e → UsesNoneAgain c e
none_between c d e h k =
    let first : c.next ≤ d.next = h.0 in
    let second : d.next ≤ e.next = k.0 in (
      omega arith,
      (λ n less none. let below : n < d.next = omega arith in k.1 n below (h.1 n less none)),
      (λ n used. k.2 n (h.2 n used)),
    )

-- what holds of what a step leaves, and does not look at receipts, holds of what a request leaves
left : (P : Content → Type 0) → ((d : Content) (receipts : Receipts) → P d → P (record d { receipts = receipts }))
    → (c after : Content) (r : Request) (a : Answer) (s : Step) → ((done : Content × Answer) → s ≡ Ok done → P done.0)
    → kept_under r.token (request_digest r) s ≡ Ok (after, a) → P after
left P blind c after r a (Ok done) h e =
    let same : (left_by r.token (request_digest r) done, done.1) ≡ (after, a) = ok_is _ _ _ refl e in
    subst P (ap (λ (p : Content × Answer). p.0) same) (blind done.0 _ (h done refl))
left P blind c after r a (Err k) h e = absurd (err_is_not k (after, a) _ refl e)

-- it holds of what was there, and of what each step leaves
through : (P : Content → Type 0) → ((d : Content) (receipts : Receipts) → P d → P (record d { receipts = receipts }))
    → (c after : Content) (r : Request) (o : Result Answer Refusal) → P c
    → ((done : Content × Answer) → step c r.command ≡ Ok done → P done.0) → Does c r o after → P after
through P blind c after r (Err k) here h e = subst P (sym e.0) here
through P blind c after r (Ok a) here h e =
    elim (get c.receipts r.token) as (λ o. served c r o ≡ Ok (after, a) → P after) [
      | None ↦ λ f. left P blind c after r a (step c r.command) h f
      | Some x ↦ λ f. subst P (stays c after (request_digest r) x a f) here
    ] e

-- a step leaves a sound archive sound, and uses no number again
step_sound : (c : Content) (k : Command) → HasUtf8Words k → IsSound c → (done : Content × Answer) → step c k ≡ Ok done
    → IsSound done.0
step_sound c k words sound done e = let f : Follows {E = Refusal} (HasUtf8Words k) c (Ok done) =
    subst (Follows (HasUtf8Words k) c) e (step_follows c k) in f.3 words sound

step_again : (c : Content) (k : Command) (done : Content × Answer) → step c k ≡ Ok done → UsesNoneAgain c done.0
step_again c k done e = let f : Follows {E = Refusal} (HasUtf8Words k) c (Ok done) =
    subst (Follows (HasUtf8Words k) c) e (step_follows c k) in f.2

sound_blind : (d : Content) (receipts : Receipts) → IsSound d → IsSound (record d { receipts = receipts })
sound_blind d receipts h = record {
  begun = h.begun;
  bounded = h.bounded;
  distinct = h.distinct;
  named = h.named;
  rules = h.rules;
  slips = h.slips;
  stayed = h.stayed;
  free = h.free;
}

pub request_sound : (c after : Content) (r : Request) (o : Result Answer Refusal) → HasUtf8Words r.command → IsSound c
    → Does c r o after → IsSound after
request_sound c after r o words sound does = through IsSound sound_blind c after r o sound
    (step_sound c r.command words sound) does

request_again : (c after : Content) (r : Request) (o : Result Answer Refusal) → Does c r o after → UsesNoneAgain c after
request_again c after r o does = through (UsesNoneAgain c) (λ d receipts h. h) c after r o (none_here c)
    (step_again c r.command) does

pub run_sound : (dones : List Done) (c after : Content) → EachOf (λ (done : Done). HasUtf8Words done.0.command) dones
    → IsSound c → Runs c dones after → IsSound after
run_sound [] c after words sound h = subst IsSound (sym h) sound
run_sound (done ∷ more) c after words sound (between, does, rest) = run_sound more between after words.1
    (request_sound c between done.0 done.1 words.0 sound does) rest

pub run_again : (dones : List Done) (c after : Content) → Runs c dones after → UsesNoneAgain c after
run_again [] c after h = subst (UsesNoneAgain c) (sym h) (none_here c)
run_again (done ∷ more) c after (between, does, rest) =
    none_between c between after (request_again c between done.0 done.1 does) (run_again more between after rest)
