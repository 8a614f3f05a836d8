-- Histories one after the other, and what counts of them.
use Rattle.std.proofs.Common.{
  ◌≡◌,
  inl,
  inr,
  Bool,
  true,
  false,
  List,
  [],
  ◌∷◌,
  ◌++◌,
  cond,
  Option,
  None,
  Some,
  Ok,
  refl,
  sym,
  ap,
  ◌∙◌,
  subst,
}
use Rattle.sqlite.specs.State.{State}
use Rattle.archive_state.specs.Content.{Content}
use Rattle.archive_core.specs.Machine.{Done, Runs}
use Rattle.archive_core.specs.declared.request.Request.{Request}
use Rattle.archive_core.proofs.Serving.{joined}
use Rattle.store_tables.specs.Rows.{Rows}
use Rattle.store.specs.Calls.{Performs, RunsOn}
use Rattle.store.specs.Histories.{Allows, MayBeFound, answered, has_failed, in_doubt}
use Rattle.store.specs.Lives.{Counts}

-- ---- calls after calls of which none is in doubt
some_is_not : (r : Request) → ◌≡◌ {A = Option Request} (Some r) None → ⊥
some_is_not r e = absurd cc

doubt_on : (b : Bool) (r : Request) (more : Option Request) → cond b (Some r) more ≡ None → (b ≡ false) × (more ≡ None)
doubt_on true r more e = absurd (some_is_not r e)
doubt_on false r more e = (refl, e)

pub doubt_after : (xs ys : List Done) → in_doubt xs ≡ None → in_doubt (xs ++ ys) ≡ in_doubt ys
doubt_after [] ys none = refl
doubt_after (x ∷ xs) ys none =
    let parts = doubt_on (has_failed x.1) x.0 (in_doubt xs) none in
    ap (λ b. cond b (Some x.0) (in_doubt (xs ++ ys))) parts.0 ∙ doubt_after xs ys parts.1

pub answered_after : (xs ys : List Done) → in_doubt xs ≡ None → answered (xs ++ ys) ≡ xs ++ answered ys
answered_after [] ys none = refl
answered_after (x ∷ xs) ys none =
    let parts = doubt_on (has_failed x.1) x.0 (in_doubt xs) none in
    ap (λ b. cond b [] (x ∷ answered (xs ++ ys))) parts.0 ∙ ap (λ zs. x ∷ zs) (answered_after xs ys parts.1)

allowed_after : (c between found : Content) (xs ys : List Done) (o : Option Request) → Runs c xs between
    → Allows between ys o found → Allows c (xs ++ ys) o found
allowed_after c between found xs ys None first h = joined xs ys c between found first h
allowed_after c between found xs ys (Some r) first h = (h.0, joined xs ys c between h.0 first h.1, h.2)

pub found_after : (c between found : Content) (xs ys : List Done) → in_doubt xs ≡ None → Runs c xs between
    → MayBeFound between ys found → MayBeFound c (xs ++ ys) found
found_after c between found xs ys none first h =
    subst (λ o. Allows c (answered (xs ++ ys)) o found) (sym (doubt_after xs ys none))
    (subst (λ dones. Allows c dones (in_doubt ys) found) (sym (answered_after xs ys none))
    (allowed_after c between found xs (answered ys) (in_doubt ys) first h))

runs_joined : (xs ys : List Done) (c between after : Content) (rows mid now : Rows) → RunsOn c rows xs between mid
    → RunsOn between mid ys after now → RunsOn c rows (xs ++ ys) after now
runs_joined [] ys c between after rows mid now h k =
    subst (λ d. RunsOn d rows ys after now) h.0 (subst (λ r. RunsOn between r ys after now) h.1 k)
runs_joined (x ∷ xs) ys c between after rows mid now h k =
    (h.0, h.1, h.2, h.3, h.4, runs_joined xs ys h.0 between after h.1 mid now h.5 k)

pub performs_then : (a b d : State) (xs ys : List Done) → Performs a xs b → in_doubt xs ≡ None → Performs b ys d
    → Performs a (xs ++ ys) d
performs_then a b d xs ys first none next = record {
  done = λ all society c has.
      let one = first.done none society c has in
      let two = next.done (sym (doubt_after xs ys none) ∙ all) society one.0 one.2 in
      (two.0, joined xs ys c one.0 two.0 one.1 two.1, two.2);
  rows = λ all society c rows was keeps.
      let one = first.rows none society c rows was keeps in
      let two = next.rows (sym (doubt_after xs ys none) ∙ all) society one.0 one.1 one.3 one.4 in (
        two.0,
        two.1,
        runs_joined xs ys c one.0 two.0 rows one.1 two.1 one.2 two.2,
        two.3,
        two.4,
        λ closed. two.5 (one.5 closed),
      );
  crash = λ society c has t leaves.
      let one = first.done none society c has in
      let left = next.crash society one.0 one.2 t leaves in
      (left.0, found_after c one.0 left.0 xs ys none one.1 left.1, left.2);
  clean = first.clean;
}

-- ---- calls after one that is in doubt
doubt_stays_on : (b : Bool) (r : Request) (x y : Option Request) (s : Request) → (x ≡ Some s → y ≡ x)
    → cond b (Some r) x ≡ Some s → cond b (Some r) y ≡ cond b (Some r) x
doubt_stays_on true r x y s more e = refl
doubt_stays_on false r x y s more e = more e

pub doubt_stays : (xs ys : List Done) (s : Request) → in_doubt xs ≡ Some s → in_doubt (xs ++ ys) ≡ in_doubt xs
doubt_stays [] ys s e = absurd cc
doubt_stays (x ∷ xs) ys s e = doubt_stays_on (has_failed x.1) x.0 (in_doubt xs) (in_doubt (xs ++ ys)) s
    (doubt_stays xs ys s) e

answered_on : (b : Bool) (r : Request) (x : Done) (more : Option Request) (xs ys : List Done) (s : Request)
    → (more ≡ Some s → ys ≡ xs) → cond b (Some r) more ≡ Some s
    → cond b [] (x ∷ ys) ≡ cond b [] (x ∷ xs)
answered_on true r x more xs ys s same e = refl
answered_on false r x more xs ys s same e = ap (λ zs. x ∷ zs) (same e)

pub answered_stays : (xs ys : List Done) (s : Request) → in_doubt xs ≡ Some s → answered (xs ++ ys) ≡ answered xs
answered_stays [] ys s e = absurd cc
answered_stays (x ∷ xs) ys s e = answered_on (has_failed x.1) x.0 x (in_doubt xs) (answered xs) (answered (xs ++ ys)) s
    (answered_stays xs ys s) e

pub performs_still : (a b : State) (xs ys : List Done) (s : Request) → Performs a xs b → in_doubt xs ≡ Some s
    → Performs a (xs ++ ys) b
performs_still a b xs ys s first doubted = record {
  done = λ none. absurd (some_is_not s (sym doubted ∙ sym (doubt_stays xs ys s doubted) ∙ none));
  rows = λ none. absurd (some_is_not s (sym doubted ∙ sym (doubt_stays xs ys s doubted) ∙ none));
  crash = λ society c has t leaves.
      let left = first.crash society c has t leaves in (
        left.0,
        subst (λ o. Allows c (answered (xs ++ ys)) o left.0) (sym (doubt_stays xs ys s doubted))
            (subst (λ dones. Allows c dones (in_doubt xs) left.0) (sym (answered_stays xs ys s doubted)) left.1),
        left.2,
      );
  clean = first.clean;
}

-- ---- what counts
pub counted : (calls : List Done) (c found : Content) (o : Option Request) → in_doubt calls ≡ o
    → Allows c (answered calls) o found
    → (dones : List Done) × Counts calls dones × Runs c dones found
counted calls c found None e runs = (answered calls, inl refl, runs)
counted calls c found (Some r) e h = elim h.2 [
  | inl same ↦ (answered calls, inl refl, subst (Runs c (answered calls)) (sym same) h.1)
  | inr did ↦ (
    answered calls ++ (r, Ok did.0) ∷ [],
    inr (r, did.0, e, refl),
    joined (answered calls) ((r, Ok did.0) ∷ []) c h.0 found h.1 (found, did.1, refl),
  )
]
