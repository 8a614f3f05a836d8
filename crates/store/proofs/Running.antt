-- Requests performed one after the other, also after one at which the database failed.
use Rattle.std.proofs.Common.{
  ◌≡◌,
  ◌≤◌,
  Bool,
  true,
  false,
  List,
  [],
  ◌∷◌,
  ◌++◌,
  cond,
  drop,
  length,
  None,
  Some,
  refl,
  sym,
  ap,
  ◌∙◌,
  subst,
  arith,
  true≢false,
}
use Rattle.std.specs.List.{AllByRecursion, zip}
use Rattle.sqlite.specs.Held.{Held, state}
use Rattle.sqlite.specs.State.{HasCleanDisk, State}
use Rattle.sqlite_trees.specs.declared.store.Store.{Ghosts}
use Rattle.archive_core.specs.declared.request.Request.{Request}
use Rattle.store_tables.specs.Calls.{LeavesOnly, Settled}
use Rattle.store_tables.specs.Rows.{Rows}
use Rattle.store.specs.Calls.{Performs}
use Rattle.store.specs.Histories.{AreLost, Outcome, has_failed, in_doubt, must_reopen}
use Rattle.store.specs.Standing.{must_wait}
use Rattle.store.proofs.Histories.{performs_still, performs_then}

pub zip_none : (rs : List Request) → zip {X = Outcome} rs [] ≡ []
zip_none [] = refl
zip_none (r ∷ rs) = refl

pub zip_more : (rs rest : List Request) (os : List Outcome) (r : Request) (o : Outcome) → drop (length os) rs ≡ r ∷ rest
    → zip rs (os ++ o ∷ []) ≡ zip rs os ++ (r, o) ∷ []
zip_more rs rest [] r o e = ap (λ xs. zip xs (o ∷ [])) e ∙ ap (λ xs. (r, o) ∷ xs) (zip_none rest)
    ∙ ap (λ xs. xs ++ (r, o) ∷ []) (sym (zip_none rs))
zip_more [] rest (p ∷ os) r o e = absurd cc
zip_more (q ∷ rs) rest (p ∷ os) r o e = ap (λ xs. (q, p) ∷ xs) (zip_more rs rest os r o e)

pub lost_then : (b m n : Bool) (os : List Outcome) (o : Outcome) → AreLost b os m
    → (m ≡ true → (o ≡ must_reopen) × (n ≡ true)) → (m ≡ false → n ≡ has_failed o) → AreLost b (os ++ o ∷ []) n
lost_then true m n [] o h lost goes = lost h
lost_then false m n [] o h lost goes = goes h
lost_then true m n (p ∷ os) o h lost goes = (h.0, lost_then true m n os o h.1 lost goes)
lost_then false m n (p ∷ os) o h lost goes = lost_then (has_failed p) m n os o h lost goes

-- while an import is open each is refused
pub all_wait : (os : List Outcome) (o : Outcome) → AllByRecursion (λ (p : Outcome). p ≡ must_wait) os → o ≡ must_wait
    → AllByRecursion (λ (p : Outcome). p ≡ must_wait) (os ++ o ∷ [])
all_wait [] o h is = (is, tt)
all_wait (p ∷ os) o h is = (h.0, all_wait os o h.1 is)

stays_lost : (os : List Outcome) (m : Bool) → AreLost true os m → m ≡ true
stays_lost [] m h = h
stays_lost (o ∷ os) m h = stays_lost os m h.1

-- while the archive is not lost, no request is in doubt
none_in_doubt_on : (b : Bool) (rs : List Request) (os : List Outcome) (r : Request) → AreLost b os false
    → (AreLost false os false → in_doubt (zip rs os) ≡ None) → cond b (Some r) (in_doubt (zip rs os)) ≡ None
none_in_doubt_on true rs os r h next = absurd (true≢false (sym (stays_lost os false h)))
none_in_doubt_on false rs os r h next = next h

pub none_in_doubt : (rs : List Request) (os : List Outcome) → AreLost false os false → in_doubt (zip rs os) ≡ None
none_in_doubt [] os h = refl
none_in_doubt (r ∷ rs) [] h = refl
none_in_doubt (r ∷ rs) (o ∷ os) h = none_in_doubt_on (has_failed o) rs os r h (none_in_doubt rs os)

-- once it is lost, one is
one_in_doubt_on : (b : Bool) (rs : List Request) (os : List Outcome) (r : Request) → AreLost b os true
    → (AreLost false os true → (s : Request) × (in_doubt (zip rs os) ≡ Some s))
    → (s : Request) × (cond b (Some r) (in_doubt (zip rs os)) ≡ Some s)
one_in_doubt_on true rs os r h next = (r, refl)
one_in_doubt_on false rs os r h next = next h

pub one_in_doubt : (rs : List Request) (os : List Outcome) → length os ≤ length rs → AreLost false os true
    → (s : Request) × (in_doubt (zip rs os) ≡ Some s)
one_in_doubt rs [] short h = absurd (true≢false h)
one_in_doubt [] (o ∷ os) short h = absurd (omega (arith, short))
one_in_doubt (r ∷ rs) (o ∷ os) short h = one_in_doubt_on (has_failed o) rs os r h
    (one_in_doubt rs os (omega (arith, short)))

-- one more request
pub one_more : {S : Type 0} (g : Ghosts S) (start now next : Held S) (lost : Bool) (rs rest : List Request)
    (os : List Outcome) (r : Request) (o : Outcome)
    → drop (length os) rs ≡ r ∷ rest → length os ≤ length rs → AreLost false os lost
    → Performs (state g start) (zip rs os) (state g now)
    → (lost ≡ false → Performs (state g now) ((r, o) ∷ []) (state g next)) → (lost ≡ true → next ≡ now)
    → Performs (state g start) (zip rs (os ++ o ∷ [])) (state g next)
one_more g start now next false rs rest os r o here short h before goes stays =
    subst (λ calls. Performs (state g start) calls (state g next)) (sym (zip_more rs rest os r o here))
    (performs_then (state g start) (state g now) (state g next) (zip rs os) ((r, o) ∷ []) before
    (none_in_doubt rs os h) (goes refl))
one_more g start now next true rs rest os r o here short h before goes stays =
    let doubted = one_in_doubt rs os short h in
    subst (λ calls. Performs (state g start) calls (state g next)) (sym (zip_more rs rest os r o here))
    (subst (λ s. Performs (state g start) (zip rs os ++ (r, o) ∷ []) (state g s)) (sym (stays refl))
    (performs_still (state g start) (state g now) (zip rs os) ((r, o) ∷ []) doubted.0 before doubted.1))

-- no request
pub performs_none : (s : State) → ((rows : Rows) → Settled s rows → LeavesOnly s rows) → HasCleanDisk s
    → Performs s [] s
performs_none s leaves clean = record {
  done = λ none society c has. (c, refl, has);
  rows = λ none society c rows was keeps. (c, rows, (refl, refl), was, keeps, λ closed. closed);
  crash = λ society c has t l. (c, refl, (has.0, leaves has.0 has.1 t l, has.2));
  clean = clean;
}

pub clean_before : {S : Type 0} (g : Ghosts S) (now next : Held S) (lost : Bool) (r : Request) (o : Outcome)
    → (lost ≡ false → Performs (state g now) ((r, o) ∷ []) (state g next)) → (lost ≡ true → next ≡ now)
    → HasCleanDisk (state g next) → HasCleanDisk (state g now)
clean_before g now next false r o goes stays clean = (goes refl).clean
clean_before g now next true r o goes stays clean = subst (λ h. HasCleanDisk (state g h)) (stays refl) clean
