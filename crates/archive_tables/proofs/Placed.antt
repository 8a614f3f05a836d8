-- A place that was asked for after the place above it was looked for; and places, one after the other.
use Rattle.std.proofs.Common.{
  ◌≡◌,
  ◌⊎◌,
  ◌∙◌,
  ◌+◌,
  ◌<◌,
  ◌++◌,
  [],
  ◌∷◌,
  ℕ,
  Bool,
  List,
  Ok,
  Err,
  add-one,
  ap,
  false,
  get_or,
  inl,
  inr,
  length,
  refl,
  subst,
  sym,
  take,
  true,
}
use Rattle.std.specs.Prelude.{◌||◌, None, Option, Result, cond, is_some}
use Rattle.std.proofs.Math.Seq.{take-suc}
use Rattle.sqlite.specs.Held.{state}
use Rattle.sqlite.specs.State.{State}
use Rattle.sqlite_trees.specs.declared.store.Store.{Ghosts}
use Rattle.archive_state.specs.Content.{Content}
use Rattle.receipts.specs.declared.answer.Answer.{Answer}
use Rattle.record_text.specs.declared.refusal.Refusal.{Refusal}
use Rattle.record_text.specs.declared.refusal.RefusalKind.{RefusalKind}
use Rattle.record_text.specs.declared.refusal.RefusalKind.TheVariants.{OutOfMemory}
use Rattle.store.specs.Histories.{Outcome, has_broken, must_reopen}
use Rattle.store.specs.Shut.{is_shut}
use Rattle.store.specs.Standing.{must_wait}
use Rattle.store.specs.declared.archive.Archive.{Archive}
use Rattle.store_tables.specs.Looking.{IsFailure}
use Rattle.archive_input.specs.Applying.{Steps}
use Rattle.archive_output.specs.Reading.{OnlyReads}
use Rattle.commands.specs.declared.command.Command.TheVariants as command
use Rattle.commands.specs.declared.row_command.RowCommand.TheVariants as row
use Rattle.page_batches.specs.Looks.{Found}
use Rattle.page_batches.specs.Placing.{parent_on, place_token}
use Rattle.page_places.specs.Ways.{name_of}
use Rattle.archive_tables.specs.Ends.{OnRead}
use Rattle.archive_tables.specs.Looking.{IsFound}
use Rattle.archive_tables.specs.Making.{HasMade, IsAsked, IsStopped, Made, MakesPlace, backwards, paths_of}
use Rattle.archive_tables.specs.declared.making.MadePlace.{MadePlace}
use Rattle.archive_tables.proofs.Entered.{true_is_not}

-- the request of a place, by its parts
pub request_is : {S : Type 0} (g : Ghosts S) (token path its_token name : List ℕ) (parent : Option ℕ)
    (old new : Archive S g) (result : Outcome) → its_token ≡ place_token token path → name ≡ name_of path
    → Steps g (Ok (record { token = its_token; command = command.Row (row.Place name parent); digest = None }, result))
    old new → IsAsked g token path parent old result new
request_is g token path its_token name parent old new result et en did =
    let as_named : Steps g (Ok (
      record {
        token = its_token;
        command = command.Row (row.Place (name_of path) parent);
        digest = None;
      },
      result,
    )) old new =
    subst (λ (n : List ℕ). Steps g (Ok (
      record {
        token = its_token;
        command = command.Row (row.Place n parent);
        digest = None;
      },
      result,
    )) old new) en did in
    inl (subst (λ (t : List ℕ). Steps g (Ok (
      record {
        token = t;
        command = command.Row (row.Place (name_of path) parent);
        digest = None;
      },
      result,
    )) old new) et as_named)

read_as : (old new : State) (P Q : Content → Type 0) → ((c : Content) → P c → Q c) → OnRead old new P
    → OnRead old new Q
read_as old new P Q f read clean =
    let at = read clean in (
      at.0,
      λ rows c was seen. let here = at.1 rows c was seen in (f c here.0, here.1),
    )

module _ {S : Type 0} (g : Ghosts S) (token path : List ℕ) (old mid : Archive S g) (reads : OnlyReads g old mid)
    (found : Result Found RefusalKind)
    (looked : OnRead (state g old.conn) (state g mid.conn) (λ c. IsFound found (λ f. f ≡ parent_on c path)))
    (lost : mid.is_lost ≡ has_broken found) where
  abbrev Saw : Result Found RefusalKind → Type 0
  Saw r = OnRead (state g old.conn) (state g mid.conn) (λ c. IsFound r (λ f. f ≡ parent_on c path))

  looked_as : (r : Result Found RefusalKind) → found ≡ r → Saw r
  looked_as r is = subst Saw is looked

  lost_as : (r : Result Found RefusalKind) → found ≡ r → mid.is_lost ≡ has_broken r
  lost_as r is = lost ∙ ap (λ (q : Result Found RefusalKind). has_broken q) is

  pub place_asked : (parent : Option ℕ) → found ≡ Ok (Ok parent) → (result : Outcome) (new : Archive S g)
      → IsAsked g token path parent mid result new → MakesPlace g token path old result new
  place_asked parent is result new asked = inl (record {
    between = mid;
    reads = reads;
    kept = lost_as (Ok (Ok parent)) is;
    parent = parent;
    right = read_as (state g old.conn) (state g mid.conn) (λ c. IsFound (Ok (Ok parent)) (λ f. f ≡ parent_on c path))
        (λ c. parent_on c path ≡ Ok parent) (λ c e. sym e) (looked_as (Ok (Ok parent)) is);
    done = asked;
  })

  pub no_parent : (kind : RefusalKind) → found ≡ Ok (Err kind) → (result : Outcome)
      → result ≡ Err (record { kind = kind; at = None }) → MakesPlace g token path old result mid
  no_parent kind is result r = inr (record {
    why = kind;
    is = r;
    reads = reads;
    lost = λ was. absurd (true_is_not mid.is_lost (lost_as (Ok (Err kind)) is) was);
    right = read_as (state g old.conn) (state g mid.conn) (λ c. IsFound (Ok (Err kind)) (λ f. f ≡ parent_on c path))
        (λ c. IsFailure kind ⊎ (parent_on c path ≡ Err kind)) (λ c e. inr (sym e)) (looked_as (Ok (Err kind)) is);
  })

  pub not_looked : (kind : RefusalKind) → found ≡ Err kind → (result : Outcome)
      → result ≡ Err (record { kind = kind; at = None }) → MakesPlace g token path old result mid
  not_looked kind is result r = inr (record {
    why = kind;
    is = r;
    reads = reads;
    lost = λ was. sym (lost_as (Err kind) is) ∙ was;
    right = read_as (state g old.conn) (state g mid.conn) (λ c. IsFound (Err kind) (λ f. f ≡ parent_on c path))
        (λ c. IsFailure kind ⊎ (parent_on c path ≡ Err kind)) (λ c fails. inl fails) (looked_as (Err kind) is);
  })

-- ---- an archive on which a place was made takes requests still
unlost : (some lost : Bool) → (some || lost) ≡ false → lost ≡ false
unlost true lost h = absurd (true_is_not true h refl)
unlost false lost h = h

module _ {S : Type 0} (g : Ghosts S) (token : List ℕ) where
  kept_by : (path : List ℕ) (parent : Option ℕ) (old new : Archive S g) (answer : Answer) → old.is_lost ≡ false
      → (shut : Bool) → is_shut old ≡ shut → IsAsked g token path parent old (Ok answer) new → new.is_lost ≡ false
  kept_by path parent old new answer kept false takes (inl steps) =
      unlost (is_some new.import) new.is_lost (steps.1 takes)
  kept_by path parent old new answer kept true shut (inl steps) =
      let waits : Ok answer ≡ must_wait = (steps.2 shut).0.0 ∙ ap (λ (l : Bool). cond l must_reopen must_wait) kept in
      absurd cc
  kept_by path parent old new answer kept shut is (inr wants) =
      let never : Ok answer ≡ Err (record { kind = OutOfMemory; at = None }) = wants.0 in absurd cc

  pub still_kept : (path : List ℕ) (old new : Archive S g) (answer : Answer)
      → MakesPlace g token path old (Ok answer) new → new.is_lost ≡ false
  still_kept path old new answer (inl asks) =
      kept_by path asks.parent asks.between new answer asks.kept (is_shut asks.between) refl asks.done
  still_kept path old new answer (inr none) =
      let never : Ok answer ≡ Err (record { kind = none.why; at = None }) = none.is in absurd cc

  -- ---- places, one after the other
  backwards_more : (made : List MadePlace) (m : MadePlace) → backwards (made ++ m ∷ []) ≡ m ∷ backwards made
  backwards_more [] m = refl
  backwards_more (x ∷ made) m = ap (λ (l : List MadePlace). l ++ x ∷ []) (backwards_more made m)

  paths_more : (made : List MadePlace) (m : MadePlace) → paths_of (made ++ m ∷ []) ≡ paths_of made ++ m.path ∷ []
  paths_more [] m = refl
  paths_more (x ∷ made) m = ap (λ (l : List (List ℕ)). x.path ∷ l) (paths_more made m)

  pub none_yet : (paths : List (List ℕ)) (made : List MadePlace) (old : Archive S g) → made ≡ []
      → old.is_lost ≡ false → HasMade g token paths 0 made old old
  none_yet paths made old none kept = record {
    first = ap paths_of none;
    made_so = subst (λ (ms : List MadePlace). Made g token old (backwards ms) old) (sym none) refl;
    kept = kept;
  }

  pub one_more : (paths : List (List ℕ)) (n : ℕ) (made more : List MadePlace) (old mid new : Archive S g)
      (path said : List ℕ) (answer : Answer) → n < length paths → path ≡ get_or paths n path → said ≡ path
      → more ≡ made ++ record { number = answer.first; path = said } ∷ [] → HasMade g token paths n made old mid
      → MakesPlace g token said mid (Ok answer) new → HasMade g token paths (n + 1) more old new
  one_more paths n made more old mid new path said answer less is same e has makes =
      let m : MadePlace = record { number = answer.first; path = said } in
      record {
        first = ap paths_of e
            ∙ (paths_more made m
            ∙ (ap (λ (ps : List (List ℕ)). ps ++ said ∷ []) has.first
            ∙ (ap (λ (p : List ℕ). take n paths ++ p ∷ []) (same ∙ is)
            ∙ (sym (take-suc paths n path less) ∙ ap (λ (k : ℕ). take k paths) (sym (add-one n))))));
        made_so = subst (λ (ms : List MadePlace). Made g token old ms new)
            (sym (ap backwards e ∙ backwards_more made m)) (mid, answer, has.made_so, makes, refl);
        kept = still_kept said mid new answer makes;
      }

  pub not_made : (paths : List (List ℕ)) (n : ℕ) (made : List MadePlace) (old mid new : Archive S g)
      (path said : List ℕ) (e : Refusal) → n < length paths → path ≡ get_or paths n path → said ≡ path
      → HasMade g token paths n made old mid → MakesPlace g token said mid (Err e) new
      → IsStopped g token paths made old e new
  not_made paths n made old mid new path said e less is same has makes = record {
    mid = mid;
    n = n;
    path = path;
    before = has;
    within = less;
    is = is;
    why = inl (subst (λ (p : List ℕ). MakesPlace g token p mid (Err e) new) same makes);
  }

  pub not_added : (paths : List (List ℕ)) (n : ℕ) (made more : List MadePlace) (old mid new : Archive S g)
      (path said : List ℕ) (answer : Answer) → n < length paths → path ≡ get_or paths n path → said ≡ path
      → more ≡ made
      → HasMade g token paths n made old mid → MakesPlace g token said mid (Ok answer) new
      → IsStopped g token paths more old (record { kind = OutOfMemory; at = None }) new
  not_added paths n made more old mid new path said answer less is same kept has makes = record {
    mid = mid;
    n = n;
    path = path;
    before = subst (λ (ms : List MadePlace). HasMade g token paths n ms old mid) (sym kept) has;
    within = less;
    is = is;
    why = inr (refl, answer, subst (λ (p : List ℕ). MakesPlace g token p mid (Ok answer) new) same makes);
  }
