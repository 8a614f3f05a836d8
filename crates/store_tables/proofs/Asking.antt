-- What is asked of the table `meta` under any schema: it writes nothing.
use Rattle.std.proofs.Common.{
  ◌≡◌,
  inl,
  inr,
  ℕ,
  Bool,
  true,
  false,
  List,
  Ok,
  Err,
  Option,
  None,
  Some,
  [],
  refl,
  sym,
  ap,
  ◌∙◌,
  subst,
  true≢false,
}
use Rattle.std.specs.Prelude.{◌⊎◌, if◌then◌else◌, IfOk, IsSome}
use Rattle.sqlite.specs.Command.{Command}
use Rattle.sqlite.specs.declared.error.Error.{Error}
use Rattle.sqlite.specs.Clock.{timed}
use Rattle.sqlite.specs.Listing.{if_select, is_select, listing_schema, reads_listing, understood}
use Rattle.sqlite.specs.Order.{Row}
use Rattle.sqlite.specs.Schema.{Schema}
use Rattle.sqlite.specs.State.{
  CommitsShowing,
  FailsToQuery,
  FailsToShow,
  IsNotRun,
  IsUnchanged,
  Shown,
  ShowsRows,
  State,
  Survives,
}
use Rattle.sqlite.specs.Tree.{Trees}
use Rattle.sqlite_resolve.specs.Compile.{compiled, first, meaning, planned, returning, with_command}
use Rattle.sqlite_resolve.specs.Lowering.{Checked, and_then}
use Rattle.sqlite_resolve.specs.declared.compiled.Compiled.{Compiled}
use Rattle.sqlite_resolve.specs.declared.error.CompileError.TheVariants.{NoSuchTable}
use Rattle.sqlite_schema.specs.declared.command.Returning.{Returning}
use Rattle.sqlite_tied.specs.Compute.{everything}
use Rattle.record_text.specs.declared.refusal.RefusalKind.TheVariants.{NewerSchema, NotAnArchive}
use Rattle.store_tables.specs.Looking.{IsRefusedStore, meta_query}
use Rattle.store_tables.specs.Telling.{tells_no_archive}
use Rattle.store_tables.proofs.Failing.{by_store}

-- ---- a query has no RETURNING, whatever the schema is
abbrev Found : Type 0
Found = Command × Option Returning

abbrev Plan : Type 0
Plan = List (List ℕ) × Found

abbrev ShowsNone : Schema → List ℕ → Type 0
ShowsNone schema sql = IfOk (first sql) (λ p. (base : ℕ) → returning schema base p.statement ≡ Ok None)

meta_shows_none : (schema : Schema) → ShowsNone schema meta_query
unfolding first returning everything
meta_shows_none schema base = refl

if_then : {A B : Type 0} (R : B → Type 0) (r : Checked A) (f : A → Checked B) → IfOk r (λ a. IfOk (f a) R)
    → IfOk (and_then r f) R
if_then R (Ok a) f h = h
if_then R (Err e) f h = tt

if_each : {A : Type 0} {P Q : A → Type 0} (r : Checked A) → ((a : A) → P a → Q a) → IfOk r P → IfOk r Q
if_each (Ok a) f h = f a h
if_each (Err e) f h = tt

named_none : (command : Checked Command) → IfOk (and_then command (λ c. Ok (c, None))) (λ (f : Found). f.1 ≡ None)
named_none (Ok c) = refl
named_none (Err e) = tt

found_none : (shown : Checked (Option Returning)) (command : Checked Command) → shown ≡ Ok None
    → IfOk (and_then shown (λ s. and_then command (λ c. Ok (c, s)))) (λ (f : Found). f.1 ≡ None)
found_none shown command e =
    subst (λ r. IfOk (and_then r (λ s. and_then command (λ c. Ok (c, s)))) (λ (f : Found). f.1 ≡ None)) (sym e)
    (named_none command)

planned_none : (formats : List (List ℕ)) (found : Checked Found) → IfOk found (λ f. f.1 ≡ None)
    → IfOk (and_then found (λ f. Ok (formats, f))) (λ (plan : Plan). plan.1.1 ≡ None)
planned_none formats (Ok f) h = h
planned_none formats (Err e) h = tt

made_none : (plan : Checked Plan) (make : Plan → Compiled) → ((p : Plan) → (make p).returning ≡ p.1.1)
    → IfOk plan (λ p. p.1.1 ≡ None) → IfOk (and_then plan (λ p. Ok (make p))) (λ c. c.returning ≡ None)
made_none (Ok p) make is h = is p ∙ h
made_none (Err e) make is h = tt

compiled_none : (schema : Schema) (sql : List ℕ) → ShowsNone schema sql
    → IfOk (compiled schema sql) (λ c. c.returning ≡ None)
unfolding compiled planned meaning
compiled_none schema sql shows =
    if_then (λ c. c.returning ≡ None) (first sql)
    (λ p. and_then (planned schema p) (λ plan. Ok (with_command p plan)))
    (if_each (first sql) (λ p none. made_none (planned schema p) (with_command p) (λ plan. refl)
    (planned_none _ _ (found_none _ _ (none _)))) shows)

if_ok_of : {A : Type 0} (P : A → Type 0) (r : Checked A) (a : A) → r ≡ Ok a → IfOk r P → P a
if_ok_of P r a is h = subst (λ x. IfOk x P) is h

ok_is : (a b : Compiled) → ◌≡◌ {A = Checked Compiled} (Ok a) (Ok b) → a ≡ b
ok_is a b e = cc

if_ok : (b : Bool) (c d : Compiled) → (if b then Ok c else Err NoSuchTable) ≡ Ok d → c ≡ d
if_ok true c d e = ok_is c d e
if_ok false c d e = absurd cc

if_select_is : (r : Checked Compiled) (c : Compiled) → if_select r ≡ Ok c → r ≡ Ok c
if_select_is (Ok d) c e = ap Ok (if_ok (is_select d.command) d c e)
if_select_is (Err x) c e = absurd cc

either_is : (b : Bool) (r s : Checked Compiled) (c : Compiled) → (if b then if_select r else s) ≡ Ok c
    → (r ≡ Ok c) ⊎ (s ≡ Ok c)
either_is true r s c e = inl (if_select_is r c e)
either_is false r s c e = inr e

pub meta_none : (schema : Schema) (c : Compiled) → understood schema meta_query ≡ Ok c → c.returning ≡ None
unfolding understood
meta_none schema c e =
    let listing = compiled listing_schema meta_query in
    elim (either_is (reads_listing schema meta_query) listing (compiled schema meta_query) c e) [
      | inl of_listing ↦ if_ok_of (λ (x : Compiled). x.returning ≡ None) listing c of_listing
          (compiled_none listing_schema meta_query (meta_shows_none listing_schema))
      | inr own ↦ if_ok_of (λ (x : Compiled). x.returning ≡ None) (compiled schema meta_query) c own
          (compiled_none schema meta_query (meta_shows_none schema))
    ]

-- ---- so nothing is changed, nor committed
some_is_not : (o : Option Returning) → IsSome o → o ≡ None → ⊥
some_is_not None some none = true≢false (sym some)
some_is_not (Some r) some none = absurd cc

no_commit : (s : State) (db : Trees) → CommitsShowing meta_query [] s db → ⊥
unfolding CommitsShowing
no_commit s db h = some_is_not h.0.returning h.2 (meta_none s.now.schema h.0 h.1.is)

pub meta_survives : (old new : State) → Survives old new (CommitsShowing meta_query [] old)
    → Survives old new (λ _. ⊥)
meta_survives old new h = record {
  clean = h.clean;
  shield = h.shield;
  counts = h.counts;
  limit = h.limit;
  closes = h.closes;
  crash = λ clean db leaves. elim (h.crash clean db leaves) [
    | inl before ↦ inl before
    | inr commits ↦ absurd (no_commit old db commits)
  ];
}

shows_same : (old new : State) (c : Compiled) (params : Row) (rows : List Row) (o : Option Returning) → o ≡ None
    → ShowsRows old new meta_query c params rows o → IsUnchanged old new
shows_same old new c params rows None none h = h.3
shows_same old new c params rows (Some r) none h = absurd cc

pub shown_same : (old new : State) (rows : List Row) → Shown meta_query [] old new rows → IsUnchanged old new
unfolding Shown
shown_same old new rows h = shows_same old new h.0 (timed [] h.0.formats h.1.now) rows h.0.returning
    (meta_none old.now.schema h.0 h.1.is) h.2

fails_same : (old new : State) (c : Compiled) (params : Row) (e : Error) (o : Option Returning) → o ≡ None
    → FailsToShow old new meta_query c params e o → IsUnchanged old new
fails_same old new c params e None none h = h.3
fails_same old new c params e (Some r) none h = absurd cc

not_run_same : (old new : State) (e : Error) → tells_no_archive e ≡ true → IsNotRun old new meta_query [] e
    → IsUnchanged old new
unfolding IsNotRun
not_run_same old new e tells (inl h) = h.1
not_run_same old new e tells (inr h) = absurd (true≢false (sym tells ∙ by_store h.0 e h.1))

lacking_same : (old new : State) (e : Error) → tells_no_archive e ≡ true → FailsToQuery meta_query [] old new e
    → IsUnchanged old new
unfolding FailsToQuery
lacking_same old new e tells (inl h) = not_run_same old new e tells h
lacking_same old new e tells (inr h) = fails_same old new h.0 (timed [] h.0.formats h.1.now) e h.0.returning
    (meta_none old.now.schema h.0 h.1.is) h.2

-- a store that is no archive, or one of a later version, is as it was
pub no_archive_same : (old new : State) → IsRefusedStore old new NotAnArchive → IsUnchanged old new
no_archive_same old new (inl h) = lacking_same old new h.0 h.2 h.1
no_archive_same old new (inr h) = shown_same old new h.0 h.1

pub later_same : (old new : State) → IsRefusedStore old new NewerSchema → IsUnchanged old new
later_same old new h = shown_same old new h.2.0 h.2.1
