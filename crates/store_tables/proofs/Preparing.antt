-- Queries prepared one after the other.
use Rattle.std.proofs.Common.{
  ◌≡◌,
  inl,
  inr,
  ◌≤◌,
  ℕ,
  List,
  [],
  ◌∷◌,
  ◌++◌,
  true,
  false,
  Result,
  Ok,
  Err,
  OnOk,
  IfOk,
  IfErr,
  IsTrue,
  refl,
  sym,
  ap,
  subst,
  ◌∙◌,
  arith,
  Bool,
}
use Rattle.std.proofs.lemmas.Bool.{cases_Bool}
use Rattle.std.specs.List.{AllByRecursion}
use Rattle.std.specs.Prelude.{⊤}
use Rattle.std.proofs.lemmas.Result.{IfErr-weaker}
use Rattle.sqlite.specs.declared.error.Error.{Error}
use Rattle.sqlite.specs.Effect.{Database}
use Rattle.sqlite.specs.Listing.{understood}
use Rattle.sqlite.specs.Order.{Row}
use Rattle.sqlite.specs.Outline.{Outline}
use Rattle.sqlite.specs.State.{
  State,
  HasCleanDisk,
  HasCause,
  IsNoStatement,
  IsNotRun,
  IsRolledBack,
  IsUnchanged,
  Survives,
}
use Rattle.sqlite.specs.Steps.{Outlines}
use Rattle.sqlite.specs.Tree.{Trees}
use Rattle.sqlite.proofs.Callers.{IsPlain, unchanged_then}
use Rattle.sqlite_resolve.specs.declared.compiled.Compiled.{Compiled}
use Rattle.sqlite_resolve.specs.declared.error.CompileError.{CompileError}
use Rattle.sqlite_rules.specs.Lists.{Has}
use Rattle.sqlite_trees.specs.declared.error.StoreError.{StoreError}
use Rattle.sqlite_trees.specs.declared.error.StoreError.TheVariants.{OutOfMemory, Io, Corrupt, Full, Broken, Unstorable}
use Rattle.record_text.specs.declared.refusal.RefusalKind.{RefusalKind}
use Rattle.record_text.specs.declared.refusal.RefusalKind.TheVariants.{Storage, NotAnArchive}
use Rattle.store_tables.specs.Looking.{IsFailure, Looks, version_number}
use Rattle.store_tables.specs.Prepared.{IsUnderstood, NamesMissing, IsRefusedTables, PreparesAll}
use Rattle.store_tables.specs.Calls.{Settled}
use Rattle.store_tables.specs.Rows.{Rows}
use Rattle.store_tables.specs.Schema.{archive_schema}
use Rattle.store_tables.specs.declared.version.Version.{Version}
use Rattle.store_tables.specs.Telling.{tells_no_archive}
use Rattle.store_tables.proofs.Calls.{on_ok}
use Rattle.store_tables.proofs.Failing.{by_store}
use Rattle.store_tables.proofs.Queries.{still_settled, only_committed}

-- ---- one query
outlined : (r : Result Compiled CompileError) (s : Outline) → Outlines r s → (c : Compiled) × (r ≡ Ok c)
outlined (Ok c) s h = (c, refl)
outlined (Err e) s h = absurd h

true_false : {A : Type 0} (e : Error) → tells_no_archive e ≡ true → tells_no_archive e ≡ false → A
true_false e tells none = absurd (let clash = sym tells ∙ none in cc)

-- an error that tells of a missing table or column comes of the text, and nothing is changed
names_missing : (old new : State) (sql : List ℕ) (e : Error) → IsNotRun old new sql [] e → tells_no_archive e ≡ true
    → IsUnchanged old new × NamesMissing old.now.schema sql
unfolding IsNotRun
names_missing old new sql e (inl (inl why, same)) tells =
    (same, (why.0, why.1, sym (ap tells_no_archive why.2) ∙ tells))
names_missing old new sql e (inl (inr (c, is, inl why), same)) tells = true_false e tells (ap tells_no_archive why.1)
names_missing old new sql e (inl (inr (c, is, inr (inl why)), same)) tells = true_false e tells
    (ap tells_no_archive why.1)
names_missing old new sql e (inl (inr (c, is, inr (inr why)), same)) tells = true_false e tells
    (ap tells_no_archive why.1)
names_missing old new sql e (inr failed) tells = true_false e tells (by_store failed.0 e failed.1)

pub prepared : {A : Type 0} (sql : List ℕ) (old new : State) (s : Outline) (result : Result A RefusalKind)
    (a : A) → result ≡ Ok a
    → (HasCleanDisk new → IsUnchanged old new) → (HasCleanDisk new → Outlines (understood old.now.schema sql) s)
    → Survives old new (λ _. ⊥) → PreparesAll (sql ∷ []) old new result
prepared sql old new s result a is same shape survives = subst (PreparesAll (sql ∷ []) old new) (sym is) (record {
  same = same;
  told = λ clean. (outlined (understood old.now.schema sql) s (shape clean), tt);
  refused = λ clean. tt;
  survives = survives;
})

pub not_prepared : {A : Type 0} (sql : List ℕ) (old new : State) (e : Error) (result : Result A RefusalKind)
    (kind : RefusalKind) → result ≡ Err kind
    → (HasCleanDisk new → IsNotRun old new sql [] e) → (tells_no_archive e ≡ true → kind ≡ NotAnArchive)
    → (tells_no_archive e ≡ false → kind ≡ Storage) → Survives old new (λ _. ⊥)
    → PreparesAll (sql ∷ []) old new result
not_prepared sql old new e result kind is fails missing other survives = subst (PreparesAll (sql ∷ []) old new)
    (sym is) (record {
      same = λ clean. tt;
      told = λ clean. tt;
      refused = λ clean. elim (cases_Bool (tells_no_archive e)) [
        | inl tells ↦ subst (IsRefusedTables (sql ∷ []) old new) (sym (missing tells))
            (let missing_in = names_missing old new sql e (fails clean) tells in
            (missing_in.0, (sql, inl refl, missing_in.1)))
        | inr tells ↦ subst (IsRefusedTables (sql ∷ []) old new) (sym (other tells))
            (sql, inl refl, (e, fails clean, tells))
      ];
      survives = survives;
    })

-- ---- the same, seen from a call before that changed nothing
module _ (old mid new : State) (same : IsUnchanged old mid) (counts : old.faults ≤ mid.faults) where
  rolled_back : IsRolledBack mid new → IsRolledBack old new
  rolled_back h = record {
    was_open = λ is_open. same.0.was_open;
    undone = λ is_open. ((h.undone is_open).0 ∙ same.0.committed_is, (h.undone is_open).1 ∙ same.0.committed_is);
    autocommit = h.autocommit;
    unmarked = h.unmarked;
    counts = record {
      changes = h.counts.changes ∙ same.1.changes;
      last_rowid = h.counts.last_rowid
          ∙ same.1.last_rowid;
    };
  }

  caused : (cause : StoreError) → HasCause mid new ⊥ cause → HasCause old new ⊥ cause
  caused OutOfMemory h = tt
  caused Io h = omega (arith, h, counts)
  caused Corrupt h = omega (arith, h, counts)
  caused Full h = omega (arith, h, counts)
  caused Broken h = absurd (let is_open = same.0.is_open in cc)
  caused Unstorable h = absurd h

  schema_is : mid.now.schema ≡ old.now.schema
  schema_is = ap (λ (d : Database). d.schema) same.0.now_is

  no_statement : (sql : List ℕ) (params : Row) (e : Error) → IsNoStatement mid sql params e
      → IsNoStatement old sql params e
  no_statement sql params e (inl why) = inl (why.0, sym (ap (λ s. understood s sql) schema_is) ∙ why.1, why.2)
  no_statement sql params e (inr why) = inr (why.0, sym (ap (λ s. understood s sql) schema_is) ∙ why.1, why.2)

  pub not_run_before : (sql : List ℕ) (params : Row) (e : Error) → IsNotRun mid new sql params e
      → IsNotRun old new sql params e
  unfolding IsNotRun
  not_run_before sql params e (inl h) = inl (no_statement sql params e h.0, unchanged_then old mid new same h.1)
  not_run_before sql params e (inr h) = inr (h.0, h.1, caused h.0 h.2, rolled_back h.3, h.4)

  -- a later query is refused as it would be at first
  refused_before : (queries : List (List ℕ)) (kind : RefusalKind) → IsRefusedTables queries mid new kind
      → IsRefusedTables queries old new kind
  refused_before queries Storage why = (why.0, why.1, (why.2.0, not_run_before why.0 [] why.2.0 why.2.1, why.2.2))
  refused_before queries NotAnArchive why = (
    unchanged_then old mid new same why.0,
    (why.1.0, why.1.1, subst (λ s. NamesMissing s why.1.0) schema_is why.1.2),
  )
  refused_before queries _ why = absurd why

-- ---- one query after the other
has_more : {X : Type 0} (xs ys : List X) (x : X) → Has xs x → Has (xs ++ ys) x
has_more [] ys x has = absurd has
has_more (y ∷ xs) ys x (inl is) = inl is
has_more (y ∷ xs) ys x (inr has) = inr (has_more xs ys x has)

has_behind : {X : Type 0} (xs ys : List X) (x : X) → Has ys x → Has (xs ++ ys) x
has_behind [] ys x has = has
has_behind (y ∷ xs) ys x has = inr (has_behind xs ys x has)

all_both : {X : Type 0} (P : X → Type 0) (xs ys : List X) → AllByRecursion P xs → AllByRecursion P ys
    → AllByRecursion P (xs ++ ys)
all_both P [] ys p q = q
all_both P (x ∷ xs) ys p q = (p.0, all_both P xs ys p.1 q)

refused_among : (old new : State) (queries more : List (List ℕ)) → ((sql : List ℕ) → Has queries sql → Has more sql)
    → (kind : RefusalKind) → IsRefusedTables queries old new kind → IsRefusedTables more old new kind
refused_among old new queries more within Storage why = (why.0, within why.0 why.1, why.2)
refused_among old new queries more within NotAnArchive why = (why.0, (why.1.0, within why.1.0 why.1.1, why.1.2))
refused_among old new queries more within _ why = absurd why

pub survives_both : (old mid new : State) → Survives old mid (λ _. ⊥) → Survives mid new (λ _. ⊥)
    → Survives old new (λ _. ⊥)
survives_both old mid new p q = record {
  clean = omega (arith, p.clean, q.clean);
  shield = λ shield. q.shield (p.shield shield);
  counts = omega (arith, p.counts, q.counts);
  limit = q.limit ∙ p.limit;
  closes = λ clean was_open. elim (p.closes (omega (arith, q.clean, clean)) was_open) [
    | inl is_open ↦ elim (q.closes clean is_open) [
      | inl still ↦ inl still
      | inr faults ↦
          inr (omega (arith, faults, p.counts))
    ]
    | inr faults ↦ inr (omega (arith, faults, q.counts))
  ];
  crash = λ clean db leaves. elim (q.crash clean db leaves) [
    | inl before ↦
        p.crash (omega (arith, q.clean, clean)) db before
    | inr commits ↦ absurd commits
  ];
}

-- the queries of two calls
pub prepared_then : {A B : Type 0} (queries more : List (List ℕ)) {old mid new : State} {a : A}
    {result : Result B RefusalKind} → PreparesAll queries old mid (Ok a) → PreparesAll more mid new result
    → PreparesAll (queries ++ more) old new result
prepared_then queries more {old} {mid} {new} {result = result} p q = record {
  same = λ clean. on_ok result (unchanged_then old mid new (p.same (still clean))) (q.same clean);
  told = λ clean. on_ok result (λ all. all_both (IsUnderstood old.now.schema) queries more (p.told (still clean))
      (subst (λ s. AllByRecursion (IsUnderstood s) more)
      (schema_is old mid new (p.same (still clean)) p.survives.counts) all)) (q.told clean);
  refused = λ clean. IfErr-weaker result _ _ (λ kind why. refused_among old new more (queries ++ more)
      (has_behind queries more) kind
      (refused_before old mid new (p.same (still clean)) p.survives.counts more kind why)) (q.refused clean);
  survives = survives_both old mid new p.survives q.survives;
}
  where
    still : HasCleanDisk new → HasCleanDisk mid
    still clean = omega (arith, q.survives.clean, clean)

-- a query that is refused is the last
pub prepared_lost : {A B : Type 0} (queries more : List (List ℕ)) {old new : State} {kind : RefusalKind}
    (result : Result B RefusalKind) → result ≡ Err kind → PreparesAll {A = A} queries old new (Err kind)
    → PreparesAll (queries ++ more) old new result
prepared_lost queries more {old} {new} {kind} result is p = subst (PreparesAll (queries ++ more) old new)
    (sym is) (record {
      same = λ clean. tt;
      told = λ clean. tt;
      refused = λ clean. refused_among old new queries (queries ++ more) (has_more queries more) kind (p.refused clean);
      survives = p.survives;
    })

-- ---- on settled tables
not_missing : (b : Bool) (sql : List ℕ) → IsPlain (understood (archive_schema b) sql)
    → ¬ NamesMissing (archive_schema b) sql
not_missing b sql plain why = subst IsPlain why.1 plain

refused_settled : (b : Bool) (queries : List (List ℕ))
    → AllByRecursion (λ sql. IsPlain (understood (archive_schema b) sql)) queries
    → (old new : State) → old.now.schema ≡ archive_schema b → (kind : RefusalKind)
    → IsRefusedTables queries old new kind
    → IsFailure kind
refused_settled b queries plain old new has Storage why = inr refl
refused_settled b queries plain old new has NotAnArchive why =
    absurd (not_missing b why.1.0 (all_has queries plain why.1.0 why.1.1)
    (subst (λ s. NamesMissing s why.1.0) has why.1.2))
  where
    all_has : (xs : List (List ℕ)) → AllByRecursion (λ sql. IsPlain (understood (archive_schema b) sql)) xs
        → (x : List ℕ)
        → Has xs x → IsPlain (understood (archive_schema b) x)
    all_has [] all x has = absurd has
    all_has (y ∷ xs) all x (inl is) = subst (λ sql. IsPlain (understood (archive_schema b) sql)) (sym is) all.0
    all_has (y ∷ xs) all x (inr has) = all_has xs all.1 x has
refused_settled b queries plain old new has _ why = absurd why

any_read : {A E : Type 0} {P : A → Type 0} (r : Result A E) → ((a : A) → P a) → IfOk r P
any_read (Ok a) h = h a
any_read (Err e) h = tt

same_read : {A E : Type 0} {P Q : Type 0} (r : Result A E) → (P → Q) → OnOk r P → IfOk r (λ _. Q)
same_read (Ok a) f h = f h
same_read (Err e) f h = tt

-- queries that are plain under the schema of an archive are refused only for a failure
pub looks_prepared : {A : Type 0} (queries : List (List ℕ)) (b : Bool)
    → AllByRecursion (λ sql. IsPlain (understood (archive_schema b) sql)) queries
    → (old new : State) → old.now.schema ≡ archive_schema b → (result : Result A RefusalKind)
    → (IsTrue old.is_open → (t : Trees) → old.may_leave t → t ≡ old.committed.trees)
    → PreparesAll queries old new result → Looks (λ _ _. ⊤) old new result
looks_prepared queries b plain old new has result only p = record {
  read = λ clean. any_read result (λ a rows was. tt);
  same = λ clean. same_read result (λ same rows was. still_settled old new rows same was) (p.same clean);
  refused = λ clean. IfErr-weaker result _ _
      (λ kind why rows was. refused_settled b queries plain old new has kind why) (p.refused clean);
  crash = λ clean rows was t leaves. elim (p.survives.crash clean t leaves) [
    | inl before ↦
        only_committed old rows t was (only was.is_open t before)
    | inr commits ↦ absurd commits
  ];
  clean = λ clean. omega (arith, p.survives.clean, clean);
}

-- tables that show the version that was found are looked at as in one call
pub looks_at_tables : {B : Type 0} {queries : List (List ℕ)} (old mid new : State) (version : Version)
    (result : Result B RefusalKind)
    → Looks (λ rows (found : Version). rows.version ≡ version_number found) old mid (Ok version)
    → PreparesAll queries mid new result
    → ((rows : Rows) → Settled mid rows → rows.version ≡ version_number version → Looks (λ _ _. ⊤) mid new result)
    → Looks (λ _ _. ⊤) old new result
looks_at_tables {B} old mid new version result first p then = record {
  read = λ clean. any_read result (λ b rows was. tt);
  same = λ clean. same_read result
      (λ same rows was. still_settled mid new rows same (first.same (before clean) rows was)) (p.same clean);
  refused = λ clean. each_settled result (first.same (before clean)) (λ rows was. (at clean rows was).refused clean);
  crash = λ clean rows was. (at clean rows was).crash clean rows (first.same (before clean) rows was);
  clean = λ clean. first.clean (before clean);
}
  where
    before : HasCleanDisk new → HasCleanDisk mid
    before clean = omega (arith, p.survives.clean, clean)

    at : HasCleanDisk new → (rows : Rows) → Settled old rows → Looks (λ _ _. ⊤) mid new result
    at clean rows was = then rows (first.same (before clean) rows was) (first.read (before clean) rows was)

    each_settled : (r : Result B RefusalKind) → ((rows : Rows) → Settled old rows → Settled mid rows)
        → ((rows : Rows) → Settled old rows → IfErr r (λ kind. (it : Rows) → Settled mid it → IsFailure kind))
        → IfErr r (λ kind. (rows : Rows) → Settled old rows → IsFailure kind)
    each_settled (Ok b) to h = tt
    each_settled (Err kind) to h = λ rows was. h rows was rows (to rows was)
