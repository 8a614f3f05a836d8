-- What one INSERT of one row, one DELETE and one UPDATE make of the trees, for any schema.
use Rattle.std.proofs.Common.{
  ◌≡◌,
  ◌⊎◌,
  inl,
  inr,
  ℕ,
  List,
  [],
  ◌∷◌,
  slice_get,
  Bool,
  true,
  false,
  cond,
  Some,
  None,
  Ok,
  Err,
  Result,
  refl,
  sym,
  ap,
  subst,
  ◌∙◌,
  length,
  ◌/◌,
  MatchBool,
  if◌then◌else◌,
  zero,
  suc,
  ◌++◌,
  ℤ,
  nat_lt,
}
use Rattle.sqlite.specs.declared.types.Value.{Value}
use Rattle.sqlite.specs.declared.types.Value.TheVariants.{Null, Int}
use Rattle.sqlite.specs.Order.{Row}
use Rattle.sqlite.specs.Term.{Term}
use Rattle.sqlite.specs.Ops.{unary}
use Rattle.sqlite.specs.Table.{Table}
use Rattle.sqlite.specs.Schema.{Schema}
use Rattle.sqlite.specs.Kind.TheVariants.{Integer}
use Rattle.sqlite.specs.Source.TheVariants.{Values}
use Rattle.sqlite.specs.Command.TheVariants.{Insert, Delete, Update}
use Rattle.sqlite.specs.Edit.{Edit, edit_of}
use Rattle.sqlite.specs.Cast.{cast}
use Rattle.sqlite.specs.Rowids.{Rowids}
use Rattle.sqlite.specs.Rowids.TheVariants.{Chosen, Given}
use Rattle.sqlite.specs.Does.{Tally, Does}
use Rattle.sqlite.specs.Rows.{Written, Outcome, stamped}
use Rattle.sqlite.specs.Tree.{Trees}
use Rattle.sqlite_schema.specs.declared.schema.Keys.TheVariants.{Enforced}
use Rattle.std.specs.List.{AllByRecursion}
use Rattle.sqlite_schema.specs.declared.schema.Keys.{Keys}
use Rattle.sqlite_rules.specs.Edit.{taken_by, Applies}
use Rattle.sqlite_rules.specs.Action.{Writes, Work, works, refuses, Leads, ActsOn, End, max_depth}
use Rattle.sqlite.specs.Effect.{Database, Answers, value_rows}
use Rattle.sqlite_schema.specs.declared.program.Program.{Program}
use Rattle.sqlite_rules.specs.Calls.{ids_of}
use Rattle.sqlite.specs.State.{State, mode_of}

-- a part that gave a value did not stop on the way
pub went : {B E R : Type 0} {b : B} {Stops : E → Type 0} → ((stop : E) × Stops stop × (Ok b ≡ Err stop)) ⊎ R → R
went (inl stopped) = absurd (let e = stopped.2 in cc)
went (inr on) = on

pub same_value : {B E : Type 0} {a b : B} → ◌≡◌ {A = Result B E} (Ok a) (Ok b) → a ≡ b
same_value e = cc

either : (b : Bool) (x : Value) → cond b x x ≡ x
either true x = refl
either false x = refl

pub cast_null : cast Integer Null ≡ Null
unfolding unary
cast_null = either _ Null

pub cast_int : (n : _) → cast Integer (Int n) ≡ Int n
unfolding unary
cast_int n = either _ (Int n)

uncounts : (b x : Bool) (A C : Type 0) → b ≡ false → MatchBool (if b then x else false) A C → C
uncounts true x A C none h = absurd cc
uncounts false x A C none h = h

chosen : (b : Bool) (above : Rowids) → b ≡ false → (if b then above else Chosen) ≡ Chosen
chosen true above none = absurd cc
chosen false above none = refl

-- one INSERT of VALUES into a table with no AUTOINCREMENT: the edit that it is
module _ (schema : Schema) (table : Table) (at : ℕ) (listed : slice_get schema.tables at ≡ Some table)
    (uncounted : table.is_counted ≡ false) where
  pub inserts : (old : State) (after : Database) (tally : Tally) (params : Row) (text : List ℕ) (terms : List Term)
      (width : ℕ) → old.now.schema ≡ schema
      → Does old.step_limit (mode_of old) params old.now text None (Insert at (Values terms width)) (Ok (tally, after))
      → (after.schema ≡ schema)
      × Writes schema Enforced old.now.trees
      (edit_of old.now.trees table [] Chosen 0
      (value_rows (stamped table params) width (length terms / width) terms)) (Ok after.trees)
  inserts old after tally params text terms width has h =
      let db = old.now.trees in
      let here = rw listed at
      (subst (λ s. Does old.step_limit (mode_of old) params (record old.now { schema = s }) text None
      (Insert at (Values terms width)) (Ok (tally, after))) has h) in
      let done = went here in
      let now = ap (λ (p : Tally × Database). p.1) (same_value (went (went done.2).2).2) in
      let given = went done.1 in
      let written = went (went given.2).2 in
      let counted = went written.2 in
      let trees : done.0.trees ≡ written.0 = ap (λ (it : Written). it.trees) (same_value counted.2)
      ∙ same_value (uncounts table.is_counted _ _ (◌≡◌ {A = Outcome Trees} (Ok counted.0) (Ok written.0))
      uncounted counted.1) in
      let edited : Writes schema Enforced db (edit_of db table [] Chosen 0 given.0) (Ok written.0) = subst
      (λ r. Writes schema Enforced db (edit_of db table [] r 0 given.0) (Ok written.0))
      (chosen table.is_counted _ uncounted) written.1 in
      let last : written.0 ≡ after.trees = sym (ap (λ (d : Database). d.trees) now ∙ trees) in
      let ends : Writes schema Enforced db (edit_of db table [] Chosen 0 given.0) (Ok after.trees) = subst
      (λ t. Writes schema Enforced db (edit_of db table [] Chosen 0 given.0) (Ok t)) last edited in (
        ap (λ (d : Database). d.schema) now,
        subst (λ all. Writes schema Enforced db (edit_of db table [] Chosen 0 all) (Ok after.trees)) given.1.1 ends,
      )

  pub deletes : (old : State) (after : Database) (tally : Tally) (params : Row) (text : List ℕ) (q : Program)
      → old.now.schema ≡ schema
      → Does old.step_limit (mode_of old) params old.now text None (Delete at q) (Ok (tally, after))
      → (after.schema ≡ schema)
      × (rows : List Row) × Answers (record { schema = schema; trees = old.now.trees }) q params rows
      × Writes schema Enforced old.now.trees (edit_of old.now.trees table (ids_of rows) Given 0 []) (Ok after.trees)
  deletes old after tally params text q has h =
      let db = old.now.trees in
      let here = rw listed at
      (subst (λ s. Does old.step_limit (mode_of old) params (record old.now { schema = s }) text None (Delete at q)
      (Ok (tally, after))) has h) in
      let done = went here in
      let now = ap (λ (p : Tally × Database). p.1) (same_value (went (went done.2).2).2) in
      let found = went done.1 in
      let written = went found.2 in
      let trees : done.0.trees ≡ written.0 = ap (λ (it : Written). it.trees) (same_value written.2) in
      let last : written.0 ≡ after.trees = sym (ap (λ (d : Database). d.trees) now ∙ trees) in (
        ap (λ (d : Database). d.schema) now,
        found.0,
        found.1,
        subst (λ t. Writes schema Enforced db (edit_of db table (ids_of found.0) Given 0 []) (Ok t)) last written.1,
      )

  pub updates : (old : State) (after : Database) (tally : Tally) (params : Row) (text : List ℕ) (q : Program)
      → old.now.schema ≡ schema
      → Does old.step_limit (mode_of old) params old.now text None (Update at q) (Ok (tally, after))
      → (after.schema ≡ schema)
      × (rows : List Row) × Answers (record { schema = schema; trees = old.now.trees }) q params rows
      × Writes schema Enforced old.now.trees (edit_of old.now.trees table (ids_of rows) Given 1 rows) (Ok after.trees)
      × (tally.rows ≡ Some (length (edit_of old.now.trees table (ids_of rows) Given 1 rows).news))
  updates old after tally params text q has h =
      let db = old.now.trees in
      let here = rw listed at
      (subst (λ s. Does old.step_limit (mode_of old) params (record old.now { schema = s }) text None (Update at q)
      (Ok (tally, after))) has h) in
      let done = went here in
      let now = ap (λ (p : Tally × Database). p.1) (same_value (went (went done.2).2).2) in
      let found = went done.1 in
      let written = went found.2 in
      let trees : done.0.trees ≡ written.0 = ap (λ (it : Written). it.trees) (same_value written.2) in
      let last : written.0 ≡ after.trees = sym (ap (λ (d : Database). d.trees) now ∙ trees) in (
        ap (λ (d : Database). d.schema) now,
        found.0,
        found.1,
        subst (λ t. Writes schema Enforced db (edit_of db table (ids_of found.0) Given 1 found.0) (Ok t)) last
            written.1,
        ap (λ (p : Tally × Database). p.0.rows) (same_value (went (went done.2).2).2)
            ∙ ap (λ (it : Written). Some (length it.rows)) (same_value written.2),
      )

abbrev pub Restrict : Work → Type 0
Restrict w = refuses w.deed ≡ true

-- a list that ends with an item, and what holds of each
front : {X : Type 0} (P : X → Type 0) (xs : List X) (x : X) → AllByRecursion P (xs ++ x ∷ [])
    → AllByRecursion P xs × P x
front P [] x h = (tt, h.0)
front P (y ∷ ys) x h = let more = front P ys x h.1 in ((h.0, more.0), more.1)

when_true : (b : Bool) (A B : Type 0) → b ≡ true → MatchBool b A B → A
when_true true A B e m = m
when_true false A B e m = absurd cc

when_not : (b : Bool) (A B : Type 0) → ¬ B → MatchBool b A B → A
when_not true A B none m = m
when_not false A B none m = absurd (none m)

no_error : {A E : Type 0} {a : A} {e : E} → ¬ ◌≡◌ {A = Result A E} (Ok a) (Err e)
no_error e = cc

on_children : (schema : Schema) (keys : Keys) (Then : Trees → List Work → End → Type 0) (db next : Trees) (w : Work)
    (below : List Work) (ids : List ℤ) → Restrict w
    → ActsOn schema keys Then db w below (Ok next) ids → Then db below (Ok next)
on_children schema keys Then db next w below [] restrict acts = acts
on_children schema keys Then db next w below (id ∷ ids) restrict acts =
    absurd (no_error (when_true (refuses w.deed) _ _ restrict acts))

-- where each key that acts restricts, a step that is not refused sets off nothing
settled : (schema : Schema) (keys : Keys) (n : ℕ) (db next : Trees) (stack : List Work) → AllByRecursion Restrict stack
    → Leads schema keys n db stack (Ok next) → next ≡ db
settled schema keys zero db next stack all h = same_value h.1
settled schema keys (suc n) db next stack all h =
    let parts = front Restrict h.0 h.1 (subst (AllByRecursion Restrict) h.2 all) in
    let acts = when_not (nat_lt h.1.depth max_depth) _ _ no_error h.3 in
    settled schema keys n db next h.0 parts.0
    (on_children schema keys (Leads schema keys n) db next h.1 h.0 acts.0 parts.1 acts.2)

pub restricted_step : (schema : Schema) (keys : Keys) (db next : Trees) (edit : Edit)
    → AllByRecursion Restrict (works schema keys 0 edit.table.tree (taken_by db edit) edit.news)
    → Writes schema keys db edit (Ok next) → Applies schema keys db edit next
restricted_step schema keys db next edit all (inl refused) = absurd (let e = refused.2 in cc)
restricted_step schema keys db next edit all (inr (inl big)) = absurd (let e = big.3 in cc)
restricted_step schema keys db next edit all (inr (inr went)) = subst (Applies schema keys db edit)
    (sym (settled schema keys went.2.0 went.0 next _ all went.2.1)) went.1
