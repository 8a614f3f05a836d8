-- What a call does to the tables, and what a crash may leave of them.
use Rattle.std.specs.Prelude.{◌≡◌, Bool, true, false, IsTrue, List, [], Result, OnOk}
use Rattle.std.specs.List.{AllByRecursion}
use Rattle.sqlite.specs.Schema.{Schema}
use Rattle.sqlite.specs.Table.{Table}
use Rattle.sqlite.specs.Tree.{Trees}
use Rattle.sqlite_catalog.specs.Change.{KeepsRows}
use Rattle.sqlite_catalog.specs.Listing.{IsSound}
use Rattle.sqlite.specs.State.{HasCleanDisk, State, Survives}
use Rattle.store_tables.specs.Schema.{archive_schema, both_and, both_tables, no_schema}
use Rattle.store_tables.specs.Reading.{AreTyped}
use Rattle.store_tables.specs.Rows.{Rows, Holds}

-- the trees list the archive's schema and obey it, and hold these rows, whose values are those of the program's types
pub record Good (rows : Rows) (t : Trees) : Type 0 where
  pub sound : IsSound (archive_schema rows.has_spans) t
  pub holds : Holds rows t
  pub typed : AreTyped rows

-- no transaction is open, and the tables hold these rows, on the disk too
pub record Settled (s : State) (rows : Rows) : Type 0 where
  pub is_open : IsTrue s.is_open
  pub autocommit : s.in_transaction ≡ false
  pub settled : s.committed ≡ s.now
  pub schema : s.now.schema ≡ archive_schema rows.has_spans
  pub good : Good rows s.now.trees

-- a transaction is open, in which the tables hold these rows
pub record Inside (s : State) (rows : Rows) : Type 0 where
  pub is_open : IsTrue s.is_open
  pub inside : IsTrue s.in_transaction
  pub schema : s.now.schema ≡ archive_schema rows.has_spans
  pub good : Good rows s.now.trees

-- calls in a transaction, or none: they make this of the rows, and commit nothing
abbrev pub Follows : State → State → (Rows → Rows) → Type 0
Follows old new f = (rows : Rows) → Inside old rows → Inside new (f rows) × (new.committed ≡ old.committed)

-- whatever a crash may leave is good, and holds these rows
abbrev pub LeavesOnly : State → Rows → Type 0
LeavesOnly s rows = (t : Trees) → s.may_leave t → Good rows t

-- the same of tables that have spans
abbrev pub FollowsDated : State → State → (Rows → Rows) → Type 0
FollowsDated old new f = (rows : Rows) → rows.has_spans ≡ true → Inside old rows
    → Inside new (f rows) × (new.committed ≡ old.committed)

-- the same of tables that have none
abbrev pub FollowsUndated : State → State → (Rows → Rows) → Type 0
FollowsUndated old new f = (rows : Rows) → rows.has_spans ≡ false → Inside old rows
    → Inside new (f rows) × (new.committed ≡ old.committed)

-- where the disk is clean, a call in a transaction that ends well makes this of the rows
abbrev pub Writes : {A E : Type 0} → State → State → Result A E → (Rows → Rows) → Type 0
Writes old new result f = HasCleanDisk new → OnOk result (Follows old new f)

-- the same of tables that have spans
abbrev pub WritesDated : {A E : Type 0} → State → State → Result A E → (Rows → Rows) → Type 0
WritesDated old new result f = HasCleanDisk new → OnOk result (FollowsDated old new f)

-- the same of tables that have none
abbrev pub WritesUndated : {A E : Type 0} → State → State → Result A E → (Rows → Rows) → Type 0
WritesUndated old new result f = HasCleanDisk new → OnOk result (FollowsUndated old new f)

-- a crash may leave what it might have left before the call, and nothing else
abbrev pub LeavesAsBefore : State → State → Type 0
LeavesAsBefore old new = Survives old new (λ _. ⊥)

-- the connection shows what it showed, and has what was committed
abbrev pub IsAsItWas : State → State → Type 0
IsAsItWas old new = (new.now ≡ old.now) × (new.committed ≡ old.committed)

-- where the schema is one of an archive, it is this one
abbrev pub IsNoOther : Bool → State → Type 0
IsNoOther has_spans s = (b : Bool) → s.now.schema ≡ archive_schema b → b ≡ has_spans

-- ---- a new archive
-- a store in which nothing was made
pub record IsBlank (t : Trees) : Type 0 where
  pub sound : IsSound no_schema t

pub record SettledBlank (s : State) : Type 0 where
  pub is_open : IsTrue s.is_open
  pub autocommit : s.in_transaction ≡ false
  pub settled : s.committed ≡ s.now
  pub schema : s.now.schema ≡ no_schema
  pub blank : IsBlank s.now.trees

-- a transaction is open, which sees these tables without rows
pub record Built (s : State) (at : Schema) : Type 0 where
  pub is_open : IsTrue s.is_open
  pub inside : IsTrue s.in_transaction
  pub schema : s.now.schema ≡ at
  pub sound : IsSound at s.now.trees
  pub empty : AllByRecursion (λ (t : Table). s.now.trees t.tree ≡ []) at.tables

-- a transaction is open in which the tables that both schemas have are as they were in `base`, and those that there are
-- beside them have no rows
pub record Widened (base : Trees) (s : State) (more : List Table) : Type 0 where
  pub is_open : IsTrue s.is_open
  pub inside : IsTrue s.in_transaction
  pub schema : s.now.schema ≡ both_and more
  pub sound : IsSound (both_and more) s.now.trees
  pub same : KeepsRows both_tables base s.now.trees
  pub empty : AllByRecursion (λ (t : Table). s.now.trees t.tree ≡ []) more

-- calls in a transaction that make one schema of another, and commit nothing
abbrev pub Builds : State → State → Schema → Schema → Type 0
Builds old new schema after = Built old schema → Built new after × (new.committed ≡ old.committed)
