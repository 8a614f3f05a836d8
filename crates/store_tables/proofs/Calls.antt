-- From what a call in a transaction ensures to what it makes of the rows, and calls one after the other.
use Rattle.std.proofs.Common.{
  ◌≡◌,
  ℕ,
  List,
  [],
  ◌∷◌,
  ◌<◌,
  zero,
  suc,
  Bool,
  true,
  false,
  Ok,
  Err,
  Result,
  IsTrue,
  OnOk,
  IfOk,
  refl,
  sym,
  ap,
  subst,
  inl,
  ◌∙◌,
  arith,
  Option,
  None,
  Some,
  pos,
}
use Rattle.std.specs.List.{AllByRecursion}
use Rattle.sqlite.specs.declared.types.Value.TheVariants.{Text, Int}
use Rattle.sqlite.specs.Order.{Row}
use Rattle.sqlite.specs.Effect.{Database}
use Rattle.sqlite.specs.Schema.{Schema}
use Rattle.sqlite.specs.State.{State, Executes, ExecutesInside, Shows}
use Rattle.sqlite.specs.Table.{Table}
use Rattle.sqlite.specs.Tree.{Trees}
use Rattle.sqlite.specs.Values.{or_null, bound_value}
use Rattle.sqlite_catalog.specs.Listing.{IsSound}
use Rattle.sqlite_catalog.specs.Change.{indexed, created, next_tree, KeepsRows}
use Rattle.sqlite_schema.specs.declared.schema.Index.{Index}
use Rattle.record_text.specs.Text.{IsText}
use Rattle.store_tables.specs.Calls.{Good, Inside, Follows, Built, Builds, Settled}
use Rattle.store_tables.specs.Creating.{IsCreate, IsCreateIndex}
use Rattle.store_tables.specs.Reading.{AreTyped}
use Rattle.store_tables.specs.Rows.{Rows, bare_first, number_or_null}
use Rattle.store_tables.specs.Schema.{archive_schema, all_tables}
use Rattle.store_tables.proofs.Created.{creates, creates_index}
use Rattle.store_tables.proofs.Statements.{Becomes, inserts_meta}
use Rattle.store_tables.proofs.Texts.{insert_meta}
use Rattle.list_laws.proofs.Lists.{all_then}

pub is_inside : (b : Bool) → ¬ (b ≡ false) → IsTrue b
is_inside true h = refl
is_inside false h = absurd (h refl)

-- one statement in a transaction
pub followed : (sql : List ℕ) (params : Row) (old new : State) (count : ℕ) (f : Rows → Rows)
    → ((b : Bool) → old.now.schema ≡ archive_schema b → Executes sql params old new (Ok count) → Becomes b old new f)
    → ((rows : Rows) → AreTyped rows → AreTyped (f rows))
    → ExecutesInside 0 sql params old new (Ok count) → (rows : Rows) → Inside old rows → Inside new (f rows)
    × (new.committed ≡ old.committed)
followed sql params old new count f means typed ran rows was =
    let did = means rows.has_spans was.schema ran.0 in
    let has = sym (did.same rows) in (
      record {
        is_open = ran.1.is_open;
        inside = ran.1.mode;
        schema = subst (λ b. new.now.schema ≡ archive_schema b) has did.schema;
        good = record {
          sound = subst (λ b. IsSound (archive_schema b) new.now.trees) has did.sound;
          holds = did.holds rows refl was.good.holds;
          typed = typed rows was.good.typed;
        };
      },
      ran.1.committed_is,
    )

pub on_ok : {A E : Type 0} {P Q : Type 0} (r : Result A E) → (P → Q) → OnOk r P → OnOk r Q
on_ok (Ok a) f h = f h
on_ok (Err e) f h = h

pub if_ok : {A E : Type 0} {P Q : A → Type 0} (r : Result A E) → ((a : A) → P a → Q a) → IfOk r P → IfOk r Q
if_ok (Ok a) f h = f a h
if_ok (Err e) f h = h

pub follows_then : (a b c : State) (f g : Rows → Rows) → Follows a b f → Follows b c g
    → Follows a c (λ rows. g (f rows))
follows_then a b c f g p q rows was =
    let one = p rows was in
    let two = q (f rows) one.0 in
    (two.0, two.1 ∙ one.1)

-- ---- what may be missing, as it is bound
pub number_bound : (o : Option ℕ) → bound_value (or_null (λ (n : ℕ). Int (pos n)) o) ≡ number_or_null o
number_bound None = refl
number_bound (Some n) = refl

-- ---- a new archive
pub stay_empty : (old new : Trees) (ts : List Table) → KeepsRows ts old new
    → AllByRecursion (λ (t : Table). old t.tree ≡ []) ts → AllByRecursion (λ (t : Table). new t.tree ≡ []) ts
stay_empty old new [] keeps empty = tt
stay_empty old new (t ∷ ts) keeps empty = (keeps.0 ∙ empty.0, stay_empty old new ts keeps.1 empty.1)

pub builds_table : (schema : Schema) (table : Table) (text : List ℕ) (old new : State) (count : ℕ)
    → IsCreate schema text table → ExecutesInside 0 text [] old new (Ok count)
    → Builds old new schema (created schema table)
builds_table schema table text old new count is ran was =
    let did = creates schema text table old new count is was.schema ran.0 in (
      record {
        is_open = ran.1.is_open;
        inside = ran.1.mode;
        schema = did.schema_is;
        sound = did.sound;
        empty = all_then (λ (t : Table). new.now.trees t.tree ≡ []) schema.tables
            (record table { tree = next_tree schema })
            (stay_empty old.now.trees new.now.trees schema.tables did.others was.empty) did.empty;
      },
      ran.1.committed_is,
    )

pub builds_index : (schema : Schema) (at : ℕ) (table : Table) (index : Index) (text : List ℕ) (old new : State)
    (count : ℕ) → IsCreateIndex schema text at table index → ExecutesInside 0 text [] old new (Ok count)
    → Builds old new schema (indexed schema table index)
builds_index schema at table index text old new count is ran was =
    let did = creates_index schema text at table index old new count is was.schema ran.0 in (
      record {
        is_open = ran.1.is_open;
        inside = ran.1.mode;
        schema = did.schema_is;
        sound = did.sound;
        empty = stay_empty old.now.trees new.now.trees schema.tables did.rows was.empty;
      },
      ran.1.committed_is,
    )

of_seven : (t : Trees) → AllByRecursion (λ (table : Table). t table.tree ≡ []) (all_tables false) → (n : ℕ)
    → n < 7 → t n ≡ []
of_seven t all zero low = all.0
of_seven t all (suc zero) low = all.1.0
of_seven t all (suc (suc zero)) low = all.1.1.0
of_seven t all (suc (suc (suc zero))) low = all.1.1.1.0
of_seven t all (suc (suc (suc (suc zero)))) low = all.1.1.1.1.0
of_seven t all (suc (suc (suc (suc (suc zero))))) low = all.1.1.1.1.1.0
of_seven t all (suc (suc (suc (suc (suc (suc zero)))))) low = all.1.1.1.1.1.1.0
of_seven t all (suc (suc (suc (suc (suc (suc (suc n))))))) low = absurd (omega (arith, low))

pub begins : (society : List ℕ) (old new : State) (count : ℕ) → IsText society
    → ExecutesInside 0 insert_meta (Text society ∷ []) old new (Ok count)
    → Built old (archive_schema false) → Inside new (bare_first society) × (new.committed ≡ old.committed)
begins society old new count text ran was =
    let did = inserts_meta old new society count was.schema (of_seven old.now.trees was.empty) ran.0 in
    let typed : AreTyped (bare_first society) = record {
      version = inl refl;
      dated = λ second. absurd (cc);
      society = text;
      batches = tt;
      records = tt;
      lines = tt;
      packs = tt;
      receipts = tt;
      slips = tt;
      slip_lines = tt;
      slip_packs = tt;
      spans = tt;
      links = tt;
      soughts = tt;
    } in (
      record {
        is_open = ran.1.is_open;
        inside = ran.1.mode;
        schema = did.0;
        good = record { sound = did.1; holds = did.2; typed = typed };
      },
      ran.1.committed_is,
    )

pub builds_then : (a b c : State) (r s t : Schema) → Builds a b r s → Builds b c s t → Builds a c r t
builds_then a b c r s t p q was =
    let one = p was in
    let two = q one.0 in
    (two.0, two.1 ∙ one.1)

-- ---- a transaction that is committed
pub committed : (mid new : State) (rows : Rows) → Inside mid rows → Shows mid new mid.now mid.now false
    → Settled new rows
committed mid new rows in_it shows = record {
  is_open = shows.is_open;
  autocommit = shows.mode;
  settled = shows.committed_is ∙ sym shows.now_is;
  schema = ap (λ (d : Database). d.schema) shows.now_is ∙ in_it.schema;
  good = subst (Good rows) (sym (ap (λ (d : Database). d.trees) shows.now_is)) in_it.good;
}
