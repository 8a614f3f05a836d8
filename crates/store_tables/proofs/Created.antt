-- What a CREATE makes, under any schema.
use Rattle.std.proofs.Common.{
  ◌≡◌,
  ℕ,
  List,
  [],
  Bool,
  true,
  false,
  Ok,
  refl,
  sym,
  ap,
  subst,
  ◌∙◌,
  Option,
  None,
  MatchBool,
  if◌then◌else◌,
}
use Rattle.sqlite.specs.Table.{Table}
use Rattle.sqlite.specs.Schema.{Schema}
use Rattle.sqlite.specs.Command.TheVariants.{CreateTable, CreateIndex, DropTable}
use Rattle.sqlite.specs.Change.{created, next_tree, KeepsRows}
use Rattle.sqlite_catalog.specs.Change.{indexed, without_table}
use Rattle.sqlite_schema.specs.declared.schema.Index.{Index}
use Rattle.sqlite.specs.Does.{Tally, UncountsIn, lacks_sequence, is_acted_on, Does}
use Rattle.sqlite.specs.Does.{Drops as Dropping}
use Rattle.sqlite.specs.Rows.{Task, sequence}
use Rattle.sqlite.specs.declared.run.Mode.{Mode}
use Rattle.sqlite.specs.Order.{Row}
use Rattle.sqlite.specs.Tree.{Trees}
use Rattle.sqlite.specs.Effect.{Database}
use Rattle.sqlite.specs.Listing.{understood}
use Rattle.sqlite.specs.State.{State, Writes, Executes, mode_of}
use Rattle.sqlite_catalog.specs.Listing.{IsSound}
use Rattle.sqlite_tied.specs.Compute.{everything}
use Rattle.sqlite.proofs.Callers.{runs_as}
use Rattle.store_tables.specs.Schema.{
  schema_1,
  schema_2,
  schema_3,
  schema_4,
  schema_5,
  schema_6,
  schema_7,
  schema_8,
  schema_9,
  schema_10,
  schema_11,
  no_schema,
  meta,
  batches,
  records,
  lines,
  receipts,
  slips,
  slip_lines,
  line_by_record,
  line_by_target,
  receipt_by_token,
  slip_line_by_slip,
  line_by_text,
}
use Rattle.store_tables.proofs.Texts.{
  create_meta,
  create_batch,
  create_record,
  create_line,
  create_receipt,
  create_slip,
  create_slip_line,
  create_line_by_record,
  create_line_by_target,
  create_receipt_by_token,
  create_slip_line_by_slip,
  create_line_by_text,
  meta_is,
  batch_is,
  record_is,
  line_is,
  receipt_is,
  slip_is,
  slip_line_is,
  line_by_record_is,
  line_by_target_is,
  receipt_by_token_is,
  slip_line_by_slip_is,
  line_by_text_is,
}
use Rattle.store_tables.proofs.Writing.{went, same_value}
use Rattle.store_tables.specs.Creating.{IsCreate, IsCreateIndex, IsDrop}

pub record Makes (old new : State) (schema after : Schema) : Type 0 where
  pub schema_is : new.now.schema ≡ after
  pub empty : new.now.trees (next_tree schema) ≡ []
  pub others : KeepsRows schema.tables old.now.trees new.now.trees
  pub sound : IsSound after new.now.trees

no_match : (b : Bool) (A B : Type 0) → b ≡ false → MatchBool b A B → B
no_match true A B e m = absurd cc
no_match false A B e m = m

pub creates : (schema : Schema) (text : List ℕ) (table : Table) (old new : State) (count : ℕ)
    → IsCreate schema text table → old.now.schema ≡ schema → Executes text [] old new (Ok count)
    → Makes old new schema (created schema table)
creates schema text table old new count is has h =
    let w = subst (λ t. Writes old new None CreateTable t [] count) is.whole
    (runs_as text [] old new schema has CreateTable is.command is.plain count h) in
    let all = went w.changed in
    let first = went all.1 in
    let made = first.1 in
    let both : Ok made.table ≡ Ok table = sym made.defined ∙ is.defined in
    let same : made.table ≡ table = same_value both in
    let after : first.0.schema ≡ created schema table = made.is ∙ ap (λ s. created s made.table) has
    ∙ ap (created schema) same in
    let plain : lacks_sequence first.0.schema ≡ false = ap lacks_sequence after ∙ is.counts in
    let now : new.now ≡ first.0 = ap (λ (p : Tally × Database). p.1) (same_value all.2)
    ∙ same_value (no_match _ _ _ plain first.2) in
    let schema_is = ap (λ (d : Database). d.schema) now ∙ after in
    record {
      schema_is = schema_is;
      empty = ap (λ (d : Database). d.trees (next_tree schema)) now
          ∙ subst (λ s. first.0.trees (next_tree s) ≡ []) has made.empty;
      others = subst (λ (d : Database). KeepsRows schema.tables old.now.trees d.trees) (sym now)
          (subst (λ s. KeepsRows s.tables old.now.trees first.0.trees) has made.others);
      sound = subst (λ s. IsSound s new.now.trees) schema_is w.sound;
    }

-- ---- an index

pub record MakesIndex (old new : State) (schema after : Schema) : Type 0 where
  pub schema_is : new.now.schema ≡ after
  pub rows : KeepsRows schema.tables old.now.trees new.now.trees
  pub sound : IsSound after new.now.trees

pub creates_index : (schema : Schema) (text : List ℕ) (at : ℕ) (table : Table) (index : Index) (old new : State)
    (count : ℕ) → IsCreateIndex schema text at table index → old.now.schema ≡ schema
    → Executes text [] old new (Ok count) → MakesIndex old new schema (indexed schema table index)
creates_index schema text at table index old new count is has h =
    let w = subst (λ t. Writes old new None (CreateIndex at) t [] count) is.whole
    (runs_as text [] old new schema has (CreateIndex at) is.command is.plain count h) in
    let here = rw is.listed at
    (subst (λ s. Does old.step_limit (mode_of old) [] (record old.now { schema = s }) text None (CreateIndex at)
    (Ok (w.tally, new.now))) has w.changed) in
    let all = went here in
    let made = all.1 in
    let both : Ok made.index ≡ Ok index = sym made.defined ∙ is.defined in
    let same : made.index ≡ index = same_value both in
    let now : new.now ≡ all.0 = ap (λ (p : Tally × Database). p.1) (same_value all.2) in
    let schema_is : new.now.schema ≡ indexed schema table index = ap (λ (d : Database). d.schema) now ∙ made.is
    ∙ ap (indexed schema table) same in
    record {
      schema_is = schema_is;
      rows = subst (λ (d : Database). KeepsRows schema.tables old.now.trees d.trees) (sym now) made.rows;
      sound = subst (λ s. IsSound s new.now.trees) schema_is w.sound;
    }

-- ---- a DROP
pub record Drops (old new : State) (schema : Schema) (table : Table) : Type 0 where
  pub schema_is : new.now.schema ≡ without_table schema table.tree
  pub rows : KeepsRows (without_table schema table.tree).tables old.now.trees new.now.trees
  pub sound : IsSound (without_table schema table.tree) new.now.trees

none_counts : (b : Bool) (o : Option Table) (P : Option Table → Type 0) → b ≡ false → P (if b then o else None) → P None
none_counts true o P e h = absurd cc
none_counts false o P e h = h

-- where nothing is acted on, and nothing counts, only the table goes
only_table : (limit : Option ℕ) (mode : Mode) (params : Row) (schema : Schema) (table : Table) (db : Trees)
    (tally : Tally) (after : Database) → is_acted_on schema mode.keys table ≡ false → table.is_counted ≡ false
    → Dropping (record { limit = limit; keys = mode.keys; schema = schema; table = table; params = params }) mode db
    (Ok (tally, after))
    → (after.schema ≡ without_table schema table.tree)
    × KeepsRows (without_table schema table.tree).tables db after.trees
only_table limit mode params schema table db tally after alone uncounted h =
    let task : Task = record { limit = limit; keys = mode.keys; schema = schema; table = table; params = params } in
    let emptied = went h in
    let first : emptied.0 ≡ db = same_value (no_match _ _ _ alone emptied.1) in
    let counted = went emptied.2 in
    let second : counted.0 ≡ emptied.0 = same_value (none_counts table.is_counted (sequence schema)
    (λ o. UncountsIn task emptied.0 o (Ok counted.0)) uncounted counted.1) in
    let tested = went counted.2 in
    let left = went tested.2 in
    let last : after ≡ left.0 = ap (λ (p : Tally × Database). p.1) (same_value left.2) in (
      ap (λ (d : Database). d.schema) last ∙ left.1.0,
      subst (λ t. KeepsRows (without_table schema table.tree).tables t after.trees) (second ∙ first)
          (subst (λ (d : Database). KeepsRows (without_table schema table.tree).tables counted.0 d.trees) (sym last)
          left.1.1),
    )

pub drops : (schema : Schema) (text : List ℕ) (at : ℕ) (table : Table) (old new : State) (count : ℕ)
    → IsDrop schema text at table → old.now.schema ≡ schema → Executes text [] old new (Ok count)
    → Drops old new schema table
drops schema text at table old new count is has h =
    let w = subst (λ t. Writes old new None (DropTable at) t [] count) is.whole
    (runs_as text [] old new schema has (DropTable at) is.command is.plain count h) in
    let here = rw is.listed at
    (subst (λ s. Does old.step_limit (mode_of old) [] (record old.now { schema = s }) text None (DropTable at)
    (Ok (w.tally, new.now))) has w.changed) in
    let did = only_table old.step_limit (mode_of old) [] schema table old.now.trees w.tally new.now is.stands_alone
    is.counts here in
    record { schema_is = did.0; rows = did.1; sound = subst (λ s. IsSound s new.now.trees) did.0 w.sound }

pub makes_meta : IsCreate no_schema create_meta (record meta { tree = 0 })
unfolding understood everything
makes_meta = record { command = refl; whole = refl; plain = (refl, refl); defined = meta_is; counts = refl }

pub makes_batch : IsCreate schema_1 create_batch (record batches { tree = 0 })
unfolding understood everything
makes_batch = record { command = refl; whole = refl; plain = (refl, refl); defined = batch_is; counts = refl }

pub makes_record : IsCreate schema_2 create_record (record records { tree = 0 })
unfolding understood everything
makes_record = record { command = refl; whole = refl; plain = (refl, refl); defined = record_is; counts = refl }

pub makes_line : IsCreate schema_3 create_line (record lines { tree = 0 })
unfolding understood everything
makes_line = record { command = refl; whole = refl; plain = (refl, refl); defined = line_is; counts = refl }

pub makes_receipt : IsCreate schema_4 create_receipt (record receipts { tree = 0 })
unfolding understood everything
makes_receipt = record { command = refl; whole = refl; plain = (refl, refl); defined = receipt_is; counts = refl }

pub makes_slip : IsCreate schema_5 create_slip (record slips { tree = 0 })
unfolding understood everything
makes_slip = record { command = refl; whole = refl; plain = (refl, refl); defined = slip_is; counts = refl }

pub makes_slip_line : IsCreate schema_6 create_slip_line (record slip_lines { tree = 0 })
unfolding understood everything
makes_slip_line = record { command = refl; whole = refl; plain = (refl, refl); defined = slip_line_is; counts = refl }

pub makes_line_by_record : IsCreateIndex schema_7 create_line_by_record 3 lines (record line_by_record { tree = 0 })
unfolding understood everything
makes_line_by_record = record {
  command = refl;
  whole = refl;
  plain = (refl, refl);
  listed = refl;
  defined = line_by_record_is;
}

pub makes_line_by_target : IsCreateIndex schema_8 create_line_by_target 3 lines (record line_by_target { tree = 0 })
unfolding understood everything
makes_line_by_target = record {
  command = refl;
  whole = refl;
  plain = (refl, refl);
  listed = refl;
  defined = line_by_target_is;
}

pub makes_receipt_by_token : IsCreateIndex schema_9 create_receipt_by_token 4 receipts
    (record receipt_by_token { tree = 0 })
unfolding understood everything
makes_receipt_by_token = record {
  command = refl;
  whole = refl;
  plain = (refl, refl);
  listed = refl;
  defined = receipt_by_token_is;
}

pub makes_slip_line_by_slip : IsCreateIndex schema_10 create_slip_line_by_slip 6 slip_lines
    (record slip_line_by_slip { tree = 0 })
unfolding understood everything
makes_slip_line_by_slip = record {
  command = refl;
  whole = refl;
  plain = (refl, refl);
  listed = refl;
  defined = slip_line_by_slip_is;
}

pub makes_line_by_text : IsCreateIndex schema_11 create_line_by_text 3 lines (record line_by_text { tree = 0 })
unfolding understood everything
makes_line_by_text = record {
  command = refl;
  whole = refl;
  plain = (refl, refl);
  listed = refl;
  defined = line_by_text_is;
}
