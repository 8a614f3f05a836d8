-- What an INSERT of four rows of `record` makes of the rows that the tables hold.
use Rattle.std.proofs.Common.{
  ◌≡◌,
  ℕ,
  Bool,
  List,
  [],
  ◌∷◌,
  map,
  drop,
  codes,
  pos,
  Ok,
  refl,
  sym,
  ap,
  ap₂,
  subst,
  ◌∙◌,
  arith,
}
use Rattle.std.specs.List.{AllByRecursion}
use Rattle.sqlite.specs.declared.types.Value.TheVariants.{Null, Int, Text}
use Rattle.sqlite.specs.Order.{Row}
use Rattle.sqlite.specs.Term.{Term, col, lit}
use Rattle.sqlite.specs.Tree.{Trees, put_row}
use Rattle.sqlite.specs.Command.TheVariants.{Insert}
use Rattle.sqlite.specs.Source.TheVariants.{Values}
use Rattle.sqlite.specs.Effect.{IsDatabase}
use Rattle.sqlite_schema.specs.declared.schema.Keys.TheVariants.{Enforced}
use Rattle.sqlite_tied.specs.Compute.{everything}
use Rattle.sqlite.specs.Rowids.TheVariants.{Chosen}
use Rattle.sqlite_rules.specs.Cast.{cast_row}
use Rattle.sqlite_rules.specs.Edit.{Applies, Edit, edit_of, edited, numbered, put_all}
use Rattle.sqlite.specs.State.{State, Executes}
use Rattle.sqlite.proofs.Callers.{IsPlain, command_of, runs_as, one_step, statement_of}
use Rattle.sqlite.specs.Listing.{understood}
use Rattle.store_tables.specs.Reading.{AreTyped, IsU32}
use Rattle.store_tables.specs.Schema.{archive_schema, records}
use Rattle.store_tables.specs.Rows.{Holds, Rows, Keeps, RecordRow, record_values, with_record_row}
use Rattle.store_tables.proofs.Statements.{Becomes, becomes, no_work, others_of, own_on, pasts_on, sides_on}
use Rattle.store_tables.proofs.Typed.{typed_record}
use Rattle.store_tables.proofs.Writing.{inserts, cast_int, cast_null}
use Rattle.store_tables.proofs.Coded.{keeps_on, keeps_put}
use Rattle.bulk_inserts.specs.Records.{with_records}

-- ---- the statement
abbrev pub four_records : List ℕ
four_records =
    codes "INSERT INTO record (no, kind, batch) VALUES (?1, ?2, ?9), (?3, ?4, ?9), (?5, ?6, ?9), (?7, ?8, ?9)"

abbrev four_terms : List Term
four_terms =
    col 0 0 ∷ lit Null ∷ col 0 1 ∷ col 0 8 ∷ col 0 2 ∷ lit Null ∷ col 0 3 ∷ col 0 8 ∷ col 0 4 ∷ lit Null ∷ col 0 5
    ∷ col 0 8 ∷ col 0 6 ∷ lit Null ∷ col 0 7 ∷ col 0 8 ∷ []

four_records_is : (b : Bool) → command_of (understood (archive_schema b) four_records) ≡ Insert 2 (Values four_terms 4)
unfolding understood everything
four_records_is b = refl

four_records_plain : (b : Bool) → IsPlain (understood (archive_schema b) four_records)
unfolding understood everything
four_records_plain b = (refl, refl)

-- ---- what it does to the trees
abbrev row_of : ℕ → ℕ × List ℕ → RecordRow
row_of batch r = record { no = r.0; kind = r.1; batch = batch }

abbrev values_of : ℕ → ℕ × List ℕ → Row
values_of batch r = record_values (row_of batch r)

-- a row as the statement gets it
abbrev source_of : ℕ → ℕ × List ℕ → Row
source_of batch r = Int (pos r.0) ∷ Null ∷ Text r.1 ∷ Int (pos batch) ∷ []

abbrev inserting : Trees → ℕ → List (ℕ × List ℕ) → Edit
inserting db batch rs = edit_of db records [] Chosen 0 (map (source_of batch) rs)

cast_rows : (batch : ℕ) (rs : List (ℕ × List ℕ))
    → map (λ s. cast_row records (drop 0 s)) (map (source_of batch) rs) ≡ map (values_of batch) rs
cast_rows batch [] = refl
cast_rows batch (r ∷ rs) = ap₂ (λ x xs. x ∷ xs) (one r) (cast_rows batch rs)
  where
    one : (r : ℕ × List ℕ) → cast_row records (source_of batch r) ≡ values_of batch r
    one r = rw (cast_int (pos r.0), cast_int (pos batch), cast_null) refl

-- they have their rowids
stay : (batch : ℕ) (rows : List Row) (rs : List (ℕ × List ℕ))
    → numbered Chosen rows (map (values_of batch) rs) ≡ map (values_of batch) rs
stay batch rows [] = refl
stay batch rows (r ∷ rs) = ap (λ xs. values_of batch r ∷ xs) (stay batch (put_row (values_of batch r) rows) rs)

news_are : (db : Trees) (batch : ℕ) (rs : List (ℕ × List ℕ)) → (inserting db batch rs).news ≡ map (values_of batch) rs
news_are db batch rs = ap (numbered Chosen (db 2)) (cast_rows batch rs) ∙ stay batch (db 2) rs

-- ---- what it makes of the rows
pub still_has : (batch : ℕ) (rs : List (ℕ × List ℕ)) (rows : Rows)
    → (with_records batch rs rows).has_spans ≡ rows.has_spans
still_has batch [] rows = refl
still_has batch (r ∷ rs) rows = still_has batch rs (with_record_row r.0 r.1 batch rows)

records_on : (batch : ℕ) (rs : List (ℕ × List ℕ)) (rows : Rows)
    → with_records batch rs rows ≡ record rows { records = (with_records batch rs rows).records }
records_on batch [] rows = refl
records_on batch (r ∷ rs) rows = records_on batch rs (with_record_row r.0 r.1 batch rows)

-- numbers that are typed
abbrev pub IsTypedNew : ℕ × List ℕ → Type 0
IsTypedNew r = IsU32 r.0

pub still_typed : (batch : ℕ) → IsU32 batch → (rs : List (ℕ × List ℕ)) → AllByRecursion IsTypedNew rs → (rows : Rows)
    → AreTyped rows → AreTyped (with_records batch rs rows)
still_typed batch first [] all rows typed = typed
still_typed batch first (r ∷ rs) all rows typed =
    still_typed batch first rs all.1 (with_record_row r.0 r.1 batch rows)
    (typed_record r.0 r.1 batch all.0 first rows typed)

all_kept : (batch : ℕ) (rs : List (ℕ × List ℕ)) (rows : Rows) (tree : List Row)
    → Keeps record_values (λ (r : RecordRow). r.no) rows.records tree
    → Keeps record_values (λ (r : RecordRow). r.no) (with_records batch rs rows).records
    (put_all tree (map (values_of batch) rs))
all_kept batch [] rows tree kept = kept
all_kept batch (r ∷ rs) rows tree kept =
    all_kept batch rs (with_record_row r.0 r.1 batch rows) (put_row (values_of batch r) tree)
    (keeps_put record_values (λ (r : RecordRow). r.no) (λ _. refl) (row_of batch r) rows.records tree kept)

inserted : (old new : State) (batch : ℕ) (rs : List (ℕ × List ℕ)) (b : Bool) → IsDatabase new.now
    → new.now.schema ≡ archive_schema b
    → Applies (archive_schema b) Enforced old.now.trees (inserting old.now.trees batch rs) new.now.trees
    → Becomes b old new (with_records batch rs)
inserted old new batch rs b sound has applied =
    let db = old.now.trees in
    let now = new.now.trees in
    let edit = inserting db batch rs in
    let same = others_of b db now edit applied in
    let put : edited db edit ≡ put_all (db 2) (map (values_of batch) rs) = ap (put_all (db 2)) (news_are db batch rs) in
    becomes b old new sound has (still_has batch rs) (λ rows fits was. subst (λ all. Holds all now)
    (sym (records_on batch rs rows)) (record {
      meta = same 0 (omega arith) (omega arith) ∙ was.meta;
      batches = keeps_on _ _ _ (same 1 (omega arith) (omega arith)) was.batches;
      records = keeps_on _ _ (now 2) (applied.rows ∙ put) (all_kept batch rs rows (db 2) was.records);
      receipts = keeps_on _ _ _ (same 4 (omega arith) (omega arith)) was.receipts;
      slips = keeps_on _ _ _ (same 5 (omega arith) (omega arith)) was.slips;
      sides = sides_on b rows db now edit applied (omega arith) (omega arith) fits was.sides;
      own = own_on b rows db now edit applied (omega arith) (omega arith) fits was.own;
      pasts = pasts_on b rows db now edit applied (omega arith) fits was.pasts;
    }))

-- ---- four rows
pub four_inserted : (old new : State) (w x y z : ℕ × List ℕ) (batch : ℕ) (count : ℕ) (b : Bool)
    → old.now.schema ≡ archive_schema b
    → Executes four_records
    (Int (pos w.0) ∷ Text w.1 ∷ Int (pos x.0) ∷ Text x.1 ∷ Int (pos y.0) ∷ Text y.1 ∷ Int (pos z.0) ∷ Text z.1
    ∷ Int (pos batch) ∷ []) old new (Ok count) → Becomes b old new (with_records batch (w ∷ x ∷ y ∷ z ∷ []))
four_inserted old new w x y z batch count b has ran =
    let params =
    Int (pos w.0) ∷ Text w.1 ∷ Int (pos x.0) ∷ Text x.1 ∷ Int (pos y.0) ∷ Text y.1 ∷ Int (pos z.0) ∷ Text z.1
    ∷ Int (pos batch) ∷ [] in
    let four = w ∷ x ∷ y ∷ z ∷ [] in
    let now = runs_as four_records params old new (archive_schema b) has (Insert 2 (Values four_terms 4))
    (four_records_is b) (four_records_plain b) count ran in
    let did = inserts (archive_schema b) records 2 refl refl old new.now now.tally params
    (statement_of four_records (understood (archive_schema b) four_records)) four_terms 4 has now.changed in
    let db = old.now.trees in
    let edit = inserting db batch four in
    inserted old new batch four b now.sound did.0
    (one_step (archive_schema b) Enforced db new.now.trees edit (no_work b db edit refl refl) did.1)
