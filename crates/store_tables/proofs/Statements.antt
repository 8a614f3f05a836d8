-- What the statements make of the rows that the tables hold.
use Rattle.std.proofs.Common.{
  ◌≡◌,
  ◌≢◌,
  ℕ,
  ◌==◌,
  ◌&&◌,
  pos,
  List,
  [],
  ◌∷◌,
  map,
  filter,
  not,
  Bool,
  true,
  false,
  Ok,
  Some,
  None,
  ◌<◌,
  ◌++◌,
  if◌then◌else◌,
  cond,
  refl,
  sym,
  ap,
  subst,
  ◌∙◌,
  Option,
  arith,
}
use Rattle.std.specs.List.{list_all, AllByRecursion, cons_option}
use Rattle.std.specs.List.Sorted.{IsPermutation}
use Rattle.std.proofs.lemmas.List.Sorted.{IsPermutation-map}
use Rattle.sqlite_rules.specs.Edit.{without_all, Applies, IsNoIndex}
use Rattle.sqlite.specs.declared.types.Value.TheVariants.{Null, Int, Text}
use Rattle.sqlite.specs.Order.{Row}
use Rattle.sqlite.specs.Ops.{is_true, from_truth, binary}
use Rattle.sqlite.specs.Term.{holds, col, lit}
use Rattle.sqlite.specs.Tree.{Trees, rowid, put_row}
use Rattle.sqlite_schema.specs.Names.{same_name}
use Rattle.sqlite_value.specs.Keys.{joined}
use Rattle.sqlite.specs.Command.TheVariants.{Delete, Insert, Update}
use Rattle.sqlite.specs.Source.TheVariants.{Values}
use Rattle.sqlite.specs.Effect.{value_rows, IsDatabase}
use Rattle.sqlite_catalog.specs.Listing.{IsSound}
use Rattle.sqlite_schema.specs.declared.program.Program.{Program}
use Rattle.sqlite.specs.Program.{overlay}
use Rattle.sqlite_schema.specs.declared.schema.Keys.TheVariants.{Enforced}
use Rattle.sqlite.specs.Rowids.TheVariants.{Chosen, Given}
use Rattle.sqlite.specs.Edit.{Edit, edit_of, edited, id_in, taken_by, next_rowid}
use Rattle.sqlite_rules.specs.Calls.{ids_of}
use Rattle.sqlite_rules.specs.Action.{works, Work, Writes}
use Rattle.sqlite.specs.Cast.{cast}
use Rattle.sqlite.specs.Kind.TheVariants.{Integer}
use Rattle.sqlite.specs.State.{State, Executes}
use Rattle.sqlite.proofs.Callers.{runs_as, one_step, one_permutation, statement_of}
use Rattle.sqlite.specs.Listing.{understood}
use Rattle.receipts.specs.declared.answer.Receipt.{Receipt}
use Rattle.store_tables.specs.Schema.{archive_schema, meta, batches, records, receipts, slips}
use Rattle.store_tables.specs.Rows.{
  Rows,
  BatchRow,
  RecordRow,
  LineRow,
  PackRow,
  ReceiptRow,
  SlipRow,
  SlipLineRow,
  SlipPackRow,
  SpanRow,
  LinkRow,
  SoughtRow,
  PastRow,
  Holds,
  HoldsOwn,
  HoldsSides,
  HoldsPasts,
  meta_values,
  batch_values,
  record_values,
  receipt_values,
  receipt_fields,
  slip_values,
  number_or_null,
  flag,
  next_key,
  bare_first,
  with_batch,
  with_record_row,
  with_next,
  without_record_row,
  with_receipt,
  with_slip_row,
}
use Rattle.store_tables.proofs.Texts.{
  with_key,
  receipts_place,
  receipts_listed,
  slips_place,
  slips_listed,
  insert_meta,
  insert_meta_is,
  insert_meta_plain,
  insert_batch,
  insert_batch_is,
  insert_batch_plain,
  insert_record,
  insert_record_is,
  insert_record_plain,
  delete_record,
  delete_record_is,
  delete_record_plain,
  set_next,
  set_next_is,
  set_next_plain,
  insert_receipt,
  insert_receipt_is,
  insert_receipt_plain,
  insert_slip,
  insert_slip_is,
  insert_slip_plain,
}
use Rattle.store_tables.proofs.Writing.{inserts, deletes, updates, cast_int, cast_null, Restrict, restricted_step}
use Rattle.store_tables.proofs.Finding.{simple, answered}
use Rattle.store_tables.proofs.Coded.{same_int, keeps_put, keeps_last, keeps_less, keeps_on, chosen_key}
use Rattle.list_laws.proofs.Lists.{map_map}

-- what a statement makes of the tables
pub record Becomes (b : Bool) (old new : State) (f : Rows → Rows) : Type 0 where
  pub schema : new.now.schema ≡ archive_schema b
  pub sound : IsSound (archive_schema b) new.now.trees
  pub same : (rows : Rows) → (f rows).has_spans ≡ rows.has_spans
  pub holds : (rows : Rows) → rows.has_spans ≡ b → Holds rows old.now.trees → Holds (f rows) new.now.trees

pub becomes : {f : Rows → Rows} (b : Bool) (old new : State) → IsDatabase new.now → new.now.schema ≡ archive_schema b
    → ((rows : Rows) → (f rows).has_spans ≡ rows.has_spans)
    → ((rows : Rows) → rows.has_spans ≡ b → Holds rows old.now.trees → Holds (f rows) new.now.trees)
    → Becomes b old new f
becomes b old new sound has same holds = record {
  schema = has;
  sound = subst (λ s. IsSound s new.now.trees) has sound;
  same = same;
  holds = holds;
}

pub truth_of : (b : Bool) → (is_true (from_truth (Some b)) && true) ≡ b
truth_of true = refl
truth_of false = refl

pub cast_number : (o : Option ℕ) → cast Integer (number_or_null o) ≡ number_or_null o
cast_number None = cast_null
cast_number (Some n) = cast_int (pos n)

-- the rows of each tree but one are as they were
abbrev pub Others : Trees → Trees → ℕ → Type 0
Others old new at = (t : ℕ) → t < 7 → t ≢ at → new t ≡ old t

-- no tree of the tables that the first schema has is one of an index
no_early_index : (b : Bool) (t : ℕ) → t < 7 → IsNoIndex (archive_schema b) t
no_early_index false t low = (
  omega (arith, low),
  (omega (arith, low), (omega (arith, low), (omega (arith, low), (omega (arith, low), tt)))),
)
no_early_index true t low = (omega (arith, low), (omega (arith, low), tt))

pub others_of : (b : Bool) (old new : Trees) (edit : Edit) → Applies (archive_schema b) Enforced old edit new
    → Others old new edit.table.tree
others_of b old new edit a t low off = a.others t off (no_early_index b t low)

-- nor is one of those that only the second schema has
pub no_late_index : (t : ℕ) → 9 < t → t < 16 → IsNoIndex (archive_schema true) t
no_late_index t high low = (omega (arith, high), (omega (arith, low), tt))

-- a change of a table that both schemas have leaves those that one of them has
own_same : (b : Bool) (lines : List LineRow) (packs : List PackRow) (spans : List SpanRow) (links : List LinkRow)
    (soughts : List SoughtRow) (old new : Trees) → new 3 ≡ old 3
    → (b ≡ true → (t : ℕ) → 9 < t → t < 16 → new t ≡ old t) → HoldsOwn b lines packs spans links soughts old
    → HoldsOwn b lines packs spans links soughts new
own_same false lines packs spans links soughts old new early late was =
    (keeps_on _ _ _ early was.0, was.1, was.2, was.3, was.4)
own_same true lines packs spans links soughts old new early late was = (
  was.0,
  record {
    packs_kept = keeps_on _ _ _ (late refl 11 (omega arith) (omega arith)) was.1.packs_kept;
    spans_kept = keeps_on _ _ _ (late refl 12 (omega arith) (omega arith)) was.1.spans_kept;
    links_kept = keeps_on _ _ _ (late refl 13 (omega arith) (omega arith)) was.1.links_kept;
    soughts_kept = keeps_on _ _ _ (late refl 14 (omega arith) (omega arith)) was.1.soughts_kept;
  },
)

pub own_on : (b : Bool) (rows : Rows) (old new : Trees) (edit : Edit)
    → Applies (archive_schema b) Enforced old edit new → edit.table.tree < 7 → 3 ≢ edit.table.tree
    → rows.has_spans ≡ b → HoldsOwn rows.has_spans rows.lines rows.packs rows.spans rows.links rows.soughts old
    → HoldsOwn rows.has_spans rows.lines rows.packs rows.spans rows.links rows.soughts new
own_on b rows old new edit a low off fits was =
    own_same rows.has_spans rows.lines rows.packs rows.spans rows.links rows.soughts old new
    (others_of b old new edit a 3 (omega arith) off)
    (λ second t high under. a.others t (omega (arith, low, high))
    (subst (λ c. IsNoIndex (archive_schema c) t) (sym second ∙ fits) (no_late_index t high under))) was

-- and so do those of the sides of slips, where another table is changed
sides_same : (b : Bool) (lines : List SlipLineRow) (packs : List SlipPackRow) (old new : Trees) → new 6 ≡ old 6
    → (b ≡ true → new 10 ≡ old 10) → HoldsSides b lines packs old → HoldsSides b lines packs new
sides_same false lines packs old new early late was = (keeps_on _ _ _ early was.0, was.1)
sides_same true lines packs old new early late was = (was.0, keeps_on _ _ _ (late refl) was.1)

pub sides_on : (b : Bool) (rows : Rows) (old new : Trees) (edit : Edit)
    → Applies (archive_schema b) Enforced old edit new → 6 ≢ edit.table.tree → 10 ≢ edit.table.tree
    → rows.has_spans ≡ b → HoldsSides rows.has_spans rows.slip_lines rows.slip_packs old
    → HoldsSides rows.has_spans rows.slip_lines rows.slip_packs new
sides_on b rows old new edit a early late fits was =
    sides_same rows.has_spans rows.slip_lines rows.slip_packs old new
    (others_of b old new edit a 6 (omega arith) early)
    (λ second. a.others 10 late (subst (λ c. IsNoIndex (archive_schema c) 10) (sym second ∙ fits)
    (no_late_index 10 (omega arith) (omega arith)))) was

-- nor are the values of before, which only one of them has, changed with another table
pasts_same : (b : Bool) (pasts : List PastRow) (old new : Trees) → (b ≡ true → new 15 ≡ old 15)
    → HoldsPasts b pasts old → HoldsPasts b pasts new
pasts_same false pasts old new late was = was
pasts_same true pasts old new late was = record { is = late refl ∙ was.is; rise = was.rise }

pub pasts_on : (b : Bool) (rows : Rows) (old new : Trees) (edit : Edit)
    → Applies (archive_schema b) Enforced old edit new → 15 ≢ edit.table.tree → rows.has_spans ≡ b
    → HoldsPasts rows.has_spans rows.pasts old → HoldsPasts rows.has_spans rows.pasts new
pasts_on b rows old new edit a off fits was =
    pasts_same rows.has_spans rows.pasts old new
    (λ second. a.others 15 off (subst (λ c. IsNoIndex (archive_schema c) 15) (sym second ∙ fits)
    (no_late_index 15 (omega arith) (omega arith)))) was

-- what sets off nothing in either schema
pub no_work : (b : Bool) (db : Trees) (edit : Edit)
    → works (archive_schema false) Enforced 0 edit.table.tree (taken_by db edit) edit.news ≡ []
    → works (archive_schema true) Enforced 0 edit.table.tree (taken_by db edit) edit.news ≡ []
    → works (archive_schema b) Enforced 0 edit.table.tree (taken_by db edit) edit.news ≡ []
no_work false db edit p q = p
no_work true db edit p q = q

-- ---- rows with a given key

pub inserts_batch : (old new : State) (n : ℕ) (is_open : Bool) (count : ℕ) (b : Bool)
    → old.now.schema ≡ archive_schema b
    → Executes insert_batch (Int (pos n) ∷ Int (pos (flag is_open)) ∷ []) old new (Ok count)
    → Becomes b old new (with_batch n is_open)
inserts_batch old new n is_open count b has h =
    let params = Int (pos n) ∷ Int (pos (flag is_open)) ∷ [] in
    let terms = col 0 0 ∷ lit Null ∷ col 0 1 ∷ [] in
    let w = runs_as insert_batch params old new (archive_schema b) has (Insert 1 (Values terms 3)) (insert_batch_is b)
    (insert_batch_plain b) count h in
    let did = inserts (archive_schema b) batches 1 refl refl old new.now w.tally params
    (statement_of insert_batch (understood (archive_schema b) insert_batch)) terms 3 has w.changed in
    let db = old.now.trees in
    let now = new.now.trees in
    let edit = edit_of db batches [] Chosen 0 (value_rows params 3 1 terms) in
    let applied = one_step (archive_schema b) Enforced db now edit (no_work b db edit refl refl) did.1 in
    let same = others_of b db now edit applied in
    let item : BatchRow = record { no = n; is_open = is_open } in
    let row : edited db edit ≡ put_row (batch_values item) (db 1) = rw (
      cast_int (pos n),
      cast_int (pos (flag is_open)),
      cast_null,
    ) refl in
    becomes b old new w.sound did.0 (λ _. refl) (λ rows fits was. record {
      meta = same 0 (omega arith) (omega arith) ∙ was.meta;
      batches = keeps_on _ _ (now 1) (applied.rows ∙ row)
          (keeps_put batch_values (λ (b : BatchRow). b.no) (λ _. refl) item rows.batches (db 1) was.batches);
      records = keeps_on _ _ _ (same 2 (omega arith) (omega arith)) was.records;
      receipts = keeps_on _ _ _ (same 4 (omega arith) (omega arith)) was.receipts;
      slips = keeps_on _ _ _ (same 5 (omega arith) (omega arith)) was.slips;
      sides = sides_on b rows db now edit applied (omega arith) (omega arith) fits was.sides;
      own = own_on b rows db now edit applied (omega arith) (omega arith) fits was.own;
      pasts = pasts_on b rows db now edit applied (omega arith) fits was.pasts;
    })

pub inserts_record : (old new : State) (n : ℕ) (kind : List ℕ) (batch : ℕ) (count : ℕ) (b : Bool)
    → old.now.schema ≡ archive_schema b
    → Executes insert_record (Int (pos n) ∷ Text kind ∷ Int (pos batch) ∷ []) old new (Ok count)
    → Becomes b old new (with_record_row n kind batch)
inserts_record old new n kind batch count b has h =
    let params = Int (pos n) ∷ Text kind ∷ Int (pos batch) ∷ [] in
    let terms = col 0 0 ∷ lit Null ∷ col 0 1 ∷ col 0 2 ∷ [] in
    let w = runs_as insert_record params old new (archive_schema b) has (Insert 2 (Values terms 4)) (insert_record_is b)
    (insert_record_plain b) count h in
    let did = inserts (archive_schema b) records 2 refl refl old new.now w.tally params
    (statement_of insert_record (understood (archive_schema b) insert_record)) terms 4 has w.changed in
    let db = old.now.trees in
    let now = new.now.trees in
    let edit = edit_of db records [] Chosen 0 (value_rows params 4 1 terms) in
    let applied = one_step (archive_schema b) Enforced db now edit (no_work b db edit refl refl) did.1 in
    let same = others_of b db now edit applied in
    let item : RecordRow = record { no = n; kind = kind; batch = batch } in
    let row : edited db edit ≡ put_row (record_values item) (db 2) = rw (
      cast_int (pos n),
      cast_int (pos batch),
      cast_null,
    ) refl in
    becomes b old new w.sound did.0 (λ _. refl) (λ rows fits was. record {
      meta = same 0 (omega arith) (omega arith) ∙ was.meta;
      batches = keeps_on _ _ _ (same 1 (omega arith) (omega arith)) was.batches;
      records = keeps_on _ _ (now 2) (applied.rows ∙ row)
          (keeps_put record_values (λ (r : RecordRow). r.no) (λ _. refl) item rows.records (db 2) was.records);
      receipts = keeps_on _ _ _ (same 4 (omega arith) (omega arith)) was.receipts;
      slips = keeps_on _ _ _ (same 5 (omega arith) (omega arith)) was.slips;
      sides = sides_on b rows db now edit applied (omega arith) (omega arith) fits was.sides;
      own = own_on b rows db now edit applied (omega arith) (omega arith) fits was.own;
      pasts = pasts_on b rows db now edit applied (omega arith) fits was.pasts;
    })

pub inserts_slip : (old new : State) (n keep gone : ℕ) (is_undone : Bool) (count : ℕ) (b : Bool)
    → old.now.schema ≡ archive_schema b
    → Executes insert_slip (Int (pos n) ∷ Int (pos keep) ∷ Int (pos gone) ∷ Int (pos (flag is_undone)) ∷ [])
    old new (Ok count)
    → Becomes b old new (with_slip_row n keep gone is_undone)
inserts_slip old new n keep gone is_undone count b has h =
    let params = Int (pos n) ∷ Int (pos keep) ∷ Int (pos gone) ∷ Int (pos (flag is_undone)) ∷ [] in
    let terms = col 0 0 ∷ lit Null ∷ col 0 1 ∷ col 0 2 ∷ col 0 3 ∷ [] in
    let w = runs_as insert_slip params old new (archive_schema b) has (Insert (slips_place b) (Values terms 5))
    (insert_slip_is b)
    (insert_slip_plain b) count h in
    let did = inserts (archive_schema b) slips (slips_place b) (slips_listed b) refl old new.now w.tally params
    (statement_of insert_slip (understood (archive_schema b) insert_slip)) terms 5 has w.changed in
    let db = old.now.trees in
    let now = new.now.trees in
    let edit = edit_of db slips [] Chosen 0 (value_rows params 5 1 terms) in
    let applied = one_step (archive_schema b) Enforced db now edit (no_work b db edit refl refl) did.1 in
    let same = others_of b db now edit applied in
    let item : SlipRow = record { no = n; keep = keep; gone = gone; is_undone = is_undone } in
    let row : edited db edit ≡ put_row (slip_values item) (db 5) = rw (
      cast_int (pos n),
      cast_int (pos keep),
      cast_int (pos gone),
      cast_int (pos (flag is_undone)),
      cast_null,
    ) refl in
    becomes b old new w.sound did.0 (λ _. refl) (λ rows fits was. record {
      meta = same 0 (omega arith) (omega arith) ∙ was.meta;
      batches = keeps_on _ _ _ (same 1 (omega arith) (omega arith)) was.batches;
      records = keeps_on _ _ _ (same 2 (omega arith) (omega arith)) was.records;
      receipts = keeps_on _ _ _ (same 4 (omega arith) (omega arith)) was.receipts;
      slips = keeps_on _ _ (now 5) (applied.rows ∙ row)
          (keeps_put slip_values (λ (s : SlipRow). s.no) (λ _. refl) item rows.slips (db 5) was.slips);
      sides = sides_on b rows db now edit applied (omega arith) (omega arith) fits was.sides;
      own = own_on b rows db now edit applied (omega arith) (omega arith) fits was.own;
      pasts = pasts_on b rows db now edit applied (omega arith) fits was.pasts;
    })

-- ---- rows whose key is chosen

pub inserts_receipt : (old new : State) (token : List ℕ) (receipt : Receipt) (count : ℕ)
    (b : Bool) → old.now.schema ≡ archive_schema b
    → Executes insert_receipt (Text token ∷ receipt_fields receipt) old new (Ok count)
    → Becomes b old new (with_receipt token receipt)
inserts_receipt old new token receipt count b has h =
    let params = Text token ∷ receipt_fields receipt in
    let terms = lit Null ∷ lit Null ∷ col 0 0 ∷ col 0 1 ∷ col 0 2 ∷ col 0 3 ∷ [] in
    let w = runs_as insert_receipt params old new (archive_schema b) has (Insert (receipts_place b) (Values terms 6))
    (insert_receipt_is b)
    (insert_receipt_plain b) count h in
    let did = inserts (archive_schema b) receipts (receipts_place b) (receipts_listed b) refl old new.now w.tally params
    (statement_of insert_receipt (understood (archive_schema b) insert_receipt)) terms 6 has w.changed in
    let db = old.now.trees in
    let now = new.now.trees in
    let edit = edit_of db receipts [] Chosen 0 (value_rows params 6 1 terms) in
    let applied = one_step (archive_schema b) Enforced db now edit (no_work b db edit refl refl) did.1 in
    let same = others_of b db now edit applied in
    let fields = Null ∷ Text token ∷ receipt_fields receipt in
    let row : edited db edit ≡ put_row (Int (next_rowid (db 4)) ∷ fields) (db 4) = rw
    (cast_null, cast_int (pos receipt.answer.first), cast_int (pos receipt.answer.count)) refl in
    becomes b old new w.sound did.0 (λ _. refl) (λ rows fits was.
    let item : ReceiptRow = record {
      id = next_key (λ (r : ReceiptRow). r.id) rows.receipts;
      token = token;
      receipt = receipt;
    } in
    record {
      meta = same 0 (omega arith) (omega arith) ∙ was.meta;
      batches = keeps_on _ _ _ (same 1 (omega arith) (omega arith)) was.batches;
      records = keeps_on _ _ _ (same 2 (omega arith) (omega arith)) was.records;
      receipts = keeps_on _ _ (now 4) (applied.rows ∙ row ∙ ap (λ i. put_row (Int i ∷ fields) (db 4))
          (chosen_key receipt_values (λ (r : ReceiptRow). r.id) (λ _. refl) rows.receipts (db 4) was.receipts.is))
          (keeps_last receipt_values (λ (r : ReceiptRow). r.id) (λ _. refl) item rows.receipts
          (db 4) refl was.receipts);
      slips = keeps_on _ _ _ (same 5 (omega arith) (omega arith)) was.slips;
      sides = sides_on b rows db now edit applied (omega arith) (omega arith) fits was.sides;
      own = own_on b rows db now edit applied (omega arith) (omega arith) fits was.own;
      pasts = pasts_on b rows db now edit applied (omega arith) fits was.pasts;
    })

-- ---- DELETE

passes_2 : (n : ℕ) (x : RecordRow) → list_all (holds ((Int (pos n) ∷ []) ∷ record_values x ∷ []))
    (with_key 0) ≡ (x.no == n)
unfolding binary
passes_2 n x = ap (λ b. is_true (from_truth (Some b)) && true) (same_int x.no n) ∙ truth_of (x.no == n)

one_refuses : (b : Bool) (v : Work) → Restrict v → AllByRecursion Restrict
    (cons_option (if b then Some v else None) [] ++ [])
one_refuses true v p = (p, tt)
one_refuses false v p = tt

two_refuse : (b : Bool) (v w : Work) → Restrict v → Restrict w → AllByRecursion Restrict
    (cons_option (if b then Some v else None) (cons_option (if b then Some w else None) []) ++ [])
two_refuse true v w p q = (p, (q, tt))
two_refuse false v w p q = tt

three_refuse : (b : Bool) (v w x : Work) → Restrict v → Restrict w → Restrict x → AllByRecursion Restrict
    (cons_option (if b then Some v else None) []
    ++ (cons_option (if b then Some w else None) [] ++ (cons_option (if b then Some x else None) [] ++ [])))
three_refuse true v w x p q r = (p, (q, (r, tt)))
three_refuse false v w x p q r = tt

-- what refers to a record, or to a slip, restricts its deletion
pub only_restricted : (b : Bool) (olds : List Row)
    → AllByRecursion Restrict (works (archive_schema b) Enforced 0 2 olds [])
unfolding same_name joined
only_restricted false olds = two_refuse _ _ _ refl refl
only_restricted true olds = three_refuse _ _ _ _ refl refl refl

pub only_restricted_slips : (b : Bool) (olds : List Row)
    → AllByRecursion Restrict (works (archive_schema b) Enforced 0 5 olds [])
unfolding same_name joined
only_restricted_slips false olds = one_refuses _ _ refl
only_restricted_slips true olds = one_refuses _ _ refl

pub deletes_record : (old new : State) (n count : ℕ) (b : Bool) → old.now.schema ≡ archive_schema b
    → Executes delete_record (Int (pos n) ∷ []) old new (Ok count) → Becomes b old new (without_record_row n)
deletes_record old new n count b has h =
    let params = Int (pos n) ∷ [] in
    let q : Program = record { lets = []; body = simple 2 (with_key 0) (col 1 0 ∷ []) [] } in
    let w = runs_as delete_record params old new (archive_schema b) has (Delete 2 q) (delete_record_is b)
    (delete_record_plain b) count h in
    let did = deletes (archive_schema b) records 2 refl refl old new.now w.tally params
    (statement_of delete_record (understood (archive_schema b) delete_record)) q has w.changed in
    let found = did.1 in
    let db = old.now.trees in
    let now = new.now.trees in
    let edit = edit_of db records (ids_of found) Given 0 [] in
    let applied = restricted_step (archive_schema b) Enforced db now edit (only_restricted b (taken_by db edit)) did.3
    in
    let same = others_of b db now edit applied in
    becomes b old new w.sound did.0 (λ _. refl) (λ rows fits was.
    let all = answered record_values params (with_key 0) (λ x. x.no == n) (passes_2 n) 2 (col 1 0 ∷ []) []
    (overlay db []) rows.records found was.records.is (did.2.answer Null) in
    let ids : IsPermutation
    (map (λ x. pos ((λ (r : RecordRow). r.no) x)) (filter (λ (x : RecordRow). x.no == n) rows.records))
    (ids_of found) =
    subst (λ k. IsPermutation k (ids_of found)) (map_map _ _ (filter (λ (x : RecordRow). x.no == n) rows.records))
    (IsPermutation-map (λ r. id_in (rowid r)) _ _ all) in
    record {
      meta = same 0 (omega arith) (omega arith) ∙ was.meta;
      batches = keeps_on _ _ _ (same 1 (omega arith) (omega arith)) was.batches;
      records = keeps_on _ _ (now 2) applied.rows
          (keeps_less record_values (λ (r : RecordRow). r.no) (λ _. refl) (λ x. x.no == n) rows.records (db 2)
          (ids_of found) ids was.records);
      receipts = keeps_on _ _ _ (same 4 (omega arith) (omega arith)) was.receipts;
      slips = keeps_on _ _ _ (same 5 (omega arith) (omega arith)) was.slips;
      sides = sides_on b rows db now edit applied (omega arith) (omega arith) fits was.sides;
      own = own_on b rows db now edit applied (omega arith) (omega arith) fits was.own;
      pasts = pasts_on b rows db now edit applied (omega arith) fits was.pasts;
    })

-- ---- UPDATE of the one row of meta

only_one : (c : Rows) → without_all (meta_values c ∷ []) (pos 1 ∷ []) ≡ []
only_one c = ap (λ b. cond (not b) (meta_values c ∷ []) []) (same_int 1 1)

pub sets_next : (old new : State) (n count : ℕ) (b : Bool) → old.now.schema ≡ archive_schema b
    → Executes set_next (Int (pos n) ∷ []) old new (Ok count) → Becomes b old new (with_next n)
sets_next old new n count b has h =
    let params = Int (pos n) ∷ [] in
    let project = col 1 0 ∷ col 1 0 ∷ lit Null ∷ col 1 2 ∷ col 0 0 ∷ col 1 4 ∷ [] in
    let q : Program = record { lets = []; body = simple 0 [] project [] } in
    let w = runs_as set_next params old new (archive_schema b) has (Update 0 q) (set_next_is b) (set_next_plain b) count
    h in
    let did = updates (archive_schema b) meta 0 refl refl old new.now w.tally params
    (statement_of set_next (understood (archive_schema b) set_next)) q has w.changed in
    let rows = did.1 in
    let db = old.now.trees in
    let now = new.now.trees in
    becomes b old new w.sound did.0 (λ _. refl) (λ c fits was.
    let found : IsPermutation
    ((Int (pos 1) ∷ Int (pos 1) ∷ Null ∷ Int (pos c.version) ∷ Int (pos n) ∷ Text c.society ∷ []) ∷ []) rows =
    answered meta_values params [] (λ _. true) (λ _. refl) 0 project [] (overlay db []) (c ∷ []) rows was.meta
    (did.2.answer Null) in
    let one = one_permutation _ rows found in
    let edit = edit_of db meta (pos 1 ∷ []) Given 1
    ((Int (pos 1) ∷ Int (pos 1) ∷ Null ∷ Int (pos c.version) ∷ Int (pos n) ∷ Text c.society ∷ []) ∷ []) in
    let applied = one_step (archive_schema b) Enforced db now edit (no_work b db edit refl refl)
    (subst (λ rs. Writes (archive_schema b) Enforced db (edit_of db meta (ids_of rs) Given 1 rs) (Ok now)) one did.3) in
    let same = others_of b db now edit applied in
    let row : edited db edit ≡ put_row (meta_values (with_next n c)) (without_all (db 0) (pos 1 ∷ [])) = rw
    (cast_null, cast_int (pos 1), cast_int (pos c.version), cast_int (pos n)) refl in
    record {
      meta = applied.rows ∙ row ∙ ap (λ rs. put_row (meta_values (with_next n c)) (without_all rs (pos 1 ∷ [])))
          was.meta ∙ ap (put_row (meta_values (with_next n c))) (only_one c);
      batches = keeps_on _ _ _ (same 1 (omega arith) (omega arith)) was.batches;
      records = keeps_on _ _ _ (same 2 (omega arith) (omega arith)) was.records;
      receipts = keeps_on _ _ _ (same 4 (omega arith) (omega arith)) was.receipts;
      slips = keeps_on _ _ _ (same 5 (omega arith) (omega arith)) was.slips;
      sides = sides_on b c db now edit applied (omega arith) (omega arith) fits was.sides;
      own = own_on b c db now edit applied (omega arith) (omega arith) fits was.own;
      pasts = pasts_on b c db now edit applied (omega arith) fits was.pasts;
    })

-- ---- the first row, in a store whose tables have none

pub inserts_meta : (old new : State) (society : List ℕ) (count : ℕ) → old.now.schema ≡ archive_schema false
    → ((t : ℕ) → t < 7 → old.now.trees t ≡ [])
    → Executes insert_meta (Text society ∷ []) old new (Ok count)
    → (new.now.schema ≡ archive_schema false) × IsSound (archive_schema false) new.now.trees
    × Holds (bare_first society) new.now.trees
inserts_meta old new society count has empty h =
    let params = Text society ∷ [] in
    let terms = lit (Int (pos 1)) ∷ lit Null ∷ lit (Int (pos 1)) ∷ lit (Int (pos 1)) ∷ col 0 0 ∷ [] in
    let w = runs_as insert_meta params old new (archive_schema false) has (Insert 0 (Values terms 5))
    (insert_meta_is false)
    (insert_meta_plain false) count h in
    let did = inserts (archive_schema false) meta 0 refl refl old new.now w.tally params
    (statement_of insert_meta (understood (archive_schema false) insert_meta)) terms 5 has w.changed in
    let db = old.now.trees in
    let now = new.now.trees in
    let edit = edit_of db meta [] Chosen 0 (value_rows params 5 1 terms) in
    let applied = one_step (archive_schema false) Enforced db now edit refl did.1 in
    let same = others_of false db now edit applied in
    let row : edited db edit ≡ put_row (meta_values (bare_first society)) (db 0) = rw
    (cast_int (pos 1), cast_null) refl in
    let each = (λ (t : ℕ) (low : t < 7) (off : t ≢ 0). same t low off ∙ empty t low) in (
      did.0,
      subst (λ s. IsSound s now) did.0 w.sound,
      record {
        meta = applied.rows ∙ row ∙ ap (put_row (meta_values (bare_first society))) (empty 0 (omega arith));
        batches = record { is = each 1 (omega arith) (omega arith); rise = tt };
        records = record { is = each 2 (omega arith) (omega arith); rise = tt };
        receipts = record { is = each 4 (omega arith) (omega arith); rise = tt };
        slips = record { is = each 5 (omega arith) (omega arith); rise = tt };
        sides = (record { is = each 6 (omega arith) (omega arith); rise = tt }, refl);
        own = (record { is = each 3 (omega arith) (omega arith); rise = tt }, refl, refl, refl, refl);
        pasts = refl;
      },
    )
