-- What each text of SQL means under the schema of an archive, as computing finds it.
use Rattle.std.proofs.Common.{◌≡◌, ℕ, pos, List, [], ◌∷◌, codes, true, false, slice_get, Some, Ok, refl, Bool}
use Rattle.sqlite.specs.declared.types.Value.TheVariants.{Null, Int}
use Rattle.sqlite.specs.Term.{Term, lit, col, op2}
use Rattle.sqlite_sql.specs.declared.ops.BinaryOp.TheVariants.{Compare}
use Rattle.sqlite_sql.specs.declared.ops.CompareOp.TheVariants.{Eq}
use Rattle.sqlite.specs.Collation.TheVariants.{Binary}
use Rattle.sqlite_value.specs.declared.keys.Key.{Key}
use Rattle.sqlite_value.specs.Keys.{ascending}
use Rattle.sqlite.specs.Source.TheVariants.{Values}
use Rattle.sqlite.specs.Command.TheVariants.{Insert, Select, Delete, Update}
use Rattle.sqlite.specs.Compile.{table_defined_by, index_defined_by}
use Rattle.sqlite_tied.specs.Compute.{everything}
use Rattle.sqlite.specs.Listing.{understood, reads_listing}
use Rattle.sqlite.proofs.Callers.{IsPlain, command_of}
use Rattle.store_tables.proofs.Finding.{simple}
use Rattle.store_tables.specs.Schema.{
  meta,
  batches,
  records,
  lines,
  receipts,
  slips,
  slip_lines,
  line_by_record,
  line_by_target,
  receipt_by_token,
  slip_line_by_slip,
  line_by_text,
  archive_schema,
}

abbrev pub create_meta : List ℕ
create_meta = codes "CREATE TABLE meta (one INTEGER PRIMARY KEY, version INTEGER NOT NULL, next INTEGER NOT NULL, society TEXT NOT NULL) STRICT"

abbrev pub create_batch : List ℕ
create_batch = codes "CREATE TABLE batch (no INTEGER PRIMARY KEY, is_open INTEGER NOT NULL) STRICT"

abbrev pub create_record : List ℕ
create_record = codes
    "CREATE TABLE record (no INTEGER PRIMARY KEY, kind TEXT NOT NULL, batch INTEGER NOT NULL REFERENCES batch (no) ON DELETE RESTRICT) STRICT"

abbrev pub create_line : List ℕ
create_line = codes "CREATE TABLE line (id INTEGER PRIMARY KEY, no INTEGER NOT NULL REFERENCES record (no) ON DELETE RESTRICT, pos INTEGER NOT NULL, depth INTEGER NOT NULL, tag TEXT NOT NULL, text TEXT, dst INTEGER REFERENCES record (no) ON DELETE RESTRICT) STRICT"

abbrev pub create_receipt : List ℕ
create_receipt = codes
    "CREATE TABLE receipt (id INTEGER PRIMARY KEY, token TEXT NOT NULL, digest BLOB NOT NULL, first INTEGER NOT NULL, count INTEGER NOT NULL) STRICT"

abbrev pub create_slip : List ℕ
create_slip = codes "CREATE TABLE slip (no INTEGER PRIMARY KEY, keep INTEGER NOT NULL, gone INTEGER NOT NULL, undone INTEGER NOT NULL) STRICT"

abbrev pub create_slip_line : List ℕ
create_slip_line = codes
    "CREATE TABLE slip_line (id INTEGER PRIMARY KEY, slip INTEGER NOT NULL REFERENCES slip (no) ON DELETE RESTRICT, side INTEGER NOT NULL, no INTEGER NOT NULL, pos INTEGER NOT NULL, depth INTEGER NOT NULL, tag TEXT NOT NULL, text TEXT, dst INTEGER) STRICT"

abbrev pub create_line_by_record : List ℕ
create_line_by_record = codes "CREATE INDEX line_by_record ON line (no)"

abbrev pub create_line_by_target : List ℕ
create_line_by_target = codes "CREATE INDEX line_by_target ON line (dst)"

abbrev pub create_receipt_by_token : List ℕ
create_receipt_by_token = codes "CREATE INDEX receipt_by_token ON receipt (token)"

abbrev pub create_slip_line_by_slip : List ℕ
create_slip_line_by_slip = codes "CREATE INDEX slip_line_by_slip ON slip_line (slip)"

abbrev pub create_line_by_text : List ℕ
create_line_by_text = codes "CREATE INDEX line_by_text ON line (text, dst)"

pub meta_is : (table_defined_by create_meta ≡ Ok (record meta { tree = 0 }))
unfolding understood everything
meta_is = refl

pub batch_is : (table_defined_by create_batch ≡ Ok (record batches { tree = 0 }))
unfolding understood everything
batch_is = refl

pub record_is : (table_defined_by create_record ≡ Ok (record records { tree = 0 }))
unfolding understood everything
record_is = refl

pub line_is : (table_defined_by create_line ≡ Ok (record lines { tree = 0 }))
unfolding understood everything
line_is = refl

pub receipt_is : (table_defined_by create_receipt ≡ Ok (record receipts { tree = 0 }))
unfolding understood everything
receipt_is = refl

pub slip_is : (table_defined_by create_slip ≡ Ok (record slips { tree = 0 }))
unfolding understood everything
slip_is = refl

pub slip_line_is : (table_defined_by create_slip_line ≡ Ok (record slip_lines { tree = 0 }))
unfolding understood everything
slip_line_is = refl

pub line_by_record_is : (index_defined_by lines create_line_by_record ≡ Ok (record line_by_record { tree = 0 }))
unfolding understood everything
line_by_record_is = refl

pub line_by_target_is : (index_defined_by lines create_line_by_target ≡ Ok (record line_by_target { tree = 0 }))
unfolding understood everything
line_by_target_is = refl

pub receipt_by_token_is : (index_defined_by receipts create_receipt_by_token ≡ Ok
    (record receipt_by_token { tree = 0 }))
unfolding understood everything
receipt_by_token_is = refl

pub slip_line_by_slip_is : (index_defined_by slip_lines create_slip_line_by_slip ≡ Ok
    (record slip_line_by_slip { tree = 0 }))
unfolding understood everything
slip_line_by_slip_is = refl

pub line_by_text_is : (index_defined_by lines create_line_by_text ≡ Ok (record line_by_text { tree = 0 }))
unfolding understood everything
line_by_text_is = refl

abbrev pub insert_meta : List ℕ
insert_meta = codes "INSERT INTO meta (one, version, next, society) VALUES (1, 1, 1, ?1)"

abbrev pub insert_batch : List ℕ
insert_batch = codes "INSERT INTO batch (no, is_open) VALUES (?1, ?2)"

abbrev pub insert_record : List ℕ
insert_record = codes "INSERT INTO record (no, kind, batch) VALUES (?1, ?2, ?3)"

abbrev pub delete_record : List ℕ
delete_record = codes "DELETE FROM record WHERE no = ?1"

abbrev pub delete_lines : List ℕ
delete_lines = codes "DELETE FROM line WHERE no = ?1"

abbrev pub set_next : List ℕ
set_next = codes "UPDATE meta SET next = ?1"

abbrev pub insert_receipt : List ℕ
insert_receipt = codes "INSERT INTO receipt (token, digest, first, count) VALUES (?1, ?2, ?3, ?4)"

abbrev pub select_meta : List ℕ
select_meta = codes "SELECT version, next, society FROM meta"

abbrev pub select_batches : List ℕ
select_batches = codes "SELECT no, is_open FROM batch ORDER BY no"

abbrev pub select_records : List ℕ
select_records = codes "SELECT no, batch FROM record ORDER BY no"

abbrev pub select_receipts : List ℕ
select_receipts = codes "SELECT token, digest, first, count FROM receipt ORDER BY id"

-- where the tables stand that do not stand at one place of both schemas
abbrev pub receipts_place : Bool → ℕ
receipts_place false = 4
receipts_place true = 3

abbrev pub slips_place : Bool → ℕ
slips_place false = 5
slips_place true = 4

-- the tree of the lines of slips
abbrev pub sides_tree : Bool → ℕ
sides_tree false = 6
sides_tree true = 10

pub receipts_listed : (b : Bool) → slice_get (archive_schema b).tables (receipts_place b) ≡ Some receipts
receipts_listed false = refl
receipts_listed true = refl

pub slips_listed : (b : Bool) → slice_get (archive_schema b).tables (slips_place b) ≡ Some slips
slips_listed false = refl
slips_listed true = refl

-- the table of lines: its place, its tree, and where a row has the number of the record
abbrev pub lines_place : Bool → ℕ
lines_place false = 3
lines_place true = 6

abbrev pub lines_tree : Bool → ℕ
lines_tree false = 3
lines_tree true = 11

abbrev pub number_column : Bool → ℕ
number_column false = 2
number_column true = 0

abbrev pub with_key : ℕ → List Term
with_key place = op2 (Compare Eq Binary) (col 1 place) (col 0 0) ∷ []

abbrev pub by_key : List (Term × Key)
by_key = (col 1 0, ascending Binary) ∷ []

pub insert_meta_is : (b : Bool) → command_of (understood (archive_schema b) insert_meta) ≡ Insert 0
    (Values (lit (Int (pos 1)) ∷ lit Null ∷ lit (Int (pos 1)) ∷ lit (Int (pos 1)) ∷ col 0 0 ∷ []) 5)
unfolding understood everything
insert_meta_is b = refl

pub insert_meta_plain : (b : Bool) → IsPlain (understood (archive_schema b) insert_meta)
unfolding understood everything
insert_meta_plain b = (refl, refl)

pub insert_batch_is : (b : Bool) → command_of (understood (archive_schema b) insert_batch) ≡ Insert 1
    (Values (col 0 0 ∷ lit Null ∷ col 0 1 ∷ []) 3)
unfolding understood everything
insert_batch_is b = refl

pub insert_batch_plain : (b : Bool) → IsPlain (understood (archive_schema b) insert_batch)
unfolding understood everything
insert_batch_plain b = (refl, refl)

pub insert_record_is : (b : Bool) → command_of (understood (archive_schema b) insert_record) ≡ Insert 2
    (Values (col 0 0 ∷ lit Null ∷ col 0 1 ∷ col 0 2 ∷ []) 4)
unfolding understood everything
insert_record_is b = refl

pub insert_record_plain : (b : Bool) → IsPlain (understood (archive_schema b) insert_record)
unfolding understood everything
insert_record_plain b = (refl, refl)

pub delete_record_is : (b : Bool) → command_of (understood (archive_schema b) delete_record) ≡ Delete 2
    (record { lets = []; body = simple 2 (with_key 0) (col 1 0 ∷ []) [] })
unfolding understood everything
delete_record_is b = refl

pub delete_record_plain : (b : Bool) → IsPlain (understood (archive_schema b) delete_record)
unfolding understood everything
delete_record_plain b = (refl, refl)

pub delete_lines_is : (b : Bool) → command_of (understood (archive_schema b) delete_lines) ≡ Delete (lines_place b)
    (record { lets = []; body = simple (lines_tree b) (with_key (number_column b)) (col 1 0 ∷ []) [] })
unfolding understood everything
delete_lines_is false = refl
delete_lines_is true = refl

pub delete_lines_plain : (b : Bool) → IsPlain (understood (archive_schema b) delete_lines)
unfolding understood everything
delete_lines_plain false = (refl, refl)
delete_lines_plain true = (refl, refl)

pub set_next_is : (b : Bool) → command_of (understood (archive_schema b) set_next) ≡ Update 0
    (record { lets = []; body = simple 0 [] (col 1 0 ∷ col 1 0 ∷ lit Null ∷ col 1 2 ∷ col 0 0 ∷ col 1 4 ∷ []) [] })
unfolding understood everything
set_next_is b = refl

pub set_next_plain : (b : Bool) → IsPlain (understood (archive_schema b) set_next)
unfolding understood everything
set_next_plain b = (refl, refl)

pub insert_receipt_is : (b : Bool) → command_of (understood (archive_schema b) insert_receipt) ≡
    Insert (receipts_place b)
    (Values (lit Null ∷ lit Null ∷ col 0 0 ∷ col 0 1 ∷ col 0 2 ∷ col 0 3 ∷ []) 6)
unfolding understood everything
insert_receipt_is false = refl
insert_receipt_is true = refl

pub insert_receipt_plain : (b : Bool) → IsPlain (understood (archive_schema b) insert_receipt)
unfolding understood everything
insert_receipt_plain false = (refl, refl)
insert_receipt_plain true = (refl, refl)

pub select_meta_is : (b : Bool) → command_of (understood (archive_schema b) select_meta) ≡ Select
    (record { lets = []; body = simple 0 [] (col 1 2 ∷ col 1 3 ∷ col 1 4 ∷ []) [] })
    (codes "version" ∷ codes "next" ∷ codes "society" ∷ [])
unfolding understood everything
select_meta_is b = refl

pub select_meta_plain : (b : Bool) → IsPlain (understood (archive_schema b) select_meta)
unfolding understood everything
select_meta_plain b = (refl, refl)

pub select_meta_unlisted : (b : Bool) → reads_listing (archive_schema b) select_meta ≡ false
unfolding understood everything
select_meta_unlisted b = refl

pub select_batches_is : (b : Bool) → command_of (understood (archive_schema b) select_batches) ≡ Select
    (record { lets = []; body = simple 1 [] (col 1 0 ∷ col 1 2 ∷ []) by_key }) (codes "no" ∷ codes "is_open" ∷ [])
unfolding understood everything
select_batches_is b = refl

pub select_batches_plain : (b : Bool) → IsPlain (understood (archive_schema b) select_batches)
unfolding understood everything
select_batches_plain b = (refl, refl)

pub select_batches_unlisted : (b : Bool) → reads_listing (archive_schema b) select_batches ≡ false
unfolding understood everything
select_batches_unlisted b = refl

pub select_records_is : (b : Bool) → command_of (understood (archive_schema b) select_records) ≡ Select
    (record { lets = []; body = simple 2 [] (col 1 0 ∷ col 1 3 ∷ []) by_key }) (codes "no" ∷ codes "batch" ∷ [])
unfolding understood everything
select_records_is b = refl

pub select_records_plain : (b : Bool) → IsPlain (understood (archive_schema b) select_records)
unfolding understood everything
select_records_plain b = (refl, refl)

pub select_records_unlisted : (b : Bool) → reads_listing (archive_schema b) select_records ≡ false
unfolding understood everything
select_records_unlisted b = refl

pub select_receipts_is : (b : Bool) → command_of (understood (archive_schema b) select_receipts) ≡ Select
    (record { lets = []; body = simple 4 [] (col 1 2 ∷ col 1 3 ∷ col 1 4 ∷ col 1 5 ∷ []) by_key })
    (codes "token" ∷ codes "digest" ∷ codes "first" ∷ codes "count" ∷ [])
unfolding understood everything
select_receipts_is false = refl
select_receipts_is true = refl

pub select_receipts_plain : (b : Bool) → IsPlain (understood (archive_schema b) select_receipts)
unfolding understood everything
select_receipts_plain false = (refl, refl)
select_receipts_plain true = (refl, refl)

pub select_receipts_unlisted : (b : Bool) → reads_listing (archive_schema b) select_receipts ≡ false
unfolding understood everything
select_receipts_unlisted false = refl
select_receipts_unlisted true = refl

abbrev pub receipt_keys : List ℕ
receipt_keys = codes "SELECT id FROM receipt ORDER BY id"

pub receipt_keys_is : (b : Bool) → command_of (understood (archive_schema b) receipt_keys) ≡ Select
    (record { lets = []; body = simple 4 [] (col 1 0 ∷ []) by_key }) (codes "id" ∷ [])
unfolding understood everything
receipt_keys_is false = refl
receipt_keys_is true = refl

pub receipt_keys_plain : (b : Bool) → IsPlain (understood (archive_schema b) receipt_keys)
unfolding understood everything
receipt_keys_plain false = (refl, refl)
receipt_keys_plain true = (refl, refl)

pub receipt_keys_unlisted : (b : Bool) → reads_listing (archive_schema b) receipt_keys ≡ false
unfolding understood everything
receipt_keys_unlisted false = refl
receipt_keys_unlisted true = refl

abbrev pub update_record : List ℕ
update_record = codes "UPDATE record SET kind = ?2, batch = ?3 WHERE no = ?1"

pub update_record_is : (b : Bool) → command_of (understood (archive_schema b) update_record) ≡ Update 2
    (record { lets = []; body = simple 2 (with_key 0) (col 1 0 ∷ col 1 0 ∷ lit Null ∷ col 0 1 ∷ col 0 2 ∷ []) [] })
unfolding understood everything
update_record_is b = refl

pub update_record_plain : (b : Bool) → IsPlain (understood (archive_schema b) update_record)
unfolding understood everything
update_record_plain b = (refl, refl)

abbrev pub insert_slip : List ℕ
insert_slip = codes "INSERT INTO slip (no, keep, gone, undone) VALUES (?1, ?2, ?3, ?4)"

pub insert_slip_is : (b : Bool) → command_of (understood (archive_schema b) insert_slip) ≡ Insert (slips_place b)
    (Values (col 0 0 ∷ lit Null ∷ col 0 1 ∷ col 0 2 ∷ col 0 3 ∷ []) 5)
unfolding understood everything
insert_slip_is false = refl
insert_slip_is true = refl

pub insert_slip_plain : (b : Bool) → IsPlain (understood (archive_schema b) insert_slip)
unfolding understood everything
insert_slip_plain false = (refl, refl)
insert_slip_plain true = (refl, refl)

abbrev pub undo_slip : List ℕ
undo_slip = codes "UPDATE slip SET undone = 1 WHERE no = ?1"

pub undo_slip_is : (b : Bool) → command_of (understood (archive_schema b) undo_slip) ≡ Update (slips_place b)
    (record {
      lets = [];
      body = simple 5 (with_key 0)
          (col 1 0 ∷ col 1 0 ∷ lit Null ∷ col 1 2 ∷ col 1 3 ∷ lit (Int (pos 1)) ∷ []) [];
    })
unfolding understood everything
undo_slip_is false = refl
undo_slip_is true = refl

pub undo_slip_plain : (b : Bool) → IsPlain (understood (archive_schema b) undo_slip)
unfolding understood everything
undo_slip_plain false = (refl, refl)
undo_slip_plain true = (refl, refl)

abbrev pub select_slips : List ℕ
select_slips = codes "SELECT no, keep, gone, undone FROM slip ORDER BY no"

pub select_slips_is : (b : Bool) → command_of (understood (archive_schema b) select_slips) ≡ Select
    (record { lets = []; body = simple 5 [] (col 1 0 ∷ col 1 2 ∷ col 1 3 ∷ col 1 4 ∷ []) by_key })
    (codes "no" ∷ codes "keep" ∷ codes "gone" ∷ codes "undone" ∷ [])
unfolding understood everything
select_slips_is false = refl
select_slips_is true = refl

pub select_slips_plain : (b : Bool) → IsPlain (understood (archive_schema b) select_slips)
unfolding understood everything
select_slips_plain false = (refl, refl)
select_slips_plain true = (refl, refl)

pub select_slips_unlisted : (b : Bool) → reads_listing (archive_schema b) select_slips ≡ false
unfolding understood everything
select_slips_unlisted false = refl
select_slips_unlisted true = refl

abbrev pub select_slip_lines : List ℕ
select_slip_lines = codes "SELECT slip, side, no, depth, tag, text, dst FROM slip_line ORDER BY id"

pub select_slip_lines_is : (b : Bool) → command_of (understood (archive_schema b) select_slip_lines) ≡ Select
    (record {
      lets = [];
      body = simple (sides_tree b) [] (col 1 2 ∷ col 1 3 ∷ col 1 4 ∷ col 1 6 ∷ col 1 7 ∷ col 1 8 ∷ col 1 9 ∷ [])
          by_key;
    }) (codes "slip" ∷ codes "side" ∷ codes "no" ∷ codes "depth" ∷ codes "tag" ∷ codes "text" ∷ codes "dst" ∷ [])
unfolding understood everything
select_slip_lines_is false = refl
select_slip_lines_is true = refl

pub select_slip_lines_plain : (b : Bool) → IsPlain (understood (archive_schema b) select_slip_lines)
unfolding understood everything
select_slip_lines_plain false = (refl, refl)
select_slip_lines_plain true = (refl, refl)

pub select_slip_lines_unlisted : (b : Bool) → reads_listing (archive_schema b) select_slip_lines ≡ false
unfolding understood everything
select_slip_lines_unlisted false = refl
select_slip_lines_unlisted true = refl
