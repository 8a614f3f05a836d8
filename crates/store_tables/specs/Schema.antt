-- The tables of an archive, as the first schema has them and as the second one does, and the schemas that come before
-- while they are made. Our own; the numbers of trees are those that SQLite gives, one to each CREATE, from 0.
use Rattle.sqlite.specs.Collation.TheVariants.{Binary}
use Rattle.std.specs.Prelude.{true, false, Bool, [], ◌∷◌, Some, codes, List, ℕ}
use Rattle.sqlite.specs.declared.types.Value.TheVariants.{Null}
use Rattle.sqlite.specs.Table.{Table}
use Rattle.sqlite.specs.Schema.{Schema}
use Rattle.sqlite.specs.Kind.{Kind}
use Rattle.sqlite.specs.Kind.TheVariants.{Integer, Text, Blob}
use Rattle.sqlite_schema.specs.declared.schema.Column.{Column}
use Rattle.sqlite_schema.specs.declared.schema.Index.{Index}
use Rattle.sqlite_schema.specs.declared.schema.Reference.{Reference}
use Rattle.sqlite_schema.specs.declared.schema.Action.TheVariants.{NoAction, Restrict}

abbrev pub a_column : List ℕ → Kind → Bool → Column
a_column name kind not_null = record {
  name = name;
  kind = kind;
  is_strict = true;
  not_null = not_null;
  default = Null;
  collation = Binary;
}

abbrev pub number : List ℕ → Column
number name = a_column name Integer true

-- a table whose first column is its INTEGER PRIMARY KEY
abbrev pub a_table : List ℕ → ℕ → List ℕ → List Column → List Reference → Table
a_table name tree key columns references = record {
  name = name;
  tree = tree;
  columns = a_column key Integer false ∷ columns;
  key = Some 0;
  primary = 0 ∷ [];
  uniques = [];
  orders = [];
  checks = [];
  references = references;
  computed = [];
  stamps = record { places = []; terms = []; formats = [] };
  is_counted = false;
}

-- a column that refers to a table's number, deletion restricted
abbrev pub to_number_of : List ℕ → ℕ → Reference
to_number_of parent place = record {
  columns = place ∷ [];
  parent = parent;
  parent_columns = codes "no" ∷ [];
  on_delete = Restrict;
  on_update = NoAction;
  is_deferred = false;
}

-- a plain index on one column
abbrev pub an_index : List ℕ → ℕ → ℕ → ℕ → Index
an_index name tree table place = record {
  name = name;
  tree = tree;
  table = table;
  columns = place ∷ [];
  order = record { digits = 0 };
  is_unique = false;
}

abbrev pub meta : Table
meta = a_table (codes "meta") 0 (codes "one")
    (number (codes "version") ∷ number (codes "next") ∷ a_column (codes "society") Text true ∷ []) []

abbrev pub batches : Table
batches = a_table (codes "batch") 1 (codes "no") (number (codes "is_open") ∷ []) []

abbrev pub records : Table
records = a_table (codes "record") 2 (codes "no") (a_column (codes "kind") Text true ∷ number (codes "batch") ∷ [])
    (to_number_of (codes "batch") 3 ∷ [])

abbrev pub line_columns : List Column
line_columns = number (codes "no") ∷ number (codes "pos") ∷ number (codes "depth") ∷ a_column (codes "tag") Text true
    ∷ a_column (codes "text") Text false ∷ a_column (codes "dst") Integer false ∷ []

-- each line in a row of its own: of the first schema
abbrev pub lines : Table
lines = a_table (codes "line") 3 (codes "id") line_columns
    (to_number_of (codes "record") 2 ∷ to_number_of (codes "record") 7 ∷ [])

-- all lines of a record in one row: of the second schema
abbrev pub packs : Table
packs = a_table (codes "line") 11 (codes "no")
    (number (codes "pos") ∷ number (codes "depth") ∷ a_column (codes "tag") Text true
    ∷ a_column (codes "text") Text false ∷ a_column (codes "dst") Integer false ∷ [])
    (to_number_of (codes "record") 0 ∷ [])

abbrev pub receipts : Table
receipts = a_table (codes "receipt") 4 (codes "id")
    (a_column (codes "token") Text true ∷ a_column (codes "digest") Blob true ∷ number (codes "first") ∷ number
    (codes "count") ∷ []) []

abbrev pub slips : Table
slips = a_table (codes "slip") 5 (codes "no")
    (number (codes "keep") ∷ number (codes "gone") ∷ number (codes "undone") ∷ []) []

-- a table of the lines of slips
abbrev pub sides_in : ℕ → Table
sides_in tree = a_table (codes "slip_line") tree (codes "id")
    (number (codes "slip") ∷ number (codes "side") ∷ line_columns) (to_number_of (codes "slip") 2 ∷ [])

-- each line in a row of its own: of the first schema
abbrev pub slip_lines : Table
slip_lines = sides_in 6

-- all lines of one side of a number in one row: of the second schema
abbrev pub slip_packs : Table
slip_packs = sides_in 10

abbrev pub line_by_record : Index
line_by_record = an_index (codes "line_by_record") 7 3 2

abbrev pub line_by_target : Index
line_by_target = an_index (codes "line_by_target") 8 3 7

abbrev pub receipt_by_token : Index
receipt_by_token = an_index (codes "receipt_by_token") 9 4 2

abbrev pub slip_line_by_slip : Index
slip_line_by_slip = an_index (codes "slip_line_by_slip") 10 6 2

-- on two columns: the lines with a text, and of these the ones that name a number
abbrev pub line_by_text : Index
line_by_text = record {
  name = codes "line_by_text";
  tree = 11;
  table = 3;
  columns = 6 ∷ 7 ∷ [];
  order = record { digits = 0 };
  is_unique = false;
}

-- the days that the dates of records may mean: the first and the last one, each null where there is none
abbrev pub spans : Table
spans = a_table (codes "span") 12 (codes "no")
    (a_column (codes "lo") Integer false ∷ a_column (codes "hi") Integer false ∷ [])
    (to_number_of (codes "record") 0 ∷ [])

-- the pairs of a number that is named and a record that names it, each as one integer
abbrev pub links : Table
links = a_table (codes "link") 13 (codes "id") [] []

-- what records are looked for by: a text, and the number of another record where it goes with it
abbrev pub soughts : Table
soughts = a_table (codes "sought") 14 (codes "no")
    (a_column (codes "text") Text true ∷ a_column (codes "dst") Integer false ∷ [])
    (to_number_of (codes "record") 0 ∷ [])

-- records as they were before a request, under its token
abbrev pub pasts : Table
pasts = a_table (codes "past") 15 (codes "id")
    (number (codes "no") ∷ a_column (codes "token") Text true ∷ a_column (codes "text") Text true ∷ []) []

abbrev pub sought_by_text : Index
sought_by_text = record {
  name = codes "sought_by_text";
  tree = 16;
  table = 14;
  columns = 2 ∷ 3 ∷ [];
  order = record { digits = 0 };
  is_unique = false;
}

-- the tables after the first three, in the order in which they were made
abbrev pub more_tables : Bool → List Table
more_tables false = lines ∷ receipts ∷ slips ∷ slip_lines ∷ []
more_tables true = receipts ∷ slips ∷ slip_packs ∷ packs ∷ spans ∷ links ∷ soughts ∷ pasts ∷ []

abbrev pub all_tables : Bool → List Table
all_tables has_spans = meta ∷ batches ∷ records ∷ more_tables has_spans

abbrev pub all_indexes : Bool → List Index
all_indexes false = line_by_record ∷ line_by_target ∷ receipt_by_token ∷ slip_line_by_slip ∷ line_by_text ∷ []
all_indexes true = receipt_by_token ∷ sought_by_text ∷ []

-- the schema of an archive: the second one where it has spans, else the first one
abbrev pub archive_schema : Bool → Schema
archive_schema has_spans = record { tables = all_tables has_spans; indexes = all_indexes has_spans; views = [] }

-- the tables that both schemas have
abbrev pub both_tables : List Table
both_tables = meta ∷ batches ∷ records ∷ receipts ∷ slips ∷ []

-- these tables, with their indexes, and more
abbrev pub both_and : List Table → Schema
both_and more = record {
  tables = meta ∷ batches ∷ records ∷ receipts ∷ slips ∷ more;
  indexes = receipt_by_token ∷ [];
  views = [];
}

-- the first schema without the lines of records
abbrev pub without_record_lines : Schema
without_record_lines = record {
  tables = meta ∷ batches ∷ records ∷ receipts ∷ slips ∷ slip_lines ∷ [];
  indexes = receipt_by_token ∷ slip_line_by_slip ∷ [];
  views = [];
}

abbrev pub no_schema : Schema
no_schema = record { tables = []; indexes = []; views = [] }

-- as they are made, one after the other

abbrev pub schema_1 : Schema
schema_1 = record { tables = meta ∷ []; indexes = []; views = [] }

abbrev pub schema_2 : Schema
schema_2 = record { tables = meta ∷ batches ∷ []; indexes = []; views = [] }

abbrev pub schema_3 : Schema
schema_3 = record { tables = meta ∷ batches ∷ records ∷ []; indexes = []; views = [] }

abbrev pub schema_4 : Schema
schema_4 = record { tables = meta ∷ batches ∷ records ∷ lines ∷ []; indexes = []; views = [] }

abbrev pub schema_5 : Schema
schema_5 = record { tables = meta ∷ batches ∷ records ∷ lines ∷ receipts ∷ []; indexes = []; views = [] }

abbrev pub schema_6 : Schema
schema_6 = record { tables = meta ∷ batches ∷ records ∷ lines ∷ receipts ∷ slips ∷ []; indexes = []; views = [] }

abbrev pub schema_7 : Schema
schema_7 = record {
  tables = meta ∷ batches ∷ records ∷ lines ∷ receipts ∷ slips ∷ slip_lines ∷ [];
  indexes = [];
  views = [];
}

abbrev pub schema_8 : Schema
schema_8 = record { tables = all_tables false; indexes = line_by_record ∷ []; views = [] }

abbrev pub schema_9 : Schema
schema_9 = record { tables = all_tables false; indexes = line_by_record ∷ line_by_target ∷ []; views = [] }

abbrev pub schema_10 : Schema
schema_10 = record {
  tables = all_tables false;
  indexes = line_by_record ∷ line_by_target ∷ receipt_by_token
      ∷ [];
  views = [];
}

abbrev pub schema_11 : Schema
schema_11 = record {
  tables = all_tables false;
  indexes = line_by_record ∷ line_by_target ∷ receipt_by_token
      ∷ slip_line_by_slip ∷ [];
  views = [];
}
