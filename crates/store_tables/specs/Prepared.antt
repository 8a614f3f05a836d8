-- Whether a store has the tables of an archive: the queries that read them are prepared, one after the other.
use Rattle.std.specs.Prelude.{◌≡◌, true, false, List, [], ◌∷◌, ◌++◌, ℕ, codes, Ok, Err, Result, OnOk, IfErr}
use Rattle.std.specs.List.{AllByRecursion}
use Rattle.sqlite.specs.declared.error.Error.{Error}
use Rattle.sqlite.specs.Given.{IsPlain}
use Rattle.sqlite.specs.Listing.{understood}
use Rattle.sqlite.specs.Schema.{Schema}
use Rattle.sqlite.specs.State.{State, HasCleanDisk, IsNotRun, IsUnchanged, Survives}
use Rattle.sqlite_resolve.specs.declared.compiled.Compiled.{Compiled}
use Rattle.sqlite_resolve.specs.declared.error.CompileError.{CompileError}
use Rattle.sqlite_resolve.specs.declared.error.CompileError.TheVariants.{NoSuchTable}
use Rattle.sqlite_rules.specs.Lists.{Has}
use Rattle.record_text.specs.declared.refusal.RefusalKind.{RefusalKind}
use Rattle.record_text.specs.declared.refusal.RefusalKind.TheVariants.{Storage, NotAnArchive}
use Rattle.store_tables.specs.Looking.{meta_query}
use Rattle.store_tables.specs.Schema.{archive_schema}
use Rattle.store_tables.specs.declared.version.Version.{Version}
use Rattle.store_tables.specs.declared.version.Version.TheVariants.{First, Second}
use Rattle.store_tables.specs.Telling.{lacks, tells_no_archive}

abbrev pub batch_query : List ℕ
batch_query = codes "SELECT no, is_open FROM batch ORDER BY no"

abbrev pub record_query : List ℕ
record_query = codes "SELECT no, batch FROM record ORDER BY no"

abbrev pub record_queries : List (List ℕ)
record_queries = batch_query ∷ record_query ∷ []

abbrev pub receipt_query : List ℕ
receipt_query = codes "SELECT token, digest, first, count FROM receipt ORDER BY id"

abbrev pub slip_query : List ℕ
slip_query = codes "SELECT no, keep, gone, undone FROM slip ORDER BY no"

abbrev pub slip_line_query : List ℕ
slip_line_query = codes "SELECT slip, side, no, depth, tag, text, dst FROM slip_line ORDER BY id"

abbrev pub history_queries : List (List ℕ)
history_queries = receipt_query ∷ slip_query ∷ slip_line_query ∷ []

-- the queries that read the tables which both schemas have
abbrev pub all_queries : List (List ℕ)
all_queries = meta_query ∷ record_queries ++ history_queries

-- the query that reads the table of lines which only the first schema has
abbrev pub line_query : List ℕ
line_query = codes "SELECT no, depth, tag, text, dst FROM line ORDER BY rowid"

abbrev pub pack_query : List ℕ
pack_query = codes "SELECT no, tag, text, dst FROM line ORDER BY no"

abbrev pub span_query : List ℕ
span_query = codes "SELECT no, lo, hi FROM span ORDER BY no"

abbrev pub link_query : List ℕ
link_query = codes "SELECT id FROM link ORDER BY id"

abbrev pub sought_query : List ℕ
sought_query = codes "SELECT no, text, dst FROM sought ORDER BY no"

-- what is drawn from the lines
abbrev pub drawn_queries : List (List ℕ)
drawn_queries = span_query ∷ link_query ∷ sought_query ∷ []

-- the queries that read the tables which only the second schema has
abbrev pub later_queries : List (List ℕ)
later_queries = pack_query ∷ drawn_queries

-- the queries that read the tables of a version
abbrev pub queries_of : Version → List (List ℕ)
queries_of First = all_queries ++ line_query ∷ []
queries_of Second = all_queries ++ later_queries

-- the text is of a table that only the second schema has, and changes nothing
abbrev pub IsOfSecond : List ℕ → Type 0
IsOfSecond sql = IsPlain (understood (archive_schema true) sql)
    × (understood (archive_schema false) sql ≡ Err NoSuchTable)

-- the schema has all that the text names
abbrev pub IsUnderstood : Schema → List ℕ → Type 0
IsUnderstood schema sql = (c : Compiled) × (understood schema sql ≡ Ok c)

-- it has not: a table or a column is missing
abbrev pub NamesMissing : Schema → List ℕ → Type 0
NamesMissing schema sql = (fault : CompileError) × (understood schema sql ≡ Err fault) × (lacks fault ≡ true)

-- the text cannot be prepared for another reason
abbrev pub FailsOtherwise : State → State → List ℕ → Type 0
FailsOtherwise old new sql = (e : Error) × IsNotRun old new sql [] e × (tells_no_archive e ≡ false)

-- why the tables of a store are refused
abbrev pub IsRefusedTables : List (List ℕ) → State → State → RefusalKind → Type 0
IsRefusedTables queries old new Storage = (sql : List ℕ) × Has queries sql × FailsOtherwise old new sql
IsRefusedTables queries old new NotAnArchive = IsUnchanged old new
    × ((sql : List ℕ) × Has queries sql × NamesMissing old.now.schema sql)
IsRefusedTables queries old new _ = ⊥

-- each query is understood, or the tables are refused; nothing is changed
pub record PreparesAll {A : Type 0} (queries : List (List ℕ)) (old new : State)
    (result : Result A RefusalKind) : Type 0 where
  pub same : HasCleanDisk new → OnOk result (IsUnchanged old new)
  pub told : HasCleanDisk new → OnOk result (AllByRecursion (IsUnderstood old.now.schema) queries)
  pub refused : HasCleanDisk new → IfErr result (IsRefusedTables queries old new)
  pub survives : Survives old new (λ _. ⊥)
