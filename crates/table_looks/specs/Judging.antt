-- When the tables of an archive are good, and what an audit says of them. Rules of our own.
use Rattle.std.specs.Prelude.{ℕ, ◌≡◌, ◌⊎◌, true, List, length, Option, Result, Ok, Err, IfOk, IfErr, IfSome}
use Rattle.std.specs.FinMap.{keys}
use Rattle.sqlite.specs.State.{State, HasCleanDisk}
use Rattle.record_text.specs.declared.refusal.RefusalKind.{RefusalKind}
use Rattle.record_text.specs.declared.refusal.RefusalKind.TheVariants.{BadStored}
use Rattle.archive_state.specs.Content.{Content}
use Rattle.archive_state.specs.Sound.{IsSound}
use Rattle.audit.specs.Faults.{IsFault}
use Rattle.store_tables.specs.Calls.{Settled, LeavesOnly}
use Rattle.store_tables.specs.Looking.{IsFailure}
use Rattle.store_tables.specs.Rows.{LinkRow, Rows, SoughtRow, SpanRow}
use Rattle.store_tables.specs.Schema.{archive_schema}
use Rattle.store_tables.specs.Showing.{ShowsLinks, ShowsRows, ShowsSoughts, ShowsSpans}
use Rattle.store_rows.specs.Meaning.{AllShallow, Means}
use Rattle.table_looks.specs.Linking.{HaveLinks, LacksLink}
use Rattle.table_looks.specs.Seeking.{HasSought, HaveSoughts, soughts_in}
use Rattle.table_looks.specs.Spanning.{HasOwn, HaveSpans, spans_in}
use Rattle.table_looks.specs.declared.flaw.Flaw.{Flaw}
use Rattle.table_looks.specs.declared.flaw.Flaw.TheVariants as flaw

-- what tables have beside records: spans, links, and what is looked for
pub record Beside : Type 0 where
  pub spans : List SpanRow
  pub links : List LinkRow
  pub soughts : List SoughtRow

abbrev pub beside_in : Rows → Beside
beside_in rows = record { spans = rows.spans; links = rows.links; soughts = rows.soughts }

-- each record has its own of these: the span of its date, a link for each number that it names, and what it is looked
-- for by
pub record HaveOwn (b : Beside) (c : Content) : Type 0 where
  pub spans : HaveSpans b.spans c
  pub links : HaveLinks b.links c
  pub soughts : HaveSoughts b.soughts c

-- the rows mean what is sound, has its own beside it, and has that many records
abbrev pub MeanGood : ℕ → Rows → (Content → Type 0) → Type 0
MeanGood n rows HasItsOwn =
    (c : Content) × Means rows c × IsSound c × HasItsOwn c × (n ≡ length (keys c.records))

-- so they do, and of the second schema the rows have that too
abbrev pub AreGood : ℕ → Rows → Type 0
AreGood n rows = MeanGood n rows (λ c. rows.has_spans ≡ true → HaveOwn (beside_in rows) c)

-- they are those of no archive: they mean nothing that can be read and is sound, and whose own they have beside it
abbrev pub AreNone : Rows → Type 0
AreNone rows = (c : Content) → Means rows c → AllShallow c → IsSound c → rows.has_spans ≡ true
    → ¬ (HaveOwn (beside_in rows) c)

-- the content breaks the rule of a sound archive so, or a record does not have its own of these
abbrev pub IsFlaw : Content → Beside → Flaw → Type 0
IsFlaw c b (flaw.Rule fault) = IsFault c fault
IsFlaw c b (flaw.Span n) = ¬ (HasOwn c (spans_in b.spans) n)
IsFlaw c b (flaw.Link n target) = LacksLink c b.links n target
IsFlaw c b (flaw.Sought n) = ¬ (HasSought c (soughts_in b.soughts) n)

-- so that not each has its own
abbrev pub IsLacking : Content → Beside → Flaw → Type 0
IsLacking c b f = IsFlaw c b f × ¬ (HaveOwn b c)

-- what the rows mean has the flaw; those beside the rule are flaws of rows of the second schema
abbrev pub AreFlawed : Flaw → Rows → Type 0
AreFlawed (flaw.Rule fault) rows = (c : Content) × Means rows c × IsFault c fault
AreFlawed f rows = rows.has_spans ≡ true → (c : Content) × Means rows c × IsFlaw c (beside_in rows) f

-- whoever reads the tables is shown these beside the records
pub record ShowsBeside (b : Beside) (s : State) : Type 0 where
  pub spans : ShowsSpans b.spans s
  pub links : ShowsLinks b.links s
  pub soughts : ShowsSoughts b.soughts s

-- these are shown, and then the tables are as they were: whatever is shown after that was shown before it
abbrev pub ShowsBehind : Beside → State → State → Type 0
ShowsBehind b old new = (new.now.schema ≡ archive_schema true) × ShowsBeside b old
    × ((rows : Rows) → ShowsRows rows new → ShowsRows rows old)

-- whoever reads the tables is shown rows that mean what is sound, and beside them what each record has of its own
abbrev pub ShowsGood : ℕ → State → Type 0
ShowsGood n s = (rows : Rows) × (b : Beside) × ShowsRows rows s × ShowsBeside b s × MeanGood n rows (HaveOwn b)

-- what an audit answers: the number of records, or why not, with the flaw that it found
abbrev pub Audit : Type 0
Audit = Result ℕ (RefusalKind × Option Flaw)

-- the same without the flaw that it found
abbrev pub without_fault : Audit → Result ℕ RefusalKind
without_fault (Ok n) = Ok n
without_fault (Err e) = Err e.0

-- an answer only of good tables, whoever wrote the rows; 40 only of others, and else a failure
pub record Judges (old : State) (result : Result ℕ RefusalKind) : Type 0 where
  pub only : IfOk result (λ n. old.now.schema ≡ archive_schema true → ShowsGood n old)
  pub good : IfOk result (λ n. (rows : Rows) → Settled old rows → AreGood n rows)
  pub bad : IfErr result (λ kind. (rows : Rows) → Settled old rows
      → IsFailure kind ⊎ ((kind ≡ BadStored) × AreNone rows))

-- the flaw that is reported is so
abbrev pub Tells : State → Audit → Type 0
Tells old result = IfErr result (λ e. IfSome e.1 (λ flaw. (rows : Rows) → Settled old rows → AreFlawed flaw rows))

-- the tables are kept, also after a crash
pub record KeepsTables (old new : State) : Type 0 where
  pub crash : (rows : Rows) → Settled old rows → LeavesOnly new rows
  pub clean : HasCleanDisk old
