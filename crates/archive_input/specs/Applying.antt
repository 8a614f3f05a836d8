-- What applying rows does: each is served as it asks, and its answer is written, one after the other. Rules of our own.
use Rattle.std.specs.Prelude.{◌≡◌, ◌⊎◌, ℕ, Bool, true, false, List, [], ◌∷◌, ◌++◌, Option, None, Ok, Err, cond}
use Rattle.std.specs.List.{AllByRecursion, flat_map}
use Rattle.std.specs.Io.KnownBytes.{Appends}
use Rattle.sqlite.specs.Held.{state}
use Rattle.sqlite.specs.State.{HasCleanDisk}
use Rattle.sqlite_trees.specs.declared.store.Store.{Ghosts}
use Rattle.devices.specs.Devices.{AppendsBeginning}
use Rattle.record_text.specs.declared.refusal.RefusalKind.{RefusalKind}
use Rattle.record_text.specs.declared.refusal.RefusalKind.TheVariants.{OutOfMemory, ReadFailed, Storage, WriteFailed}
use Rattle.archive_core.specs.Machine.{Done, Runs}
use Rattle.archive_core.specs.Steps.{refused_at}
use Rattle.archive_state.specs.Content.{Content}
use Rattle.store.specs.Archives.{HasArchive}
use Rattle.store.specs.Calls.{OnArchive, Performs}
use Rattle.store.specs.Histories.{Outcome, has_failed, in_doubt, is_storage, must_reopen}
use Rattle.store.specs.Shut.{is_shut}
use Rattle.store.specs.Standing.{must_wait}
use Rattle.store.specs.declared.archive.Archive.{Archive}
use Rattle.archive_input.specs.Answers.{Served, answer_text}
use Rattle.request_csv.specs.Input.{AreFirstRows, AreRows, Row}
use Rattle.archive_input.specs.Requests.{Asks, AsksWith, IsUnread}
use Rattle.row_references.specs.References.{IsNumbered, has_references, kept_number, numbered}

-- ---- rows and what became of them
-- the requests among the rows, with their outcomes
abbrev pub calls_of : List Served → List Done
calls_of [] = []
calls_of (Ok done ∷ served) = done ∷ calls_of served
calls_of (Err bad ∷ served) = calls_of served

-- nobody knows whether the request of the row was done
abbrev pub is_in_doubt : Served → Bool
is_in_doubt (Ok done) = has_failed done.1
is_in_doubt (Err bad) = false

-- a row was served as it asks where this is the row with its numbers
abbrev pub IsServedWith : Option Row → Row → Served → Type 0
IsServedWith own row (Ok done) = AsksWith own row (Ok done.0)
IsServedWith own row (Err bad) = AsksWith own row (Err bad) ⊎ IsUnread row bad

-- the same of an archive that can be read: its references were found out unless memory was refused
abbrev pub IsServedBy : Option Row → Row → Served → Type 0
IsServedBy own row (Ok done) = AsksWith own row (Ok done.0)
IsServedBy own row (Err bad) = AsksWith own row (Err bad) ⊎ (IsUnread row bad × (bad.kind ≡ OutOfMemory))

-- a row was served as it asks with some numbers; with which is said of the archive before it (`IsServedIn`)
abbrev pub IsServed : Row → Served → Type 0
IsServed row s = (own : Option Row) × IsNumbered row own × IsServedWith own row s

-- the same of a row without references: it was served as it asks
abbrev pub IsServedAsItIs : Row → Served → Type 0
IsServedAsItIs row (Ok done) = Asks row (Ok done.0)
IsServedAsItIs row (Err bad) = Asks row (Err bad)

-- a row was served as it asks with the numbers that its tokens have in what an archive holds; of a request that is in
-- doubt they are not known
abbrev pub IsServedOver : Content → Row → Served → Type 0
IsServedOver c row s = is_in_doubt s ≡ false → IsServedBy (numbered (kept_number c) row) row s

-- each row was, in their order
abbrev pub AreServed : List Row → List Served → Type 0
AreServed [] [] = Unit {0}
AreServed [] (s ∷ served) = ⊥
AreServed (row ∷ rows) [] = ⊥
AreServed (row ∷ rows) (s ∷ served) = IsServed row s × AreServed rows served

-- each row was with its numbers, the first over what an archive holds, each other over what those before it leave
abbrev pub AreServedOver : Content → List Row → List Served → Type 0
AreServedOver c [] [] = Unit {0}
AreServedOver c [] (s ∷ served) = ⊥
AreServedOver c (row ∷ rows) [] = ⊥
AreServedOver c (row ∷ rows) (s ∷ served) = IsServedOver c row s
    × ((after : Content) → Runs c (calls_of (s ∷ [])) after → AreServedOver after rows served)

-- the answers; a request in doubt gets none
abbrev pub answer_to : Served → List ℕ
answer_to served = cond (is_in_doubt served) [] (answer_text served)

abbrev pub answers : List Served → List ℕ
answers served = flat_map answer_to served

-- ---- the archive and the writer
-- nobody knows whether the request was done
abbrev pub failing : Outcome
failing = Err (refused_at None Storage)

-- requests performed on an archive that took them, while the disk is clean
abbrev pub PerformsAll : {S : Type 0} → (g : Ghosts S) → Archive S g → List Done → Archive S g → Type 0
PerformsAll g old calls new =
    HasCleanDisk (state g new.conn) → is_shut old ≡ false → Performs (state g old.conn) calls (state g new.conn)

-- the outcome of each request on an archive that takes none: 81 where the database has failed, else 84
abbrev pub outcome_when_shut : {S : Type 0} {g : Ghosts S} → Archive S g → Outcome
outcome_when_shut a = cond a.is_lost must_reopen must_wait

-- requests on an archive that takes none: each has that outcome, and the archive stays as it is
abbrev pub RefusesAll : {S : Type 0} → (g : Ghosts S) → Archive S g → List Done → Archive S g → Type 0
RefusesAll g old calls new = is_shut old ≡ true
    → AllByRecursion (λ (call : Done). call.1 ≡ outcome_when_shut old) calls × (new ≡ old)

-- what one row does to an archive: its request is performed, which shuts the archive where it is in doubt, or refused
-- where the archive takes none; else nothing
abbrev pub Steps : {S : Type 0} → (g : Ghosts S) → Served → Archive S g → Archive S g → Type 0
Steps g (Ok done) old new =
    PerformsAll g old (done ∷ []) new × (is_shut old ≡ false → is_shut new ≡ has_failed done.1)
    × RefusesAll g old (done ∷ []) new
Steps g (Err bad) old new = new ≡ old

-- an archive that took requests takes them still, and none was performed: it was only looked at for the references of
-- a row
abbrev pub OnlyLooks : {S : Type 0} → (g : Ghosts S) → Row → Archive S g → Archive S g → Type 0
OnlyLooks g row old new =
    (has_references row ≡ true) × (is_shut old ≡ false) × (is_shut new ≡ false) × PerformsAll g old [] new

-- the same of a row with its references
abbrev pub StepsRow : {S : Type 0} → (g : Ghosts S) → Row → Served → Archive S g → Archive S g → Type 0
StepsRow g row (Ok done) old new = Steps g (Ok done) old new
StepsRow g row (Err bad) old new = Steps g (Err bad) old new ⊎ OnlyLooks g row old new

-- a row was served as it asks with the numbers that the archive before it has for its tokens
abbrev pub IsServedIn : {S : Type 0} → (g : Ghosts S) → Row → Served → Archive S g → Archive S g → Type 0
IsServedIn g row s old new = HasCleanDisk (state g new.conn) → is_shut old ≡ false
    → OnArchive (state g old.conn) (λ society c rows. IsServedOver c row s)

-- rows were, one after the other from an archive on
abbrev pub AreServedIn : {S : Type 0} → (g : Ghosts S) → List Row → List Served → Archive S g → Archive S g → Type 0
AreServedIn g rows served old new = HasCleanDisk (state g new.conn) → is_shut old ≡ false → (society : List ℕ)
    (c : Content) → HasArchive society c (state g old.conn) → AreServedOver c rows served

-- a beginning of an answer was written: memory was refused, or the writer failed
abbrev pub WritesPart : RefusalKind → Option (List ℕ) → Option (List ℕ) → List ℕ → Type 0
WritesPart kind before after text = ((kind ≡ OutOfMemory) ⊎ (kind ≡ WriteFailed)) × AppendsBeginning before after text

-- the last request is in doubt, and no other
abbrev pub EndsInDoubt : List Served → Type 0
EndsInDoubt served =
    (first : List Served) × (last : Done) × (served ≡ first ++ Ok last ∷ []) × (in_doubt (calls_of first) ≡ None)
    × (has_failed last.1 ≡ true)

-- 80: the last request is in doubt; 94: all rows that were read are answered; 1 and 95: a beginning of the answers was
-- written
abbrev pub Ends : RefusalKind → List Served → Option (List ℕ) → Option (List ℕ) → Type 0
Ends kind served before after =
    ((kind ≡ Storage) × EndsInDoubt served × Appends before after (answers served))
    ⊎ ((in_doubt (calls_of served) ≡ None) × (((kind ≡ ReadFailed) × Appends before after (answers served))
    ⊎ WritesPart kind before after (answers served)))

-- rows, which are these of an input, were served and answered; an archive that took requests still takes them
pub record AppliedOf {S : Type 0} (AreOf : Option (List ℕ) → List Row → Type 0) (g : Ghosts S)
    (input before after : Option (List ℕ)) (old new : Archive S g) : Type 0 where
  pub rows : List Row
  pub served : List Served
  pub all : AreOf input rows
  pub each : AreServed rows served
  pub numbers : AreServedIn g rows served old new
  pub certain : in_doubt (calls_of served) ≡ None
  pub kept : is_shut old ≡ false → is_shut new ≡ false
  pub performed : PerformsAll g old (calls_of served) new
  pub refused : RefusesAll g old (calls_of served) new
  pub written : Appends before after (answers served)

-- all rows were
abbrev pub Applied : {S : Type 0} → (g : Ghosts S) → (input before after : Option (List ℕ))
    → (old new : Archive S g) → Type 0
Applied g input before after old new = AppliedOf AreRows g input before after old new

-- the first rows were served, and then the call ended early; 80 loses the archive, and nothing else does
pub record Ended {S : Type 0} (g : Ghosts S) (kind : RefusalKind) (input before after : Option (List ℕ))
    (old new : Archive S g) : Type 0 where
  pub rows : List Row
  pub served : List Served
  pub first : AreFirstRows input rows
  pub each : AreServed rows served
  pub numbers : AreServedIn g rows served old new
  pub performed : PerformsAll g old (calls_of served) new
  pub refused : RefusesAll g old (calls_of served) new
  pub lost : is_shut old ≡ false → is_shut new ≡ is_storage kind
  pub written : Ends kind served before after
