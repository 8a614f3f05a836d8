-- The life of an archive: sessions that follow each other, each over what the stop before it left. Rules of our own.
use Rattle.std.specs.Prelude.{ℕ, ◌≡◌, ◌⊎◌, false, List, [], ◌∷◌, ◌++◌, None, Some, Ok}
use Rattle.sqlite.specs.Held.{Held, state}
use Rattle.sqlite.specs.State.{HasCleanDisk, State}
use Rattle.sqlite.specs.Tree.{Trees}
use Rattle.sqlite_trees.specs.declared.store.Store.{Ghosts}
use Rattle.archive_state.specs.Content.{Content}
use Rattle.archive_core.specs.Machine.{Done, Runs}
use Rattle.archive_core.specs.declared.request.Request.{Request}
use Rattle.receipts.specs.declared.answer.Answer.{Answer}
use Rattle.store.specs.Archives.{HasArchive, IsArchive, LeavesArchive}
use Rattle.store.specs.Earlier.{HadArchive, HoldsArchive, LeavesHeld, WasArchive}
use Rattle.store.specs.Histories.{MayBeFound, answered, in_doubt}
use Rattle.store.specs.Importing.{Has}
use Rattle.store.specs.Standing.{Standing, ready}

-- a connection that was opened over these tables has the archive that they are, in the version that they have
pub record IsOpenedOver (t : Trees) (s : State) : Type 0 where
  pub has : (society : List ℕ) (c : Content) → IsArchive society c t → HasArchive society c s
  pub had : (society : List ℕ) (c : Content) → WasArchive society c t → HadArchive society c s

-- and it was taken up: the archive is of the second version, whichever of the two the tables had
abbrev pub IsTakenUpOver : Trees → State → Type 0
IsTakenUpOver t s = (society : List ℕ) (c : Content) → HoldsArchive society c t → HasArchive society c s

-- a connection that was opened over these tables, on which the archive was not taken up: a crash leaves what they hold,
-- in the second version if that was theirs, else in one of the two
pub record IsRefusedOver (t : Trees) (s : State) : Type 0 where
  pub kept : (society : List ℕ) (c : Content) → IsArchive society c t → LeavesArchive s society (λ found. found ≡ c)
  pub held : (society : List ℕ) (c : Content) → WasArchive society c t → LeavesHeld s society c

-- ---- the calls of a session, on a connection, by how its archive stood before each and stands after it
-- requests that are done, by a call on an archive that is not lost, which may be none, as of a call that reads, or that
-- writes rows of an import. Unless the database failed, they are a run of the machine, and the archive has what it
-- leaves; in any case a stop leaves what their history allows
pub record GoesOn {S : Type 0} (g : Ghosts S) (old : Held S) (was : Standing) (calls : List Done) (new : Held S)
    (is : Standing) : Type 0 where
  pub kept : was.is_lost ≡ false
  pub certain : is.is_lost ≡ false → in_doubt calls ≡ None
  pub done : HasCleanDisk (state g new) → is.is_lost ≡ false → (society : List ℕ) (c : Content)
      → Has society c was.import (state g old)
      → (after : Content) × Runs c calls after × Has society after is.import (state g new)
  pub crash : HasCleanDisk (state g new) → (society : List ℕ) (c : Content) → Has society c was.import (state g old)
      → LeavesArchive (state g new) society (MayBeFound c calls)
  pub clean : HasCleanDisk (state g new) → HasCleanDisk (state g old)

-- a call that is refused for how the archive stands: 81, 84, 85 or 86
pub record IsStill {S : Type 0} (old : Held S) (was : Standing) (calls : List Done) (new : Held S)
    (is : Standing) : Type 0 where
  pub unheard : calls ≡ []
  pub same : new ≡ old
  pub stands : is ≡ was

abbrev pub IsCall : {S : Type 0} → Ghosts S → Held S → Standing → List Done → Held S → Standing → Type 0
IsCall g old was calls new is = GoesOn g old was calls new is ⊎ IsStill old was calls new is

-- a call, by the requests that it does, and how the archive stands afterwards
abbrev pub Call : Type 0
Call = List Done × Standing

-- calls one after the other
abbrev pub Serves : {S : Type 0} → Ghosts S → Held S → Standing → List Call → Held S → Type 0
Serves g old was [] new = new ≡ old
Serves {S} g old was (call ∷ more) new = (next : Held S) × IsCall g old was call.0 next call.1
    × Serves g next call.1 more new

-- the requests of calls, in their order
abbrev pub requests_of : List Call → List Done
requests_of [] = []
requests_of (call ∷ more) = call.0 ++ requests_of more

-- ---- sessions
-- calls on the archive of a connection, which is then stopped, which leaves these tables
abbrev pub SessionOn : {S : Type 0} → Ghosts S → Held S → List Done → Trees → Type 0
SessionOn {S} g first calls after = (last : Held S) × (all : List Call) × Serves g first ready all last
    × HasCleanDisk (state g last) × (calls ≡ requests_of all) × (state g last).may_leave after

-- an archive is not taken up over these tables, and that is stopped, which leaves those tables: nothing was asked of it
abbrev pub IsRefusedSession : {S : Type 0} → Ghosts S → Trees → List Done → Trees → Type 0
IsRefusedSession {S} g before calls after = (last : Held S) × IsRefusedOver before (state g last)
    × HasCleanDisk (state g last) × (calls ≡ []) × (state g last).may_leave after

-- a session: an archive is taken up over these tables, is called, and is stopped, which leaves those tables; or it is
-- stopped before it is taken up
abbrev pub Session : {S : Type 0} → Ghosts S → Trees → List Done → Trees → Type 0
Session {S} g before calls after = ((first : Held S) × IsTakenUpOver before (state g first)
    × SessionOn g first calls after) ⊎ IsRefusedSession g before calls after

-- a session, and then others
abbrev pub Life : {S : Type 0} → Ghosts S → Trees → List Done → List (List Done) → Trees → Type 0
Life g before calls [] after = Session g before calls after
Life g before calls (next ∷ more) after = (between : Trees) × Session g before calls between
    × Life g between next more after

-- the same, where the first session is on an archive that was just made, or taken up
abbrev pub LifeOn : {S : Type 0} → Ghosts S → Held S → List Done → List (List Done) → Trees → Type 0
LifeOn g first calls [] after = SessionOn g first calls after
LifeOn g first calls (next ∷ more) after = (between : Trees) × SessionOn g first calls between
    × Life g between next more after

-- what counts of a session: the requests that were answered, and then the one that was in doubt, done, or not
abbrev pub Counts : List Done → List Done → Type 0
Counts calls dones = (dones ≡ answered calls)
    ⊎ ((r : Request) × (answer : Answer) × (in_doubt calls ≡ Some r) × (dones ≡ answered calls ++ (r, Ok answer) ∷ []))

-- what counts of sessions, one after the other
abbrev pub CountInAll : List Done → List (List Done) → List Done → Type 0
CountInAll calls [] dones = Counts calls dones
CountInAll calls (next ∷ more) dones = (first : List Done) × (rest : List Done) × Counts calls first
    × CountInAll next more rest × (dones ≡ first ++ rest)
