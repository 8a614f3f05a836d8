-- What an archive holds after an import, and the numbers that the import draws.
use Rattle.std.specs.Prelude.{ℕ, ◌≡◌, ◌+◌, ◌<◌, ◌≤◌, List, [], ◌∷◌, map, Some, None, Ok}
use Rattle.std.specs.FinMap.{get}
use Rattle.record_kinds.specs.declared.record.Record.{Record}
use Rattle.record_shapes.specs.Lists.{EachOf}
use Rattle.archive_state.specs.Applied.{with_puts}
use Rattle.archive_state.specs.Changes.{Batch}
use Rattle.archive_state.specs.Content.{Content}
use Rattle.archive_state.specs.Sound.{IsSound}
use Rattle.archive_state.specs.declared.changes.Numbered.{Numbered}
use Rattle.gedcom_tree.specs.Forest.{Item}
use Rattle.gedcom_tree.specs.Text.{IsForest}
use Rattle.import_definitions.specs.Made.{made}

-- with the records of the batch at their numbers
abbrev pub imported : Content → Batch → Content
imported c b = record c { records = with_puts c.records b.records; next = b.next }

-- numbers that count up from the first to the one before the end
abbrev pub CountUp : ℕ → ℕ → List ℕ → Type 0
CountUp first end [] = first ≡ end
CountUp first end (n ∷ ns) = (n ≡ first) × CountUp (first + 1) end ns

abbrev pub numbers : Batch → List ℕ
numbers b = map (λ (p : Numbered). p.number) b.records

-- the numbers of a batch count up from the archive's next number to the batch's
abbrev pub NumbersAreNew : Type 0
NumbersAreNew = (c : Content) (f : List Item) (b : Batch) → made c f ≡ Ok b
    → CountUp c.next b.next (numbers b) × (b.next ≤ 4294967296)

-- a record stands there
abbrev pub IsAt : Content → Numbered → Type 0
IsAt c p = get c.records p.number ≡ Some p.«record»

-- what an import leaves of a sound archive: what stood still stands, what is in the batch stands, and what is new has a
-- number from the next one on
pub record StandsAfter (c : Content) (b : Batch) : Type 0 where
  pub still : (n : ℕ) (r : Record) → get c.records n ≡ Some r → get (imported c b).records n ≡ Some r
  pub batch : EachOf (IsAt (imported c b)) b.records
  pub new : (n : ℕ) (r : Record) → get c.records n ≡ None → get (imported c b).records n ≡ Some r
      → (c.next ≤ n) × (n < b.next)

abbrev pub RecordsStand : Type 0
RecordsStand = (c : Content) (f : List Item) (b : Batch) → IsSound c → made c f ≡ Ok b → StandsAfter c b

-- an import of any forest into a sound archive leaves it sound
abbrev pub ImportsStaySound : Type 0
ImportsStaySound = (c : Content) (f : List Item) (b : Batch) → IsSound c → IsForest f → made c f ≡ Ok b
    → IsSound (imported c b)
