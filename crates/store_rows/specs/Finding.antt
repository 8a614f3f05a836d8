-- What the code that looks for a place by its path, or for an entry by its key, meets on its way. No clause that
-- callers see names these definitions.
use Rattle.std.specs.Prelude.{
  ℕ,
  ◌≡◌,
  ◌<◌,
  ◌==◌,
  ◌⊎◌,
  ◌↔◌,
  ◌++◌,
  true,
  Bool,
  List,
  Option,
  Some,
  None,
  MatchOption,
  cond,
  codes,
  length,
  nat_lt,
  IsTrue,
}
use Rattle.std.specs.List.{list_any}
use Rattle.std.specs.FinMap.{get}
use Rattle.record_fields.specs.declared.entry_words.EntryKind.{EntryKind}
use Rattle.record_fields.specs.declared.item.Item.{Item}
use Rattle.record_kinds.specs.Model as model
use Rattle.record_kinds.specs.declared.record.Record.{Record}
use Rattle.record_kinds.specs.declared.record.Record.TheVariants as kind
use Rattle.archive_state.specs.Content.{Records}
use Rattle.archive_state.specs.Entries.{HasKey}
use Rattle.archive_state.specs.Paths.{HasPath}
use Rattle.store_tables.specs.Keyed.{sought_by}
use Rattle.store_tables.specs.Rows.{Rows}
use Rattle.store_rows.specs.declared.finding.Climb.{Climb}
use Rattle.store_rows.specs.declared.finding.Climb.TheVariants as climb

-- the number is one of these
abbrev pub IsAmong : ℕ → List ℕ → Type 0
IsAmong n ns = list_any (λ k. k == n) ns ≡ true

-- the lowest of these numbers of which P holds; none where it holds of none of them
abbrev pub IsLowestAmong : (ℕ → Type 0) → List ℕ → Option ℕ → Type 0
IsLowestAmong P ns found = MatchOption found ((n : ℕ) → IsAmong n ns → ¬ (P n))
    (λ n. P n × ((k : ℕ) → IsAmong k ns → k < n → ¬ (P k)))

-- the lower of two numbers, where the first is there
abbrev pub lower : Option ℕ → ℕ → ℕ
lower None n = n
lower (Some m) n = cond (nat_lt m n) m n

-- a place with the path may have this name: it is the path, or what comes before comma and space in it
abbrev pub IsFront : List ℕ → List ℕ → Type 0
IsFront name path = (path ≡ name) ⊎ ((rest : List ℕ) × (path ≡ name ++ (codes ", " ++ rest)))

-- among these are all numbers that are looked for by such a name
abbrev pub HasAllSaying : List ℕ → Rows → List ℕ → Type 0
HasAllSaying path rows ns = (n : ℕ) (name : List ℕ) → IsFront name path
    → IsAmong n (sought_by name rows) → IsAmong n ns

-- the same of names with so many bytes that stand before comma and space
abbrev pub HasSaying : ℕ → List ℕ → Rows → List ℕ → Type 0
HasSaying at path rows ns = (n : ℕ) (name rest : List ℕ) → path ≡ name ++ (codes ", " ++ rest) → length name ≡ at
    → IsAmong n (sought_by name rows) → IsAmong n ns

-- what one step up says of records in which this place is at the number: whether it has the path, or that it has where
-- its parent has the rest
abbrev pub IsClimb : Records → ℕ → List ℕ → Climb → Type 0
IsClimb m n path (climb.Ended is) = IsTrue is ↔ HasPath m n path
IsClimb m n path (climb.Above q rest) = (is : Bool) → IsTrue is ↔ HasPath m q rest.now → IsTrue is ↔ HasPath m n path

abbrev pub IsClimbFrom : Option Record → ℕ → List ℕ → Climb → Type 0
IsClimbFrom found n path step = (m : Records) → get m n ≡ found → IsClimb m n path step

-- a step up leads to a smaller number
abbrev pub LeadsBelow : ℕ → Climb → Type 0
LeadsBelow n (climb.Ended is) = Unit {0}
LeadsBelow n (climb.Above q rest) = q < n

-- what was found at a number is an entry of that source, kind, page and item
abbrev pub IsEntryFound : Option Record → ℕ → EntryKind → List ℕ → Item → Type 0
IsEntryFound found source k page item = (e : model.Entry) × (found ≡ Some (kind.Entry e)) × HasKey source k page item e
