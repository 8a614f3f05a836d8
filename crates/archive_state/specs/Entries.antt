-- The keys of register entries: rules of our own.
use Rattle.std.specs.Prelude.{ℕ, ◌≡◌, List, Some}
use Rattle.std.specs.FinMap.{get}
use Rattle.record_kinds.specs.Model as model
use Rattle.record_kinds.specs.declared.record.Record.TheVariants as kind
use Rattle.record_fields.specs.declared.entry_words.EntryKind.{EntryKind}
use Rattle.record_fields.specs.declared.item.Item.{Item}
use Rattle.archive_state.specs.Content.{Records}

-- the entry has that source, kind, page and item
abbrev pub HasKey : ℕ → EntryKind → List ℕ → Item → model.Entry → Type 0
HasKey source k page item e = (e.source ≡ source) × (e.kind ≡ k) × (e.page ≡ page) × (e.item ≡ item)

-- an entry of that source, kind, page and item stands at the number
abbrev pub IsEntryAt : Records → ℕ → EntryKind → List ℕ → Item → ℕ → Type 0
IsEntryAt m source k page item n = (e : model.Entry) × (get m n ≡ Some (kind.Entry e)) × HasKey source k page item e
