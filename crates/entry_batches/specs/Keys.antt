-- The keys of the entries that a batch has made, as they are looked for: a text for each. No clause that callers see
-- names these definitions.
use Rattle.std.specs.Prelude.{ℕ, ◌≡◌, ◌≤◌, List, ◌∷◌, ◌++◌, length, Bool, false, bytes_eq, decimal}
use Rattle.std.specs.BTreeSet.{BTreeSet, contains_text}
use Rattle.std.specs.List.{list_any}
use Rattle.std.specs.declared.string.String.{String}
use Rattle.record_fields.specs.Words.{entry_kind_word}
use Rattle.record_kinds.specs.Model as model
use Rattle.record_kinds.specs.declared.record.Record.{Record}
use Rattle.record_kinds.specs.declared.record.Record.TheVariants as kind
use Rattle.archive_state.specs.declared.changes.Numbered.{Numbered}

-- kind, item and page of an entry, parted by U+0000, which is in no kind and in no item
abbrev pub key_words : model.Entry → List ℕ
key_words e = entry_kind_word e.kind ++ (0 ∷ (decimal e.item.number ++ (0 ∷ e.page)))

-- an entry that has this key
abbrev pub has_words : List ℕ → Record → Bool
has_words words (kind.Entry e) = bytes_eq words (key_words e)
has_words words _ = false

-- the set has the keys of what was made, and no other
abbrev pub IsKeyed : {Y : Type 0} → BTreeSet (String Y) → List Numbered → Type 0
IsKeyed keys made = (words : List ℕ) → contains_text keys words ≡ list_any
    (λ (p : Numbered). has_words words p.«record») made

-- the number of the next row is one of 32 bits
abbrev pub IsCounted : List Numbered → Type 0
IsCounted made = length made ≤ 4_294_967_294
