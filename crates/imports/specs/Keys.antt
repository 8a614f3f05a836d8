-- The keys of entries, as they are looked for: a text for each. No clause that callers see names these definitions.
use Rattle.std.specs.Prelude.{
  ℕ,
  ◌≡◌,
  ◌+◌,
  ◌<◌,
  ◌^◌,
  ◌||◌,
  Bool,
  false,
  List,
  [],
  ◌∷◌,
  ◌++◌,
  Option,
  Some,
  None,
  bytes_eq,
  decimal,
  if◌then◌else◌,
}
use Rattle.record_fields.specs.Words.{entry_kind_word}
use Rattle.record_kinds.specs.Model as model
use Rattle.record_shapes.specs.Reading.{Draft}
use Rattle.imports.specs.Seconds.{entry_in}

-- source, kind, item and page of an entry, parted by U+0000, which is in no number and in no kind
abbrev pub key_words : model.Entry → List ℕ
key_words e =
    decimal e.source ++ (0 ∷ (entry_kind_word e.kind ++ (0 ∷ (decimal e.item.number ++ (0 ∷ e.page)))))

-- the words are the key of the entry, where there is one
abbrev pub is_key : List ℕ → Option model.Entry → Bool
is_key words None = false
is_key words (Some e) = bytes_eq words (key_words e)

-- the key of the entry is among those that were seen
abbrev pub is_seen : (List ℕ → Bool) → Option model.Entry → Bool
is_seen seen None = false
is_seen seen (Some e) = seen (key_words e)

-- with its key
abbrev pub seen_with : (List ℕ → Bool) → Option model.Entry → List ℕ → Bool
seen_with seen e words = seen words || is_key words e

-- the position, from k on, of the first draft that is an entry whose key was seen
abbrev pub second_by : ℕ → (List ℕ → Bool) → List Draft → Option ℕ
second_by k seen [] = None
second_by k seen (d ∷ behind) = if is_seen seen (entry_in d) then Some k
    else second_by (k + 1) (seen_with seen (entry_in d)) behind

-- each entry names a source of 64 bits
abbrev pub IsSmall : Draft → Type 0
IsSmall d = (e : model.Entry) → entry_in d ≡ Some e → e.source < 2 ^ 64

abbrev pub AreSmall : List Draft → Type 0
AreSmall [] = Unit {0}
AreSmall (d ∷ ds) = IsSmall d × AreSmall ds
