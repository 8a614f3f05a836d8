-- The keys of register entries as texts, one for each key.
use Rattle.std.specs.Prelude.{
  ℕ,
  ◌≡◌,
  ◌≢◌,
  ◌<◌,
  List,
  ◌∷◌,
  ◌++◌,
  ◌||◌,
  not,
  Bool,
  true,
  false,
  bytes_eq,
  decimal,
  Option,
  Some,
  None,
}
use Rattle.std.specs.List.{list_any}
use Rattle.std.specs.FinMap.{get}
use Rattle.std.specs.BTreeSet.{BTreeSet, contains_text}
use Rattle.std.specs.declared.string.String.{String}
use Rattle.record_fields.specs.Words.{entry_kind_word}
use Rattle.record_kinds.specs.Model as model
use Rattle.record_kinds.specs.declared.record.Record.{Record}
use Rattle.record_kinds.specs.declared.record.Record.TheVariants as kind
use Rattle.archive_state.specs.Content.{Records}
use Rattle.archive_state.specs.Entries.{IsEntryAt}

-- source, kind, item and page of an entry, parted by U+0000, which is in no number and in no kind
abbrev pub key_words : model.Entry → List ℕ
key_words e = decimal e.source ++ (0 ∷ (entry_kind_word e.kind ++ (0 ∷ (decimal e.item.number ++ (0 ∷ e.page)))))

-- what stands at a number, if that is an entry
abbrev pub entry_in : Option Record → Option model.Entry
entry_in (Some (kind.Entry e)) = Some e
entry_in _ = None

-- an entry that has this key
abbrev pub has_words : List ℕ → Option model.Entry → Bool
has_words words None = false
has_words words (Some e) = bytes_eq (key_words e) words

-- the set has the keys of the entries at these numbers, and no other
abbrev pub IsKeyed : {Y : Type 0} → BTreeSet (String Y) → Records → List ℕ → Type 0
IsKeyed keys m front = (words : List ℕ) → contains_text keys words
    ≡ list_any (λ n. has_words words (entry_in (get m n))) front

-- no two entries agree in source, kind, page and item
abbrev pub AreApart : Records → Type 0
AreApart m = (n k : ℕ) (e : model.Entry) → get m n ≡ Some (kind.Entry e)
    → IsEntryAt m e.source e.kind e.page e.item k → n ≡ k

-- another entry has the key of the one at the number
abbrev pub HasTaken : Records → ℕ → Type 0
HasTaken m n = (e : model.Entry) × (get m n ≡ Some (kind.Entry e))
    × ((k : ℕ) × IsEntryAt m e.source e.kind e.page e.item k × (n ≢ k))

-- the key of an entry is added, and it was there or not
pub record AddsKey {Y Z : Type 0} (before : BTreeSet (String Y)) (after : BTreeSet (String Z)) (e : model.Entry)
    (new : Bool) : Type 0 where
  pub fits : e.source < 4294967296
  pub told : new ≡ not (contains_text before (key_words e))
  pub added : (words : List ℕ) → contains_text after words
      ≡ (contains_text before words || bytes_eq (key_words e) words)

-- the same, where there is an entry
abbrev pub Adds : {Y Z : Type 0} → BTreeSet (String Y) → BTreeSet (String Z) → Option model.Entry → Bool → Type 0
Adds before after (Some e) new = AddsKey before after e new
Adds before after None new = (new ≡ true) × ((words : List ℕ) → contains_text after words ≡ contains_text before words)
