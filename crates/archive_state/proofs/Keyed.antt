-- Entries of a key, looked for among records.
use Rattle.std.proofs.Common.{◌≡◌, ◌↔◌, ℕ, List, Bool, sym, ap, subst, ◌∙◌, eqb-true, eq-eqb}
use Rattle.std.specs.Prelude.{Option, Some, None, IsTrue, nat_eq}
use Rattle.std.specs.FinMap.{get}
use Rattle.record_kinds.specs.Model as model
use Rattle.record_kinds.specs.declared.record.Record.{Record}
use Rattle.record_kinds.specs.declared.record.Record.TheVariants as variant
use Rattle.record_fields.specs.declared.entry_words.EntryKind.{EntryKind}
use Rattle.record_fields.specs.declared.item.Item.{Item}
use Rattle.record_fields.proofs.Items.{same_item}
use Rattle.archive_state.specs.Content.{Content, Records}
use Rattle.archive_state.specs.Entries.{HasKey, IsEntryAt}
use Rattle.archive_state.specs.Paths.{IsLowest}
use Rattle.archive_state.specs.Sound.{IsSound}

-- the record is an entry of that key
abbrev pub IsEntryOf : ℕ → EntryKind → List ℕ → Item → Record → Type 0
IsEntryOf source k page item r = (e : model.Entry) × (r ≡ variant.Entry e) × HasKey source k page item e

-- where an entry of the key stands, something stands
pub entry_there : (m : Records) (source : ℕ) (k : EntryKind) (page : List ℕ) (item : Item) (n : ℕ)
    → IsEntryAt m source k page item n → get m n ≡ None → ⊥
entry_there m source k page item n (e, at, key) none = let both : None ≡ Some (variant.Entry e) = sym none ∙ at in cc

-- the record that stands at a number decides
pub entry_is : (m : Records) (source : ℕ) (k : EntryKind) (page : List ℕ) (item : Item) (n : ℕ) (r : Record)
    → get m n ≡ Some r → IsEntryOf source k page item r → IsEntryAt m source k page item n
entry_is m source k page item n r at (e, is, key) =
    (e, let here : get m n ≡ Some (variant.Entry e) = at ∙ ap Some is in here, key)

pub entry_is_not : (m : Records) (source : ℕ) (k : EntryKind) (page : List ℕ) (item : Item) (n : ℕ) (r : Record)
    → get m n ≡ Some r → ¬ (IsEntryOf source k page item r) → ¬ (IsEntryAt m source k page item n)
entry_is_not m source k page item n r at other (e, found, key) =
    other (e, let both : Some r ≡ Some (variant.Entry e) = sym at ∙ found in cc, key)

-- a record that is an entry has the key where the entry has it
same_entry : (source : ℕ) (k : EntryKind) (page : List ℕ) (item : Item) (r : Record) (e : model.Entry)
    → r ≡ variant.Entry e → IsEntryOf source k page item r → HasKey source k page item e
same_entry source k page item r e is (f, at, key) =
    let both : variant.Entry f ≡ variant.Entry e = sym at ∙ is in
    let same : f ≡ e = cc in
    subst (HasKey source k page item) same key

pub entry_once : (source : ℕ) (k : EntryKind) (page : List ℕ) (item : Item) (r : Record) (e : model.Entry) (b : Bool)
    → r ≡ variant.Entry e → IsTrue b ↔ HasKey source k page item e → IsTrue b ↔ IsEntryOf source k page item r
entry_once source k page item r e b is iff =
    (λ t. (e, is, iff.0 t), λ h. iff.1 (same_entry source k page item r e is h))

-- what is on the page is the item where it has the number
pub item_iff : (b : Bool) (p q : List ℕ) (i j : Item) → p ≡ q → b ≡ nat_eq i.number j.number
    → IsTrue b ↔ ((p ≡ q) × (i ≡ j))
item_iff b p q i j page e = (
  λ t. (page, same_item i j (eqb-true i.number j.number (sym e ∙ t))),
  λ h. e ∙ eq-eqb i.number j.number (ap (λ (x : Item). x.number) h.1),
)

-- ---- one entry of a key
-- in a sound archive two entries of one key stand at one number
pub entry_alone : (c : Content) (source : ℕ) (k : EntryKind) (page : List ℕ) (item : Item) (n j : ℕ) → IsSound c
    → IsEntryAt c.records source k page item n → IsEntryAt c.records source k page item j → n ≡ j
entry_alone c source k page item n j sound (e, at, (is, same, on, of)) (f, found, (is', same', on', of')) =
    sound.rules.keys n j e at (f, found, (is' ∙ sym is, same' ∙ sym same, on' ∙ sym on, of' ∙ sym of))

-- and what a look for a key answers is where an entry of the key stands
pub entry_found : (c : Content) (source : ℕ) (k : EntryKind) (page : List ℕ) (item : Item) (found : Option ℕ) (n : ℕ)
    → IsSound c → IsLowest (IsEntryAt c.records source k page item) found
    → (found ≡ Some n) ↔ IsEntryAt c.records source k page item n
entry_found c source k page item None n sound none = (λ e. absurd cc, λ here. absurd (none n here))
entry_found c source k page item (Some q) n sound (there, lowest) = (
  λ e. let same : q ≡ n = cc in subst (IsEntryAt c.records source k page item) same there,
  λ here. ap Some (entry_alone c source k page item q n sound there here),
)
