-- Two entries have one key text where they have one kind, page and item.
use Rattle.std.proofs.Common.{
  ◌≡◌,
  ℕ,
  List,
  [],
  ◌∷◌,
  ◌++◌,
  Bool,
  true,
  false,
  not,
  ◌&&◌,
  ◌||◌,
  ◌==◌,
  refl,
  sym,
  ap,
  ◌∙◌,
  eqb-true,
  eq-eqb,
  append_assoc,
}
use Rattle.std.specs.Prelude.{Ok, Err, Some, decimal, bytes_eq}
use Rattle.std.specs.BTreeSet.{BTreeSet, contains_text}
use Rattle.std.specs.List.{list_any}
use Rattle.std.specs.declared.string.String.{String}
use Rattle.std.proofs.lemmas.Bool.{and_parts, and_from}
use Rattle.record_text.specs.declared.refusal.RefusalKind.TheVariants.{DuplicateEntry}
use Rattle.record_fields.specs.Bytes.{bytes_are, bytes_same}
use Rattle.record_fields.specs.Words.{entry_kind_word}
use Rattle.record_fields.specs.declared.item.Item.{Item}
use Rattle.record_fields.proofs.Items.{item_back}
use Rattle.record_fields.specs.Items.{item_of}
use Rattle.record_kinds.specs.Model as model
use Rattle.record_kinds.specs.declared.record.Record.{Record}
use Rattle.record_kinds.specs.declared.record.Record.TheVariants as kind
use Rattle.archive_state.specs.declared.changes.Numbered.{Numbered}
use Rattle.command_checks.specs.Checks.{need}
use Rattle.entry_batches.specs.Batches.{is_like_row, key_is_new}
use Rattle.entry_batches.specs.Keys.{IsKeyed, has_words, key_words}
use Rattle.list_laws.proofs.Bytes.{parted}
use Rattle.record_fields.proofs.WordTexts.{item_plain, kind_plain}
use Rattle.list_laws.proofs.Booleans.{one_test}

-- ---- no zero is in a kind and in an item

same_number : (i j : Item) → decimal i.number ≡ decimal j.number → i.number ≡ j.number
same_number i j e =
    let both : Some i ≡ Some j = sym (item_back i) ∙ ap item_of e ∙ item_back j in
    let same : i ≡ j = cc in ap (λ (x : Item). x.number) same

-- ---- the test on texts is the test on entries

like_words : (e f : model.Entry) → bytes_eq (key_words e) (key_words f) ≡ true → is_like_row e (kind.Entry f) ≡ true
like_words e f h =
    let words : entry_kind_word e.kind ++ (0 ∷ (decimal e.item.number ++ (0 ∷ e.page))) ≡ entry_kind_word f.kind
    ++ (0 ∷ (decimal f.item.number ++ (0 ∷ f.page))) = bytes_are (key_words e) (key_words f) h in
    let k = parted (entry_kind_word e.kind) (entry_kind_word f.kind) (decimal e.item.number ++ 0 ∷ e.page)
    (decimal f.item.number ++ 0 ∷ f.page) (kind_plain e.kind) (kind_plain f.kind) words in
    let i = parted (decimal e.item.number) (decimal f.item.number) e.page f.page (item_plain e.item)
    (item_plain f.item) k.1 in
    and_from (bytes_eq (entry_kind_word f.kind) (entry_kind_word e.kind))
    (bytes_eq f.page e.page && f.item.number == e.item.number)
    (bytes_same (entry_kind_word f.kind) (entry_kind_word e.kind) (sym k.0))
    (and_from (bytes_eq f.page e.page) (f.item.number == e.item.number) (bytes_same f.page e.page (sym i.1))
    (eq-eqb f.item.number e.item.number (sym (same_number e.item f.item i.0))))

words_like : (e f : model.Entry) → is_like_row e (kind.Entry f) ≡ true → bytes_eq (key_words e) (key_words f) ≡ true
words_like e f h =
    let k = bytes_are (entry_kind_word f.kind) (entry_kind_word e.kind)
    (and_parts (bytes_eq (entry_kind_word f.kind) (entry_kind_word e.kind))
    (bytes_eq f.page e.page && f.item.number == e.item.number) h).0 in
    let rest = (and_parts (bytes_eq (entry_kind_word f.kind) (entry_kind_word e.kind))
    (bytes_eq f.page e.page && f.item.number == e.item.number) h).1 in
    let p = bytes_are f.page e.page (and_parts (bytes_eq f.page e.page) (f.item.number == e.item.number) rest).0 in
    let n : f.item.number ≡ e.item.number = eqb-true f.item.number e.item.number
    (and_parts (bytes_eq f.page e.page) (f.item.number == e.item.number) rest).1 in
    let words : entry_kind_word e.kind ++ (0 ∷ (decimal e.item.number ++ (0 ∷ e.page))) ≡ entry_kind_word f.kind
    ++ (0 ∷ (decimal f.item.number ++ (0 ∷ f.page))) =
    ap (λ (w : List ℕ). w ++ (0 ∷ (decimal e.item.number ++ (0 ∷ e.page)))) (sym k)
    ∙ ap (λ (m : ℕ). entry_kind_word f.kind ++ (0 ∷ (decimal m ++ (0 ∷ e.page)))) (sym n)
    ∙ ap (λ (w : List ℕ). entry_kind_word f.kind ++ (0 ∷ (decimal f.item.number ++ (0 ∷ w)))) (sym p) in
    bytes_same (key_words e) (key_words f) words

one_words : (e : model.Entry) (r : Record) → has_words (key_words e) r ≡ is_like_row e r
one_words e (kind.Entry f) = one_test (bytes_eq (key_words e) (key_words f)) (is_like_row e (kind.Entry f))
    (like_words e f) (words_like e f)
one_words e (kind.Place p) = refl
one_words e (kind.Repo p) = refl
one_words e (kind.Source p) = refl
one_words e (kind.Person p) = refl
one_words e (kind.Family p) = refl
one_words e (kind.Citation p) = refl
one_words e (kind.Event p) = refl
one_words e (kind.Other p) = refl

pub all_words : (e : model.Entry) (made : List Numbered)
    → list_any (λ (p : Numbered). has_words (key_words e) p.«record») made ≡ list_any
    (λ (p : Numbered). is_like_row e p.«record») made
all_words e [] = refl
all_words e (p ∷ made) =
    ap (λ b. b || list_any (λ (q : Numbered). has_words (key_words e) q.«record») made) (one_words e p.«record»)
    ∙ ap (λ b. is_like_row e p.«record» || b) (all_words e made)

-- ---- one more key
pub any_behind : (f : Numbered → Bool) (made : List Numbered) (p : Numbered) → list_any f (made ++ (p ∷ []))
    ≡ (list_any f made || f p)
any_behind f [] p = sym (none_more (f p))
  where
    none_more : (b : Bool) → b ≡ (b || false)
    none_more true = refl
    none_more false = refl
any_behind f (q ∷ made) p = ap (λ b. f q || b) (any_behind f made p) ∙ or_assoc (f q) (list_any f made) (f p)
  where
    or_assoc : (a b c : Bool) → (a || (b || c)) ≡ ((a || b) || c)
    or_assoc true b c = refl
    or_assoc false b c = refl

-- ---- what a look for the key of an entry has found
pub is_taken : (e : model.Entry) (made : List Numbered) (words : List ℕ) (b : Bool) → words ≡ key_words e
    → b ≡ list_any (λ (p : Numbered). has_words words p.«record») made → b ≡ true
    → key_is_new made e ≡ Err DuplicateEntry
is_taken e made words b same is h =
    ap (λ x. need (not x) DuplicateEntry)
    (sym (is ∙ ap (λ w. list_any (λ (p : Numbered). has_words w p.«record») made) same ∙ all_words e made) ∙ h)

pub is_free : (e : model.Entry) (made : List Numbered) (words : List ℕ) (b : Bool) → words ≡ key_words e
    → b ≡ list_any (λ (p : Numbered). has_words words p.«record») made → b ≡ false → key_is_new made e ≡ Ok tt
is_free e made words b same is h =
    ap (λ x. need (not x) DuplicateEntry)
    (sym (is ∙ ap (λ w. list_any (λ (p : Numbered). has_words w p.«record») made) same ∙ all_words e made) ∙ h)

-- ---- the keys with that of one entry more
pub keyed_more : {Y : Type 0} (old new : BTreeSet (String Y)) (made : List Numbered) (e : model.Entry) (n : ℕ)
    → IsKeyed old made
    → ((x : List ℕ) → contains_text new x ≡ (contains_text old x || bytes_eq x (key_words e)))
    → IsKeyed new (made ++ (record { number = n; «record» = kind.Entry e } ∷ []))
keyed_more old new made e n keyed adds = λ x.
    adds x ∙ ap (λ b. b || bytes_eq x (key_words e)) (keyed x)
    ∙ sym (any_behind (λ (p : Numbered). has_words x p.«record») made
    (record { number = n; «record» = kind.Entry e }))

-- the parts of a key, put together one after the other
pub joined : (k i p : List ℕ) → (((k ++ (0 ∷ [])) ++ i) ++ (0 ∷ [])) ++ p ≡ k ++ (0 ∷ (i ++ (0 ∷ p)))
joined k i p =
    append_assoc ((k ++ (0 ∷ [])) ++ i) (0 ∷ []) p ∙ append_assoc (k ++ (0 ∷ [])) i (0 ∷ p)
    ∙ append_assoc k (0 ∷ []) (i ++ (0 ∷ p))
