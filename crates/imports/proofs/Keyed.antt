-- Two entries have one key text where they have one source, kind, page and item.
use Rattle.std.proofs.Common.{◌≡◌, ℕ, ◌<◌, ◌^◌, List, ◌∷◌, ◌++◌, true, false, ◌&&◌, ◌==◌, sym, eqb-true, eq-eqb, arith}
use Rattle.std.specs.Prelude.{decimal, bytes_eq}
use Rattle.std.specs.List.{list_any}
use Rattle.std.proofs.lemmas.Bool.{and_parts, and_from}
use Rattle.std.proofs.lemmas.Fmt.{decimal_injective, decimal_is_IsNumeral}
use Rattle.record_fields.specs.Bytes.{bytes_are, bytes_same}
use Rattle.record_fields.specs.Words.{entry_kind_word}
use Rattle.record_fields.specs.declared.item.Item.{Item}
use Rattle.record_kinds.specs.Model as model
use Rattle.import_definitions.specs.Made.{has_key_of}
use Rattle.imports.specs.Keys.{key_words}
use Rattle.list_laws.proofs.Bytes.{parted, digits_plain}
use Rattle.list_laws.proofs.Booleans.{one_test}
use Rattle.record_fields.proofs.WordTexts.{kind_plain}

-- ---- no zero is in a number and in a kind

number_plain : (n : ℕ) → n < 2 ^ 64 → list_any (λ x. x == 0) (decimal n) ≡ false
number_plain n h = digits_plain (decimal n) (decimal_is_IsNumeral n h).0.1

small_item : (i : Item) → i.number < 2 ^ 64
small_item i = let high = i.in_range.1 in omega (arith, high)

-- ---- the test on texts is the test on entries

key_of_words : (e g : model.Entry) → e.source < 2 ^ 64 → g.source < 2 ^ 64 → bytes_eq (key_words e) (key_words g) ≡ true
    → has_key_of e g ≡ true
key_of_words e g he hg h =
    let s = parted (decimal e.source) (decimal g.source)
    (entry_kind_word e.kind ++ (0 ∷ (decimal e.item.number ++ (0 ∷ e.page))))
    (entry_kind_word g.kind ++ (0 ∷ (decimal g.item.number ++ (0 ∷ g.page))))
    (number_plain e.source he) (number_plain g.source hg) (bytes_are (key_words e) (key_words g) h) in
    let k = parted (entry_kind_word e.kind) (entry_kind_word g.kind) (decimal e.item.number ++ 0 ∷ e.page)
    (decimal g.item.number ++ 0 ∷ g.page) (kind_plain e.kind) (kind_plain g.kind) s.1 in
    let i = parted (decimal e.item.number) (decimal g.item.number) e.page g.page
    (number_plain e.item.number (small_item e.item)) (number_plain g.item.number (small_item g.item)) k.1 in
    and_from (e.source == g.source) (bytes_eq (entry_kind_word e.kind) (entry_kind_word g.kind)
    && (bytes_eq e.page g.page && e.item.number == g.item.number))
    (eq-eqb e.source g.source (decimal_injective e.source g.source he hg s.0))
    (and_from (bytes_eq (entry_kind_word e.kind) (entry_kind_word g.kind))
    (bytes_eq e.page g.page && e.item.number == g.item.number)
    (bytes_same (entry_kind_word e.kind) (entry_kind_word g.kind) k.0)
    (and_from (bytes_eq e.page g.page) (e.item.number == g.item.number) (bytes_same e.page g.page i.1)
    (eq-eqb e.item.number g.item.number
    (decimal_injective e.item.number g.item.number (small_item e.item) (small_item g.item) i.0))))

words_of_key : (e g : model.Entry) → has_key_of e g ≡ true → bytes_eq (key_words e) (key_words g) ≡ true
words_of_key e g h =
    let a = and_parts (e.source == g.source) (bytes_eq (entry_kind_word e.kind) (entry_kind_word g.kind)
    && (bytes_eq e.page g.page && e.item.number == g.item.number)) h in
    let b = and_parts (bytes_eq (entry_kind_word e.kind) (entry_kind_word g.kind))
    (bytes_eq e.page g.page && e.item.number == g.item.number) a.1 in
    let c = and_parts (bytes_eq e.page g.page) (e.item.number == g.item.number) b.1 in
    let s : e.source ≡ g.source = eqb-true e.source g.source a.0 in
    let k : entry_kind_word e.kind ≡ entry_kind_word g.kind =
    bytes_are (entry_kind_word e.kind) (entry_kind_word g.kind) b.0 in
    let p : e.page ≡ g.page = bytes_are e.page g.page c.0 in
    let n : e.item.number ≡ g.item.number = eqb-true e.item.number g.item.number c.1 in
    bytes_same (key_words e) (key_words g)
    (λ i. decimal (s i) ++ (0 ∷ (k i ++ (0 ∷ (decimal (n i) ++ (0 ∷ p i))))))

turned : (x y : List ℕ) → bytes_eq x y ≡ true → bytes_eq y x ≡ true
turned x y h = bytes_same y x (sym (bytes_are x y h))

pub one_key : (e g : model.Entry) → e.source < 2 ^ 64 → g.source < 2 ^ 64
    → bytes_eq (key_words e) (key_words g) ≡ has_key_of g e
one_key e g he hg = one_test (bytes_eq (key_words e) (key_words g)) (has_key_of g e)
    (λ h. key_of_words g e hg he (turned (key_words e) (key_words g) h))
    (λ h. turned (key_words g) (key_words e) (words_of_key g e h))
