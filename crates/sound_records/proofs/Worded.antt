-- Two entries have one key text where they have one source, kind, page and item.
use Rattle.std.proofs.Common.{◌≡◌, ℕ, ◌<◌, ◌^◌, arith, ◌∷◌, ◌++◌, false, ◌==◌, sym, ap, ◌∙◌}
use Rattle.std.specs.Prelude.{Some, decimal}
use Rattle.std.specs.Str.Parse.{digits_value}
use Rattle.std.proofs.lemmas.Fmt.{decimal_is_IsNumeral}
use Rattle.std.specs.List.{list_any}
use Rattle.record_fields.specs.Words.{entry_kind_word}
use Rattle.record_fields.specs.declared.item.Item.{Item}
use Rattle.record_fields.proofs.Items.{item_back}
use Rattle.record_fields.specs.Items.{item_of}
use Rattle.record_kinds.specs.Model as model
use Rattle.archive_state.specs.Entries.{HasKey}
use Rattle.sound_records.specs.Keys.{key_words}
use Rattle.list_laws.proofs.Bytes.{parted, digits_plain}
use Rattle.record_fields.proofs.WordTexts.{item_plain, same_kind, kind_plain}

-- ---- no zero is in a number, in a kind and in an item

word_fits : (n : ℕ) → n < 4294967296 → n < 2 ^ 64
word_fits n h = omega arith

number_plain : (n : ℕ) → n < 4294967296 → list_any (λ x. x == 0) (decimal n) ≡ false
number_plain n h = digits_plain (decimal n) (decimal_is_IsNumeral n (word_fits n h)).0.1

number_back : (n k : ℕ) → n < 4294967296 → k < 4294967296 → decimal n ≡ decimal k → n ≡ k
number_back n k h j e = sym (decimal_is_IsNumeral n (word_fits n h)).1 ∙ ap (digits_value 10) e
    ∙ (decimal_is_IsNumeral k (word_fits k j)).1

one_item : (i j : Item) → decimal i.number ≡ decimal j.number → i ≡ j
one_item i j e = let both : Some i ≡ Some j = sym (item_back i) ∙ ap item_of e ∙ item_back j in cc

-- ---- one text, one key
pub same_key : (e f : model.Entry) → e.source < 4294967296 → f.source < 4294967296 → key_words f ≡ key_words e
    → HasKey e.source e.kind e.page e.item f
same_key e f h j same =
    let s = parted (decimal f.source) (decimal e.source)
    (entry_kind_word f.kind ++ (0 ∷ (decimal f.item.number ++ (0 ∷ f.page))))
    (entry_kind_word e.kind ++ (0 ∷ (decimal e.item.number ++ (0 ∷ e.page))))
    (number_plain f.source j) (number_plain e.source h) same in
    let k = parted (entry_kind_word f.kind) (entry_kind_word e.kind) (decimal f.item.number ++ (0 ∷ f.page))
    (decimal e.item.number ++ (0 ∷ e.page)) (kind_plain f.kind) (kind_plain e.kind) s.1 in
    let i = parted (decimal f.item.number) (decimal e.item.number) f.page e.page (item_plain f.item)
    (item_plain e.item) k.1 in
    (number_back f.source e.source j h s.0, same_kind f.kind e.kind k.0, i.1, one_item f.item e.item i.0)

pub same_words : (e f : model.Entry) → HasKey e.source e.kind e.page e.item f → key_words f ≡ key_words e
same_words e f (s, k, p, i) =
    ap (λ n. decimal n ++ (0 ∷ (entry_kind_word f.kind ++ (0 ∷ (decimal f.item.number ++ (0 ∷ f.page)))))) s
    ∙ ap (λ x. decimal e.source ++ (0 ∷ (entry_kind_word x ++ (0 ∷ (decimal f.item.number ++ (0 ∷ f.page)))))) k
    ∙ ap (λ (x : Item). decimal e.source ++ (0 ∷ (entry_kind_word e.kind
    ++ (0 ∷ (decimal x.number ++ (0 ∷ f.page)))))) i
    ∙ ap (λ x. decimal e.source ++ (0 ∷ (entry_kind_word e.kind ++ (0 ∷ (decimal e.item.number ++ (0 ∷ x)))))) p
