-- The words of kinds of entries and of sexes: each is a plain text, and no two are the same.
use Rattle.std.proofs.Common.{ap, ◌≡◌, ◌∙◌, sym, ◌==◌, refl, false, ℕ, slice_index, ◌∷◌, zero, ◌<◌, arith, [], suc}
use Rattle.std.specs.Prelude.{Some, decimal}
use Rattle.std.specs.List.{list_any}
use Rattle.std.specs.Str.{IsUtf8}
use Rattle.std.proofs.lemmas.Str.{IsUtf8-from_ascii}
use Rattle.record_fields.specs.Words.{entry_kind_word, entry_kind_of, sex_word}
use Rattle.record_fields.proofs.Worded.{entry_kind_back}
use Rattle.record_fields.specs.declared.entry_words.EntryKind.{EntryKind}
use Rattle.record_fields.specs.declared.entry_words.EntryKind.TheVariants.{Marriage, Baptism, Burial}
use Rattle.record_fields.specs.declared.item.Item.{Item}
use Rattle.record_fields.proofs.Items.{decimal_is_plain}
use Rattle.record_fields.specs.declared.words.Sex.{Sex}
use Rattle.record_fields.specs.declared.words.Sex.TheVariants as sex
use Rattle.record_text.specs.Text.{IsText}

-- kinds are the same where their words are
pub same_kind : (a b : EntryKind) → entry_kind_word a ≡ entry_kind_word b → a ≡ b
same_kind a b e = let both : Some a ≡ Some b = sym (entry_kind_back a) ∙ ap entry_kind_of e ∙ entry_kind_back b in cc

pub kind_plain : (k : EntryKind) → list_any (λ x. x == 0) (entry_kind_word k) ≡ false
kind_plain Baptism = refl
kind_plain Marriage = refl
kind_plain Burial = refl

pub item_plain : (i : Item) → list_any (λ x. x == 0) (decimal i.number) ≡ false
item_plain i = (decimal_is_plain i.number (decimal i.number) refl i.in_range).no_nul

-- a text of one ASCII letter
one_below : (b : ℕ) → b < 128 → (i : ℕ) → slice_index (b ∷ []) i < 128
one_below b h zero = h
one_below b h (suc i) = omega arith

a_letter : (b : ℕ) → b < 128 → IsUtf8 (b ∷ [])
a_letter b h = IsUtf8-from_ascii (b ∷ []) (one_below b h)

pub sex_text : (s : Sex) → IsText (sex_word s)
sex_text sex.Male = record { utf8 = a_letter 77 (omega arith); no_nul = refl; no_cr = refl; short = omega arith }
sex_text sex.Female = record { utf8 = a_letter 70 (omega arith); no_nul = refl; no_cr = refl; short = omega arith }
sex_text sex.Unknown = record { utf8 = a_letter 85 (omega arith); no_nul = refl; no_cr = refl; short = omega arith }
