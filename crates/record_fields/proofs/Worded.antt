-- A word is that of one value, and each value is found by its word.
use Rattle.std.specs.Prelude.{
  ◌≡◌,
  ◌≢◌,
  ℕ,
  List,
  [],
  ◌∷◌,
  true,
  false,
  cond,
  Option,
  Some,
  None,
  bytes_eq,
  MatchOption,
  refl,
}
use Rattle.std.proofs.Common.{ap, sym, ◌∙◌}
use Rattle.std.proofs.Math.Dec.{lit≤}
use Rattle.record_text.specs.Text.{IsPlain}
use Rattle.record_fields.specs.Bytes.{bytes_are}
use Rattle.record_fields.specs.Words.{
  found,
  quality_word,
  quality_of,
  sex_word,
  sex_of,
  partnership_word,
  partnership_of,
  entry_kind_word,
  entry_kind_of,
  role_word,
  role_of,
}
use Rattle.record_fields.specs.declared.words.Quality.{Quality}
use Rattle.record_fields.specs.declared.words.Quality.TheVariants as quality
use Rattle.record_fields.specs.declared.words.Sex.{Sex}
use Rattle.record_fields.specs.declared.words.Sex.TheVariants as sex
use Rattle.record_fields.specs.declared.words.Partnership.{Partnership}
use Rattle.record_fields.specs.declared.words.Partnership.TheVariants as partnership
use Rattle.record_fields.specs.declared.entry_words.EntryKind.{EntryKind}
use Rattle.record_fields.specs.declared.entry_words.EntryKind.TheVariants as entry_kind
use Rattle.record_fields.specs.declared.entry_words.Role.{Role}
use Rattle.record_fields.specs.declared.entry_words.Role.TheVariants as role

module _ {A : Type 0} (word : A → List ℕ) where
  found-is : (more : List A) (text : List ℕ) (a : A) → found word more text ≡ Some a → text ≡ word a
  found-is [] text a e = absurd cc
  found-is (b ∷ more) text a e =
      elim (bytes_eq text (word b)) as (λ v. bytes_eq text (word b) ≡ v → cond v (Some b) (found word more text)
      ≡ Some a → text ≡ word a) [
        | true ↦ λ z f. bytes_are text (word b) z ∙ (let same : b ≡ a = cc in ap word same)
        | false ↦ λ z f. found-is more text a f
      ] refl e

  exact : (all : List A) → ((a : A) → found word all (word a) ≡ Some a) → (text : List ℕ) (r : Option A)
      → r ≡ found word all text → MatchOption r ((a : A) → text ≢ word a) (λ a. text ≡ word a)
  exact all back text None e = λ a h. let some : found word all text ≡ Some a = ap (found word all) h
      ∙ back a in absurd cc
  exact all back text (Some a) e = found-is all text a (sym e)

  read : (all : List A) → ((a : A) → found word all (word a) ≡ Some a) → (text : List ℕ) (r : Option A)
      → MatchOption r ((a : A) → text ≢ word a) (λ a. text ≡ word a) → r ≡ found word all text
  read all back text (Some a) is = sym (back a) ∙ ap (found word all) (sym is)
  read all back text None lacks = none (found word all text) refl
    where
      none : (o : Option A) → found word all text ≡ o → None ≡ o
      none None e = refl
      none (Some a) e = absurd (lacks a (found-is all text a e))

pub quality_back : (x : Quality) → quality_of (quality_word x) ≡ Some x
quality_back quality.Unreliable = refl
quality_back quality.Questionable = refl
quality_back quality.Secondary = refl
quality_back quality.Primary = refl

pub quality_exact : (text : List ℕ) (r : Option Quality) → r ≡ quality_of text
    → MatchOption r ((x : Quality) → text ≢ quality_word x) (λ x. text ≡ quality_word x)
quality_exact text r e = exact quality_word
    (quality.Unreliable ∷ quality.Questionable ∷ quality.Secondary ∷ quality.Primary ∷ []) quality_back text r e

pub quality_read : (text : List ℕ) (r : Option Quality) → MatchOption r ((x : Quality) → text ≢ quality_word x)
    (λ x. text ≡ quality_word x) → r ≡ quality_of text
quality_read text r e = read quality_word (quality.Unreliable ∷ quality.Questionable ∷ quality.Secondary
    ∷ quality.Primary ∷ []) quality_back text r e

pub quality_is_plain : (x : Quality) → IsPlain (quality_word x)
quality_is_plain quality.Unreliable = record { no_nul = refl; no_cr = refl; short = lit≤ tt }
quality_is_plain quality.Questionable = record { no_nul = refl; no_cr = refl; short = lit≤ tt }
quality_is_plain quality.Secondary = record { no_nul = refl; no_cr = refl; short = lit≤ tt }
quality_is_plain quality.Primary = record { no_nul = refl; no_cr = refl; short = lit≤ tt }

pub sex_back : (x : Sex) → sex_of (sex_word x) ≡ Some x
sex_back sex.Male = refl
sex_back sex.Female = refl
sex_back sex.Unknown = refl

pub sex_exact : (text : List ℕ) (r : Option Sex) → r ≡ sex_of text → MatchOption r ((x : Sex) → text ≢ sex_word x)
    (λ x. text ≡ sex_word x)
sex_exact text r e = exact sex_word (sex.Male ∷ sex.Female ∷ sex.Unknown ∷ []) sex_back text r e

pub sex_read : (text : List ℕ) (r : Option Sex) → MatchOption r ((x : Sex) → text ≢ sex_word x) (λ x. text ≡ sex_word x)
    → r ≡ sex_of text
sex_read text r e = read sex_word (sex.Male ∷ sex.Female ∷ sex.Unknown ∷ []) sex_back text r e

pub sex_is_plain : (x : Sex) → IsPlain (sex_word x)
sex_is_plain sex.Male = record { no_nul = refl; no_cr = refl; short = lit≤ tt }
sex_is_plain sex.Female = record { no_nul = refl; no_cr = refl; short = lit≤ tt }
sex_is_plain sex.Unknown = record { no_nul = refl; no_cr = refl; short = lit≤ tt }

pub partnership_back : (x : Partnership) → partnership_of (partnership_word x) ≡ Some x
partnership_back partnership.Husband = refl
partnership_back partnership.Wife = refl

pub partnership_exact : (text : List ℕ) (r : Option Partnership) → r ≡ partnership_of text
    → MatchOption r ((x : Partnership) → text ≢ partnership_word x) (λ x. text ≡ partnership_word x)
partnership_exact text r e = exact partnership_word (partnership.Husband ∷ partnership.Wife ∷ [])
    partnership_back text r e

pub partnership_read : (text : List ℕ) (r : Option Partnership)
    → MatchOption r ((x : Partnership) → text ≢ partnership_word x) (λ x. text ≡ partnership_word x)
    → r ≡ partnership_of text
partnership_read text r e = read partnership_word (partnership.Husband ∷ partnership.Wife ∷ [])
    partnership_back text r e

pub partnership_is_plain : (x : Partnership) → IsPlain (partnership_word x)
partnership_is_plain partnership.Husband = record { no_nul = refl; no_cr = refl; short = lit≤ tt }
partnership_is_plain partnership.Wife = record { no_nul = refl; no_cr = refl; short = lit≤ tt }

pub entry_kind_back : (x : EntryKind) → entry_kind_of (entry_kind_word x) ≡ Some x
entry_kind_back entry_kind.Baptism = refl
entry_kind_back entry_kind.Marriage = refl
entry_kind_back entry_kind.Burial = refl

pub entry_kind_exact : (text : List ℕ) (r : Option EntryKind) → r ≡ entry_kind_of text
    → MatchOption r ((x : EntryKind) → text ≢ entry_kind_word x) (λ x. text ≡ entry_kind_word x)
entry_kind_exact text r e = exact entry_kind_word (entry_kind.Baptism ∷ entry_kind.Marriage ∷ entry_kind.Burial ∷ [])
    entry_kind_back text r e

pub entry_kind_read : (text : List ℕ) (r : Option EntryKind)
    → MatchOption r ((x : EntryKind) → text ≢ entry_kind_word x) (λ x. text ≡ entry_kind_word x)
    → r ≡ entry_kind_of text
entry_kind_read text r e = read entry_kind_word (entry_kind.Baptism ∷ entry_kind.Marriage ∷ entry_kind.Burial ∷ [])
    entry_kind_back text r e

pub entry_kind_is_plain : (x : EntryKind) → IsPlain (entry_kind_word x)
entry_kind_is_plain entry_kind.Baptism = record { no_nul = refl; no_cr = refl; short = lit≤ tt }
entry_kind_is_plain entry_kind.Marriage = record { no_nul = refl; no_cr = refl; short = lit≤ tt }
entry_kind_is_plain entry_kind.Burial = record { no_nul = refl; no_cr = refl; short = lit≤ tt }

pub role_back : (x : Role) → role_of (role_word x) ≡ Some x
role_back role.Child = refl
role_back role.Father = refl
role_back role.Mother = refl
role_back role.Godparent = refl
role_back role.Groom = refl
role_back role.Bride = refl
role_back role.FatherOfGroom = refl
role_back role.FatherOfBride = refl
role_back role.Witness = refl
role_back role.Buried = refl
role_back role.Spouse = refl

pub role_exact : (text : List ℕ) (r : Option Role) → r ≡ role_of text → MatchOption r ((x : Role) → text ≢ role_word x)
    (λ x. text ≡ role_word x)
role_exact text r e = exact role_word (role.Child ∷ role.Father ∷ role.Mother ∷ role.Godparent ∷ role.Groom ∷ role.Bride
    ∷ role.FatherOfGroom ∷ role.FatherOfBride ∷ role.Witness ∷ role.Buried ∷ role.Spouse ∷ []) role_back text r e

pub role_read : (text : List ℕ) (r : Option Role) → MatchOption r ((x : Role) → text ≢ role_word x)
    (λ x. text ≡ role_word x) → r ≡ role_of text
role_read text r e = read role_word (role.Child ∷ role.Father ∷ role.Mother ∷ role.Godparent ∷ role.Groom ∷ role.Bride
    ∷ role.FatherOfGroom ∷ role.FatherOfBride ∷ role.Witness ∷ role.Buried ∷ role.Spouse ∷ []) role_back text r e

pub role_is_plain : (x : Role) → IsPlain (role_word x)
role_is_plain role.Child = record { no_nul = refl; no_cr = refl; short = lit≤ tt }
role_is_plain role.Father = record { no_nul = refl; no_cr = refl; short = lit≤ tt }
role_is_plain role.Mother = record { no_nul = refl; no_cr = refl; short = lit≤ tt }
role_is_plain role.Godparent = record { no_nul = refl; no_cr = refl; short = lit≤ tt }
role_is_plain role.Groom = record { no_nul = refl; no_cr = refl; short = lit≤ tt }
role_is_plain role.Bride = record { no_nul = refl; no_cr = refl; short = lit≤ tt }
role_is_plain role.FatherOfGroom = record { no_nul = refl; no_cr = refl; short = lit≤ tt }
role_is_plain role.FatherOfBride = record { no_nul = refl; no_cr = refl; short = lit≤ tt }
role_is_plain role.Witness = record { no_nul = refl; no_cr = refl; short = lit≤ tt }
role_is_plain role.Buried = record { no_nul = refl; no_cr = refl; short = lit≤ tt }
role_is_plain role.Spouse = record { no_nul = refl; no_cr = refl; short = lit≤ tt }
