-- The word of each value of a field that has one of a few values, and the value whose word a text is.
use Rattle.std.specs.Prelude.{ℕ, List, [], ◌∷◌, codes, Option, Some, None, bytes_eq, if◌then◌else◌}
use Rattle.record_fields.specs.declared.words.Quality.{Quality}
use Rattle.record_fields.specs.declared.words.Quality.TheVariants as quality
use Rattle.record_fields.specs.declared.words.Sex.{Sex}
use Rattle.record_fields.specs.declared.words.Sex.TheVariants as sex
use Rattle.record_fields.specs.declared.words.Partnership.{Partnership}
use Rattle.record_fields.specs.declared.words.Partnership.TheVariants as partnership
use Rattle.record_fields.specs.declared.entry_words.EntryKind.{EntryKind}
use Rattle.record_fields.specs.declared.entry_words.EntryKind.TheVariants as entry_kind
use Rattle.record_fields.specs.declared.entry_words.Role.{Role}
use Rattle.record_fields.specs.declared.entry_words.Role.TheVariants as role

abbrev pub quality_word : Quality → List ℕ
quality_word quality.Unreliable = codes "0"
quality_word quality.Questionable = codes "1"
quality_word quality.Secondary = codes "2"
quality_word quality.Primary = codes "3"

abbrev pub sex_word : Sex → List ℕ
sex_word sex.Male = codes "M"
sex_word sex.Female = codes "F"
sex_word sex.Unknown = codes "U"

abbrev pub partnership_word : Partnership → List ℕ
partnership_word partnership.Husband = codes "husband"
partnership_word partnership.Wife = codes "wife"

abbrev pub entry_kind_word : EntryKind → List ℕ
entry_kind_word entry_kind.Baptism = codes "BAPTISM"
entry_kind_word entry_kind.Marriage = codes "MARRIAGE"
entry_kind_word entry_kind.Burial = codes "BURIAL"

abbrev pub role_word : Role → List ℕ
role_word role.Child = codes "child"
role_word role.Father = codes "father"
role_word role.Mother = codes "mother"
role_word role.Godparent = codes "godparent"
role_word role.Groom = codes "groom"
role_word role.Bride = codes "bride"
role_word role.FatherOfGroom = codes "father-of-groom"
role_word role.FatherOfBride = codes "father-of-bride"
role_word role.Witness = codes "witness"
role_word role.Buried = codes "buried"
role_word role.Spouse = codes "spouse"

-- the first of the values whose word the text is
abbrev pub found : {A : Type 0} → (A → List ℕ) → List A → List ℕ → Option A
found word [] text = None
found word (a ∷ more) text = if bytes_eq text (word a) then Some a else found word more text

abbrev pub quality_of : List ℕ → Option Quality
quality_of text = found quality_word (quality.Unreliable ∷ quality.Questionable ∷ quality.Secondary
    ∷ quality.Primary ∷ []) text

abbrev pub sex_of : List ℕ → Option Sex
sex_of text = found sex_word (sex.Male ∷ sex.Female ∷ sex.Unknown ∷ []) text

abbrev pub partnership_of : List ℕ → Option Partnership
partnership_of text = found partnership_word (partnership.Husband ∷ partnership.Wife ∷ []) text

abbrev pub entry_kind_of : List ℕ → Option EntryKind
entry_kind_of text = found entry_kind_word (entry_kind.Baptism ∷ entry_kind.Marriage ∷ entry_kind.Burial ∷ []) text

abbrev pub role_of : List ℕ → Option Role
role_of text = found role_word (role.Child ∷ role.Father ∷ role.Mother ∷ role.Godparent ∷ role.Groom ∷ role.Bride
    ∷ role.FatherOfGroom ∷ role.FatherOfBride ∷ role.Witness ∷ role.Buried ∷ role.Spouse ∷ []) text
