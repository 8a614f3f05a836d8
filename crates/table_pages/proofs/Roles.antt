-- The word of a role is UTF-8, so what is not is the word of none.
use lib.Utf8.{encode}
use Rattle.std.specs.Prelude.{◌≡◌, ℕ, List, None, refl, true}
use Rattle.std.specs.Str.{IsUtf8, chars, is_utf8}
use Rattle.std.proofs.Common.{subst, sym}
use Rattle.std.proofs.lemmas.Str.{IsUtf8-from_is_utf8}
use Rattle.record_fields.proofs.Worded.{role_read}
use Rattle.record_fields.specs.Words.{role_of, role_word}
use Rattle.record_fields.specs.declared.entry_words.Role.{Role}
use Rattle.record_fields.specs.declared.entry_words.Role.TheVariants as role

role_is_utf8 : (r : Role) → is_utf8 (role_word r) ≡ true
unfolding is_utf8 chars encode
role_is_utf8 role.Child = refl
role_is_utf8 role.Father = refl
role_is_utf8 role.Mother = refl
role_is_utf8 role.Godparent = refl
role_is_utf8 role.Groom = refl
role_is_utf8 role.Bride = refl
role_is_utf8 role.FatherOfGroom = refl
role_is_utf8 role.FatherOfBride = refl
role_is_utf8 role.Witness = refl
role_is_utf8 role.Buried = refl
role_is_utf8 role.Spouse = refl

pub no_role : (word : List ℕ) → (IsUtf8 word → ⊥) → None ≡ role_of word
no_role word bad = role_read word None (λ r e. bad (subst (λ (w : List ℕ). IsUtf8 w) (sym e)
    (IsUtf8-from_is_utf8 (role_word r) (role_is_utf8 r))))
