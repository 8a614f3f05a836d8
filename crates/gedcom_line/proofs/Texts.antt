-- Whether bytes are a text without U+0000.
use Rattle.std.proofs.Common.{◌≡◌, ℕ, true, false, eqb, List, refl, Ok, Err}
use Rattle.std.specs.Str.{IsUtf8, is_utf8}
use Rattle.std.specs.List.{list_any}
use Rattle.std.proofs.lemmas.Str.{is_utf8-from_IsUtf8, IsUtf8-from_is_utf8}
use Rattle.gedcom_line.specs.Reading.{text_at}
use Rattle.gedcom_line.specs.declared.fault.LineKind.TheVariants.{NotUtf8}

pub is_utf8_false : (b : List ℕ) → ¬ (IsUtf8 b) → is_utf8 b ≡ false
is_utf8_false b h = elim (is_utf8 b) as (λ v. is_utf8 b ≡ v → v ≡ false)
    [ true ↦ λ e. absurd (h (IsUtf8-from_is_utf8 b e)) | false ↦ λ e. refl ] refl

pub text_good : (b s : List ℕ) → list_any (λ x. eqb x 0) b ≡ false → IsUtf8 b → s ≡ b → text_at b ≡ Ok s
text_good b s h u e = rw (h, is_utf8-from_IsUtf8 b u, e) refl

pub text_bad : (b : List ℕ) → list_any (λ x. eqb x 0) b ≡ false → ¬ (IsUtf8 b) → text_at b ≡ Err NotUtf8
text_bad b h u = rw (h, is_utf8_false b u) refl
