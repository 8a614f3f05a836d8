-- What is decided by whether bytes are UTF-8.
use Rattle.std.specs.Prelude.{◌≡◌, ℕ, List, cond, refl, true, false, if◌then◌else◌}
use Rattle.std.specs.Str.{IsUtf8, is_utf8}
use Rattle.std.proofs.lemmas.Str.{IsUtf8-from_is_utf8, is_utf8-from_IsUtf8}

module _ {A : Type 0} (t : List ℕ) (x y : A) where
  pub decoded : IsUtf8 t → x ≡ (if is_utf8 t then x else y)
  decoded good = rw (is_utf8-from_IsUtf8 t good) refl

  pub undecoded : (IsUtf8 t → ⊥) → y ≡ (if is_utf8 t then x else y)
  undecoded bad = elim (is_utf8 t) as (λ v. is_utf8 t ≡ v → y ≡ cond v x y) [
    | true ↦ λ e. absurd (bad (IsUtf8-from_is_utf8 t e))
    | false ↦ λ e. refl
  ] refl
