-- Which words name a place.
use Rattle.std.proofs.Common.{◌≡◌, ℕ, ◌<◌, List, [], ◌∷◌, length, true, false, refl, ap, arith}
use Rattle.std.specs.Prelude.{Ok, Err, if◌then◌else◌}
use Rattle.std.specs.Str.{bytes_eq}
use Rattle.std.proofs.Common.{subst}
use Rattle.record_fields.specs.Bytes.{bytes_are, bytes_same}
use Rattle.record_text.specs.declared.refusal.RefusalKind.TheVariants.{BadText}
use Rattle.record_shapes.specs.Paths.{normal, IsNormal}
use Rattle.command_checks.specs.Checks.{place_name}

others : (xs ys : List ℕ) → (xs ≡ ys → ⊥) → bytes_eq xs ys ≡ false
others xs ys apart = elim (bytes_eq xs ys) as (λ x. bytes_eq xs ys ≡ x → x ≡ false) [
  | true ↦ λ e. absurd (apart (bytes_are xs ys e))
  | false ↦ λ e. refl
] refl

pub no_name : (t : List ℕ) → length t ≡ 0 → place_name t ≡ Err BadText
no_name [] e = refl
no_name (b ∷ bs) e = absurd (omega arith)

pub is_name : (t : List ℕ) → 0 < length t → IsNormal t → place_name t ≡ Ok t
is_name [] some e = absurd (omega arith)
is_name (b ∷ bs) some e = ap (λ x. if x then Ok (b ∷ bs) else Err BadText) (bytes_same (normal (b ∷ bs)) (b ∷ bs) e)

pub is_not_normal : (t : List ℕ) → (IsNormal t → ⊥) → place_name t ≡ Err BadText
is_not_normal [] e = refl
is_not_normal (b ∷ bs) e = ap (λ x. if x then Ok (b ∷ bs) else Err BadText) (others (normal (b ∷ bs)) (b ∷ bs) e)

-- ---- a name that was taken
pub name_taken : (t name : List ℕ) → place_name t ≡ Ok name → (t ≡ name) × IsNormal name
name_taken [] name e = absurd cc
name_taken (b ∷ bs) name e =
    elim (bytes_eq (normal (b ∷ bs)) (b ∷ bs)) as (λ x. bytes_eq (normal (b ∷ bs)) (b ∷ bs) ≡ x
    → (if x then Ok (b ∷ bs) else Err BadText) ≡ Ok name → (b ∷ bs ≡ name) × IsNormal name) [
      | true ↦ λ q f. let it : b ∷ bs ≡ name = cc in (it, subst IsNormal it (bytes_are (normal (b ∷ bs)) (b ∷ bs) q))
      | false ↦ λ q f. absurd cc
    ] refl e
