-- The longest front of a text whose characters are of one class.
use Rattle.std.proofs.Common.{
  ◌≡◌,
  ◌≢◌,
  ℕ,
  zero,
  suc,
  ◌<◌,
  true,
  false,
  cond,
  eqb,
  List,
  [],
  ◌∷◌,
  length,
  get_or,
  take,
  refl,
  ap,
  eq-eqb,
  arith,
  add-one,
  Option,
  Some,
  None,
  Bor,
}
use Rattle.std.specs.Option.{option_map, MatchOption}
use Rattle.std.proofs.lemmas.Bool.{eqb-true}
use Rattle.gedcom_line.specs.Past.{past_char}
use Rattle.std.specs.List.{prefix_len, AllPass}
use Rattle.std.proofs.lemmas.List.{get_or-take}
use Rattle.std.proofs.lemmas.List.Folds.{length-prefix_len}
use Rattle.std.specs.Str.{IsUtf8, IsCharBoundary}
use Rattle.std.proofs.lemmas.List.Sums.{prefix_len_passes, prefix_len-le-length}
use Rattle.std.proofs.lemmas.Bool.Decides.{nat_tests}
use Rattle.std.proofs.lemmas.Str.{IsCharBoundary-start, IsCharBoundary-after_ascii}
use Rattle.gedcom_line.specs.declared.class.Class.{Class}
use Rattle.gedcom_line.specs.declared.class.Class.TheVariants.{White, Digit, Space, Word}
use Rattle.gedcom_line.specs.Words.{in_class}

-- each class is of ASCII characters
pub in_class_ascii : (k : Class) (b : ℕ) → in_class k b ≡ true → b < 128
in_class_ascii White b h = grind (arith, nat_tests)
in_class_ascii Digit b h = grind (arith, nat_tests)
in_class_ascii Space b h = grind (arith, nat_tests)
in_class_ascii Word b h = grind (arith, nat_tests)

-- the text may be cut after the characters of a class
pub class_boundary : (k : Class) (bs : List ℕ) (n : ℕ) → IsUtf8 bs → n ≡ prefix_len (in_class k) bs
    → IsCharBoundary bs n
class_boundary k bs zero u e = IsCharBoundary-start bs u
class_boundary k bs (suc m) u e =
    let inside : m < length bs = omega (arith, prefix_len-le-length (in_class k) bs) in
    let passes : in_class k (get_or bs m 0) ≡ true = prefix_len_passes (in_class k) bs m 0 (omega arith) in
    rw (← add-one) (IsCharBoundary-after_ascii bs m u inside (in_class_ascii k _ passes))

-- the characters at the front that are of a class are of it
pub class_each : (k : Class) (bs : List ℕ) → AllPass (in_class k) (take (prefix_len (in_class k) bs) bs)
class_each k bs = λ i d h.
    let inside : i < prefix_len (in_class k) bs = omega (arith, length-prefix_len (in_class k) bs) in
    rw (get_or-take (prefix_len (in_class k) bs) bs i d inside) (prefix_len_passes (in_class k) bs i d inside)

-- what `strip_prefix` gives at an ASCII character
pub past_char_is : (c : ℕ) (bs : List ℕ) (r : Option (Bor (List ℕ))) → MatchOption r ((rest : List ℕ) → bs ≢ c ∷ rest)
    (λ x. bs ≡ c ∷ x.now) → option_map (λ (s : Bor (List ℕ)). s.now) r ≡ past_char c bs
past_char_is c [] None h = refl
past_char_is c (b ∷ bs) None h = elim (eqb b c) as (λ v. eqb b c ≡ v → None ≡ cond v (Some bs) None) [
  | true ↦ λ e. absurd (h bs (ap (λ (x : ℕ). x ∷ bs) (eqb-true b c e)))
  | false ↦ λ e. refl
] refl
past_char_is c [] (Some x) h = absurd cc
past_char_is c (b ∷ bs) (Some x) h =
    let e : b ≡ c = cc in
    let f : bs ≡ x.now = cc in
    rw (eq-eqb b c e, f) refl
