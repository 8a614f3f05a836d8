-- Numbers in decimal: only digits, without a leading zero, and one number each.
use Rattle.std.proofs.Common.{
  ◌≡◌,
  ◌==◌,
  ◌<◌,
  ◌≤◌,
  ◌^◌,
  ◌&&◌,
  ◌∙◌,
  ◌∷◌,
  [],
  List,
  Option,
  Some,
  None,
  Ok,
  Err,
  Result,
  IfSome,
  ap,
  arith,
  decimal,
  eqb,
  eqb-true,
  false,
  get_or,
  length,
  nat_lt,
  not,
  option_map,
  refl,
  subst,
  suc,
  sym,
  true,
  zero,
  ℕ,
}
use Rattle.std.specs.Char.{digit_value, is_ascii_digit}
use Rattle.std.specs.List.{list_any, list_all}
use Rattle.std.specs.Result.{OkIff}
use Rattle.std.specs.Str.Parse.{AllDigits, ParsesUnsigned, digits_value}
use Rattle.std.proofs.lemmas.Fmt.{
  decimal_is_IsNumeral,
  decimal-digits_value,
  decimal_digit,
  decimal_injective,
  digits_decimal,
  first_decimal,
  parse-decimal,
}
use Rattle.std.proofs.lemmas.Bool.Decides.{nat_tests}
use Rattle.list_laws.proofs.Booleans.{and_false, both_true, not_true, true_not_false}
use Rattle.list_laws.proofs.Numbers.{all_digits, are_numerals, is_not, parsed}
use Rattle.packed_rows.specs.Packed.{IsU32}
use Rattle.packed_rows.specs.Pieces.{Lacks, is_plain}

wide : (n : ℕ) → IsU32 n → n < 2 ^ 64
wide n h = omega (arith, h)

digits_lack : (s : ℕ) → 10 ≤ digit_value s → (ds : List ℕ) → AllDigits 10 ds → Lacks s ds
digits_lack s big [] h = refl
digits_lack s big (c ∷ cs) h =
    let later : list_any (λ b. b == s) cs ≡ false = digits_lack s big cs h.1 in
    elim (eqb c s) as (λ v. eqb c s ≡ v → list_any (λ b. b == s) (c ∷ cs) ≡ false) [
      | true ↦ λ e. absurd (let low : digit_value s < 10 = subst (λ (y : ℕ). digit_value y < 10) (eqb-true c s e) h.0
          in omega (arith, low, big))
      | false ↦ λ e. grind (arith, nat_tests)
    ] refl

pub decimal_lacks : (s : ℕ) → 10 ≤ digit_value s → (n : ℕ) → IsU32 n → Lacks s (decimal n)
decimal_lacks s big n h = digits_lack s big (decimal n) (decimal_is_IsNumeral n (wide n h)).0.1

pub decimal_same : (n m : ℕ) → IsU32 n → IsU32 m → decimal n ≡ decimal m → n ≡ m
decimal_same n m hn hm e = decimal_injective n m (wide n hn) (wide m hm) e

pub numbers_same : (o p : Option ℕ) → IfSome o IsU32 → IfSome p IsU32 → option_map decimal o ≡ option_map decimal p
    → o ≡ p
numbers_same None None ho hp e = refl
numbers_same None (Some m) ho hp e = absurd cc
numbers_same (Some n) None ho hp e = absurd cc
numbers_same (Some n) (Some m) ho hp e =
    let same : decimal n ≡ decimal m = cc in ap (λ x. Some x) (decimal_same n m ho hp same)

-- ---- what is read of digits
-- a numeral without a leading zero
one_alone : (l f : ℕ) → 0 < l → (nat_lt 1 l && (f == 48)) ≡ false → f ≡ 48 → l ≡ 1
one_alone l f some h e = grind (arith, nat_tests)

pub number_found : {E : Type 0} (ds : List ℕ) (r : Result ℕ E) (n : ℕ) → ParsesUnsigned 32 10 ds r
    → is_plain ds ≡ true → r ≡ Ok n → (ds ≡ decimal n) × IsU32 n
number_found ds r n h plain is =
    let parts = both_true (list_all is_ascii_digit ds) (not (nat_lt 1 (length ds) && (get_or ds 0 0 == 48))) plain in
    let v = digits_value 10 ds in
    let k = subst (λ x. OkIff x ((0 < length ds) × (v < 2 ^ 32)) v) is (parsed ds r h parts.0) in
    let lead = not_true (nat_lt 1 (length ds) && (get_or ds 0 0 == 48)) parts.1 in
    let small : v < 2 ^ 64 = wide v k.0.1 in
    let back : decimal v ≡ ds = decimal-digits_value are_numerals ds (all_digits ds ∙ parts.0) k.0.0
    (one_alone (length ds) (get_or ds 0 0) k.0.0 lead) small in
    (sym back ∙ ap decimal (sym k.1), subst IsU32 (sym k.1) k.0.1)

pub number_unfound : {E : Type 0} (ds : List ℕ) (r : Result ℕ E) (e : E) → ParsesUnsigned 32 10 ds r → r ≡ Err e
    → (n : ℕ) × (ds ≡ decimal n) × IsU32 n → ⊥
number_unfound ds r e h is x =
    let found : r ≡ Ok x.0 = parse-decimal 32 x.0 ds r x.2 (wide x.0 x.2) x.1 h in
    let both : Ok x.0 ≡ Err e = sym found ∙ is in
    absurd cc

no_lead : (n : ℕ) → IsU32 n → (nat_lt 1 (length (decimal n)) && (get_or (decimal n) 0 0 == 48)) ≡ false
no_lead zero h = rw (decimal_digit 0 (omega arith)) refl
no_lead (suc k) h =
    let above : 48 < get_or (decimal (suc k)) 0 0 = first_decimal (suc k) (omega arith) (wide (suc k) h) in
    and_false (nat_lt 1 (length (decimal (suc k)))) (get_or (decimal (suc k)) 0 0 == 48)
    (is_not (get_or (decimal (suc k)) 0 0) 48 (λ e. omega (arith, above, e)))

pub not_plain : (ds : List ℕ) → is_plain ds ≡ false → (n : ℕ) × (ds ≡ decimal n) × IsU32 n → ⊥
not_plain ds h x =
    let digits : list_all is_ascii_digit (decimal x.0) ≡ true = sym (all_digits (decimal x.0))
    ∙ digits_decimal are_numerals x.0 (wide x.0 x.2) in
    let plain : is_plain (decimal x.0) ≡ true = rw (digits, no_lead x.0 x.2) refl in
    true_not_false (sym plain ∙ (ap is_plain (sym x.1) ∙ h))
