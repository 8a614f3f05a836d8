-- Numbers: equal ones, less and not less, and their digits.
use Rattle.std.proofs.Common.{◌≡◌, ◌≤◌, ℕ, arith, false, true, ◌<◌, ap, ◌∙◌, sym, ◌+◌, suc, eq-eqb, ◌≢◌, cond, Bool}
use Rattle.std.specs.Prelude.{nat_lt, ◌==◌, refl, List, ◌&&◌, ◌∷◌, [], ◌^◌, Result, length, ◌≤ℤ◌, ◌<ℤ◌, ℤ, nat_le}
use Rattle.std.proofs.lemmas.Bool.Decides.{nat_tests}
use Rattle.std.specs.Ordering.{nat_cmp, eq_by_cmp}
use Rattle.std.specs.Cmp.{nat_cmp_total, eq_by_cmp_equiv}
use Rattle.std.specs.List.{list_all}
use Rattle.std.specs.Char.{is_ascii_digit}
use Rattle.std.specs.Str.{all_ascii_digits}
use Rattle.std.proofs.lemmas.Str.Parse.{IsNumeralModel, numerals_by_value, tells_all_ascii_digits, parse_digits}
use Rattle.std.specs.Str.Parse.{digits_value, ParsesUnsigned}
use Rattle.std.specs.Result.{OkIff}
use Rattle.std.proofs.lemmas.Int.{ints}

pub not_less : (n k : ℕ) → k ≤ n → nat_lt n k ≡ false
not_less n k h = grind (arith, nat_tests)

pub is_less : (n k : ℕ) → n < k → nat_lt n k ≡ true
is_less n k h = grind (arith, nat_tests)

pub below_is : (m n : ℕ) → nat_lt m n ≡ true → m < n
below_is m n h = grind (arith, nat_tests, h)

pub is_same : (n k : ℕ) → n ≡ k → (n == k) ≡ true
is_same n k h = grind (arith, nat_tests)

pub is_apart : (n k : ℕ) → n < k → (n == k) ≡ false
is_apart n k h = grind (arith, nat_tests)

pub same_self : (n : ℕ) → (n == n) ≡ true
same_self n = grind (arith, nat_tests)

pub itself : (n : ℕ) → eq_by_cmp nat_cmp n n ≡ true
itself n = (eq_by_cmp_equiv nat_cmp_total).refl n

pub other_key : (n k : ℕ) → eq_by_cmp nat_cmp n k ≡ false → n ≡ k → ⊥
other_key n k e same = let both : true ≡ false = sym (itself k) ∙ (ap (λ x. eq_by_cmp nat_cmp x k) (sym same) ∙ e) in
    absurd cc

pub all_digits : (field : List ℕ) → all_ascii_digits field ≡ list_all is_ascii_digit field
all_digits [] = refl
all_digits (c ∷ cs) = ap (λ b. is_ascii_digit c && b) (all_digits cs)

pub are_numerals : IsNumeralModel (λ ds. all_ascii_digits ds ≡ true) (digits_value 10)
are_numerals = numerals_by_value (λ ds. all_ascii_digits ds ≡ true) tells_all_ascii_digits

-- where the digits are not too many, they are parsed as their value
pub parsed : {E : Type 0} (field : List ℕ) (r : Result ℕ E) → ParsesUnsigned 32 10 field r
    → list_all is_ascii_digit field ≡ true
    → OkIff r ((0 < length field) × (digits_value 10 field < 2 ^ 32)) (digits_value 10 field)
parsed field r h digits = parse_digits are_numerals 32 field r h (all_digits field ∙ digits)

pub not_both : (a b : ℤ) → a <ℤ b → b ≤ℤ a → ⊥
not_both a b p q = omega (arith, ints)

pub through : (a b c : ℤ) → a ≤ℤ b → b ≤ℤ c → a ≤ℤ c
through a b c p q = omega (arith, ints)

pub one_more : (n : ℕ) → n + 1 ≡ suc n
one_more n = omega arith

pub no_zero : (x : ℕ) → (x == 0) ≡ false → x ≡ 0 → ⊥
no_zero x e same = let both : true ≡ false = sym (eq-eqb x 0 same) ∙ e in absurd cc

pub it : (m n : ℕ) → (m == n) ≡ true → m ≡ n
it m n e = grind (arith, nat_tests, e)

pub is_not : (m n : ℕ) → m ≢ n → (m == n) ≡ false
is_not m n off = grind (arith, nat_tests, off)

pub not_it : (m n : ℕ) → (m == n) ≡ false → m ≢ n
not_it m n e = grind (arith, nat_tests, e)

pub at_most : (a b : ℕ) → nat_le a b ≡ true → a ≤ b
at_most a b e = grind (arith, nat_tests)

pub at_self : {X : Type 0} (d : ℕ) (x y : X) → cond (d == d) x y ≡ x
at_self d x y = grind (arith, nat_tests)

pub other_way : (m n : ℕ) (b : Bool) → (m == n) ≡ b → (n == m) ≡ b
other_way m n b e = grind (arith, nat_tests, e)
