-- Numbers of a row, by what the library parses.
use Rattle.std.specs.Prelude.{
  ◌≡◌,
  ◌≢◌,
  ◌≤◌,
  ◌<◌,
  ◌^◌,
  ℕ,
  ◌&&◌,
  nat_le,
  List,
  length,
  Bool,
  true,
  false,
  Result,
  Ok,
  Err,
  refl,
  decimal,
}
use Rattle.std.specs.Result.{OkIff}
use Rattle.std.specs.Char.{is_ascii_digit}
use Rattle.std.specs.List.{list_all}
use Rattle.std.specs.Str.Parse.{digits_value, ParsesUnsigned}
use Rattle.std.proofs.Common.{ap, sym, ◌∙◌, arith, subst}
use Rattle.std.proofs.lemmas.Bool.Decides.{nat_tests}
use Rattle.std.proofs.lemmas.Fmt.{decimal_is_IsNumeral, length-decimal-le, digits_decimal, digits_value-decimal}
use Rattle.record_text.specs.declared.refusal.RefusalKind.TheVariants.{BadRow}
use Rattle.commands.specs.Rows.{is_number, number_in}
use Rattle.list_laws.proofs.Numbers.{all_digits, parsed, are_numerals}

-- ---- how a field is judged
number-ok : (field : List ℕ) → is_number field ≡ true → Ok (digits_value 10 field) ≡ number_in field
unfolding number_in
number-ok field e = rw e refl

number-bad : (field : List ℕ) → is_number field ≡ false → Err BadRow ≡ number_in field
unfolding number_in
number-bad field e = rw e refl

long : (d : Bool) (l v : ℕ) → 10 < l → (d && nat_le 1 l && nat_le l 10 && nat_le 1 v && nat_le v 4294967295) ≡ false
long d l v h = grind (arith, nat_tests)

nothing : (d : Bool) (l v : ℕ) → v ≡ 0 → (d && nat_le 1 l && nat_le l 10 && nat_le 1 v && nat_le v 4294967295) ≡ false
nothing d l v h = grind (arith, nat_tests)

outside : (d : Bool) (l v : ℕ) → ¬ ((0 < l) × (v < 2 ^ 32))
    → (d && nat_le 1 l && nat_le l 10 && nat_le 1 v && nat_le v 4294967295) ≡ false
outside d l v h = grind (arith, nat_tests)

inside : (d : Bool) (l v : ℕ) → d ≡ true → 1 ≤ l → l ≤ 10 → 1 ≤ v → v ≤ 4294967295
    → (d && nat_le 1 l && nat_le l 10 && nat_le 1 v && nat_le v 4294967295) ≡ true
inside d l v e a b c f = grind (arith, nat_tests)

-- more than ten bytes
pub number_long : (field : List ℕ) → 10 < length field → Err BadRow ≡ number_in field
number_long field h = number-bad field (long (list_all is_ascii_digit field) (length field) (digits_value 10 field) h)

-- a byte that is no digit
pub number_undigit : (field : List ℕ) → list_all is_ascii_digit field ≡ false → Err BadRow ≡ number_in field
number_undigit field h = number-bad field (rw h refl)

-- ---- what the library parses of digits

pub number_parsed : {E : Type 0} (field : List ℕ) (r : Result ℕ E) (n : ℕ) → ParsesUnsigned 32 10 field r
    → list_all is_ascii_digit field ≡ true
    → length field ≤ 10 → r ≡ Ok n → n ≢ 0 → Ok n ≡ number_in field
number_parsed field r n h digits short is some =
    let v = digits_value 10 field in
    let k = subst (λ x. OkIff x ((0 < length field) × (v < 2 ^ 32)) v) is (parsed field r h digits) in
    let l : 0 < length field = k.0.0 in
    let most : v < 2 ^ 32 = k.0.1 in
    let same : n ≡ v = k.1 in
    let least : 1 ≤ v = omega arith in
    ap Ok same ∙ number-ok field (inside (list_all is_ascii_digit field) (length field) v digits
    (omega arith) short least (omega arith))

pub number_zero : {E : Type 0} (field : List ℕ) (r : Result ℕ E) (n : ℕ) → ParsesUnsigned 32 10 field r
    → list_all is_ascii_digit field ≡ true
    → r ≡ Ok n → n ≡ 0 → Err BadRow ≡ number_in field
number_zero field r n h digits is none =
    let v = digits_value 10 field in
    let k = subst (λ x. OkIff x ((0 < length field) × (v < 2 ^ 32)) v) is (parsed field r h digits) in
    number-bad field (nothing (list_all is_ascii_digit field) (length field) v (sym k.1 ∙ none))

pub number_unparsed : {E : Type 0} (field : List ℕ) (r : Result ℕ E) (e : E) → ParsesUnsigned 32 10 field r
    → list_all is_ascii_digit field ≡ true
    → r ≡ Err e → Err BadRow ≡ number_in field
number_unparsed field r e h digits is =
    let v = digits_value 10 field in
    let k = subst (λ x. OkIff x ((0 < length field) × (v < 2 ^ 32)) v) is (parsed field r h digits) in
    number-bad field (outside (list_all is_ascii_digit field) (length field) v k)

-- ---- what the decimal of a number is read as
pub decimal_digits : (n : ℕ) → n ≤ 4294967295 → list_all is_ascii_digit (decimal n) ≡ true
decimal_digits n h = let small : n < 2 ^ 64 = omega arith in
    sym (all_digits (decimal n)) ∙ digits_decimal are_numerals n small

pub number_back : (n : ℕ) → 1 ≤ n → n ≤ 4294967295 → number_in (decimal n) ≡ Ok n
number_back n l h =
    let small : n < 2 ^ 64 = omega arith in
    let field : List ℕ = decimal n in
    let digits : list_all is_ascii_digit (decimal n) ≡ true = decimal_digits n h in
    let value : digits_value 10 (decimal n) ≡ n = digits_value-decimal are_numerals n small in
    let short : length (decimal n) ≤ 10 = length-decimal-le 10 n (omega arith) (omega arith) small in
    let some : 1 ≤ length (decimal n) = (decimal_is_IsNumeral n small).0.0 in
    sym (number-ok (decimal n) (inside (list_all is_ascii_digit (decimal n)) (length (decimal n))
    (digits_value 10 (decimal n)) digits some short (omega arith) (omega arith))) ∙ ap Ok value
