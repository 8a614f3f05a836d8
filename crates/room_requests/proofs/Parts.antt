-- A number is a part of a path, without a slash.
use Rattle.std.proofs.Common.{
  ◌≡◌,
  ◌≢◌,
  ◌<◌,
  ℕ,
  List,
  [],
  ◌∷◌,
  length,
  Bool,
  true,
  false,
  Option,
  Some,
  None,
  refl,
  ap,
  sym,
  arith,
  true≢false,
}
use Rattle.std.specs.Prelude.{◌&&◌, nat_le, is_some, if◌then◌else◌}
use Rattle.std.specs.Char.{is_ascii_digit}
use Rattle.std.specs.List.{list_all}
use Rattle.std.specs.Str.Parse.{digits_value}
use Rattle.std.proofs.lemmas.Bool.{and_parts, ne_eqb}
use Rattle.std.proofs.lemmas.Bool.Decides.{nat_tests}
use Rattle.matchit.specs.Seek.{has_slash}
use Rattle.room_requests.specs.Pages.{is_number, number_in}

digits_no_slash : (text : List ℕ) → list_all is_ascii_digit text ≡ true → has_slash text ≡ false
digits_no_slash [] digits = refl
digits_no_slash (b ∷ text) digits =
    let parts : (is_ascii_digit b ≡ true) × (list_all is_ascii_digit text ≡ true) = and_parts _ _ digits in
    let other : b ≢ 47 = grind (arith, nat_tests, parts.0) in
    rw (ne_eqb b 47 other, digits_no_slash text parts.1) refl

digit_is_byte : (b : ℕ) → is_ascii_digit b ≡ true → b < 256
digit_is_byte b digit = grind (arith, nat_tests, digit)

-- bytes, the first of them below 256, without a slash
abbrev pub IsPart : List ℕ → Type 0
IsPart text =
    (b : ℕ) × (rest : List ℕ) × (text ≡ b ∷ rest) × (b < 256) × (has_slash (b ∷ rest) ≡ false)

-- a value that a test lets through
pub kept : (test : Bool) (o : Option ℕ) (n : ℕ) → (if test then o else None) ≡ Some n → (test ≡ true) × (o ≡ Some n)
kept true o n e = (refl, e)
kept false o n e = absurd (true≢false (sym (ap is_some e)))

first_two : (a b c d e : Bool) → (a && b && c && d && e) ≡ true → (a ≡ true) × (b ≡ true)
first_two true true c d e h = (refl, refl)
first_two true false c d e h = absurd (true≢false (sym h))
first_two false b c d e h = absurd (true≢false (sym h))

digits_of : (text : List ℕ) → is_number 10 text ≡ true
    → (list_all is_ascii_digit text ≡ true) × (nat_le 1 (length text) ≡ true)
digits_of text number =
    first_two (list_all is_ascii_digit text) (nat_le 1 (length text)) (nat_le (length text) 10)
    (nat_le 1 (digits_value 10 text)) (nat_le (digits_value 10 text) 4294967295) number

digits_are_part : (text : List ℕ) → is_number 10 text ≡ true → IsPart text
digits_are_part [] number = absurd (true≢false (sym (digits_of [] number).1))
digits_are_part (b ∷ text) number =
    let digits : list_all is_ascii_digit (b ∷ text) ≡ true = (digits_of (b ∷ text) number).0 in
    let one : is_ascii_digit b ≡ true = (and_parts _ _ digits).0 in
    (b, text, refl, digit_is_byte b one, digits_no_slash (b ∷ text) digits)

pub number_is_part : (text : List ℕ) (n : ℕ) → number_in 10 text ≡ Some n → IsPart text
unfolding number_in
number_is_part text n e = digits_are_part text (kept (is_number 10 text) (Some (digits_value 10 text)) n e).0
