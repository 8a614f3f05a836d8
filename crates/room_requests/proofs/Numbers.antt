-- Numbers of a text, by what the library parses.
use Rattle.std.specs.Prelude.{
  ◌≡◌,
  ◌≢◌,
  ◌≤◌,
  ◌<◌,
  ◌^◌,
  ℕ,
  ◌&&◌,
  nat_le,
  List,
  length,
  Bool,
  true,
  false,
  Result,
  Ok,
  Err,
  Some,
  None,
  refl,
}
use Rattle.std.specs.Result.{OkIff}
use Rattle.std.specs.Char.{is_ascii_digit}
use Rattle.std.specs.List.{list_all}
use Rattle.std.specs.Str.Parse.{digits_value, ParsesUnsigned}
use Rattle.std.proofs.Common.{ap, sym, ◌∙◌, arith, subst}
use Rattle.std.proofs.lemmas.Bool.Decides.{nat_tests}
use Rattle.room_requests.specs.Pages.{is_number, number_in}
use Rattle.list_laws.proofs.Numbers.{parsed}

-- ---- how a text is judged
number-ok : (places : ℕ) (text : List ℕ) → is_number places text ≡ true
    → Some (digits_value 10 text) ≡ number_in places text
unfolding number_in
number-ok places text e = rw e refl

number-bad : (places : ℕ) (text : List ℕ) → is_number places text ≡ false → None ≡ number_in places text
unfolding number_in
number-bad places text e = rw e refl

long : (places : ℕ) (d : Bool) (l v : ℕ) → places < l
    → (d && nat_le 1 l && nat_le l places && nat_le 1 v && nat_le v 4294967295) ≡ false
long places d l v h = grind (arith, nat_tests)

nothing : (places : ℕ) (d : Bool) (l v : ℕ) → v ≡ 0
    → (d && nat_le 1 l && nat_le l places && nat_le 1 v && nat_le v 4294967295) ≡ false
nothing places d l v h = grind (arith, nat_tests)

outside : (places : ℕ) (d : Bool) (l v : ℕ) → ¬ ((0 < l) × (v < 2 ^ 32))
    → (d && nat_le 1 l && nat_le l places && nat_le 1 v && nat_le v 4294967295) ≡ false
outside places d l v h = grind (arith, nat_tests)

inside : (places : ℕ) (d : Bool) (l v : ℕ) → d ≡ true → 1 ≤ l → l ≤ places → 1 ≤ v → v ≤ 4294967295
    → (d && nat_le 1 l && nat_le l places && nat_le 1 v && nat_le v 4294967295) ≡ true
inside places d l v e a b c f = grind (arith, nat_tests)

-- more bytes than places
pub number_long : (places : ℕ) (text : List ℕ) → places < length text → None ≡ number_in places text
number_long places text h =
    number-bad places text (long places (list_all is_ascii_digit text) (length text) (digits_value 10 text) h)

-- a byte that is no digit
pub number_undigit : (places : ℕ) (text : List ℕ) → list_all is_ascii_digit text ≡ false → None ≡ number_in places text
number_undigit places text h = number-bad places text (rw h refl)

-- ---- what the library parses of digits

pub number_parsed : {E : Type 0} (places : ℕ) (text : List ℕ) (r : Result ℕ E) (n : ℕ) → ParsesUnsigned 32 10 text r
    → list_all is_ascii_digit text ≡ true
    → length text ≤ places → r ≡ Ok n → n ≢ 0 → Some n ≡ number_in places text
number_parsed places text r n h digits short is some =
    let v = digits_value 10 text in
    let k = subst (λ x. OkIff x ((0 < length text) × (v < 2 ^ 32)) v) is (parsed text r h digits) in
    let l : 0 < length text = k.0.0 in
    let most : v < 2 ^ 32 = k.0.1 in
    let same : n ≡ v = k.1 in
    let least : 1 ≤ v = omega arith in
    ap Some same ∙ number-ok places text (inside places (list_all is_ascii_digit text) (length text) v digits
    (omega arith) short least (omega arith))

pub number_zero : {E : Type 0} (places : ℕ) (text : List ℕ) (r : Result ℕ E) (n : ℕ) → ParsesUnsigned 32 10 text r
    → list_all is_ascii_digit text ≡ true
    → r ≡ Ok n → n ≡ 0 → None ≡ number_in places text
number_zero places text r n h digits is none =
    let v = digits_value 10 text in
    let k = subst (λ x. OkIff x ((0 < length text) × (v < 2 ^ 32)) v) is (parsed text r h digits) in
    number-bad places text (nothing places (list_all is_ascii_digit text) (length text) v (sym k.1 ∙ none))

pub number_unparsed : {E : Type 0} (places : ℕ) (text : List ℕ) (r : Result ℕ E) (e : E) → ParsesUnsigned 32 10 text r
    → list_all is_ascii_digit text ≡ true
    → r ≡ Err e → None ≡ number_in places text
number_unparsed places text r e h digits is =
    let v = digits_value 10 text in
    let k = subst (λ x. OkIff x ((0 < length text) × (v < 2 ^ 32)) v) is (parsed text r h digits) in
    number-bad places text (outside places (list_all is_ascii_digit text) (length text) v k)
