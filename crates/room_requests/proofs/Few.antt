-- A query that asks for generations asks for 1 to 12.
use Rattle.std.proofs.Common.{
  ◌≡◌,
  ◌≤◌,
  ℕ,
  List,
  length,
  Bool,
  true,
  false,
  ◌&&◌,
  nat_le,
  Option,
  Some,
  None,
  if◌then◌else◌,
  codes,
  refl,
  arith,
}
use Rattle.std.specs.Prelude.{IfSome}
use Rattle.std.specs.Char.{is_ascii_digit}
use Rattle.std.specs.List.{list_all}
use Rattle.std.specs.Str.Parse.{digits_value}
use Rattle.std.proofs.lemmas.Bool.Decides.{nat_tests}
use Rattle.room_requests.specs.Pages.{is_number, number_in}
use Rattle.room_requests.specs.Queries.{at_most, generations_in, generations_of, value_of}
use Rattle.list_laws.proofs.Numbers.{at_most as most_is}

-- what is some number is within these bounds
abbrev pub AreFew : ℕ → Option ℕ → Type 0
AreFew most found = IfSome found (λ n. (1 ≤ n) × (n ≤ most))

least : (d : Bool) (l v places : ℕ)
    → (d && nat_le 1 l && nat_le l places && nat_le 1 v && nat_le v 4294967295) ≡ true → 1 ≤ v
least d l v places h = grind (arith, nat_tests)

bounded : (c : Bool) (v most : ℕ) → 1 ≤ v → (c ≡ true → v ≤ most) → AreFew most (if c then Some v else None)
bounded true v most a b = (a, b refl)
bounded false v most a b = tt

judged : (b : Bool) (v most : ℕ) → (b ≡ true → 1 ≤ v) → AreFew most (at_most most (if b then Some v else None))
judged true v most h = bounded (nat_le v most) v most (h refl) (most_is v most)
judged false v most h = tt

number_few : (places most : ℕ) (text : List ℕ) → AreFew most (at_most most (number_in places text))
unfolding number_in
number_few places most text =
    judged (is_number places text) (digits_value 10 text) most
    (least (list_all is_ascii_digit text) (length text) (digits_value 10 text) places)

few_in : (value : Option (List ℕ)) → AreFew 12 (generations_in value)
few_in None = (omega arith, omega arith)
few_in (Some text) = number_few 2 12 text

pub are_few : (query : List ℕ) → AreFew 12 (generations_of query)
are_few query = few_in (value_of (codes "generations") query)
