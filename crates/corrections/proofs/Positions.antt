-- Places in a list are read from their decimals again.
use Rattle.std.specs.Prelude.{
  ◌≡◌,
  ◌≢◌,
  ◌≤◌,
  ◌<◌,
  ◌^◌,
  ◌++◌,
  ℕ,
  List,
  Option,
  Some,
  None,
  Result,
  Ok,
  decimal,
  MatchOption,
}
use Rattle.std.specs.Str.Parse.{ParsesUnsigned}
use Rattle.std.proofs.Common.{ap, sym, ◌∙◌, arith}
use Rattle.std.proofs.lemmas.Fmt.{parse-decimal}
use Rattle.std.proofs.lemmas.List.{append_cancel_left}
use Rattle.corrections.specs.declared.position.Position.{Position}

small : (n : ℕ) → n ≤ 4294967295 → n < 2 ^ 64
small n h = omega arith

small-word : (n : ℕ) → n ≤ 4294967295 → n < 2 ^ 32
small-word n h = omega arith

-- what a text parses as, where it is the decimal of a place
pub parsed : {E : Type 0} (text : List ℕ) (r : Result ℕ E) → ParsesUnsigned 32 10 text r → (p : Position)
    → text ≡ decimal p.number → r ≡ Ok p.number
parsed text r h p e = parse-decimal 32 p.number text r (small-word p.number p.in_range.1)
    (small p.number p.in_range.1) e h

pub parsed_number : {E : Type 0} (text : List ℕ) (r : Result ℕ E) → ParsesUnsigned 32 10 text r → (n : ℕ) → r ≡ Ok n
    → (p : Position) → text ≡ decimal p.number → n ≡ p.number
parsed_number text r h n is p e = let both : r ≡ Ok p.number = parsed text r h p e in cc

pub none_is_zero : (n : ℕ) → n ≡ 0 → (p : Position) → n ≡ p.number → ⊥
none_is_zero n z p e = let least : 1 ≤ p.number = p.in_range.0 in omega arith

-- ---- a place after a front
pub after_front : (front word words : List ℕ) → word ≡ front ++ words → (o : Option Position)
    → MatchOption o ((p : Position) → words ≢ decimal p.number) (λ p. words ≡ decimal p.number)
    → MatchOption o ((p : Position) → word ≢ front ++ decimal p.number) (λ p. word ≡ front ++ decimal p.number)
after_front front word words e None h = λ p f. h p (append_cancel_left front words (decimal p.number) (sym e ∙ f))
after_front front word words e (Some p) h = e ∙ ap (λ l. front ++ l) h
