-- The hexadecimal digits of a digest, as those of a token.
use Rattle.std.proofs.Common.{
  ◌≡◌,
  ◌∙◌,
  ◌*◌,
  ◌/◌,
  ◌%◌,
  ◌<◌,
  ◌≤◌,
  ◌∷◌,
  [],
  Bool,
  Fits,
  List,
  ap,
  arith,
  false,
  get_or,
  length,
  length-take,
  min,
  refl,
  suc,
  subst,
  sym,
  take,
  true,
  w8,
  zero,
  ℕ,
}
use Rattle.std.specs.Prelude.{◌&&◌, nat_le}
use Rattle.std.specs.List.{list_all, slice_index}
use Rattle.std.proofs.Math.Facts.{Fits-lt-pow}
use Rattle.std.proofs.lemmas.Bool.{false≢true}
use Rattle.std.proofs.lemmas.Bool.Decides.{nat_tests}
use Rattle.std.proofs.lemmas.List.Folds.{list_all_at}
use Rattle.hex.specs.Hex.{encode_lower, encode_with, lower_digits}
use Rattle.hex.proofs.HexLemmas.{length-encode_with}
use Rattle.receipts.specs.Tokens.{IsToken, is_printable}

-- what holds of all holds of each
at_each : (xs : List ℕ) (i : ℕ) → i < length xs → list_all is_printable xs ≡ true
    → is_printable (get_or xs i 0) ≡ true
at_each xs i less all =
    elim (is_printable (get_or xs i 0)) as (λ b. is_printable (get_or xs i 0) ≡ b → b ≡ true) [
      | true ↦ λ e. refl
      | false ↦ λ e. absurd (false≢true (sym (list_all_at is_printable xs i 0 less e) ∙ all))
    ] refl

printed_digit : (k : ℕ) → k < 16 → is_printable (slice_index lower_digits k) ≡ true
printed_digit k less = at_each lower_digits k less refl

high : (b : ℕ) → b < 256 → b / 16 < 16
high b h = omega (arith, h)

low : (b : ℕ) → b % 16 < 16
low b = omega arith

printed_hex : (xs : List ℕ) → ((i : ℕ) → get_or xs i 0 < 256) → list_all is_printable (encode_lower xs) ≡ true
unfolding encode_with
printed_hex [] h = refl
printed_hex (b ∷ bs) h = rw (printed_digit (b / 16) (high b (h 0)), printed_digit (b % 16) (low b))
    (printed_hex bs (λ i. h (suc i)))

both : (a b : Bool) → (a && b) ≡ true → (a ≡ true) × (b ≡ true)
both true b h = (refl, h)
both false b h = absurd (false≢true h)

taken : (n : ℕ) (xs : List ℕ) → list_all is_printable xs ≡ true → list_all is_printable (take n xs) ≡ true
taken zero xs h = refl
taken (suc n) [] h = refl
taken (suc n) (x ∷ xs) h = let parts = both (is_printable x) (list_all is_printable xs) h in
    rw parts.0 (taken n xs parts.1)

not_above : (v : ℕ) → is_printable v ≡ true → v ≤ 126
not_above v h = grind (arith, nat_tests)

module _ (digest digits : List ℕ) (is : digits ≡ encode_lower digest) (whole : length digest ≡ 32)
    (fits : (i : ℕ) → Fits w8 (get_or digest i 0)) where
  many : length digits ≡ 64
  many = let made : length digits ≡ 2 * length digest = ap length is ∙ length-encode_with lower_digits digest in
      omega (arith, made, whole)

  printed : list_all is_printable digits ≡ true
  printed = ap (list_all is_printable) is ∙ printed_hex digest (λ i. Fits-lt-pow (fits i))

  -- the 63 digits at the front end before a character
  pub boundary : (63 ≤ length digits)
      × (63 < length digits → 128 ≤ slice_index digits 63 → 192 ≤ slice_index digits 63)
  boundary = (
    omega (arith, many),
    λ less great.
        let short : slice_index digits 63 ≤ 126 = not_above (get_or digits 63 0) (at_each digits 63 less printed) in
        absurd (omega (arith, great, short)),
  )

  pub token_is : (words : List ℕ) → words ≡ 112 ∷ take 63 digits → IsToken words
  token_is words w =
      let front : length (take 63 digits) ≡ min 63 (length digits) = length-take 63 digits in
      subst IsToken (sym w) (record {
        some = omega arith;
        short = omega (arith, front);
        printed = taken 63 digits printed;
      })
