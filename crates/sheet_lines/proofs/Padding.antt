-- A number that is written into so many places stands at their right end.
use Rattle.std.specs.Prelude.{ℕ, zero, suc, ◌≡◌, ◌==◌, ◌-◌, ◌++◌, List, [], ◌∷◌, length, decimal, false}
use Rattle.std.specs.List.{repeat}
use Rattle.std.specs.Fmt.{format_spec, styled_decimal, padded_integral, char_count}
use Rattle.std.proofs.Common.{refl, arith, append-nil}
use Rattle.std.proofs.lemmas.Bool.Decides.{nat_tests}
use Rattle.sheet_lines.specs.Words.{at_right}

nothing_left : (n : ℕ) → n - n ≡ 0
nothing_left n = omega arith

nothing_less : (n : ℕ) → 0 - n ≡ 0
nothing_less n = omega arith

same : (n : ℕ) → n - 0 - 0 ≡ n
same n = omega arith

not_zero : (w : ℕ) → (suc w == 0) ≡ false
not_zero w = grind (arith, nat_tests)

put_together : (a b : ℕ) (fill text : List ℕ) → a ≡ b
    → (((repeat a fill ++ []) ++ []) ++ []) ++ (text ++ repeat (a - a) fill) ≡ repeat b fill ++ text
put_together a b fill text e = rw (
  nothing_left a,
  append-nil (repeat a fill),
  append-nil (repeat a fill),
  append-nil (repeat a fill),
  append-nil text,
  e,
) refl

filled : (w : ℕ) (text : List ℕ) → padded_integral (format_spec 32 3 0 w 18446744073709551615) false [] text
    ≡ repeat (w - length text) (32 ∷ []) ++ text
unfolding padded_integral char_count lib.Utf8.encode
filled w text = put_together (w - length text - 0 - 0) (w - length text) (32 ∷ []) text (same (w - length text))

pub right_is : (w n : ℕ) → styled_decimal (format_spec 32 3 0 w 18446744073709551615) n ≡ at_right w n
right_is zero n = rw (nothing_less (length (decimal n))) refl
right_is (suc w) n = rw (not_zero w) (filled (suc w) (decimal n))
