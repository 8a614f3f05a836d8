-- Links are distinguished by their keys.
use Rattle.std.proofs.Common.{◌≡◌, ◌<◌, ◌+◌, ◌*◌, ◌^◌, ◌↔◌, ◌≤ℤ◌, ℕ, arith}
use Rattle.std.proofs.lemmas.Int.{ints}
use Rattle.packed_rows.specs.Keys.{link_key}

same_place : (a b c d : ℕ) → link_key a c ≡ link_key b d → a * 4294967296 + c ≡ b * 4294967296 + d
same_place a b c d e = omega (arith, ints, e)

pub one_link : (named other number own : ℕ) → number < 2 ^ 32 → own < 2 ^ 32
    → link_key named number ≡ link_key other own → (named ≡ other) × (number ≡ own)
one_link a b c d hc hd e =
    let same : a * 4294967296 + c ≡ b * 4294967296 + d = same_place a b c d e in
    (omega (arith, hc, hd, same), omega (arith, hc, hd, same))

among : (a b d : ℕ) → d < 2 ^ 32 → link_key a 0 ≤ℤ link_key b d → link_key b d ≤ℤ link_key a 4294967295 → a ≡ b
among a b d h low high = omega (arith, ints, h, low, high)

pub side_by_side : (named other own : ℕ) → own < 2 ^ 32
    → ((link_key named 0 ≤ℤ link_key other own) × (link_key other own ≤ℤ link_key named 4294967295)) ↔ (named ≡ other)
side_by_side a b d h = (λ x. among a b d h x.0 x.1, λ e. (omega (arith, ints, h, e), omega (arith, ints, h, e)))
