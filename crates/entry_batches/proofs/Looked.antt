-- The place of a row, and the number after rows, as code looks at them.
use Rattle.std.proofs.Common.{◌≡◌, ℕ, ◌+◌, ◌-◌, ◌≤◌, true, false, ◌&&◌, refl, ap, nat_le, arith}
use Rattle.std.specs.Prelude.{Option, Some, None, Result, Ok, Err, if◌then◌else◌, nat_lt}
use Rattle.std.specs.Option.{option_map_or}
use Rattle.std.proofs.lemmas.Bool.Decides.{nat_tests}
use Rattle.record_text.specs.declared.refusal.RefusalKind.{RefusalKind}
use Rattle.record_text.specs.declared.refusal.RefusalKind.TheVariants.{Full, WrongKind}
use Rattle.archive_state.specs.Content.{Content}
use Rattle.commands.specs.Rows.{and_then}
use Rattle.command_checks.specs.Checks.{each, passed, said_place_at}
use Rattle.entry_batches.specs.Batches.{is_drawn, is_left, number_behind, place_behind}

-- ---- the place of a row
pub drawn_refused : (c : Content) (count : ℕ) (place : Option ℕ) → option_map_or (is_drawn c.next count) place false
    ≡ true → passed (each (place_behind c count) place) ≡ Err WrongKind
drawn_refused c count None e = absurd cc
drawn_refused c count (Some n) e =
    ap (λ b. passed (and_then (if b then Err WrongKind else said_place_at c n) (λ u. Ok (Some u)))) e

pub drawn_by_none : (c : Content) (count : ℕ) (place : Option ℕ) → option_map_or (is_drawn c.next count) place false
    ≡ false → passed (each (place_behind c count) place) ≡ passed (each (said_place_at c) place)
drawn_by_none c count None e = refl
drawn_by_none c count (Some n) e =
    ap (λ b. passed (and_then (if b then Err WrongKind else said_place_at c n) (λ u. Ok (Some u)))) e

-- a number that is drawn, as it is reckoned without a sum
pub drawn_is : (next count n : ℕ) → (nat_le next n && nat_lt (n - next) count) ≡ is_drawn next count n
drawn_is next count n = grind (arith, nat_tests)

-- ---- the number after rows
pub left_is : (next count : ℕ)
    → (nat_le next 4_294_967_295 && (nat_le count (4_294_967_295 - next) && nat_le count 4_294_967_293))
    ≡ is_left next count
left_is next count = grind (arith, nat_tests)

-- only after few rows one is left
pub left_behind_few : (next count n : ℕ) → number_behind next count ≡ Ok n → count ≤ 4_294_967_293
left_behind_few next count n e =
    elim (is_left next count) as (λ b. is_left next count ≡ b → ◌≡◌ {A = Result ℕ RefusalKind}
    (if b then Ok (next + count) else Err Full) (Ok n) → count ≤ 4_294_967_293) [
      | true ↦ λ q f. few next count q
      | false ↦ λ q f. absurd cc
    ] refl e
  where
    few : (m k : ℕ) → is_left m k ≡ true → k ≤ 4_294_967_293
    few m k q = grind (arith, nat_tests)
