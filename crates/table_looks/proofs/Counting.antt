-- How many records a sound archive has: their numbers are distinct, from 1, and below the next one.
use Rattle.std.proofs.Common.{
  ◌≡◌,
  ◌<◌,
  ◌+◌,
  ℕ,
  List,
  [],
  ◌∷◌,
  length,
  true,
  false,
  refl,
  sym,
  subst,
  ap,
  ◌∙◌,
  cond,
  arith,
}
use Rattle.std.specs.Prelude.{Some, map}
use Rattle.std.specs.Ordering.{nat_cmp, eq_by_cmp}
use Rattle.std.specs.FinMap.{find, keys, entries, get-entries}
use Rattle.record_shapes.specs.Lists.{Ascends, EachOf}
use Rattle.archive_state.specs.Content.{Content}
use Rattle.archive_state.specs.Sound.{IsNumber, IsSound}
use Rattle.archive_state.proofs.Putting.{one_number}
use Rattle.archive_state.proofs.MapKeys.{keys_ascend}
use Rattle.record_shapes.proofs.Each.{each_more}
use Rattle.list_laws.proofs.Numbers.{itself}

-- numbers that ascend between two bounds are no more than there is room for
fewer : (low high : ℕ) (ns : List ℕ) → low < high → EachOf (λ n. low < n) ns → Ascends ns → EachOf (λ n. n < high) ns
    → low + length ns < high
fewer low high [] less above rise below = omega (arith, less)
fewer low high (n ∷ ns) less above rise below =
    let rest : n + length ns < high = fewer n high ns below.0 rise.0 rise.1 below.1 in
    omega (arith, above.0, rest)

module _ {X : Type 0} where
  first_found : (e : ℕ × X) (es : List (ℕ × X)) → find nat_cmp e.0 (e ∷ es) ≡ Some e.1
  first_found e es = ap (λ b. cond b (Some e.1) (find nat_cmp e.0 es)) (itself e.0)

  -- what holds of each number at which something is found holds of each key
  each_key : (P : ℕ → Type 0) (es : List (ℕ × X)) → ((n : ℕ) (x : X) → find nat_cmp n es ≡ Some x → P n)
      → EachOf P (map (λ (e : ℕ × X). e.0) es)
  each_key P [] f = tt
  each_key P (e ∷ es) f =
      let here : P e.0 = f e.0 e.1 (first_found e es) in (
        here,
        each_key P es (λ n x at. elim (eq_by_cmp nat_cmp n e.0) as (λ b. eq_by_cmp nat_cmp n e.0 ≡ b
            → (cond b (Some e.1) (find nat_cmp n es) ≡ Some x → P n) → P n) [
              | true ↦ λ is g. subst P (sym (one_number n e.0 is)) here
              | false ↦ λ is g. g at
            ] refl (f n x)),
      )

-- so a count of 32 bits has room for them
pub count_fits : (c : Content) → IsSound c → length (keys c.records) < 4294967296
count_fits c sound =
    let numbered : EachOf (IsNumber c.next) (keys c.records) = each_key (IsNumber c.next) (entries c.records)
    (λ n r at. sound.rules.numbered n r (get-entries c.records n ∙ at)) in
    let few : 0 + length (keys c.records) < c.next = fewer 0 c.next (keys c.records) sound.begun
    (each_more (IsNumber c.next) (λ n. 0 < n) (λ n is. is.0) (keys c.records) numbered) (keys_ascend c.records)
    (each_more (IsNumber c.next) (λ n. n < c.next) (λ n is. is.1) (keys c.records) numbered) in
    omega (arith, few, sound.bounded)
