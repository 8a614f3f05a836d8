-- What is known stays known, and one more is known after it.
use Rattle.std.proofs.Common.{◌≡◌, ℕ, List, [], ap, cond, refl, sym, subst, ◌∙◌}
use Rattle.std.specs.Prelude.{Some, None}
use Rattle.std.specs.Ordering.{is_eq, nat_cmp}
use Rattle.std.specs.Cmp.{ranked}
use Rattle.std.specs.declared.cmp.Ordering.TheVariants.{Less, Equal, Greater}
use Rattle.sheets.specs.Gathered.{Gathered}
use Rattle.sheets.specs.Known.{AreKnown, IsAncestor, at_number}
use Rattle.sheets.specs.declared.known.Ancestor.{Ancestor}

same_there : (g : Gathered) (k n : ℕ) (v a : Ancestor) → k ≡ n → v ≡ a → IsAncestor g k v → IsAncestor g n a
same_there g k n v a same is h =
    subst (λ (x : ℕ). IsAncestor g x a) same (subst (λ (x : Ancestor). IsAncestor g k x) is h)

pub known_more : (g : Gathered) (es fs : List (ℕ × Ancestor)) (k : ℕ) (v : Ancestor) → AreKnown g es
    → IsAncestor g k v
    → ((q : ℕ) → at_number fs q ≡ cond (is_eq (nat_cmp k q)) (Some v) (at_number es q)) → AreKnown g fs
known_more g es fs k v was told more = λ n a there.
    (elim (nat_cmp k n) as (λ o. nat_cmp k n ≡ o → cond (is_eq o) (Some v) (at_number es n) ≡ Some a
    → IsAncestor g n a) [
      | Less ↦ λ is h. was n a h
      | Equal ↦ λ is h.
          let same : k ≡ n = ranked k n Equal (sym is) in
          let one : v ≡ a = cc in
          same_there g k n v a same one told
      | Greater ↦ λ is h. was n a h
    ]) refl (sym (more n) ∙ there)

pub known_first : (g : Gathered) (es : List (ℕ × Ancestor)) → es ≡ [] → AreKnown g es
known_first g es is = λ n a there.
    let nobody : at_number es n ≡ None = ap (λ (xs : List (ℕ × Ancestor)). at_number xs n) is in absurd cc
