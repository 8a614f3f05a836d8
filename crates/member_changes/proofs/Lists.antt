-- Numbers that are there once, and stay so where some are left out.
use Rattle.std.proofs.Common.{◌≡◌, ℕ, List, [], ◌∷◌, ◌++◌, Bool, true, false, cond, ap, ◌∙◌, map, ◌||◌, ◌==◌}
use Rattle.std.specs.List.{filter, list_any}
use Rattle.std.proofs.lemmas.Bool.{or_parts}
use Rattle.record_shapes.specs.Lists.{IsOnce}

-- numbers of which each is there where it is among others: none is there that is not among them, and none twice
pub record Less (ms ns : List ℕ) : Type 0 where
  pub none : (k : ℕ) → list_any (λ m. m == k) ns ≡ false → list_any (λ m. m == k) ms ≡ false
  pub once : IsOnce ns → IsOnce ms

less_itself : (ns : List ℕ) → Less ns ns
less_itself ns = record { none = λ k e. e; once = λ h. h }

less_more : (n : ℕ) (ms ns : List ℕ) → Less ms ns → Less (n ∷ ms) (n ∷ ns)
less_more n ms ns h = record {
  none = λ k e.
      let both = or_parts (n == k) (list_any (λ m. m == k) ns) e in
      ap (λ b. b || list_any (λ m. m == k) ms) both.0 ∙ h.none k both.1;
  once = λ o. (h.none n o.0, h.once o.1);
}

less_without : (n : ℕ) (ms ns : List ℕ) → Less ms ns → Less ms (n ∷ ns)
less_without n ms ns h = record {
  none = λ k e. h.none k (or_parts (n == k) (list_any (λ m. m == k) ns) e).1;
  once = λ o. h.once o.1;
}

-- after others
pub less_after : (ks ms ns : List ℕ) → Less ms ns → Less (ks ++ ms) (ks ++ ns)
less_after [] ms ns h = h
less_after (k ∷ ks) ms ns h = less_more k (ks ++ ms) (ks ++ ns) (less_after ks ms ns h)

module _ {A : Type 0} (number : A → ℕ) (test : A → Bool) where
  pub less_filtered : (xs : List A) → Less (map number (filter test xs)) (map number xs)
  less_filtered [] = less_itself []
  less_filtered (x ∷ xs) =
      let rest = less_filtered xs in
      elim (test x) as (λ b. Less (map number (cond b (x ∷ filter test xs) (filter test xs))) (map number (x ∷ xs))) [
        | true ↦ less_more (number x) (map number (filter test xs)) (map number xs) rest
        | false ↦ less_without (number x) (map number (filter test xs)) (map number xs) rest
      ]

  -- before others
  pub less_before : (xs : List A) (ks : List ℕ) → Less (map number (filter test xs) ++ ks) (map number xs ++ ks)
  less_before [] ks = less_itself ks
  less_before (x ∷ xs) ks =
      let rest = less_before xs ks in
      elim (test x) as (λ b. Less (map number (cond b (x ∷ filter test xs) (filter test xs)) ++ ks)
      (map number (x ∷ xs) ++ ks)) [
        | true ↦ less_more (number x) (map number (filter test xs) ++ ks) (map number xs ++ ks) rest
        | false ↦ less_without (number x) (map number (filter test xs) ++ ks) (map number xs ++ ks) rest
      ]
