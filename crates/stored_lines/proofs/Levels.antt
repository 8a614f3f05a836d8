-- Levels of trees side by side, and of trees with their labels changed; lines that are no deeper than their tree has
-- levels.
use Rattle.std.specs.Prelude.{
  ℕ,
  ◌+◌,
  ◌-◌,
  ◌≡◌,
  Bool,
  IsTrue,
  ◌≢◌,
  ◌≤◌,
  max,
  nat_le,
  List,
  [],
  ◌∷◌,
  ◌++◌,
  map,
  refl,
  length,
  true,
  false,
}
use Rattle.std.specs.List.{list_any}
use Rattle.std.proofs.Common.{ap, sym, ◌∙◌, ◌<◌, take, get_or, arith, zero, suc}
use Rattle.std.proofs.lemmas.List.{take_more}
use Rattle.std.proofs.lemmas.List.Folds.{list_any-append}
use Rattle.std.proofs.lemmas.Bool.Decides.{nat_tests}
use Rattle.std.proofs.lemmas.Bool.{or_parts}
use Rattle.stored_lines.specs.Tree.{Tree, Forest, node, none, more, forest_of, flat, flat_all, relabel, relabel_all}
use Rattle.stored_lines.specs.Levels.{levels, forest_levels, IsLow}
use Rattle.stored_lines.proofs.Relabel.{relabel_children}

-- what is not so, as the answer of a test
not_so : {P : Type 0} → (P → ⊥) → (IsTrue false → P) × (P → IsTrue false)
not_so h = (λ w. absurd cc, λ p. absurd (h p))

module _ {A : Type 0} where
  pub levels-append : (ts us : List (Tree A)) → forest_levels (forest_of (ts ++ us)) ≡ max
      (forest_levels (forest_of ts)) (forest_levels (forest_of us))
  levels-append [] us = omega arith
  levels-append (t ∷ ts) us = omega (arith, levels-append ts us)

  -- no tree has more levels than all of them
  pub levels-one : (ts : List (Tree A)) (i : ℕ) (u : Tree A) → i < length ts → u ≡ get_or ts i u
      → levels u ≤ forest_levels (forest_of ts)
  levels-one [] i u h e = absurd (omega arith)
  levels-one (t ∷ ts) zero u h e = omega (arith, ap levels e)
  levels-one (t ∷ ts) (suc i) u h e = omega (arith, levels-one ts i u (omega arith) e)

  pub levels-more : (ts : List (Tree A)) (i : ℕ) (u : Tree A) (n : ℕ) → i < length ts → u ≡ get_or ts i u
      → forest_levels (forest_of (take i ts)) ≤ n → levels u ≤ n → forest_levels (forest_of (take (i + 1) ts)) ≤ n
  levels-more ts i u n h e before one =
      omega (
        arith,
        ap (λ us. forest_levels (forest_of us)) (take_more ts i u h),
        levels-append (take i ts) (get_or ts i u ∷ []),
        ap levels e,
      )

  some-levels : (t : Tree A) → 0 < levels t
  some-levels (node a f) = omega arith

  pub none_within : (t : Tree A) (n : ℕ) → n ≡ 0 → (IsTrue false → levels t ≤ n) × (levels t ≤ n → IsTrue false)
  none_within t n e = not_so (λ h. omega (arith, some-levels t))

  -- one that has too many levels is among them
  over : (ts : List (Tree A)) (i : ℕ) (u : Tree A) (n : ℕ) (r : Bool) → i < length ts → u ≡ get_or ts i u → r ≡ false
      → (levels u ≤ n → IsTrue r) → forest_levels (forest_of ts) ≤ n → ⊥
  over ts i u n r h e is gives few = let found : r ≡ true = gives (omega (arith, levels-one ts i u h e)) in absurd cc

  pub all_over : (ts : List (Tree A)) (i : ℕ) (u : Tree A) (n : ℕ) (r : Bool) → i < length ts → u ≡ get_or ts i u
      → r ≡ false → (levels u ≤ n → IsTrue r) → (IsTrue false → forest_levels (forest_of ts) ≤ n)
      × (forest_levels (forest_of ts) ≤ n → IsTrue false)
  all_over ts i u n r h e is gives = not_so (over ts i u n r h e is gives)

  pub child_over : (t : Tree A) (a : A) (cs ts : List (Tree A)) (i : ℕ) (u : Tree A) (n : ℕ) (r : Bool)
      → node a (forest_of cs) ≡ t → ts ≡ cs → i < length ts → u ≡ get_or ts i u → r ≡ false
      → (levels u ≤ n - 1 → IsTrue r) → (IsTrue false → levels t ≤ n) × (levels t ≤ n → IsTrue false)
  child_over t a cs ts i u n r whole same h e is gives =
      not_so (λ few. over ts i u (n - 1) r h e is gives
      (omega (arith, ap levels whole, ap (λ us. forest_levels (forest_of us)) same)))

  pub levels-below : (t : Tree A) (a : A) (cs ts : List (Tree A)) (i : ℕ) (u : Tree A) (n : ℕ)
      → node a (forest_of cs) ≡ t → ts ≡ cs → i < length ts → u ≡ get_or ts i u → levels t ≤ n
      → (levels u < levels t) × (levels u ≤ n)
  levels-below t a cs ts i u n whole same h e few =
      let less : levels u < levels t = omega (
        arith,
        ap levels whole,
        ap (λ us. forest_levels (forest_of us)) same,
        levels-one ts i u h e,
      ) in
      (less, omega arith)

module _ {A B : Type 0} (f : A → B) where
  mutual
    pub levels-relabel : (t : Tree A) → levels (relabel f t) ≡ levels t
    levels-relabel (node a ts) = ap (λ n. n + 1) (levels-relabel_all ts)

    pub levels-relabel_all : (ts : Forest A) → forest_levels (relabel_all f ts) ≡ forest_levels ts
    levels-relabel_all none = refl
    levels-relabel_all (more t ts) = λ i. max (levels-relabel t i) (levels-relabel_all ts i)

  pub levels-map : (ts : List (Tree A)) → forest_levels (forest_of (map (relabel f) ts)) ≡ forest_levels (forest_of ts)
  levels-map ts = ap forest_levels (sym (relabel_children f ts)) ∙ levels-relabel_all (forest_of ts)

  pub levels-kept : (t : Tree A) (a : A) (cs : List (Tree A)) (us : List (Tree B)) (n : ℕ) → node a (forest_of cs) ≡ t
      → us ≡ map (relabel f) cs → levels t ≤ n → forest_levels (forest_of us) < n
  levels-kept t a cs us n whole same few =
      omega (arith, ap levels whole, ap (λ vs. forest_levels (forest_of vs)) same, levels-map cs)

below_limit : (d n : ℕ) → nat_le n d ≡ false → d < n
below_limit d n h = grind (arith, nat_tests)

module _ {A : Type 0} where
  mutual
    -- no line of a tree stands deeper than it has levels
    above : (d n : ℕ) (t : Tree A) → d + levels t ≤ n → list_any (λ l. nat_le n l.0) (flat d t) ≡ false
    above d n (node a f) h = grind (arith, nat_tests, above_all (d + 1) n f (omega arith))

    above_all : (d n : ℕ) (f : Forest A) → d + forest_levels f ≤ n → list_any (λ l. nat_le n l.0) (flat_all d f) ≡ false
    above_all d n none h = refl
    above_all d n (more t f) h =
        list_any-append (λ l. nat_le n l.0) (flat d t) (flat_all d f)
        ∙ rw (above d n t (omega arith), above_all d n f (omega arith)) refl

  -- lines of which one is deep are those of no low tree
  pub none_low : (ls : List (ℕ × A)) → list_any (λ l. nat_le 128 l.0) ls ≡ true → (t : Tree A) → IsLow t → ls ≢ flat 0 t
  none_low ls deep t low e = let one : true ≡ false = sym deep ∙ ap (list_any (λ l. nat_le 128 l.0)) e
      ∙ above 0 128 t (let few : levels t ≤ 128 = low in omega arith) in absurd cc

  mutual
    -- lines of which none is deep are those of a tree of few levels
    shallower : (d n : ℕ) (t : Tree A) → list_any (λ l. nat_le n l.0) (flat d t) ≡ false → d + levels t ≤ n
    shallower d n (node a f) h =
        let parts : (nat_le n d ≡ false) × (list_any (λ (l : ℕ × A). nat_le n l.0) (flat_all (d + 1) f) ≡ false) =
        or_parts (nat_le n d) (list_any (λ (l : ℕ × A). nat_le n l.0) (flat_all (d + 1) f)) h in
        let less : d < n = below_limit d n parts.0 in
        omega (arith, shallower_all (d + 1) n f (omega arith) parts.1)

    shallower_all : (d n : ℕ) (f : Forest A) → d ≤ n → list_any (λ l. nat_le n l.0) (flat_all d f) ≡ false
        → d + forest_levels f ≤ n
    shallower_all d n none less h = omega arith
    shallower_all d n (more t f) less h =
        let parts : (list_any (λ (l : ℕ × A). nat_le n l.0) (flat d t) ≡ false)
        × (list_any (λ (l : ℕ × A). nat_le n l.0) (flat_all d f) ≡ false) =
        or_parts (list_any (λ (l : ℕ × A). nat_le n l.0) (flat d t))
        (list_any (λ (l : ℕ × A). nat_le n l.0) (flat_all d f))
        (sym (list_any-append (λ (l : ℕ × A). nat_le n l.0) (flat d t) (flat_all d f)) ∙ h) in
        omega (arith, shallower d n t parts.0, shallower_all d n f less parts.1)

  -- of lines of which none is deep, those of a low tree
  pub low_tree : (ls : List (ℕ × A)) (t : Tree A) → list_any (λ l. nat_le 128 l.0) ls ≡ false → ls ≡ flat 0 t → IsLow t
  low_tree ls t h e = omega (arith, shallower 0 128 t (ap (list_any (λ (l : ℕ × A). nat_le 128 l.0)) (sym e) ∙ h))
