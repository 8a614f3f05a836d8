-- A parameter that ends a route takes the rest of the path.
use Rattle.std.proofs.Common.{
  ◌≡◌,
  ℕ,
  ◌-◌,
  ◌<◌,
  List,
  [],
  ◌∷◌,
  ◌++◌,
  length,
  true,
  false,
  cond,
  Some,
  None,
  refl,
  ap,
  ◌∙◌,
  arith,
}
use Rattle.std.specs.Prelude.{◌==◌, zero, suc}
use Rattle.std.proofs.lemmas.Bool.Decides.{nat_tests}
use Rattle.matchit.specs.Rows.{RowsOf, param_token}
use Rattle.matchit.specs.Seek.{seek, param_step, own, has_slash, step}

module _ {K : Type 0} where
  param-none : (path : List ℕ) → (param_step {K = K} [] path).1 ≡ []
  unfolding param_step
  param-none path = elim (has_slash path) as (λ s. (cond {A = ℕ × RowsOf K} s (0, []) (length path, [])).1 ≡ []) [
    | true ↦ refl
    | false ↦ refl
  ]

  -- no row, no route
  pub seek-none : (skip : ℕ) (path : List ℕ) → seek {K = K} skip [] path ≡ None
  unfolding seek
  seek-none skip [] = refl
  seek-none (suc n) (b ∷ path) = seek-none n path
  seek-none zero (b ∷ path) =
      rw (seek-none 0 path, param-none (b ∷ path), seek-none ((param_step {K = K} [] (b ∷ path)).0 - 1) path) refl

  -- at the end of what is skipped stands the row's own route
  pub seek-skip : (rs : RowsOf K) (path : List ℕ) → seek (length path) rs path ≡ own rs
  unfolding seek
  seek-skip rs [] = refl
  seek-skip rs (b ∷ path) = seek-skip rs path

  pub seek-part : (k : K) (b : ℕ) (rest : List ℕ) → b < 256 → has_slash (b ∷ rest) ≡ false
      → seek 0 ((param_token ∷ [], k) ∷ []) (b ∷ rest) ≡ Some k
  unfolding seek param_step
  seek-part k b rest h n =
      let other : (param_token == b) ≡ false = grind (arith, nat_tests) in
      let one_less : length (b ∷ rest) - 1 ≡ length rest = omega arith in
      rw (other, seek-none 0 rest, n, one_less, seek-skip (([], k) ∷ []) rest) refl

  -- the rows that go on after these bytes
  abbrev pub steps : List ℕ → RowsOf K → RowsOf K
  steps [] rs = rs
  steps (b ∷ front) rs = steps front (step b rs)

  -- a route that goes on after the front of a path comes first
  pub seek-front : (front : List ℕ) (rs : RowsOf K) (path : List ℕ) (k : K)
      → seek 0 (steps front rs) path ≡ Some k → seek 0 rs (front ++ path) ≡ Some k
  unfolding seek
  seek-front [] rs path k h = h
  seek-front (b ∷ front) rs path k h = rw (seek-front front (step b rs) path k h) refl

  -- a front that leaves one numbered row, and a part
  pub seek-numbered : (front : List ℕ) (rs : RowsOf K) (k : K) (b : ℕ) (rest : List ℕ)
      → steps front rs ≡ (param_token ∷ [], k) ∷ [] → b < 256 → has_slash (b ∷ rest) ≡ false
      → seek 0 rs (front ++ (b ∷ rest)) ≡ Some k
  seek-numbered front rs k b rest e h n =
      seek-front front rs (b ∷ rest) k (ap (λ r. seek 0 r (b ∷ rest)) e ∙ seek-part k b rest h n)
