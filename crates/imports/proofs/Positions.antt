-- The first positions of paths, one node after the other.
use Rattle.std.proofs.Common.{
  ◌≡◌,
  ℕ,
  ◌+◌,
  ◌<◌,
  Bool,
  true,
  false,
  cond,
  List,
  [],
  ◌∷◌,
  ◌++◌,
  length,
  map,
  take,
  get_or,
  refl,
  sym,
  ap,
  ◌∙◌,
  arith,
  Option,
  Some,
  None,
}
use Rattle.std.specs.Prelude.{Result, Ok, Err, OnOk}
use Rattle.std.proofs.lemmas.List.{length-map, length-take-le, map-append, take_more}
use Rattle.record_shapes.specs.Reading.{has_path}
use Rattle.import_definitions.specs.Views.{first_of, with_first}
use Rattle.import_definitions.specs.Positions.{position_of}
use Rattle.imports.specs.Firsts.{with_path}
use Rattle.list_laws.proofs.Bytes.{bytes_flip}

pub path_put : (places : List ℕ → Option ℕ) (path : List ℕ) (k : ℕ) (q : List ℕ) → with_first places path k q
    ≡ with_path places (Some path) k q
path_put places path k q = ap (λ b. first_of (places q) (cond b (Some k) None)) (bytes_flip q path)

pub path_none : (places : List ℕ → Option ℕ) (k : ℕ) (q : List ℕ) → places q ≡ with_path places None k q
path_none places k q = by (places q)
  where
    by : (o : Option ℕ) → o ≡ first_of o None
    by None = refl
    by (Some x) = refl

position_push : (q : List ℕ) (k : ℕ) (ps : List (Option (List ℕ))) (p : Option (List ℕ))
    → position_of q k (ps ++ p ∷ [])
    ≡ first_of (position_of q k ps) (cond (has_path q p) (Some (k + length ps)) None)
position_push q k [] p = let e : k ≡ k + 0 = omega arith in ap (λ n. cond (has_path q p) (Some n) None) e
position_push q k (x ∷ xs) p = by (has_path q x) (position_push q (k + 1) xs p)
  where
    by : (b : Bool) → position_of q (k + 1) (xs ++ p ∷ [])
        ≡ first_of (position_of q (k + 1) xs) (cond (has_path q p) (Some ((k + 1) + length xs)) None)
        → cond b (Some k) (position_of q (k + 1) (xs ++ p ∷ []))
        ≡ first_of (cond b (Some k) (position_of q (k + 1) xs)) (cond (has_path q p) (Some (k + length (x ∷ xs))) None)
    by true h = refl
    by false h =
        let e : (k + 1) + length xs ≡ k + length (x ∷ xs) = omega arith in
        h ∙ ap (λ n. first_of (position_of q (k + 1) xs) (cond (has_path q p) (Some n) None)) e

-- one node more
pub path_step : {X : Type 0} (said : X → Option (List ℕ)) (ps : List X) (i at : ℕ) (p : X)
    (old new : List ℕ → Option ℕ) → i < length ps → p ≡ get_or ps i p → at ≡ i
    → ((q : List ℕ) → old q ≡ position_of q 0 (map said (take i ps)))
    → ((q : List ℕ) → new q ≡ with_path old (said p) at q) → (q : List ℕ)
    → new q ≡ position_of q 0 (map said (take (i + 1) ps))
path_step said ps i at p old new h e same was is q =
    let long : at ≡ 0 + length (map said (take i ps)) =
    omega (arith, length-map (take i ps) said, length-take-le i ps (omega arith)) in
    let more : map said (take (i + 1) ps) ≡ map said (take i ps) ++ said p ∷ [] =
    ap (map said) (take_more ps i p h ∙ ap (λ m. take i ps ++ m ∷ []) (sym e))
    ∙ map-append said (take i ps) (p ∷ []) in
    is q
    ∙ ap (λ o. first_of o (cond (has_path q (said p)) (Some at) None)) (was q)
    ∙ ap (λ k. first_of (position_of q 0 (map said (take i ps))) (cond (has_path q (said p)) (Some k) None)) long
    ∙ sym (position_push q 0 (map said (take i ps)) (said p))
    ∙ ap (position_of q 0) (sym more)

-- a path that was put
pub put_on : {E : Type 0} (old new : List ℕ → Option ℕ) (name key : List ℕ) (path : Option (List ℕ)) (k : ℕ)
    (r : Result Unit E) → key ≡ name → path ≡ Some name → OnOk r ((q : List ℕ) → new q ≡ with_first old key k q)
    → OnOk r ((q : List ℕ) → new q ≡ with_path old path k q)
put_on old new name key path k (Ok u) same is h = λ q.
    h q ∙ ap (λ x. with_first old x k q) same ∙ path_put old name k q ∙ ap (λ p. with_path old p k q) (sym is)
put_on old new name key path k (Err e) same is h = tt
