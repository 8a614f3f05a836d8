-- The positions that are kept of names, and the walk over nodes.
use Rattle.std.proofs.Common.{
  ◌≡◌,
  ℕ,
  suc,
  ◌+◌,
  ◌<◌,
  Bool,
  true,
  false,
  cond,
  List,
  [],
  ◌∷◌,
  ◌++◌,
  length,
  take,
  drop,
  get_or,
  refl,
  sym,
  ap,
  ◌∙◌,
  arith,
  Option,
  Some,
  None,
  bytes_eq,
}
use Rattle.std.specs.Prelude.{is_some}
use Rattle.std.specs.Borrow.{Bor}
use Rattle.std.specs.Map.{update}
use Rattle.std.proofs.lemmas.List.{take_more, map-append, length-map, length-take-le}
use Rattle.std.proofs.Math.Seq.{drop-cons}
use Rattle.gedcom_tree.specs.declared.node.Node.{Node}
use Rattle.import_definitions.specs.Nodes.{tree_of, trees_at}
use Rattle.import_definitions.specs.Roots.{is_called}
use Rattle.import_definitions.specs.Lines.{position_from, place_in}
use Rattle.import_definitions.specs.Views.{first_of, with_first, with_node}
use Rattle.list_laws.proofs.Bytes.{bytes_same, bytes_flip}

-- a name that is put where there is none
pub first_put : (old new : List ℕ → Option ℕ) (name key : List ℕ) (k : ℕ) → key ≡ name → false ≡ is_some (old name)
    → ((q : List ℕ) → new q ≡ update bytes_eq old key (Some k) q) → (q : List ℕ) → new q ≡ with_first old name k q
first_put old new name key k same none h q =
    h q ∙ ap (λ x. update bytes_eq old x (Some k) q) same ∙ ap (λ b. cond b (Some k) (old q)) (bytes_flip name q)
    ∙ put_step (bytes_eq q name) refl
  where
    first_none : (o : Option ℕ) → false ≡ is_some o → Some k ≡ first_of o (Some k)
    first_none None e = refl
    first_none (Some x) e = absurd cc

    first_some : (o : Option ℕ) → o ≡ first_of o None
    first_some None = refl
    first_some (Some x) = refl

    put_step : (b : Bool) → bytes_eq q name ≡ b → cond b (Some k) (old q) ≡ first_of (old q) (cond b (Some k) None)
    put_step true e = first_none (old q) (none ∙ ap (λ x. is_some (old x)) (sym (bytes_same q name e)))
    put_step false e = first_some (old q)

-- ---- one node more
position_push : {A : Type 0} (P : A → Bool) (k : ℕ) (xs : List A) (y : A) → position_from P k (xs ++ y ∷ [])
    ≡ first_of (position_from P k xs) (cond (P y) (Some (k + length xs)) None)
position_push P k [] y = let e : k ≡ k + 0 = omega arith in ap (λ n. cond (P y) (Some n) None) e
position_push P k (x ∷ xs) y = push_step (P x) (position_push P (k + 1) xs y)
  where
    push_step : (b : Bool) → position_from P (k + 1) (xs ++ y ∷ [])
        ≡ first_of (position_from P (k + 1) xs) (cond (P y) (Some ((k + 1) + length xs)) None)
        → cond b (Some k) (position_from P (k + 1) (xs ++ y ∷ []))
        ≡ first_of (cond b (Some k) (position_from P (k + 1) xs)) (cond (P y) (Some (k + length (x ∷ xs))) None)
    push_step true h = refl
    push_step false h =
        let e : (k + 1) + length xs ≡ k + length (x ∷ xs) = omega arith in
        h ∙ ap (λ n. first_of (position_from P (k + 1) xs) (cond (P y) (Some n) None)) e

pub trees_more : (ns : List (Bor Node)) (i : ℕ) (n : Bor Node) → i < length ns → n ≡ get_or ns i n
    → trees_at (take (i + 1) ns) ≡ trees_at (take i ns) ++ tree_of n.now ∷ []
trees_more ns i n h e =
    ap trees_at (take_more ns i n h ∙ ap (λ m. take i ns ++ m ∷ []) (sym e))
    ∙ map-append (λ (m : Bor Node). tree_of m.now) (take i ns) (n ∷ [])

pub place_step : (ns : List (Bor Node)) (i at : ℕ) (n : Bor Node) (old new : List ℕ → Option ℕ) → i < length ns
    → n ≡ get_or ns i n → at ≡ i → ((q : List ℕ) → old q ≡ place_in (trees_at (take i ns)) q)
    → ((q : List ℕ) → new q ≡ with_node old (tree_of n.now) at q) → (q : List ℕ)
    → new q ≡ place_in (trees_at (take (i + 1) ns)) q
place_step ns i at n old new h e same was is q =
    is q
    ∙ ap (λ o. first_of o (cond (is_called q (tree_of n.now)) (Some at) None)) (was q)
    ∙ (let long : at ≡ 0 + length (trees_at (take i ns)) =
    omega (arith, length-map (take i ns) (λ (m : Bor Node). tree_of m.now), length-take-le i ns (omega arith)) in
    ap (λ k. first_of (place_in (trees_at (take i ns)) q) (cond (is_called q (tree_of n.now)) (Some k) None)) long)
    ∙ sym (position_push (is_called q) 0 (trees_at (take i ns)) (tree_of n.now))
    ∙ ap (λ ts. place_in ts q) (sym (trees_more ns i n h e))

-- ---- one node less
pub trees_less : (ns : List (Bor Node)) (i : ℕ) (n : Bor Node) → i < length ns → n ≡ get_or ns i n
    → trees_at (drop i ns) ≡ tree_of n.now ∷ trees_at (drop (i + 1) ns)
trees_less ns i n h e =
    ap trees_at (drop-cons ns i n h ∙ ap (λ m. m ∷ drop (suc i) ns) (sym e))
    ∙ (let one : suc i ≡ i + 1 = omega arith in ap (λ k. tree_of n.now ∷ trees_at (drop k ns)) one)
