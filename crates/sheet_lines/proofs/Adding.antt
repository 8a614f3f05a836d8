-- A number that is put under a key.
use Rattle.std.proofs.Common.{
  ◌≡◌,
  ℕ,
  suc,
  ◌-◌,
  Bool,
  true,
  false,
  cond,
  List,
  [],
  ◌∷◌,
  ◌++◌,
  length,
  nat_eq,
  refl,
  ap,
  ◌∙◌,
  arith,
  bytes_eq,
}
use Rattle.std.specs.Prelude.{Option, Some, None, slice_get}
use Rattle.std.specs.Option.{option_map, unwrap_or}
use Rattle.std.specs.Global.{Vec}
use Rattle.std.specs.Map.{update}
use Rattle.std.proofs.lemmas.Slice.Eq.{bytes_eq-Decides}
use Rattle.sheet_lines.specs.Numbers.{stands_last, with_last}

same_some : (a b : ℕ) → Some a ≡ Some b → a ≡ b
same_some a b e = ap (λ (o : Option ℕ). unwrap_or o a) e

-- the last of a list is what stands at its last place
pub last_is : (n k : ℕ) (ks : List ℕ) → Some k ≡ slice_get ks (length ks - 1) → nat_eq k n ≡ stands_last n ks
last_is n k [] at = absurd cc
last_is n k (j ∷ []) at = ap (λ (x : ℕ). nat_eq x n) (same_some k j at)
last_is n k (i ∷ j ∷ ks) at =
    let more : suc (suc (length ks)) - 1 ≡ suc (length ks) = omega arith in
    let less : length ks ≡ suc (length ks) - 1 = omega arith in
    last_is n k (j ∷ ks) (at ∙ ap (slice_get (i ∷ j ∷ ks)) more ∙ ap (slice_get (j ∷ ks)) less)

abbrev items_of : Option (Vec ℕ) → List ℕ
items_of o = unwrap_or (option_map (λ (v : Vec ℕ). v.items) o) []

-- the number is put under the key, after those that are there; what other keys have stays
pub put_under : (old new : List ℕ → Option (Vec ℕ)) (at key : List ℕ) (n : ℕ) (w : Vec ℕ) → at ≡ key
    → ((q : List ℕ) → new q ≡ update bytes_eq old at (Some w) q) → w.items ≡ with_last n (items_of (old at))
    → (q : List ℕ) → items_of (new q)
    ≡ cond (bytes_eq key q) (with_last n (items_of (old q))) (items_of (old q))
put_under old new at key n w same put is q =
    ap items_of (put q) ∙ ap (λ (x : List ℕ). items_of (update bytes_eq old x (Some w) q)) same
    ∙ here (bytes_eq key q) refl
  where
    here : (b : Bool) → bytes_eq key q ≡ b
        → items_of (cond b (Some w) (old q)) ≡ cond b (with_last n (items_of (old q))) (items_of (old q))
    here true e = is
        ∙ ap (λ (x : List ℕ). with_last n (items_of (old x))) (same ∙ (bytes_eq-Decides key q).0 e)
    here false e = refl

-- nobody was there
pub put_first : (old : Option (Vec ℕ)) (n : ℕ) (none more : List ℕ) → None ≡ old → none ≡ [] → more ≡ none ++ n ∷ []
    → more ≡ with_last n (items_of old)
put_first old n none more nobody empty is = is ∙ ap (λ (ks : List ℕ). ks ++ n ∷ []) empty
    ∙ ap (λ (o : Option (Vec ℕ)). with_last n (items_of o)) nobody

-- somebody was there
pub put_behind : (old : Option (Vec ℕ)) (n : ℕ) (v : Vec ℕ) (ks : List ℕ) → Some v ≡ old → ks ≡ with_last n v.items
    → ks ≡ with_last n (items_of old)
put_behind old n v ks some is = is ∙ ap (λ (o : Option (Vec ℕ)). with_last n (items_of o)) some
