-- A path that is put under its key.
use Rattle.std.proofs.Common.{
  ◌≡◌,
  ◌∙◌,
  ◌++◌,
  ◌∷◌,
  [],
  ℕ,
  Bool,
  List,
  ap,
  bytes_eq,
  cond,
  false,
  map,
  refl,
  string_bytes,
  true,
}
use Rattle.std.specs.Prelude.{None, Option, Some}
use Rattle.std.specs.Global.{Global, Vec}
use Rattle.std.specs.Map.{update}
use Rattle.std.specs.Option.{option_map, unwrap_or}
use Rattle.std.specs.declared.string.String.{String}
use Rattle.std.proofs.lemmas.Slice.Eq.{bytes_eq-Decides}
use Rattle.page_answers.specs.Likes.{paths_in}

abbrev Texts : Type 0
Texts = Vec (String Global)

abbrev items_of : Option Texts → List (List ℕ)
items_of o = unwrap_or (option_map paths_in o) []

-- it is put under the key, after those that are there; what other keys have stays
pub put_under : (old new : List ℕ → Option Texts) (at key path : List ℕ) (w : Texts) → at ≡ key
    → ((q : List ℕ) → new q ≡ update bytes_eq old at (Some w) q) → paths_in w ≡ items_of (old at) ++ path ∷ []
    → (q : List ℕ) → items_of (new q)
    ≡ cond (bytes_eq key q) (items_of (old q) ++ path ∷ []) (items_of (old q))
put_under old new at key path w same put is q =
    ap items_of (put q) ∙ ap (λ (x : List ℕ). items_of (update bytes_eq old x (Some w) q)) same
    ∙ here (bytes_eq key q) refl
  where
    here : (b : Bool) → bytes_eq key q ≡ b
        → items_of (cond b (Some w) (old q)) ≡ cond b (items_of (old q) ++ path ∷ []) (items_of (old q))
    here true e = is
        ∙ ap (λ (x : List ℕ). items_of (old x) ++ path ∷ []) (same ∙ (bytes_eq-Decides key q).0 e)
    here false e = refl

-- after those that are there
pub put_behind : (old : Option Texts) (path : List ℕ) (v w : Texts) → Some v ≡ old
    → paths_in w ≡ paths_in v ++ path ∷ [] → paths_in w ≡ items_of old ++ path ∷ []
put_behind old path v w some is = is ∙ ap (λ (o : Option Texts). items_of o ++ path ∷ []) some

-- the first of its key
pub put_first : (old : Option Texts) (path : List ℕ) (none w : Texts) → None ≡ old → none.items ≡ []
    → paths_in w ≡ paths_in none ++ path ∷ [] → paths_in w ≡ items_of old ++ path ∷ []
put_first old path none w nobody empty is = is
    ∙ ap (λ (ts : List (String Global)). map string_bytes ts ++ path ∷ []) empty
    ∙ ap (λ (o : Option Texts). items_of o ++ path ∷ []) nobody
