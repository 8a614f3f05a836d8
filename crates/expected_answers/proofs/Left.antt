-- What is expected of each token, where that of one token changes.
use Rattle.std.proofs.Common.{◌≡◌, ◌∙◌, [], ℕ, Bool, List, ap, bytes_eq, cond, false, refl, true}
use Rattle.std.specs.Prelude.{Option, Some}
use Rattle.std.specs.Global.{Vec}
use Rattle.std.specs.Map.{update}
use Rattle.std.specs.Option.{option_map, unwrap_or}
use Rattle.std.proofs.lemmas.Slice.Eq.{bytes_eq-Decides}
use Rattle.expected_answers.specs.Expected.{texts_in}

abbrev pub Stack : Type 0
Stack = Vec (Vec ℕ)

abbrev pub texts_of : Option Stack → List (List ℕ)
texts_of o = unwrap_or (option_map texts_in o) []

-- a stack that is changed under its token; those of other tokens stay
pub changed : (f : List (List ℕ) → List (List ℕ)) (old new : List ℕ → Option Stack) (at token : List ℕ) (w : Stack)
    → at ≡ token → ((q : List ℕ) → new q ≡ update bytes_eq old at (Some w) q) → texts_in w ≡ f (texts_of (old at))
    → (q : List ℕ) → texts_of (new q) ≡ cond (bytes_eq token q) (f (texts_of (old q))) (texts_of (old q))
changed f old new at token w same put is q =
    ap texts_of (put q) ∙ ap (λ (x : List ℕ). texts_of (update bytes_eq old x (Some w) q)) same
    ∙ here (bytes_eq token q) refl
  where
    here : (b : Bool) → bytes_eq token q ≡ b
        → texts_of (cond b (Some w) (old q)) ≡ cond b (f (texts_of (old q))) (texts_of (old q))
    here true e = is ∙ ap (λ (x : List ℕ). f (texts_of (old x))) (same ∙ (bytes_eq-Decides token q).0 e)
    here false e = refl
