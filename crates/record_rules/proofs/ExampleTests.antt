-- A test of each that stands somewhere decides its rule.
use Rattle.std.proofs.Common.{◌≡◌, ℕ, List, [], ◌∷◌, Bool, true, false, refl, sym, subst, ◌∙◌, arith}
use Rattle.std.specs.Prelude.{Some, cond}
use Rattle.std.specs.Bool.{Decides}
use Rattle.std.proofs.lemmas.Bool.Decides.{nat_tests, Decides-and}
use Rattle.std.specs.List.{list_all}
use Rattle.std.specs.FinMap.{FinMap, get}
use Rattle.std.specs.Ordering.{nat_cmp, eq_by_cmp}
use Rattle.archive_state.specs.Sound.{EachIn}
use Rattle.record_rules.specs.Judged.{all_some}
use Rattle.record_rules.proofs.Tests.{from_some, to_all, to_some}
use Rattle.record_rules.specs.Archives.{at}
use Rattle.record_rules.specs.ExampleJudged.{each}

at_one : (q : ℕ → Bool) (n k : ℕ) (b : Bool) → eq_by_cmp nat_cmp n k ≡ b → b ≡ true → q k ≡ true → q n ≡ true
at_one q n k b e is h = let same : n ≡ k = grind (arith, nat_tests) in subst (λ i. q i ≡ true) (sym same) h

pub all_there : {X : Type 0} (q : ℕ → Bool) (n : ℕ) (es : List (ℕ × X)) (x : X) → list_all (λ e. q e.0) es ≡ true
    → at es n ≡ Some x → q n ≡ true
all_there q n [] x h e = absurd cc
all_there q n (f ∷ es) x h e =
    let parts = (Decides-and (q f.0) (list_all (λ g. q g.0) es) (λ i. i, λ i. i) (λ i. i, λ i. i)).0 h in
    elim (eq_by_cmp nat_cmp n f.0) as (λ b. eq_by_cmp nat_cmp n f.0 ≡ b → cond b (Some f.1) (at es n)
    ≡ Some x → q n ≡ true) [
      | true ↦ λ is _. at_one q n f.0 true is refl parts.0
      | false ↦ λ _ g. all_there q n es x parts.1 g
    ] refl e

pub each_in : {X : Type 0} (p : ℕ → X → Bool) (P : ℕ → X → Type 0) → ((n : ℕ) (x : X) → Decides (p n x) (P n x))
    → (m : FinMap nat_cmp X) (es : List (ℕ × X)) → ((n : ℕ) → get m n ≡ at es n) → Decides (each p es) (EachIn m P)
each_in p P d m es same = (
  λ h n x e. let there : at es n ≡ Some x = sym (same n) ∙ e in
      (d n x).0 (from_some (p n) (at es n) x there (all_there (λ k. all_some (p k) (at es k)) n es x h there)),
  λ h. to_all (λ e. all_some (p e.0) (at es e.0)) es
      (λ e. to_some (p e.0) (at es e.0) (λ x is. (d e.0 x).1 (h e.0 x (same e.0 ∙ is)))),
)
