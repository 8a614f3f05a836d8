-- So many steps taken twice are twice as many.
use Rattle.std.proofs.Common.{◌≡◌, ℕ, zero, suc, ◌+◌, List, [], ◌∷◌, map, refl, sym, ap, ◌∙◌, arith}
use Rattle.import_definitions.specs.Steps.{at, after, then_by}
use Rattle.import_definitions.specs.declared.steps.Step.{Step}
use Rattle.import_definitions.specs.declared.steps.Step.TheVariants as step

then_same : (f g : ℕ → Step) → ((k : ℕ) → f k ≡ g k) → (s : Step) → then_by f s ≡ then_by g s
then_same f g h step.Ends = refl
then_same f g h step.Breaks = refl
then_same f g h (step.Leads k) = h k

pub at_map : (f : ℕ → Step) (ss : List Step) (k : ℕ) → at (map (then_by f) ss) k ≡ then_by f (at ss k)
at_map f [] zero = refl
at_map f [] (suc k) = refl
at_map f (s ∷ ss) zero = refl
at_map f (s ∷ ss) (suc k) = at_map f ss k

after_then : (ss : List Step) (m n k : ℕ) → then_by (after ss m) (after ss n k) ≡ after ss (n + m) k
after_then ss m zero k = let e : 0 + m ≡ m = omega arith in ap (λ i. after ss i k) (sym e)
after_then ss m (suc n) k =
    then_step (at ss k) (after_then ss m n)
    ∙ (let e : suc n + m ≡ suc (n + m) = omega arith in ap (λ i. after ss i k) (sym e))
  where
    then_step : (s : Step) → ((j : ℕ) → then_by (after ss m) (after ss n j) ≡ after ss (n + m) j)
        → then_by (after ss m) (then_by (after ss n) s) ≡ then_by (after ss (n + m)) s
    then_step step.Ends h = refl
    then_step step.Breaks h = refl
    then_step (step.Leads j) h = h j

pub twice : (ss old new : List Step) (n : ℕ) → ((k : ℕ) → at old k ≡ after ss n k) → new ≡ map (then_by (at old)) old
    → (k : ℕ) → at new k ≡ after ss (n + n) k
twice ss old new n h e k =
    ap (λ (xs : List Step). at xs k) e ∙ at_map (at old) old k ∙ then_same (at old) (after ss n) h (at old k)
    ∙ ap (then_by (after ss n)) (h k) ∙ after_then ss n n k

pub same_map : (xs ys new : List Step) → xs ≡ ys → new ≡ map (then_by (at xs)) xs → new ≡ map (then_by (at ys)) ys
same_map xs ys new h e = e ∙ ap (λ (zs : List Step). map (then_by (at zs)) zs) h
