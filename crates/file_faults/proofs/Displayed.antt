-- A line as it is displayed, one character after another.
use Rattle.std.proofs.Common.{
  ◌≡◌,
  ℕ,
  zero,
  suc,
  ◌-◌,
  ◌<◌,
  List,
  [],
  ◌∷◌,
  ◌++◌,
  length,
  refl,
  ap,
  ◌∙◌,
  sym,
  arith,
  append_assoc,
  append-nil,
}
use Rattle.file_faults.specs.Shown.{shown, first_shown, past_first}

shown_more : (n : ℕ) (b : List ℕ) → 0 < n → 0 < length b → shown n b ≡ first_shown b ++ shown (n - 1) (past_first b)
unfolding shown
shown_more zero b h k = absurd (omega arith)
shown_more (suc n) [] h k = absurd (omega arith)
shown_more (suc n) (x ∷ xs) h k =
    let e : n ≡ suc n - 1 = omega arith in
    ap (λ (m : ℕ). first_shown (x ∷ xs) ++ shown m (past_first (x ∷ xs))) e

shown_none : (n : ℕ) → shown n [] ≡ []
unfolding shown
shown_none zero = refl
shown_none (suc n) = refl

shown_zero : (b : List ℕ) → shown 0 b ≡ []
unfolding shown
shown_zero b = refl

-- one character more
pub goes_on : (out new : List ℕ) (n : ℕ) (b more whole : List ℕ) → 0 < n → 0 < length b → new ≡ out ++ first_shown b
    → more ≡ past_first b → out ++ shown n b ≡ whole → new ++ shown (n - 1) more ≡ whole
goes_on out new n b more whole h k e p i =
    ap (λ (x : List ℕ). x ++ shown (n - 1) more) e
    ∙ append_assoc out (first_shown b) (shown (n - 1) more)
    ∙ ap (λ (x : List ℕ). out ++ (first_shown b ++ shown (n - 1) x)) p
    ∙ ap (λ (x : List ℕ). out ++ x) (sym (shown_more n b h k))
    ∙ i

-- no more
pub ends_empty : (out : List ℕ) (n : ℕ) (b whole : List ℕ) → b ≡ [] → out ++ shown n b ≡ whole → out ≡ whole
ends_empty out n b whole e i = sym (append-nil out) ∙ ap (λ (x : List ℕ). out ++ x) (sym (shown_none n))
    ∙ ap (λ (x : List ℕ). out ++ shown n x) (sym e) ∙ i

pub ends_full : (out : List ℕ) (n : ℕ) (b whole : List ℕ) → n ≡ 0 → out ++ shown n b ≡ whole → out ≡ whole
ends_full out n b whole e i = sym (append-nil out) ∙ ap (λ (x : List ℕ). out ++ x) (sym (shown_zero b))
    ∙ ap (λ (m : ℕ). out ++ shown m b) (sym e) ∙ i

pub none_left : (b : List ℕ) → length b ≡ 0 → b ≡ []
none_left [] h = refl
none_left (x ∷ xs) h = absurd (omega (arith, h))
