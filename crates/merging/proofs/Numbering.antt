-- One number after the other.
use Rattle.std.proofs.Common.{
  ◌≡◌,
  ℕ,
  ◌+◌,
  ◌<◌,
  ◌≤◌,
  List,
  [],
  ◌∷◌,
  ◌++◌,
  length,
  get_or,
  drop,
  Bool,
  true,
  false,
  refl,
  sym,
  ap,
  ◌∙◌,
  add-one,
  drop-cons,
  arith,
}
use Rattle.std.specs.Prelude.{nat_lt, ◌==◌, if◌then◌else◌}
use Rattle.std.proofs.lemmas.List.{drop_all}
use Rattle.std.proofs.lemmas.Bool.Decides.{nat_tests}
use Rattle.merging.specs.Merges.{with_number}
use Rattle.merging.specs.Rest.{rest_of}
use Rattle.list_laws.proofs.Numbers.{is_same, is_apart, not_less, is_less}

one_step : (is_in : Bool) (i n d : ℕ) (s : List ℕ) → i < length s → rest_of is_in n (drop i s)
    ≡ rest_of is_in n (get_or s i d ∷ drop (i + 1) s)
one_step is_in i n d s h = ap (rest_of is_in n)
    (drop-cons s i d h ∙ ap (λ k. get_or s i d ∷ drop k s) (sym (add-one i)))

is_above : (n k : ℕ) → k < n → (n == k) ≡ false
is_above n k h = grind (arith, nat_tests)

abbrev branch : Bool → Bool → ℕ → ℕ → List ℕ → List ℕ
branch a b n k ks = if a then k ∷ ks else (if b then n ∷ (k ∷ ks) else k ∷ with_number n ks)

by_both : (a b x y : Bool) (n k : ℕ) (ks : List ℕ) → a ≡ x → b ≡ y → branch a b n k ks ≡ branch x y n k ks
by_both a b x y n k ks e f = ap (λ z. branch z b n k ks) e ∙ ap (λ z. branch x z n k ks) f

-- one number put after
behind : (found : List ℕ) (k : ℕ) (ks : List ℕ) → found ++ (k ∷ ks) ≡ (found ++ (k ∷ [])) ++ ks
behind [] k ks = refl
behind (x ∷ found) k ks = ap (λ l. x ∷ l) (behind found k ks)

module _ (whole found s : List ℕ) (i n d : ℕ) (h : i < length s) where
  pub more_in : whole ≡ found ++ rest_of true n (drop i s) → whole ≡ (found ++ (get_or s i d ∷ [])) ++ rest_of true n
      (drop (i + 1) s)
  more_in e = e ∙ ap (λ l. found ++ l) (one_step true i n d s h) ∙ behind found (get_or s i d) (drop (i + 1) s)

  pub more_less : n < get_or s i d → whole ≡ found ++ rest_of false n (drop i s)
      → whole ≡ ((found ++ (n ∷ [])) ++ (get_or s i d ∷ [])) ++ rest_of true n (drop (i + 1) s)
  more_less l e = e ∙ ap (λ x. found ++ x) (one_step false i n d s h ∙ by_both (n == get_or s i d)
      (nat_lt n (get_or s i d)) false true n (get_or s i d) (drop (i + 1) s) (is_apart n (get_or s i d) l)
      (is_less n (get_or s i d) l))
      ∙ behind found n (get_or s i d ∷ drop (i + 1) s) ∙ behind (found ++ (n ∷ [])) (get_or s i d) (drop (i + 1) s)

  pub more_same : n ≡ get_or s i d → whole ≡ found ++ rest_of false n (drop i s)
      → whole ≡ (found ++ (get_or s i d ∷ [])) ++ rest_of true n (drop (i + 1) s)
  more_same l e = e ∙ ap (λ x. found ++ x)
      (one_step false i n d s h ∙ ap (λ z. branch z (nat_lt n (get_or s i d)) n (get_or s i d) (drop (i + 1) s))
      (is_same n (get_or s i d) l)) ∙ behind found (get_or s i d) (drop (i + 1) s)

  pub more_above : get_or s i d < n → whole ≡ found ++ rest_of false n (drop i s)
      → whole ≡ (found ++ (get_or s i d ∷ [])) ++ rest_of false n (drop (i + 1) s)
  more_above l e = e ∙ ap (λ x. found ++ x)
      (one_step false i n d s h ∙ by_both (n == get_or s i d) (nat_lt n (get_or s i d)) false false n (get_or s i d)
      (drop (i + 1) s) (is_above n (get_or s i d) l) (not_less n (get_or s i d) (omega arith)))
      ∙ behind found (get_or s i d) (with_number n (drop (i + 1) s))

-- the same, of the list and the flag that stand there after the branches
pub joined : (whole items ours mine : List ℕ) (k n : ℕ) (x y : Bool) (rest : List ℕ)
    → whole ≡ (mine ++ (k ∷ [])) ++ rest_of y n rest → items ≡ ours ++ (k ∷ []) → ours ≡ mine → x ≡ y
    → whole ≡ items ++ rest_of x n rest
joined whole items ours mine k n x y rest e pushed same is = e ∙ ap (λ l. (l ++ (k ∷ [])) ++ rest_of y n rest)
    (sym same) ∙ ap (λ l. l ++ rest_of y n rest) (sym pushed) ∙ ap (λ b. items ++ rest_of b n rest) (sym is)

pub at_end : (whole found xs : List ℕ) (i n : ℕ) (b : Bool) → length xs ≤ i → whole ≡ found ++ rest_of b n (drop i xs)
    → whole ≡ found ++ rest_of b n []
at_end whole found xs i n b h e = e ∙ ap (λ l. found ++ rest_of b n l) (drop_all i xs h)
