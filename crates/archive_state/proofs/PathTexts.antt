-- The path of a place below another: it is normal where both texts are, and only the name is within the limits where
-- the path is.
use Rattle.std.proofs.Common.{
  ◌≡◌,
  ℕ,
  ◌+◌,
  ◌≤◌,
  List,
  [],
  ◌∷◌,
  ◌++◌,
  length,
  map,
  true,
  refl,
  sym,
  ap,
  ◌∙◌,
  subst,
  arith,
}
use Rattle.std.specs.Prelude.{codes}
use Rattle.std.proofs.lemmas.Bool.Decides.{nat_tests}
use Rattle.std.proofs.lemmas.List.{length-append, map-append, append_assoc}
use Rattle.record_shapes.specs.Paths.{joined, trimmed, parts, normal, IsWithinLimits, is_within_limits}
use Rattle.record_shapes.specs.Fields.{path_below}
use Rattle.record_shapes.proofs.PathTexts.{parts_both, parts_behind_space, parts_some}

-- ---- joined again
joined_more : (x : List ℕ) (xs : List (List ℕ)) (y : List ℕ) (ys : List (List ℕ))
    → joined ((x ∷ xs) ++ (y ∷ ys)) ≡ joined (x ∷ xs) ++ (codes ", " ++ joined (y ∷ ys))
joined_more x [] y ys = refl
joined_more x (z ∷ xs) y ys =
    ap (λ l. x ++ (codes ", " ++ l)) (joined_more z xs y ys)
    ∙ sym (append_assoc x (codes ", " ++ joined (z ∷ xs)) (codes ", " ++ joined (y ∷ ys)))

joined_both : (xs ys : List (List ℕ)) (x : List ℕ) (more : List (List ℕ)) (y : List ℕ) (others : List (List ℕ))
    → xs ≡ x ∷ more → ys ≡ y ∷ others → joined (map trimmed xs ++ map trimmed ys) ≡ joined (map trimmed xs)
    ++ (codes ", " ++ joined (map trimmed ys))
joined_both xs ys x more y others e f =
    (λ i. joined (map trimmed (e i) ++ map trimmed (f i)))
    ∙ joined_more (trimmed x) (map trimmed more) (trimmed y) (map trimmed others)
    ∙ sym (λ i. joined (map trimmed (e i)) ++ (codes ", " ++ joined (map trimmed (f i))))

pub normal_below : (name above : List ℕ) → normal name ≡ name → normal above ≡ above
    → normal (path_below name above) ≡ path_below name above
unfolding normal
normal_below name above h k =
    let s = parts_some name in
    let t = parts_some above in
    ap (λ l. joined (map trimmed l)) (parts_both name (32 ∷ above))
    ∙ ap joined (map-append trimmed (parts name) (parts (32 ∷ above)))
    ∙ ap (λ l. joined (map trimmed (parts name) ++ l)) (parts_behind_space above)
    ∙ joined_both (parts name) (parts above) s.0 s.1 t.0 t.1 s.2 t.2
    ∙ (λ i. h i ++ (codes ", " ++ k i))

-- ---- limits
pub limits_are : (path : List ℕ) → IsWithinLimits path → is_within_limits path ≡ true
unfolding is_within_limits
limits_are path h = let a : length (parts path) ≤ 32 = h.0 in let b : length path ≤ 4096 = h.1 in
    grind (arith, nat_tests)

shorter : (a b c : ℕ) → a + b ≤ c → a ≤ c
shorter a b c h = omega arith

pub limits_of_name : (name above : List ℕ) → IsWithinLimits (path_below name above) → IsWithinLimits name
limits_of_name name above h = (
  shorter (length (parts name)) (length (parts (32 ∷ above))) 32
      (subst (λ k. k ≤ 32) (ap length (parts_both name (32 ∷ above)) ∙ length-append (parts name) (parts (32 ∷ above)))
      h.0),
  shorter (length name) (length (codes ", " ++ above)) 4096
      (subst (λ k. k ≤ 4096) (length-append name (codes ", " ++ above)) h.1),
)
