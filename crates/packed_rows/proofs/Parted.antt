-- Texts that are parted at a character which does not stand in front of it.
use Rattle.std.proofs.Common.{
  ◌≡◌,
  ◌≢◌,
  ◌==◌,
  ◌<◌,
  ◌||◌,
  ◌∙◌,
  ◌++◌,
  ◌∷◌,
  [],
  List,
  Option,
  Some,
  None,
  IfSome,
  ap,
  arith,
  eq-eqb,
  false,
  true,
  get_or,
  length,
  refl,
  suc,
  sym,
  ℕ,
}
use Rattle.std.specs.List.{list_any}
use Rattle.std.proofs.lemmas.List.{append-nil}
use Rattle.list_laws.proofs.Booleans.{or_first, or_second, or_none, true_not_false}
use Rattle.list_laws.proofs.Lists.{head_same, tail_same}
use Rattle.list_laws.proofs.Numbers.{is_not}
use Rattle.packed_rows.specs.Packed.{behind}
use Rattle.packed_rows.specs.Pieces.{Lacks}

-- ---- a text without a character
pub lacks : (c : ℕ) (xs : List ℕ) → ((i : ℕ) → i < length xs → get_or xs i 0 ≢ c) → Lacks c xs
lacks c [] h = refl
lacks c (x ∷ xs) h = or_none (x == c) (list_any (λ b. b == c) xs) (is_not x c (h 0 (omega arith)))
    (lacks c xs (λ i lt. h (suc i) (omega arith)))

pub lacks_both : (c : ℕ) (a b : List ℕ) → Lacks c a → Lacks c b → Lacks c (a ++ b)
lacks_both c [] b ha hb = hb
lacks_both c (x ∷ a) b ha hb = or_none (x == c) (list_any (λ z. z == c) (a ++ b))
    (or_first (x == c) (list_any (λ z. z == c) a) ha)
    (lacks_both c a b (or_second (x == c) (list_any (λ z. z == c) a) ha) hb)

pub lacks_behind : (c mark : ℕ) (p : Option (List ℕ)) → (mark == c) ≡ false → IfSome p (Lacks c)
    → Lacks c (behind mark p)
lacks_behind c mark None off h = refl
lacks_behind c mark (Some p) off h = or_none (mark == c) (list_any (λ z. z == c) p) off h

-- of a text without a character, what is after another one is without it too
pub front_lacks : (c : ℕ) (a b : List ℕ) → Lacks c (a ++ b) → Lacks c a
front_lacks c [] b h = refl
front_lacks c (x ∷ a) b h = or_none (x == c) (list_any (λ z. z == c) a)
    (or_first (x == c) (list_any (λ z. z == c) (a ++ b)) h)
    (front_lacks c a b (or_second (x == c) (list_any (λ z. z == c) (a ++ b)) h))

pub rest_lacks : (c : ℕ) (a b : List ℕ) → Lacks c (a ++ b) → Lacks c b
rest_lacks c [] b h = h
rest_lacks c (x ∷ a) b h = rest_lacks c a b (or_second (x == c) (list_any (λ z. z == c) (a ++ b)) h)

pub piece_lacks : (c mark : ℕ) (p : Option (List ℕ)) → Lacks c (behind mark p) → IfSome p (Lacks c)
piece_lacks c mark None h = tt
piece_lacks c mark (Some p) h = or_second (mark == c) (list_any (λ z. z == c) p) h

has_mark : (s : ℕ) (a p : List ℕ) → list_any (λ b. b == s) (a ++ s ∷ p) ≡ true
has_mark s [] p = ap (λ v. v || list_any (λ b. b == s) p) (eq-eqb s s refl)
has_mark s (x ∷ a) p = elim (x == s) as (λ v. (v || list_any (λ b. b == s) (a ++ s ∷ p)) ≡ true) [
  | true ↦ refl
  | false ↦ has_mark s a p
]

pub no_mark : (s : ℕ) (a b q : List ℕ) → Lacks s a → a ≡ b ++ s ∷ q → ⊥
no_mark s a b q h e =
    true_not_false (sym (has_mark s b q) ∙ (ap (λ l. list_any (λ z. z == s) l) (sym e) ∙ h))

-- ---- parted texts
no_self : (s y : ℕ) → (y == s) ≡ false → y ≡ s → ⊥
no_self s y f e = true_not_false (sym (eq-eqb y s e) ∙ f)

pub parted : (s : ℕ) (a b p q : List ℕ) → Lacks s a → Lacks s b → a ++ s ∷ p ≡ b ++ s ∷ q → (a ≡ b) × (p ≡ q)
parted s [] [] p q ha hb e = (refl, tail_same s s p q e)
parted s [] (y ∷ b) p q ha hb e =
    absurd (no_self s y (or_first (y == s) (list_any (λ x. x == s) b) hb) (sym (head_same s y p (b ++ s ∷ q) e)))
parted s (x ∷ a) [] p q ha hb e =
    absurd (no_self s x (or_first (x == s) (list_any (λ z. z == s) a) ha) (head_same x s (a ++ s ∷ p) q e))
parted s (x ∷ a) (y ∷ b) p q ha hb e =
    let more = parted s a b p q (or_second (x == s) (list_any (λ z. z == s) a) ha)
    (or_second (y == s) (list_any (λ z. z == s) b) hb) (tail_same x y (a ++ s ∷ p) (b ++ s ∷ q) e) in
    let first : x ≡ y = head_same x y (a ++ s ∷ p) (b ++ s ∷ q) e in
    (ap (λ z. z ∷ a) first ∙ ap (λ l. y ∷ l) more.0, more.1)

-- the same where there may be nothing after
pub parts_same : (s : ℕ) (a b : List ℕ) (p q : Option (List ℕ)) → Lacks s a → Lacks s b
    → a ++ behind s p ≡ b ++ behind s q → (a ≡ b) × (p ≡ q)
parts_same s a b None None ha hb e = (sym (append-nil a) ∙ (e ∙ append-nil b), refl)
parts_same s a b None (Some q) ha hb e = absurd (no_mark s a b q ha (sym (append-nil a) ∙ e))
parts_same s a b (Some p) None ha hb e = absurd (no_mark s b a p hb (sym (append-nil b) ∙ sym e))
parts_same s a b (Some p) (Some q) ha hb e =
    let both = parted s a b p q ha hb e in (both.0, ap (λ x. Some x) both.1)
