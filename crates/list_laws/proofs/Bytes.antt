-- Lists of bytes: texts that are compared, joined at a byte of zero, or parted at one.
use Rattle.std.proofs.Common.{
  ◌==◌,
  refl,
  List,
  ap,
  ◌≡◌,
  ℕ,
  ◌∷◌,
  ◌∙◌,
  ◌++◌,
  sym,
  [],
  false,
  ◌||◌,
  true,
  Bool,
  cond,
  subst,
  eqb,
  eqb-true,
  ◌<◌,
  arith,
  append_assoc,
  length,
}
use Rattle.std.proofs.lemmas.Bool.{or_parts}
use Rattle.std.specs.List.{list_any, onto_first}
use Rattle.std.specs.Prelude.{bytes_eq}
use Rattle.std.specs.Str.Parse.{AllDigits}
use Rattle.std.proofs.lemmas.Bool.Decides.{nat_tests}
use Rattle.std.specs.Char.{digit_value}
use Rattle.std.proofs.lemmas.Slice.Eq.{bytes_eq-Decides}
use Rattle.list_laws.proofs.Lists.{tail_same, head_same}
use Rattle.list_laws.proofs.Numbers.{no_zero}

pub parted : (a b p q : List ℕ) → list_any (λ x. x == 0) a ≡ false → list_any (λ x. x == 0) b ≡ false
    → a ++ 0 ∷ p ≡ b ++ 0 ∷ q → (a ≡ b) × (p ≡ q)
parted [] [] p q ha hb e = (refl, tail_same 0 0 p q e)
parted [] (y ∷ b) p q ha hb e =
    absurd (no_zero y (or_parts (y == 0) (list_any (λ x. x == 0) b) hb).0 (sym (head_same 0 y p (b ++ 0 ∷ q) e)))
parted (x ∷ a) [] p q ha hb e =
    absurd (no_zero x (or_parts (x == 0) (list_any (λ z. z == 0) a) ha).0 (head_same x 0 (a ++ 0 ∷ p) q e))
parted (x ∷ a) (y ∷ b) p q ha hb e =
    let more = parted a b p q (or_parts (x == 0) (list_any (λ z. z == 0) a) ha).1
    (or_parts (y == 0) (list_any (λ z. z == 0) b) hb).1 (tail_same x y (a ++ 0 ∷ p) (b ++ 0 ∷ q) e) in
    let first : x ≡ y = head_same x y (a ++ 0 ∷ p) (b ++ 0 ∷ q) e in
    (ap (λ z. z ∷ a) first ∙ ap (λ l. y ∷ l) more.0, more.1)

pub digits_plain : (ds : List ℕ) → AllDigits 10 ds → list_any (λ b. b == 0) ds ≡ false
digits_plain [] h = refl
digits_plain (c ∷ cs) h =
    let later : list_any (λ b. b == 0) cs ≡ false = digits_plain cs h.1 in
    elim (eqb c 0) as (λ v. eqb c 0 ≡ v → list_any (λ b. b == 0) (c ∷ cs) ≡ false) [
      | true ↦ λ e. absurd (let low : digit_value 0 < 10 = subst (λ (y : ℕ). digit_value y < 10) (eqb-true c 0 e) h.0
          in omega (arith, low))
      | false ↦ λ e. grind (arith, nat_tests)
    ] refl

-- the parts of a key, put together one after the other
pub four_joined : (s k i p : List ℕ) → (((((s ++ (0 ∷ [])) ++ k) ++ (0 ∷ [])) ++ i) ++ (0 ∷ [])) ++ p
    ≡ s ++ (0 ∷ (k ++ (0 ∷ (i ++ (0 ∷ p)))))
four_joined s k i p =
    append_assoc ((((s ++ (0 ∷ [])) ++ k) ++ (0 ∷ [])) ++ i) (0 ∷ []) p
    ∙ append_assoc (((s ++ (0 ∷ [])) ++ k) ++ (0 ∷ [])) i (0 ∷ p)
    ∙ append_assoc ((s ++ (0 ∷ [])) ++ k) (0 ∷ []) (i ++ (0 ∷ p))
    ∙ append_assoc (s ++ (0 ∷ [])) k (0 ∷ (i ++ (0 ∷ p)))
    ∙ append_assoc s (0 ∷ []) (k ++ (0 ∷ (i ++ (0 ∷ p))))

pub bytes_same : (a b : List ℕ) → bytes_eq a b ≡ true → a ≡ b
bytes_same a b h = (bytes_eq-Decides a b).0 h

pub bytes_flip : (a b : List ℕ) → bytes_eq a b ≡ bytes_eq b a
bytes_flip a b = flip (bytes_eq a b) (bytes_eq b a) refl refl
  where
    flip : (x y : Bool) → bytes_eq a b ≡ x → bytes_eq b a ≡ y → x ≡ y
    flip true true h k = refl
    flip false false h k = refl
    flip true false h k = sym ((bytes_eq-Decides b a).1 (sym (bytes_same a b h))) ∙ k
    flip false true h k = sym h ∙ (bytes_eq-Decides a b).1 (sym (bytes_same b a k))

-- a key is added: put so as a set tells it, and as a list does
pub added : (x w : List ℕ) (new old : Bool) → new ≡ cond (bytes_eq w x) true old → new ≡ (old || bytes_eq x w)
added x w new old e = e ∙ by (bytes_eq w x) (bytes_eq x w) old
    (bytes_flip w x)
  where
    by : (a b o : Bool) → a ≡ b → cond a true o ≡ (o || b)
    by true true true e = refl
    by true true false e = refl
    by false false true e = refl
    by false false false e = refl
    by true false o e = absurd cc
    by false true o e = absurd cc

pub onto_both : (x : ℕ) (xs ys : List (List ℕ)) (y : List ℕ) (more : List (List ℕ)) → xs ≡ y ∷ more
    → onto_first x (xs ++ ys) ≡ onto_first x xs ++ ys
onto_both x xs ys y more e = ap (λ l. onto_first x (l ++ ys)) e ∙ sym (ap (λ l. onto_first x l ++ ys) e)

pub onto_length : (x : ℕ) (ys : List (List ℕ)) (y : List ℕ) (more : List (List ℕ)) → ys ≡ y ∷ more
    → length (onto_first x ys) ≡ length ys
onto_length x ys y more e = ap (λ l. length (onto_first x l)) e ∙ sym (ap length e)
