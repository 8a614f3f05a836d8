-- Numbers under keys, and more of them added.
use Rattle.std.proofs.Common.{◌≡◌, ℕ, List, [], ◌∷◌, ◌++◌, true, false, refl, sym, ap, ◌∙◌, cond, bytes_eq}
use Rattle.std.specs.Prelude.{OnOk, Option, Some, None, Result, Ok, Err, if◌then◌else◌}
use Rattle.std.specs.Map.{update}
use Rattle.std.proofs.lemmas.Slice.Eq.{bytes_eq-Decides}
use Rattle.plain_export.specs.Firsts.{Adds, Firsts, Mark, first_under, or_else}

pub on_ok : {A E P Q : Type 0} (r : Result A E) → (P → Q) → OnOk r P → OnOk r Q
on_ok (Ok a) f h = f h
on_ok (Err e) f h = tt

or_assoc : (a b c : Option ℕ) → or_else (or_else a b) c ≡ or_else a (or_else b c)
or_assoc None b c = refl
or_assoc (Some n) b c = refl

or_none : (a : Option ℕ) → a ≡ or_else a None
or_none None = refl
or_none (Some n) = refl

or_some : (a b : Option ℕ) (n : ℕ) → a ≡ Some n → a ≡ or_else a b
or_some None b n is = absurd cc
or_some (Some k) b n is = refl

first_append : (xs ys : List Mark) (key : List ℕ)
    → first_under (xs ++ ys) key ≡ or_else (first_under xs key) (first_under ys key)
first_append [] ys key = refl
first_append (x ∷ xs) ys key = elim (bytes_eq x.0 key) as (λ b. (if b then Some x.1 else first_under (xs ++ ys) key)
    ≡ or_else (if b then Some x.1 else first_under xs key) (first_under ys key)) [
      | true ↦ refl
      | false ↦ first_append xs ys key
    ]

pub adds_none : (f : Firsts) → Adds f f []
adds_none f key = or_none (f key)

pub adds_then : (f g h : Firsts) (xs ys : List Mark) → Adds f g xs → Adds g h ys → Adds f h (xs ++ ys)
adds_then f g h xs ys p q key =
    q key ∙ ap (λ o. or_else o (first_under ys key)) (p key)
    ∙ or_assoc (f key) (first_under xs key) (first_under ys key)
    ∙ ap (or_else (f key)) (sym (first_append xs ys key))

-- a key that has a number keeps it
pub adds_there : (f : Firsts) (key : List ℕ) (k n : ℕ) → f key ≡ Some k → Adds f f ((key, n) ∷ [])
adds_there f key k n is q = elim (bytes_eq key q) as (λ b. bytes_eq key q ≡ b
    → f q ≡ or_else (f q) (if b then Some n else None)) [
      | true ↦ λ same. or_some (f q) (Some n) k (ap f (sym ((bytes_eq-Decides key q).0 same)) ∙ is)
      | false ↦ λ other. or_none (f q)
    ] refl

-- a key that has none gets it
pub adds_new : (f g : Firsts) (key : List ℕ) (n : ℕ) → f key ≡ None
    → ((q : List ℕ) → g q ≡ update bytes_eq f key (Some n) q) → Adds f g ((key, n) ∷ [])
adds_new f g key n none put q = put q ∙ (elim (bytes_eq key q) as (λ b. bytes_eq key q ≡ b
    → cond b (Some n) (f q) ≡ or_else (f q) (if b then Some n else None)) [
      | true ↦ λ same. sym (ap (λ o. or_else o (Some n)) (ap f (sym ((bytes_eq-Decides key q).0 same)) ∙ none))
      | false ↦ λ other. or_none (f q)
    ] refl)

pub same_key : (f g : Firsts) (a b : List ℕ) (n : ℕ) → a ≡ b → Adds f g ((a, n) ∷ []) → Adds f g ((b, n) ∷ [])
same_key f g a b n same h key = h key ∙ ap (λ (x : List ℕ). or_else (f key) (first_under ((x, n) ∷ []) key)) same

-- what is added to nothing
pub all_added : (f : Firsts) (xs ys : List Mark) → xs ≡ ys → Adds (λ _. None) f xs → f ≡ first_under ys
all_added f xs ys same h = λ j key. (h key ∙ ap (λ (ms : List Mark). first_under ms key) same) j
