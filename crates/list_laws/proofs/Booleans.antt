-- Truth values: what holds of two joined by or, by and.
use Rattle.std.proofs.Common.{◌||◌, refl, ◌≡◌, true, Bool, false, ◌⊎◌, ◌↔◌, inr, inl, not, sym, cond}
use Rattle.std.specs.Prelude.{◌&&◌, IsTrue, T}

pub or_nothing : (b : Bool) → (b || false) ≡ b
or_nothing true = refl
or_nothing false = refl

pub true_not_false : true ≡ false → ⊥
true_not_false e = absurd cc

pub or_always : (a : Bool) → (a || true) ≡ true
or_always true = refl
or_always false = refl

pub and_never : (b : Bool) → (b && false) ≡ false
and_never true = refl
and_never false = refl

pub never : IsTrue false → ⊥
never t = cc

pub both_hold : (a b : Bool) → T a → T b → T (a && b)
both_hold true b p q = q
both_hold false b p q = p

pub first_holds : (a b : Bool) → T (a && b) → T a
first_holds true b p = tt
first_holds false b p = absurd p

pub rest_holds : (a b : Bool) → T (a && b) → T b
rest_holds true b p = p
rest_holds false b p = absurd p

pub or_right : (a b : Bool) → b ≡ true → (a || b) ≡ true
or_right true b e = refl
or_right false b e = e

pub or_left : (a b : Bool) → a ≡ true → (a || b) ≡ true
or_left true b e = refl
or_left false b e = absurd cc

pub or_true_either : (a b : Bool) → ((a || b) ≡ true) ↔ ((a ≡ true) ⊎ (b ≡ true))
or_true_either true b = (λ e. inl refl, λ o. refl)
or_true_either false b = (
  λ e. inr e,
  λ o. elim o as (λ _. b ≡ true) [
    | inl e ↦ absurd cc
    | inr e ↦ e
  ],
)

pub not_true : (a : Bool) → not a ≡ true → a ≡ false
not_true true h = absurd cc
not_true false h = refl

pub neither : (a b : Bool) → (a || b) ≡ false → (a ≡ false) × (b ≡ false)
neither true b h = absurd cc
neither false b h = (refl, h)

pub and_first : (a b : Bool) → (a && b) ≡ true → a ≡ true
and_first true b e = refl
and_first false b e = e

pub or_none : (a b : Bool) → a ≡ false → b ≡ false → (a || b) ≡ false
or_none true b e h = e
or_none false b e h = h

pub or_first : (a b : Bool) → (a || b) ≡ false → a ≡ false
or_first true b e = e
or_first false b e = refl

pub or_second : (a b : Bool) → (a || b) ≡ false → b ≡ false
or_second true b e = absurd cc
or_second false b e = e

pub or_assoc : (a b c : Bool) → (a || (b || c)) ≡ ((a || b) || c)
or_assoc true b c = refl
or_assoc false b c = refl

pub both_true : (a b : Bool) → (a && b) ≡ true → (a ≡ true) × (b ≡ true)
both_true true b h = (refl, h)
both_true false b h = absurd cc

pub and_false : (a b : Bool) → b ≡ false → (a && b) ≡ false
and_false true b h = h
and_false false b h = refl

pub one_test : (a b : Bool) → (a ≡ true → b ≡ true) → (b ≡ true → a ≡ true) → a ≡ b
one_test true b f g = sym (f refl)
one_test false true f g = g refl
one_test false false f g = refl

pub cond_same : {A : Type 0} (b : Bool) (x : A) → cond b x x ≡ x
cond_same true x = refl
cond_same false x = refl
