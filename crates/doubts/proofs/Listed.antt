-- What each of a list adds, with one more of them.
use Rattle.std.proofs.Common.{
  ◌≡◌,
  ◌<◌,
  ◌+◌,
  ◌∙◌,
  ◌++◌,
  ◌∷◌,
  [],
  ℕ,
  List,
  length,
  take,
  get_or,
  ap,
  sym,
  append_assoc,
  append-nil,
}
use Rattle.std.proofs.lemmas.Grind.{flat_map-append}
use Rattle.std.proofs.lemmas.List.{take_more}
use Rattle.std.specs.List.{flat_map}

pub one_more : {A B : Type 0} (f : A → List B) (xs : List A) (i : ℕ) (x : A) (old mid new : List B) → i < length xs
    → x ≡ get_or xs i x → mid ≡ old ++ flat_map f (take i xs) → new ≡ mid ++ f x
    → new ≡ old ++ flat_map f (take (i + 1) xs)
one_more {A} {B} f xs i x old mid new less at was is =
    let more : flat_map f (take (i + 1) xs) ≡ flat_map f (take i xs) ++ f x =
    ap (flat_map f) (take_more xs i x less) ∙ flat_map-append f (take i xs) (get_or xs i x ∷ [])
    ∙ ap (λ (l : List B). flat_map f (take i xs) ++ l) (append-nil (f (get_or xs i x)))
    ∙ ap (λ (y : A). flat_map f (take i xs) ++ f y) (sym at) in
    is ∙ ap (λ (l : List B). l ++ f x) was ∙ append_assoc old (flat_map f (take i xs)) (f x)
    ∙ ap (λ (l : List B). old ++ l) (sym more)
