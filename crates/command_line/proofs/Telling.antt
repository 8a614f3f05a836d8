-- A table is given to `clap` a row at a time, and words are read one at a time.
use Rattle.std.proofs.Common.{
  ◌≡◌,
  ◌<◌,
  ◌+◌,
  ◌∙◌,
  ◌∷◌,
  ◌++◌,
  [],
  ◌||◌,
  ◌&&◌,
  ◌↔◌,
  ◌≢◌,
  Err,
  IfOk,
  IsTrue,
  Ok,
  Result,
  Bool,
  true,
  false,
  flat_map,
  List,
  ℕ,
  add-one,
  ap,
  append_assoc,
  drop,
  drop-cons,
  get_or,
  length,
  map,
  refl,
  sym,
}
use Rattle.std.specs.List.{list_all}
use Rattle.std.specs.Prelude.{fold}
use Rattle.clap.specs.Words.{Text}
use Rattle.command_line.specs.Meanings.{are_some}

-- with one more row what is given so far and what is left stay all
pub one_more : {A B X : Type 0} (step : A → B → A) (f : X → B) (xs : List X) (i : ℕ) (d : X) (a b all : A)
    → i < length xs → fold step a (map f (drop i xs)) ≡ all → b ≡ step a (f (get_or xs i d))
    → fold step b (map f (drop (i + 1) xs)) ≡ all
one_more step f xs i d a b all less was is =
    ap (λ x. fold step x (map f (drop (i + 1) xs))) is
    ∙ (sym (ap (λ ys. fold step a (map f ys))
    (drop-cons xs i d less ∙ ap (λ k. get_or xs i d ∷ drop k xs) (sym (add-one i)))) ∙ was)

-- with one more word what is read so far and what is left stay all
pub one_word : {A B C : Type 0} (f : A → B) (g : B → List C) (xs : List A) (i : ℕ) (d : A) (old new all : List C)
    → i < length xs → old ++ flat_map g (map f (drop i xs)) ≡ all → new ≡ old ++ g (f (get_or xs i d))
    → new ++ flat_map g (map f (drop (i + 1) xs)) ≡ all
one_word {A} {B} {C} f g xs i d old new all less was is =
    let rest = flat_map g (map f (drop (i + 1) xs)) in
    ap (λ (l : List C). l ++ rest) is ∙ (append_assoc old (g (f (get_or xs i d))) rest
    ∙ (sym (ap (λ (ys : List A). old ++ flat_map g (map f ys))
    (drop-cons xs i d less ∙ ap (λ k. get_or xs i d ∷ drop k xs) (sym (add-one i)))) ∙ was))

-- of what is left, one more passes the test, or it decides
pub one_passes : {A B : Type 0} (f : A → B) (p : B → Bool) (xs : List A) (i : ℕ) (d : A) (all b : Bool) → i < length xs
    → list_all p (map f (drop i xs)) ≡ all → b ≡ p (f (get_or xs i d))
    → (b && list_all p (map f (drop (i + 1) xs))) ≡ all
one_passes {A} f p xs i d all b less was is =
    ap (λ (c : Bool). c && list_all p (map f (drop (i + 1) xs))) is
    ∙ (sym (ap (λ (ys : List A). list_all p (map f ys))
    (drop-cons xs i d less ∙ ap (λ k. get_or xs i d ∷ drop k xs) (sym (add-one i)))) ∙ was)

-- a test that says whether there are words
has_some : (xs : List Text) (some : Bool) → (IsTrue some ↔ (xs ≢ [])) → some ≡ are_some xs
has_some [] true h = absurd (h.0 refl refl)
has_some [] false h = refl
has_some (x ∷ xs) true h = refl
has_some (x ∷ xs) false h = h.1 (λ e. absurd cc)

pub says_some : {E : Type 0} (xs : List Text) (r : Result Bool E) → IfOk r (λ some. IsTrue some ↔ (xs ≢ []))
    → IfOk r (λ some. some ≡ are_some xs)
says_some xs (Ok some) h = has_some xs some h
says_some xs (Err e) h = tt

pub still : (a b : Bool) → b ≡ false → (a || b) ≡ a
still true b h = refl
still false b h = h
