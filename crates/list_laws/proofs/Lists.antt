-- Lists: what is at a place, mapped, filtered, looked for.
use Rattle.std.proofs.Common.{
  refl,
  List,
  ◌≡◌,
  ◌∷◌,
  [],
  ◌++◌,
  ◌||◌,
  ap,
  Bool,
  true,
  filter,
  ℕ,
  drop,
  get_or,
  ◌∙◌,
  ◌+◌,
  sym,
  length,
  ◌<◌,
  arith,
  suc,
  ◌≤◌,
  add-one,
  append_assoc,
}
use Rattle.std.specs.Prelude.{map, Some, ◌&&◌, cond, false}
use Rattle.std.specs.List.{flat_map, list_any, AllByRecursion, slice_get}
use Rattle.std.proofs.lemmas.List.{map-append}
use Rattle.std.proofs.Math.Seq.{drop-cons}
use Rattle.std.proofs.Math.ListN.{drop_of_length-le}

-- what does not look at numbers is the same of each of a list
pub map_same : {A B : Type 0} (k : A → B) (g : A → A) → ((a : A) → k (g a) ≡ k a) → (xs : List A)
    → map k (map g xs) ≡ map k xs
map_same k g e [] = refl
map_same k g e (x ∷ xs) = λ i. e x i ∷ map_same k g e xs i

pub flat_same : {A B : Type 0} (k : A → List B) (g : A → A) → ((a : A) → k (g a) ≡ k a) → (xs : List A)
    → flat_map k (map g xs) ≡ flat_map k xs
flat_same k g e [] = refl
flat_same k g e (x ∷ xs) = λ i. e x i ++ flat_same k g e xs i

pub any_mapped : {X Y : Type 0} (p : Y → Bool) (f : X → Y) (xs : List X) → list_any p (map f xs)
    ≡ list_any (λ x. p (f x)) xs
any_mapped p f [] = refl
any_mapped p f (x ∷ xs) = ap (λ b. p (f x) || b) (any_mapped p f xs)

pub any_alike : {X : Type 0} (p q : X → Bool) → ((x : X) → p x ≡ q x) → (xs : List X)
    → list_any p xs ≡ list_any q xs
any_alike p q h [] = refl
any_alike p q h (x ∷ xs) = rw (h x, any_alike p q h xs) refl

pub filter_all : {X : Type 0} (xs : List X) → filter (λ _. true) xs ≡ xs
filter_all [] = refl
filter_all (x ∷ xs) = ap (λ ys. x ∷ ys) (filter_all xs)

pub all_then : {X : Type 0} (P : X → Type 0) (xs : List X) (x : X) → AllByRecursion P xs → P x
    → AllByRecursion P (xs ++ x ∷ [])
all_then P [] x h p = (p, tt)
all_then P (y ∷ ys) x h p = (h.0, all_then P ys x h.1 p)

pub map_map : {A B C : Type 0} (f : B → C) (g : A → B) (xs : List A) → map f (map g xs) ≡ map (λ x. f (g x)) xs
map_map f g [] = refl
map_map f g (x ∷ xs) = ap (λ us. f (g x) ∷ us) (map_map f g xs)

pub head_same : (a b : ℕ) (xs ys : List ℕ) → a ∷ xs ≡ b ∷ ys → a ≡ b
head_same a b xs ys e = cc

pub tail_same : (a b : ℕ) (xs ys : List ℕ) → a ∷ xs ≡ b ∷ ys → xs ≡ ys
tail_same a b xs ys e = cc

pub item_here : {A : Type 0} (xs : List A) (i : ℕ) (x : A) → i < length xs → x ≡ get_or xs i x
    → drop i xs ≡ x ∷ drop (i + 1) xs
item_here xs i x h e =
    let one : suc i ≡ i + 1 = omega arith in
    drop-cons xs i x h ∙ ap (λ y. y ∷ drop (suc i) xs) (sym e) ∙ ap (λ k. x ∷ drop k xs) one

pub more_behind : {A : Type 0} (xs : List A) (x : A) → length (xs ++ (x ∷ [])) ≡ length xs + 1
more_behind [] x = refl
more_behind (y ∷ xs) x = let more : length (xs ++ (x ∷ [])) ≡ length xs + 1 = more_behind xs x in
    ap suc more ∙ moved (length xs)
  where
    moved : (n : ℕ) → suc (n + 1) ≡ suc n + 1
    moved n = omega arith

-- none is left after the last
pub none_left : {A : Type 0} (xs : List A) (i : ℕ) → length xs ≤ i → drop i xs ≡ []
none_left xs i h = drop_of_length-le xs h

pub at_end : {A : Type 0} (pre : List A) (x : A) (ys : List A) → slice_get (pre ++ (x ∷ ys)) (length pre) ≡ Some x
at_end [] x ys = refl
at_end (p ∷ pre) x ys = at_end pre x ys

pub from_here : {A : Type 0} (xs : List A) (i : ℕ) (d : A) → i < length xs → drop i xs ≡ get_or xs i d ∷ drop (i + 1) xs
from_here xs i d less = drop-cons xs i d less ∙ ap (λ k. get_or xs i d ∷ drop k xs) (sym (add-one i))

-- a text that is after another one
pub behind : (old mid new a b : List ℕ) → mid ≡ old ++ a → new ≡ mid ++ b → new ≡ old ++ (a ++ b)
behind old mid new a b e f = f ∙ ap (λ (x : List ℕ). x ++ b) e ∙ append_assoc old a b

pub any_kept : {A : Type 0} (p q : A → Bool) (xs : List A) → list_any (λ x. p x && q x) xs ≡ list_any q (filter p xs)
any_kept p q [] = refl
any_kept p q (x ∷ xs) =
    elim (p x) as (λ b. ((b && q x) || list_any (λ y. p y && q y) xs)
    ≡ list_any q (cond b (x ∷ filter p xs) (filter p xs))) [
      | true ↦ ap (λ b. q x || b) (any_kept p q xs)
      | false ↦ any_kept p q xs
    ]

-- two lists that are maps of two
pub cat : {A B : Type 0} (m : A → B) (xs ys : List A) (us vs : List B) → us ≡ map m xs → vs ≡ map m ys
    → us ++ vs ≡ map m (xs ++ ys)
cat m xs ys us vs e g = ap (λ l. l ++ vs) e ∙ ap (λ l. map m xs ++ l) g ∙ sym (map-append m xs ys)

pub flat_cat : {A B C : Type 0} (m : B → C) (g : A → A) (h : A → List B) (k : A → List C)
    → ((a : A) → k (g a) ≡ map m (h a)) → (xs : List A) → flat_map k (map g xs) ≡ map m (flat_map h xs)
flat_cat m g h k e [] = refl
flat_cat m g h k e (x ∷ xs) = cat m (h x) (flat_map h xs) (k (g x)) (flat_map k (map g xs)) (e x)
    (flat_cat m g h k e xs)
