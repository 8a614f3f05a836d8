-- What holds of each of a list.
use Rattle.std.proofs.Common.{List, ℕ, ◌∷◌, ◌++◌, [], refl, ◌≡◌, true, Bool, arith}
use Rattle.std.specs.List.{list_all, flat_map, list_any}
use Rattle.std.specs.Prelude.{◌&&◌, map, ◌==◌, ◌||◌, ◌<◌, false}
use Rattle.std.proofs.lemmas.Bool.{and_parts}
use Rattle.std.proofs.lemmas.Bool.Decides.{nat_tests}
use Rattle.record_shapes.specs.Lists.{IsOnce, EachOf, Ascends}
use Rattle.record_shapes.specs.Untaken.{AreUntaken}
use Rattle.stored_lines.specs.Line.{Line, Lines}
use Rattle.record_shapes.specs.declared.field.Field.{Field}
use Rattle.stored_lines.specs.Tree.{Tree}

pub once_behind : (xs ys : List ℕ) → IsOnce (xs ++ ys) → IsOnce ys
once_behind [] ys h = h
once_behind (x ∷ xs) ys h = once_behind xs ys h.1

pub more_leave : (field : Tree Line → Field) (old new : Field → Bool) → ((x : Field) → old x ≡ true → new x ≡ true)
    → (ts : Lines) → AreUntaken field old ts → AreUntaken field new ts
more_leave field old new h [] u = refl
more_leave field old new h (t ∷ ts) u =
    let both = and_parts (old (field t)) (list_all (λ v. old (field v)) ts) u in
    λ i. h (field t) both.0 i && more_leave field old new h ts both.1 i

pub each_more : {A : Type 0} (P Q : A → Type 0) → ((a : A) → P a → Q a) → (xs : List A) → EachOf P xs → EachOf Q xs
each_more P Q f [] h = tt
each_more P Q f (x ∷ xs) h = (f x h.0, each_more P Q f xs h.1)

pub each_both : {A : Type 0} (P : A → Type 0) (xs ys : List A) → EachOf P xs → EachOf P ys → EachOf P (xs ++ ys)
each_both P [] ys h k = k
each_both P (x ∷ xs) ys h k = (h.0, each_both P xs ys h.1 k)

pub each_front : {A : Type 0} (P : A → Type 0) (xs ys : List A) → EachOf P (xs ++ ys) → EachOf P xs
each_front P [] ys h = tt
each_front P (x ∷ xs) ys h = (h.0, each_front P xs ys h.1)

pub each_back : {A : Type 0} (P : A → Type 0) (xs ys : List A) → EachOf P (xs ++ ys) → EachOf P ys
each_back P [] ys h = h
each_back P (x ∷ xs) ys h = each_back P xs ys h.1

pub each_all : {A : Type 0} (P : A → Type 0) → ((a : A) → P a) → (xs : List A) → EachOf P xs
each_all P f [] = tt
each_all P f (x ∷ xs) = (f x, each_all P f xs)

pub each_zip : {A : Type 0} (P Q R : A → Type 0) → ((a : A) → P a → Q a → R a) → (xs : List A) → EachOf P xs
    → EachOf Q xs → EachOf R xs
each_zip P Q R f [] h k = tt
each_zip P Q R f (x ∷ xs) h k = (f x h.0 k.0, each_zip P Q R f xs h.1 k.1)

pub each_under : {A B : Type 0} (P : B → Type 0) (f : A → B) (xs : List A) → EachOf P (map f xs)
    → EachOf (λ x. P (f x)) xs
each_under P f [] h = tt
each_under P f (x ∷ xs) h = (h.0, each_under P f xs h.1)

pub each_mapped : {A B : Type 0} (P : B → Type 0) (f : A → B) (xs : List A) → EachOf (λ x. P (f x)) xs
    → EachOf P (map f xs)
each_mapped P f [] h = tt
each_mapped P f (x ∷ xs) h = (h.0, each_mapped P f xs h.1)

pub each_flat : {A B : Type 0} (P : B → Type 0) (f : A → List B) (xs : List A) → EachOf (λ x. EachOf P (f x)) xs
    → EachOf P (flat_map f xs)
each_flat P f [] h = tt
each_flat P f (x ∷ xs) h = each_both P (f x) (flat_map f xs) h.0 (each_flat P f xs h.1)

pub each_parts : {A : Type 0} (P : A → Type 0) (xs ys : List A) → EachOf P (xs ++ ys) → EachOf P xs × EachOf P ys
each_parts P xs ys h = (each_front P xs ys h, each_back P xs ys h)

abbrev pub has : ℕ → List ℕ → Bool
has k ks = list_any (λ m. m == k) ks

above_none : (n : ℕ) (ks : List ℕ) → EachOf (λ k. n < k) ks → has n ks ≡ false
above_none n [] h = refl
above_none n (k ∷ ks) h =
    let less : n < k = h.0 in
    let here : (k == n) ≡ false = grind (arith, nat_tests) in
    λ i. here i || above_none n ks h.1 i

pub once_ascending : (ks : List ℕ) → Ascends ks → IsOnce ks
once_ascending [] h = tt
once_ascending (k ∷ ks) h = (above_none k ks h.0, once_ascending ks h.1)

pub each_of_flat : {A B : Type 0} (P : B → Type 0) (f : A → List B) (xs : List A) → EachOf P (flat_map f xs)
    → EachOf (λ x. EachOf P (f x)) xs
each_of_flat P f [] h = tt
each_of_flat P f (x ∷ xs) h = (
  each_front P (f x) (flat_map f xs) h,
  each_of_flat P f xs
      (each_back P (f x) (flat_map f xs) h),
)
