-- Each of a list, one after the other.
use Rattle.std.proofs.Common.{ℕ, ◌+◌, ◌<◌, ◌≤◌, List, ◌++◌, length, drop, get_or, Bool, ◌&&◌, sym, subst}
use Rattle.std.specs.Bool.{Decides}
use Rattle.std.proofs.lemmas.Bool.Decides.{Decides-and}
use Rattle.std.proofs.lemmas.List.{drop_more, drop_all}
use Rattle.record_shapes.specs.Lists.{EachOf}
use Rattle.record_shapes.proofs.Each.{each_back, each_both, each_front}

module _ {A : Type 0} (P : A → Type 0) where
  -- what holds of what is left is what holds of all
  pub record IsLeft (xs : List A) (i : ℕ) : Type 0 where
    pub all : EachOf P (drop i xs) → EachOf P xs
    pub left : EachOf P xs → EachOf P (drop i xs)

  pub begun : (xs : List A) → IsLeft xs 0
  begun xs = record { all = λ h. h; left = λ h. h }

  pub one_holds : (xs : List A) (i : ℕ) (d : A) → i < length xs → IsLeft xs i → P (get_or xs i d) → IsLeft xs (i + 1)
  one_holds xs i d less h p = record {
    all = λ e. h.all (subst (EachOf P) (sym (drop_more xs i d less)) (p, e));
    left = λ e. let both : P (get_or xs i d) × EachOf P (drop (i + 1) xs) =
        subst (EachOf P) (drop_more xs i d less) (h.left e) in both.1;
  }

  pub one_fails : (xs : List A) (i : ℕ) (d : A) → i < length xs → IsLeft xs i → (P (get_or xs i d) → ⊥)
      → EachOf P xs → ⊥
  one_fails xs i d less h p e =
      let both : P (get_or xs i d) × EachOf P (drop (i + 1) xs) =
      subst (EachOf P) (drop_more xs i d less) (h.left e) in p both.0

  pub none_left : (xs : List A) (i : ℕ) → length xs ≤ i → IsLeft xs i → EachOf P xs
  none_left xs i end h = h.all (subst (EachOf P) (sym (drop_all i xs end)) tt)

-- ---- lists that were put together

pub both_lists : {A : Type 0} (P : A → Type 0) (xs ys : List A) (a b : Bool) → Decides a (EachOf P xs)
    → Decides b (EachOf P ys) → Decides (a && b) (EachOf P (xs ++ ys))
both_lists P xs ys a b d k = let both = Decides-and a b d k in (
  λ e. each_both P xs ys (both.0 e).0 (both.0 e).1,
  λ h. both.1 (each_front P xs ys h, each_back P xs ys h),
)
