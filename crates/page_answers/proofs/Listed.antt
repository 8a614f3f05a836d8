-- The paths of places, added one after the other.
use Rattle.std.proofs.Common.{
  ◌≡◌,
  ◌∙◌,
  ◌+◌,
  ◌<◌,
  ◌++◌,
  ◌∷◌,
  [],
  ℕ,
  Bool,
  List,
  add-one,
  ap,
  append-nil,
  bytes_eq,
  cond,
  append_assoc,
  false,
  get_or,
  length,
  refl,
  subst,
  sym,
  take,
  true,
}
use Rattle.std.specs.Prelude.{None, Option, Some, filter}
use Rattle.std.specs.BTreeMap.{BTreeMap}
use Rattle.std.specs.Global.{Global, Vec}
use Rattle.std.specs.declared.string.String.{String}
use Rattle.std.proofs.Math.Seq.{take-suc}
use Rattle.archive_state.specs.Content.{Records}
use Rattle.archive_state.specs.Known.{path_of}
use Rattle.page_answers.specs.Likes.{IsIndex, or_none, paths_at, search_key, under, with_key}

abbrev Index : Type 0
Index = BTreeMap (String Global) (Vec (String Global))

filter_step : (x : List ℕ) (b : Bool) (all some more : List (List ℕ)) → all ≡ some ++ more
    → cond b (x ∷ all) all ≡ cond b (x ∷ some) some ++ more
filter_step x true all some more is = ap (λ (l : List (List ℕ)). x ∷ l) is
filter_step x false all some more is = is

filter_more : (f : List ℕ → Bool) (xs ys : List (List ℕ)) → filter f (xs ++ ys) ≡ filter f xs ++ filter f ys
filter_more f [] ys = refl
filter_more f (x ∷ xs) ys = filter_step x (f x) (filter f (xs ++ ys)) (filter f xs) (filter f ys) (filter_more f xs ys)

-- one more path
pub one_more : (old new : Index) (key path said : List ℕ) → key ≡ search_key said → path ≡ said
    → ((other : List ℕ) → under new other ≡ cond (bytes_eq key other) (under old other ++ path ∷ []) (under old other))
    → (paths : List (List ℕ)) → IsIndex old paths → IsIndex new (paths ++ said ∷ [])
one_more old new key path said is same put paths was other =
    put other
    ∙ ap (λ (k : List ℕ). cond (bytes_eq k other) (under old other ++ path ∷ []) (under old other)) is
    ∙ ap (λ (p : List ℕ). cond (bytes_eq (search_key said) other) (under old other ++ p ∷ []) (under old other)) same
    ∙ by (bytes_eq (search_key said) other)
    ∙ sym (filter_more (λ q. bytes_eq (search_key q) other) paths (said ∷ []))
  where
    by : (b : Bool) → cond b (under old other ++ said ∷ []) (under old other)
        ≡ with_key other paths ++ cond b (said ∷ []) []
    by true = ap (λ (l : List (List ℕ)). l ++ said ∷ []) (was other)
    by false = was other ∙ sym (append-nil (with_key other paths))

-- no path
pub none_more : (index : Index) (found : Option (List ℕ)) → found ≡ None → (paths : List (List ℕ)) → IsIndex index paths
    → IsIndex index (paths ++ or_none found)
none_more index found none paths was =
    subst (λ (l : List (List ℕ)). IsIndex index l)
    (sym (ap (λ (o : Option (List ℕ)). paths ++ or_none o) none ∙ append-nil paths)) was

-- the path of one more number
pub paths_more : (m : Records) (ns : List ℕ) (n : ℕ)
    → paths_at m (ns ++ n ∷ []) ≡ paths_at m ns ++ or_none (path_of m n)
paths_more m [] n = append-nil (or_none (path_of m n))
paths_more m (k ∷ ns) n = ap (λ (l : List (List ℕ)). or_none (path_of m k) ++ l) (paths_more m ns n)
    ∙ sym (append_assoc (or_none (path_of m k)) (paths_at m ns) (or_none (path_of m n)))

pub numbers_more : (index : Index) (m : Records) (ns : List ℕ) (i n given : ℕ) → i < length ns
    → n ≡ get_or ns i given → IsIndex index (paths_at m (take i ns) ++ or_none (path_of m n))
    → IsIndex index (paths_at m (take (i + 1) ns))
numbers_more index m ns i n given less is has =
    subst (λ (l : List (List ℕ)). IsIndex index l)
    (sym (paths_more m (take i ns) n) ∙ ap (paths_at m)
    (ap (λ (k : ℕ). take i ns ++ k ∷ []) is ∙ sym (take-suc ns i given less)
    ∙ ap (λ (k : ℕ). take k ns) (sym (add-one i)))) has
