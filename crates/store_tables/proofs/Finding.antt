-- What a query over one table of coded rows answers.
use Rattle.std.proofs.Common.{
  ◌≡◌,
  ℕ,
  pos,
  negsuc,
  List,
  [],
  ◌∷◌,
  ◌++◌,
  map,
  filter,
  Bool,
  true,
  false,
  cond,
  None,
  refl,
  sym,
  ap,
  subst,
  ◌∙◌,
}
use Rattle.std.specs.List.{flat_map, list_all}
use Rattle.std.specs.List.Sorted.{IsPermutation}
use Rattle.std.proofs.lemmas.List.Sorted.{IsPermutation-map}
use Rattle.sqlite.specs.declared.types.Value.TheVariants.{Int}
use Rattle.sqlite.specs.Order.{Row}
use Rattle.sqlite.specs.Tree.{Trees, IsAscending}
use Rattle.std.specs.List.{AllByRecursion}
use Rattle.std.proofs.Common.{Less}
use Rattle.sqlite_keyed.proofs.SortLemmas.{sorted_unique}
use Rattle.sqlite_sql.proofs.QueryLemmas.{output_cmp_total}
use Rattle.sqlite.specs.Term.{Term, Env, lit, holds, eval_all}
use Rattle.sqlite.specs.Query.{Join, Query, inner, end, matches, IsAnswer, Output, output, output_cmp}
use Rattle.sqlite_value.specs.declared.keys.Key.{Key}
use Rattle.list_laws.proofs.Lists.{map_map}

all_map : {X Y : Type 0} (P : Y → Type 0) (f : X → Y) (xs : List X) → AllByRecursion (λ x. P (f x)) xs
    → AllByRecursion P (map f xs)
all_map P f [] h = tt
all_map P f (x ∷ xs) h = (h.0, all_map P f xs h.1)

rises_map : {X Y : Type 0} (R : Y → Y → Type 0) (f : X → Y) (xs : List X) → IsAscending (λ a b. R (f a) (f b)) xs
    → IsAscending R (map f xs)
rises_map R f [] h = tt
rises_map R f (x ∷ xs) h = (all_map (R (f x)) f xs h.0, rises_map R f xs h.1)

-- the rows of one table that pass the tests, in some order
abbrev pub simple : ℕ → List Term → List Term → List (Term × Key) → Query
simple tree tests project order = record {
  from = inner tree end;
  filter = tests;
  group = None;
  project = project;
  distinct = false;
  collations = [];
  order = order;
  limit = lit (Int (negsuc 0));
  offset = lit (Int (pos 0));
}

-- the same of several tables, in any order
abbrev pub joined : Join → List Term → List Term → Query
joined from tests project = record {
  from = from;
  filter = tests;
  group = None;
  project = project;
  distinct = false;
  collations = [];
  order = [];
  limit = lit (Int (negsuc 0));
  offset = lit (Int (pos 0));
}

-- what such a query answers: what it shows of each way to fill the places of FROM that passes the tests
pub joined_answers : (from : Join) (tests project : List Term) (db : Trees) (params : Row) (rows : List Row)
    → IsAnswer (joined from tests project) db params rows
    → IsPermutation (map (eval_all project) (matches db tests from (params ∷ []))) rows
joined_answers from tests project db params rows a =
    let it = joined from tests project in
    let all = matches db tests from (params ∷ []) in
    let kept : a.kept ≡ map (output it) all = a.distinct ∙ ap (map (output it)) a.grouped in
    let both : map (λ (o : Output). o.1) a.kept ≡ map (eval_all project) all = ap (map (λ (o : Output). o.1)) kept
    ∙ map_map _ _ all in
    let moved : IsPermutation (map (λ (o : Output). o.1) a.kept) (map (λ (o : Output). o.1) a.ordered) =
    IsPermutation-map _ _ _ a.same in
    subst (λ k. IsPermutation k rows) both
    (subst (IsPermutation (map (λ (o : Output). o.1) a.kept)) (sym a.shown) moved)

module _ {X : Type 0} (enc : X → Row) (params : Row) (tests : List Term) (q : X → Bool)
    (passes : (x : X) → list_all (holds (params ∷ enc x ∷ [])) tests ≡ q x) where
  abbrev each : Row → List Env
  each r = cond (list_all (holds (params ∷ r ∷ [])) tests) ((params ∷ r ∷ []) ∷ []) []

  abbrev env_of : X → Env
  env_of x = params ∷ enc x ∷ []

  one_more : (x : X) (xs : List X) (b : Bool) (ys : List Env) → ys ≡ map env_of (filter q xs)
      → cond b (env_of x ∷ []) [] ++ ys ≡ map env_of (cond b (x ∷ filter q xs) (filter q xs))
  one_more x xs true ys e = ap (λ zs. env_of x ∷ zs) e
  one_more x xs false ys e = e

  matched : (xs : List X) → flat_map each (map enc xs) ≡ map env_of (filter q xs)
  matched [] = refl
  matched (x ∷ xs) = ap (λ b. cond b (env_of x ∷ []) [] ++ flat_map each (map enc xs)) (passes x)
      ∙ one_more x xs (q x) (flat_map each (map enc xs)) (matched xs)

  pub answered : (tree : ℕ) (project : List Term) (order : List (Term × Key)) (db : Trees) (xs : List X)
      (rows : List Row) → db tree ≡ map enc xs → IsAnswer (simple tree tests project order) db params rows
      → IsPermutation (map (λ x. eval_all project (env_of x)) (filter q xs)) rows
  answered tree project order db xs rows has a =
      let it = simple tree tests project order in
      let staged : a.staged ≡ map env_of (filter q xs) = a.grouped ∙ ap (flat_map each) has ∙ matched xs in
      let kept : a.kept ≡ map (λ x. output it (env_of x)) (filter q xs) = a.distinct ∙ ap (map (output it)) staged
      ∙ map_map _ _ (filter q xs) in
      let both : map (λ (o : Output). o.1) a.kept ≡ map (λ x. eval_all project (env_of x)) (filter q xs) = ap
      (map (λ (o : Output). o.1)) kept ∙ map_map _ _ (filter q xs) in
      let moved : IsPermutation (map (λ (o : Output). o.1) a.kept) (map (λ (o : Output). o.1) a.ordered) =
      IsPermutation-map _ _ _ a.same in
      subst (λ k. IsPermutation k rows) both
      (subst (IsPermutation (map (λ (o : Output). o.1) a.kept)) (sym a.shown) moved)

  -- with an ORDER BY that leaves no tie, the rows are those, in order
  pub in_order : (tree : ℕ) (project : List Term) (order : List (Term × Key)) (db : Trees) (xs : List X)
      (rows : List Row) → db tree ≡ map enc xs
      → IsAscending (λ x y. output_cmp (simple tree tests project order)
      (output (simple tree tests project order) (env_of x)) (output (simple tree tests project order) (env_of y))
      ≡ Less) (filter q xs)
      → IsAnswer (simple tree tests project order) db params rows
      → rows ≡ map (λ x. eval_all project (env_of x)) (filter q xs)
  in_order tree project order db xs rows has rise a =
      let it = simple tree tests project order in
      let staged : a.staged ≡ map env_of (filter q xs) = a.grouped ∙ ap (flat_map each) has ∙ matched xs in
      let kept : a.kept ≡ map (λ x. output it (env_of x)) (filter q xs) = a.distinct ∙ ap (map (output it)) staged
      ∙ map_map _ _ (filter q xs) in
      let same : IsPermutation (map (λ x. output it (env_of x)) (filter q xs)) a.ordered = subst
      (λ k. IsPermutation k a.ordered) kept a.same in
      let ordered = sorted_unique (output_cmp it) (output_cmp_total it) (map (λ x. output it (env_of x)) (filter q xs))
      a.ordered (rises_map (λ x y. output_cmp it x y ≡ Less) _ (filter q xs) rise) same a.sorted in
      a.shown ∙ ap (map (λ (o : Output). o.1)) ordered ∙ map_map _ _ (filter q xs)
