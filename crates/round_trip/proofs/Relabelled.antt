-- Labels of trees changed twice, and changed alike.
use Rattle.std.specs.Prelude.{ℕ, ◌≡◌, Bool, true, false, cond, List, [], ◌∷◌, ◌++◌, map, refl}
use Rattle.std.specs.List.{filter}
use Rattle.std.proofs.Common.{ap, sym}
use Rattle.stored_lines.specs.Tree.{Tree, Forest, node, none, more, forest_of, relabel, relabel_all}
use Rattle.record_kinds.specs.declared.record.Record.TheVariants as kind
use Rattle.record_shapes.specs.Lists.{EachOf}
use Rattle.gedcom_export.specs.Order.{Numbered, citations_of, events_of, is_citation_of, is_event_of, rank}
use Rattle.list_laws.proofs.Booleans.{true_not_false}

module _ {A B C : Type 0} (g : B → C) (f : A → B) where
  mutual
    pub relabel_twice : (t : Tree A) → relabel g (relabel f t) ≡ relabel (λ a. g (f a)) t
    relabel_twice (node a ts) = ap (node (g (f a))) (relabel_all_twice ts)

    pub relabel_all_twice : (ts : Forest A) → relabel_all g (relabel_all f ts) ≡ relabel_all (λ a. g (f a)) ts
    relabel_all_twice none = refl
    relabel_all_twice (more t ts) = λ i. more (relabel_twice t i) (relabel_all_twice ts i)

module _ {A B : Type 0} (P : A → Type 0) (f g : A → B) (same : (a : A) → P a → f a ≡ g a) where
  abbrev mutual
    Labels : Tree A → Type 0
    Labels (node a ts) = P a × AllLabels ts

    pub AllLabels : Forest A → Type 0
    AllLabels none = Unit {0}
    AllLabels (more t ts) = Labels t × AllLabels ts

  mutual
    relabel_same : (t : Tree A) → Labels t → relabel f t ≡ relabel g t
    relabel_same (node a ts) h = λ i. node (same a h.0 i) (relabel_all_same ts h.1 i)

    pub relabel_all_same : (ts : Forest A) → AllLabels ts → relabel_all f ts ≡ relabel_all g ts
    relabel_all_same none h = refl
    relabel_all_same (more t ts) h = λ i. more (relabel_same t h.0 i) (relabel_all_same ts h.1 i)

each_passing : (P : Numbered → Type 0) (q : Numbered → Bool) → ((x : Numbered) → q x ≡ true → P x)
    → (es : List Numbered) → EachOf P (filter q es)
each_passing P q f [] = tt
each_passing P q f (x ∷ es) =
    elim (q x) as (λ b. q x ≡ b → EachOf P (cond b (x ∷ filter q es) (filter q es))) [
      | true ↦ λ e. (f x e, each_passing P q f es)
      | false ↦ λ e. each_passing P q f es
    ] refl

-- ---- what a record owns is written below it
abbrev pub IsBelow : Numbered → Type 0
IsBelow x = rank x.1 ≡ 0

event_below : (n : ℕ) (x : Numbered) → is_event_of n x.1 ≡ true → IsBelow x
event_below n (k, kind.Event e) h = refl
event_below n (k, _) h = absurd (true_not_false (sym h))

citation_below : (n : ℕ) (x : Numbered) → is_citation_of n x.1 ≡ true → IsBelow x
citation_below n (k, kind.Citation e) h = refl
citation_below n (k, _) h = absurd (true_not_false (sym h))

module _ {B : Type 0} (f g : Numbered → B) (same : (x : Numbered) → IsBelow x → f x ≡ g x) (es : List Numbered) where
  leaf_labels : (xs : List Numbered) → EachOf IsBelow xs
      → AllLabels IsBelow f g same (forest_of (map (λ (e : Numbered). node e none) xs))
  leaf_labels [] h = tt
  leaf_labels (x ∷ xs) h = ((h.0, tt), leaf_labels xs h.1)

  branch_labels : (xs : List Numbered) (ts : List (Tree Numbered)) → EachOf IsBelow xs
      → AllLabels IsBelow f g same (forest_of ts)
      → AllLabels IsBelow f g same
      (forest_of (map (λ (e : Numbered). node e (forest_of (citations_of es e.0))) xs ++ ts))
  branch_labels [] ts h l = l
  branch_labels (x ∷ xs) ts h l = (
    (
      h.0,
      leaf_labels (filter (λ (e : Numbered). is_citation_of x.0 e.1) es)
          (each_passing IsBelow (λ (e : Numbered). is_citation_of x.0 e.1) (citation_below x.0) es),
    ),
    branch_labels xs ts h.1 l,
  )

  pub below_same : (n : ℕ) → relabel_all f (forest_of (events_of es n ++ citations_of es n))
      ≡ relabel_all g (forest_of (events_of es n ++ citations_of es n))
  below_same n = relabel_all_same IsBelow f g same (forest_of (events_of es n ++ citations_of es n))
      (branch_labels (filter (λ (e : Numbered). is_event_of n e.1) es) (citations_of es n)
      (each_passing IsBelow (λ (e : Numbered). is_event_of n e.1) (event_below n) es)
      (leaf_labels (filter (λ (e : Numbered). is_citation_of n e.1) es)
      (each_passing IsBelow (λ (e : Numbered). is_citation_of n e.1) (citation_below n) es)))
