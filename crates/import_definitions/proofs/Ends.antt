-- A chain over positions breaks off exactly where the node from which it goes is not kept.
use Rattle.std.proofs.Common.{
  ◌≡◌,
  ℕ,
  suc,
  zero,
  ◌+◌,
  ◌<◌,
  ◌≤◌,
  Bool,
  true,
  false,
  not,
  ◌&&◌,
  ◌||◌,
  cond,
  List,
  [],
  ◌∷◌,
  length,
  map,
  get_or,
  refl,
  sym,
  ap,
  ◌∙◌,
  arith,
  Option,
  Some,
  None,
}
use Rattle.std.specs.Borrow.{Bor}
use Rattle.std.specs.List.{list_any}
use Rattle.std.proofs.lemmas.List.{get_or-map, length-map}
use Rattle.stored_lines.specs.Tree.{label}
use Rattle.gedcom_tree.specs.declared.node.Node.{Node}
use Rattle.import_definitions.specs.Nodes.{FileNode, trees_at}
use Rattle.import_definitions.specs.Roots.{is_called, name_in, names_one, leads, is_kept}
use Rattle.import_definitions.specs.Lines.{position_from, place_in}
use Rattle.import_definitions.specs.Steps.{at, after, then_by, breaks, step_to, step_by, step_of}
use Rattle.import_definitions.specs.Views.{AreEnds}
use Rattle.import_definitions.specs.declared.steps.Step.{Step}
use Rattle.import_definitions.specs.declared.steps.Step.TheVariants as step
use Rattle.import_definitions.proofs.Greatest.{enough}
use Rattle.import_definitions.proofs.InFile.{AreApart}

any_not : (P : FileNode → Bool) (name : List ℕ) (ts : List FileNode) → list_any (is_called name) ts ≡ false
    → list_any (λ t. is_called name t && P t) ts ≡ false
any_not P name [] h = refl
any_not P name (t ∷ ts) h = not_step (is_called name t) (P t) (list_any (is_called name) ts) h (any_not P name ts)
  where
    not_step : (c p a : Bool) → (c || a) ≡ false → (a ≡ false → list_any (λ u. is_called name u && P u) ts ≡ false)
        → ((c && p) || list_any (λ u. is_called name u && P u) ts) ≡ false
    not_step true p a h r = absurd cc
    not_step false p a h r = r h

any_none : (P : FileNode → Bool) (name : List ℕ) (k : ℕ) (ts : List FileNode)
    → position_from (is_called name) k ts ≡ None → list_any (λ t. is_called name t && P t) ts ≡ false
any_none P name k [] h = refl
any_none P name k (t ∷ ts) h = none_step (is_called name t) (P t) h (any_none P name (k + 1) ts)
  where
    none_step : (c p : Bool) → cond c (Some k) (position_from (is_called name) (k + 1) ts) ≡ None
        → (position_from (is_called name) (k + 1) ts ≡ None → list_any (λ u. is_called name u && P u) ts ≡ false)
        → ((c && p) || list_any (λ u. is_called name u && P u) ts) ≡ false
    none_step true p h r = absurd cc
    none_step false p h r = r h

record Found (P : FileNode → Bool) (name : List ℕ) (k p : ℕ) (ts : List FileNode) : Type 0 where
  place : ℕ
  found : FileNode
  at_place : p ≡ k + place
  inside : place < length ts
  is : found ≡ get_or ts place found
  any : list_any (λ t. is_called name t && P t) ts ≡ P found

any_some : (P : FileNode → Bool) (name : List ℕ) (k p : ℕ) (ts : List FileNode) → AreApart ts
    → position_from (is_called name) k ts ≡ Some p → Found P name k p ts
any_some P name k p [] a h = absurd cc
any_some P name k p (t ∷ ts) a h = some_step (is_called name t) refl h (any_some P name (k + 1) p ts a.1)
  where
    or_none : (x y : Bool) → y ≡ false → (x || y) ≡ x
    or_none true y h = refl
    or_none false y h = h

    some_step : (c : Bool) → is_called name t ≡ c
        → cond c (Some k) (position_from (is_called name) (k + 1) ts) ≡ Some p
        → (position_from (is_called name) (k + 1) ts ≡ Some p → Found P name (k + 1) p ts) → Found P name k p (t ∷ ts)
    some_step true e h r =
        let same : k ≡ p = cc in
        record {
          place = 0;
          found = t;
          at_place = omega arith;
          inside = omega arith;
          is = refl;
          any = ap (λ c. (c && P t) || list_any (λ u. is_called name u && P u) ts) e
              ∙ or_none (P t) (list_any (λ u. is_called name u && P u) ts) (any_not P name ts (a.0 name e));
        }
    some_step false e h r =
        let f : Found P name (k + 1) p ts = r h in
        record {
          place = suc f.place;
          found = f.found;
          at_place = omega (arith, f.at_place);
          inside = omega (arith, f.inside);
          is = f.is;
          any = ap (λ c. (c && P t) || list_any (λ u. is_called name u && P u) ts) e ∙ f.any;
        }

leads_at : (ts : List FileNode) (ss : List Step) → AreApart ts → ss ≡ map (step_of (place_in ts)) ts → (n i : ℕ)
    (t : FileNode) → i < length ts → t ≡ get_or ts i t → leads ts n t ≡ not (breaks (after ss n i))
leads_at ts ss a e zero i t l is = refl
leads_at ts ss a e (suc n) i t l is =
    lead_step (name_in (label t)) (leads_at ts ss a e n)
    ∙ ap (λ s. not (breaks (then_by (after ss n) s)))
    (sym (ap (λ (xs : List Step). at xs i) e ∙ get_or-map (step_of (place_in ts)) ts i t step.Breaks l
    ∙ ap (step_of (place_in ts)) (sym is)))
  where
    place_step : (name : List ℕ) (o : Option ℕ) → place_in ts name ≡ o
        → ((j : ℕ) (u : FileNode) → j < length ts → u ≡ get_or ts j u → leads ts n u ≡ not (breaks (after ss n j)))
        → list_any (λ u. is_called name u && leads ts n u) ts ≡ not (breaks (then_by (after ss n) (step_to o)))
    place_step name None h r = any_none (leads ts n) name 0 ts h
    place_step name (Some p) h r =
        let f : Found (leads ts n) name 0 p ts = any_some (leads ts n) name 0 p ts a h in
        let same : f.place ≡ p = omega (arith, f.at_place) in
        f.any ∙ r f.place f.found f.inside f.is ∙ ap (λ j. not (breaks (after ss n j))) same

    lead_step : (o : Option (List ℕ))
        → ((j : ℕ) (u : FileNode) → j < length ts → u ≡ get_or ts j u → leads ts n u ≡ not (breaks (after ss n j)))
        → names_one (leads ts n) ts o ≡ not (breaks (then_by (after ss n) (step_by (place_in ts) o)))
    lead_step None r = refl
    lead_step (Some name) r = place_step name (place_in ts name) refl r

same_lists : {A B : Type 0} (f : A → Bool) (g : B → Bool) (d : A) (xs : List A) (ys : List B) → length xs ≡ length ys
    → ((i : ℕ) (y : B) → i < length ys → y ≡ get_or ys i y → f (get_or xs i d) ≡ g y) → map f xs ≡ map g ys
same_lists f g d [] [] e h = refl
same_lists f g d [] (y ∷ ys) e h = absurd (omega arith)
same_lists f g d (x ∷ xs) [] e h = absurd (omega arith)
same_lists f g d (x ∷ xs) (y ∷ ys) e h =
    let first : f x ≡ g y = h 0 y (omega arith) refl in
    let rest : map f xs ≡ map g ys = same_lists f g d xs ys (omega arith) (λ i z l is. h (suc i) z (omega arith) is) in
    λ i. first i ∷ rest i

pub ends_are : (ts : List FileNode) (place : List ℕ → Option ℕ) (ss ends : List Step) → AreApart ts
    → ((name : List ℕ) → place name ≡ place_in ts name) → ss ≡ map (step_of place) ts
    → length ends ≡ length ss → (n : ℕ)
    → length ss ≤ n → ((k : ℕ) → at ends k ≡ after ss n k) → AreEnds ts ends
ends_are ts place ss ends a names e long n far is =
    let same : place ≡ place_in ts = λ i q. names q i in
    let steps : ss ≡ map (step_of (place_in ts)) ts = e ∙ ap (λ (f : List ℕ → Option ℕ). map (step_of f) ts) same in
    let size : length ss ≡ length ts = ap length steps ∙ length-map ts (step_of (place_in ts)) in
    same_lists (λ s. not (breaks s)) (leads ts n) step.Breaks ends ts (long ∙ size)
    (λ i t l g. ap (λ s. not (breaks s)) (is i) ∙ sym (leads_at ts ss a steps n i t l g))
    ∙ sym (enough ts n (omega arith))

-- the same as the code sees the lists
pub roots_ends : (all first second third : List (Bor Node)) (place : List ℕ → Option ℕ) (ss ends seen : List Step)
    → AreApart (trees_at all) → first ≡ all → second ≡ all → third ≡ all → seen ≡ ends
    → ((name : List ℕ) → place name ≡ place_in (trees_at first) name) → ss ≡ map (step_of place) (trees_at second)
    → length ends ≡ length ss → (n : ℕ) × ((length ss ≤ n) × ((k : ℕ) → at ends k ≡ after ss n k))
    → AreEnds (trees_at third) seen
roots_ends all first second third place ss ends seen a f s t g names steps long far =
    let known : AreEnds (trees_at all) ends =
    ends_are (trees_at all) place ss ends a (λ q. names q ∙ ap (λ (ns : List (Bor Node)). place_in (trees_at ns) q) f)
    (steps ∙ ap (λ (ns : List (Bor Node)). map (step_of place) (trees_at ns)) s) long far.0 far.1.0 far.1.1 in
    ends_at t g known
  where
    ends_at : third ≡ all → seen ≡ ends → AreEnds (trees_at all) ends → AreEnds (trees_at third) seen
    ends_at t g known =
        ap (λ (es : List Step). map (λ s. not (breaks s)) es) g ∙ known
        ∙ ap (λ (ns : List (Bor Node)). map (is_kept (trees_at ns)) (trees_at ns)) (sym t)
