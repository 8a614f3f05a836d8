-- The nodes that are taken one after another, and what is reported of them.
use Rattle.std.proofs.Common.{
  ◌≡◌,
  ℕ,
  suc,
  zero,
  ◌+◌,
  ◌<◌,
  Bool,
  true,
  false,
  not,
  cond,
  List,
  [],
  ◌∷◌,
  ◌++◌,
  length,
  map,
  drop,
  get_or,
  refl,
  sym,
  ap,
  ◌∙◌,
  arith,
  append_assoc,
}
use Rattle.std.specs.Borrow.{Bor}
use Rattle.std.specs.List.{filter, flat_map}
use Rattle.std.proofs.lemmas.List.{length-map}
use Rattle.gedcom_tree.specs.declared.node.Node.{Node}
use Rattle.receipts.specs.declared.report.ReportLine.{ReportLine}
use Rattle.stored_lines.specs.Tree.{label}
use Rattle.import_definitions.specs.Nodes.{FileNode, tree_of, trees_at}
use Rattle.import_definitions.specs.Roots.{is_kept}
use Rattle.import_definitions.specs.Reports.{dangles, dropped, said_of_root}
use Rattle.import_definitions.specs.Steps.{breaks}
use Rattle.import_definitions.specs.Views.{AreEnds}
use Rattle.import_definitions.specs.declared.steps.Step.{Step}
use Rattle.import_definitions.proofs.Places.{trees_less}

pub ends_length : (ns : List (Bor Node)) (ends : List Step) → AreEnds (trees_at ns) ends → length ends ≡ length ns
ends_length ns ends h =
    sym (length-map ends (λ s. not (breaks s))) ∙ ap length h ∙ length-map (trees_at ns) (is_kept (trees_at ns))
    ∙ length-map ns (λ (n : Bor Node). tree_of n.now)

not_twice : (a b : Bool) → not a ≡ b → a ≡ not b
not_twice true b h = ap not h
not_twice false b h = ap not h

at_same : {A B : Type 0} (f : A → Bool) (g : B → Bool) (xs : List A) (ys : List B) (i : ℕ) (d : A) (y : B)
    → map f xs ≡ map g ys → i < length ys → y ≡ get_or ys i y → f (get_or xs i d) ≡ g y
at_same f g [] [] i d y h l e = absurd (omega arith)
at_same f g [] (y₀ ∷ ys) i d y h l e = absurd cc
at_same f g (x ∷ xs) [] i d y h l e = absurd (omega arith)
at_same f g (x ∷ xs) (y₀ ∷ ys) zero d y h l e = let k : f x ≡ g y₀ = cc in k ∙ ap g (sym e)
at_same f g (x ∷ xs) (y₀ ∷ ys) (suc i) d y h l e =
    let k : map f xs ≡ map g ys = cc in
    at_same f g xs ys i d y k (omega arith) e

node_at : (ns : List (Bor Node)) (i : ℕ) (n : Bor Node) → i < length ns → n ≡ get_or ns i n
    → tree_of n.now ≡ get_or (trees_at ns) i (tree_of n.now)
node_at [] i n l e = absurd (omega arith)
node_at (m ∷ ns) zero n l e = ap (λ (k : Bor Node). tree_of k.now) e
node_at (m ∷ ns) (suc i) n l e = node_at ns i n (omega arith) e

pub end_kept : (ns : List (Bor Node)) (ends : List Step) (k i : ℕ) (d : Step) (n : Bor Node) → k ≡ i → i < length ns
    → n ≡ get_or ns i n → AreEnds (trees_at ns) ends → breaks (get_or ends k d) ≡ not
    (is_kept (trees_at ns) (tree_of n.now))
end_kept ns ends k i d n same l e h =
    ap (λ j. breaks (get_or ends j d)) same
    ∙ not_twice (breaks (get_or ends i d)) (is_kept (trees_at ns) (tree_of n.now))
    (at_same (λ s. not (breaks s)) (is_kept (trees_at ns)) ends (trees_at ns) i d (tree_of n.now) h
    (omega (arith, length-map ns (λ (m : Bor Node). tree_of m.now))) (node_at ns i n l e))

pub kept_step : (all : List FileNode) (ns : List (Bor Node)) (i : ℕ) (n : Bor Node) (broken : Bool)
    (old new whole : List FileNode) → i < length ns → n ≡ get_or ns i n → broken ≡ not (is_kept all (tree_of n.now))
    → new ≡ old ++ cond broken [] (tree_of n.now ∷ []) → old ++ filter (is_kept all) (trees_at (drop i ns)) ≡ whole
    → new ++ filter (is_kept all) (trees_at (drop (i + 1) ns)) ≡ whole
kept_step all ns i n broken old new whole l e b is was =
    let t = tree_of n.now in
    let rest : List FileNode = filter (is_kept all) (trees_at (drop (i + 1) ns)) in
    ap (λ (xs : List FileNode). xs ++ rest) (is ∙ ap (λ c. old ++ cond c [] (t ∷ [])) b)
    ∙ append_assoc old (cond (not (is_kept all t)) [] (t ∷ [])) rest
    ∙ ap (λ (xs : List FileNode). old ++ xs) (taken (is_kept all t) rest)
    ∙ ap (λ (ts : List FileNode). old ++ filter (is_kept all) ts) (sym (trees_less ns i n l e))
    ∙ was
  where
    taken : (k : Bool) (rest : List FileNode) → cond (not k) [] (tree_of n.now ∷ []) ++ rest
        ≡ cond k (tree_of n.now ∷ rest) rest
    taken true rest = refl
    taken false rest = refl

pub said_step : (all : List FileNode) (ns : List (Bor Node)) (i : ℕ) (n : Bor Node) (broken : Bool)
    (old new whole : List ReportLine) → i < length ns → n ≡ get_or ns i n → broken ≡ not (is_kept all (tree_of n.now))
    → new ≡ old ++ cond broken (dangles (label (tree_of n.now)) ∷ []) (dropped (label (tree_of n.now)))
    → old ++ flat_map (said_of_root all) (trees_at (drop i ns)) ≡ whole
    → new ++ flat_map (said_of_root all) (trees_at (drop (i + 1) ns)) ≡ whole
said_step all ns i n broken old new whole l e b is was =
    let t = tree_of n.now in
    let rest : List ReportLine = flat_map (said_of_root all) (trees_at (drop (i + 1) ns)) in
    ap (λ (xs : List ReportLine). xs ++ rest)
    (is ∙ ap (λ c. old ++ cond c (dangles (label t) ∷ []) (dropped (label t))) b)
    ∙ append_assoc old (cond (not (is_kept all t)) (dangles (label t) ∷ []) (dropped (label t))) rest
    ∙ ap (λ (xs : List ReportLine). old ++ (xs ++ rest)) (said (is_kept all t))
    ∙ ap (λ (ts : List FileNode). old ++ flat_map (said_of_root all) ts) (sym (trees_less ns i n l e))
    ∙ was
  where
    said : (k : Bool) → cond (not k) (dangles (label (tree_of n.now)) ∷ []) (dropped (label (tree_of n.now)))
        ≡ cond k (dropped (label (tree_of n.now))) (dangles (label (tree_of n.now)) ∷ [])
    said true = refl
    said false = refl
