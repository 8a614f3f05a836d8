-- The nodes that are grown from clean pieces are the forest of their lines.
use Rattle.std.proofs.Common.{
  ◌≡◌,
  ℕ,
  ◌+◌,
  ◌-◌,
  true,
  cond,
  List,
  [],
  ◌∷◌,
  ◌++◌,
  length,
  length-append,
  refl,
  sym,
  ap,
  ◌∙◌,
  inl,
  inr,
  arith,
  append-nil,
}
use Rattle.std.proofs.lemmas.Bool.{cases_Bool}
use Rattle.gedcom_line.specs.Reading.{Parts, is_continuation}
use Rattle.gedcom_line.specs.Line.{Line, IsBlank}
use Rattle.gedcom_line.proofs.Whole.{line_reading, blank_reading}
use Rattle.gedcom_rules.specs.Rules.{progress_of, is_trailer}
use Rattle.gedcom_rules.specs.Faults.{Clean}
use Rattle.gedcom_tree.specs.File.{untrailed}
use Rattle.gedcom_tree.specs.Forest.{Item, node_of, forest_of, extended}
use Rattle.gedcom_rules.specs.Continuing.{adds}
use Rattle.gedcom_tree.specs.Reading.{Nodes, no_nodes, grow_line, grow_read, grow, grown}
use Rattle.gedcom_rules.proofs.Unbroken.{Unbroken, unbroken}
use Rattle.gedcom_tree.proofs.Trailed.{untrailed_all, untrailed-push}
use Rattle.gedcom_tree.proofs.Joined.{forest_of-push, forest_longer, Continues, unbroken_continues}

grow_blank : (g : Nodes) (p : List ℕ) → IsBlank p → grow g p ≡ g
unfolding grow
grow_blank g p b = ap (grow_read g) (blank_reading p b)

grow_of : (g : Nodes) (p : List ℕ) (l : Parts) → Line p l
    → grow g p ≡ record { count = g.count + 1; items = grow_line (g.count + 1) g.items l }
unfolding grow
grow_of g p l h = ap (grow_read g) (line_reading p l h)

-- the nodes of lines
abbrev pub nodes_of : List Parts → Nodes
nodes_of ls = record { count = length ls; items = forest_of 1 (untrailed ls) }

joined_step : (before : List Parts) (l : Parts) → (c : Continues (progress_of before) l) → is_continuation l.tag ≡ true
    → forest_of 1 (before ++ l ∷ []) ≡ extended (l.level - 1) (adds l) (forest_of 1 before)
joined_step before l c t =
    let at : l.level - 1 ≡ c.level = omega (arith, c.deeper) in
    forest_longer 1 c.level before l c.above c.at c.own t c.deeper
    ∙ ap (λ (k : ℕ). extended k (adds l) (forest_of 1 before)) (sym at)

line_step : (before : List Parts) (l : Parts) → Unbroken (progress_of before) l
    → grow_line (length before + 1) (forest_of 1 (untrailed before)) l ≡ forest_of 1 (untrailed (before ++ l ∷ []))
line_step before l u =
    let w : untrailed before ≡ before = untrailed_all before u.done in
    let v : untrailed (before ++ l ∷ []) ≡ before ++ cond (is_trailer l) [] (l ∷ []) = untrailed-push before l u.done in
    elim (cases_Bool (is_trailer l)) [
      | inl e ↦ rw (e, w) (ap (forest_of 1) (sym (v ∙ rw e (append-nil before))))
      | inr e ↦
          let more : before ++ l ∷ [] ≡ untrailed (before ++ l ∷ []) = sym (v ∙ rw e refl) in
          elim (cases_Bool (is_continuation l.tag)) [
            | inl t ↦ rw (e, t, w) (sym (joined_step before l (unbroken_continues (progress_of before) l u t) t)
                ∙ ap (forest_of 1) more)
            | inr t ↦
                let at : length before + 1 ≡ 1 + length before = omega arith in
                rw (e, t, w) (ap (λ (k : ℕ). forest_of 1 before ++ node_of k l [] ∷ []) at
                ∙ sym (forest_of-push 1 before l t) ∙ ap (forest_of 1) more)
          ]
    ]

nodes-push : (before : List Parts) (p : List ℕ) (l : Parts) → Line p l → Unbroken (progress_of before) l
    → grow (nodes_of before) p ≡ nodes_of (before ++ l ∷ [])
nodes-push before p l h u =
    let count : length before + 1 ≡ length (before ++ l ∷ []) = sym (length-append before (l ∷ [])) in
    grow_of (nodes_of before) p l h
    ∙ ap (λ (f : List Item). record { count = length before + 1; items = f }) (line_step before l u)
    ∙ ap (λ (k : ℕ). record { count = k; items = forest_of 1 (untrailed (before ++ l ∷ [])) }) count

clean_grown : (before : List Parts) (ps : List (List ℕ)) (lines : List Parts) → Clean before ps lines
    → grown (nodes_of before) ps ≡ nodes_of lines
unfolding grown
clean_grown before [] lines h = ap nodes_of (sym h)
clean_grown before (p ∷ ps) lines (s, inl h) = rw (grow_blank (nodes_of before) p h.0) (clean_grown before ps lines h.1)
clean_grown before (p ∷ ps) lines (s, inr h) =
    let u = unbroken (progress_of before) h.0 h.1.1.0 in
    ap (λ (g : Nodes). grown g ps) (nodes-push before p h.0 h.1.0 u) ∙ clean_grown (before ++ h.0 ∷ []) ps lines h.1.1.1

nodes_nil : no_nodes ≡ nodes_of []
unfolding forest_of
nodes_nil = refl

pub clean_nodes : (ps : List (List ℕ)) (lines : List Parts) → Clean [] ps lines → grown no_nodes ps ≡ nodes_of lines
clean_nodes ps lines h = ap (λ (g : Nodes). grown g ps) nodes_nil ∙ clean_grown [] ps lines h

pub grown-append : (g : Nodes) (xs ys : List (List ℕ)) → grown g (xs ++ ys) ≡ grown (grown g xs) ys
unfolding grown
grown-append g [] ys = refl
grown-append g (x ∷ xs) ys = grown-append (grow g x) xs ys

pub grown_nil : (g : Nodes) → grown g [] ≡ g
unfolding grown
grown_nil g = refl

pub grown_cons : (g : Nodes) (x : List ℕ) (xs : List (List ℕ)) → grown g (x ∷ xs) ≡ grown (grow g x) xs
unfolding grown
grown_cons g x xs = refl
