-- A line that breaks no rule finds a place among the open lines and nodes.
use Rattle.std.proofs.Common.{
  ◌≡◌,
  ℕ,
  ◌+◌,
  ◌-◌,
  ◌<◌,
  ◌≤◌,
  true,
  false,
  cond,
  eqb,
  List,
  refl,
  sym,
  ap,
  ◌∙◌,
  subst,
  inl,
  inr,
  arith,
  Some,
  None,
  Ok,
}
use Rattle.std.specs.Option.{option_map_or}
use Rattle.std.specs.Str.{bytes_eq}
use Rattle.std.specs.Prelude.{codes}
use Rattle.std.proofs.lemmas.Bool.{ltb-false, eq-eqb, or_parts, cases_Bool}
use Rattle.gedcom_line.specs.Reading.{Parts, is_continuation}
use Rattle.gedcom_rules.specs.Rules.{Progress, role_of, is_continued, is_trailer}
use Rattle.gedcom_tree.specs.Forest.{Item}
use Rattle.gedcom_rules.specs.Judging.{after, judge}
use Rattle.gedcom_tree.specs.Reading.{Nodes, grow_line, grow, grow_read}
use Rattle.gedcom_tree.specs.Depth.{node_depth, IsDeep}
use Rattle.gedcom_rules.proofs.Judged.{judge_some, judge_none}
use Rattle.gedcom_rules.proofs.Unbroken.{Unbroken, unbroken}
use Rattle.gedcom_rules.proofs.Levels.{first_level}
use Rattle.gedcom_tree.proofs.Joined.{unbroken_continues}
use Rattle.gedcom_rules.proofs.Bools.{counted}

-- nor beyond the open nodes: nothing stands below a continuation
not_below : (q : Progress) (l : Parts) → Unbroken q l → option_map_or (λ s. is_continued s.role) (q.above q.last) false
    ≡ true → l.level ≡ q.last + 1 → ⊥
not_below q l u c e =
    let level : eqb l.level 0 ≡ false = rw e (some_level q.last) in
    let at : l.level - 1 ≡ q.last = omega (arith, e) in
    let none : option_map_or (λ s. is_continued s.role) (q.above q.last) false ≡ false = rw (level, at) at u.above in
    let bad : true ≡ false = sym c ∙ none in
    cc
  where
    some_level : (n : ℕ) → eqb (n + 1) 0 ≡ false
    some_level n = grind arith

pub unbroken_fits : (q : Progress) (l : Parts) (n : ℕ) → Unbroken q l → IsDeep q n → l.level ≤ n
unbroken_fits q l n u d =
    let deep : n ≡ node_depth q = d u.done in
    elim (cases_Bool (eqb q.count 0)) [
      | inl e ↦ omega (arith, first_level q l u e)
      | inr e ↦ elim (cases_Bool (option_map_or (λ s. is_continued s.role) (q.above q.last) false)) [
        | inl c ↦
            let at : n ≡ q.last = rw (e, c) at deep in
            omega (arith, at, ltb-false (q.last + 1) l.level u.jump, not_below q l u c)
        | inr c ↦
            let at : n ≡ q.last + 1 = rw (e, c) at deep in
            omega (arith, at, ltb-false (q.last + 1) l.level u.jump)
      ]
    ]

pub judged_fits : (q : Progress) (p : List ℕ) (l : Parts) (n : ℕ) → judge q p ≡ Ok (Some l) → IsDeep q n → l.level ≤ n
judged_fits q p l n h d = unbroken_fits q l n (unbroken q l (judge_some q p l h).1) d

-- a continuation does not stand at level 0
pub judged_below : (q : Progress) (p : List ℕ) (l : Parts) → judge q p ≡ Ok (Some l)
    → is_continuation l.tag ≡ true → 0 < l.level
judged_below q p l h t = omega (arith, (unbroken_continues q l (unbroken q l (judge_some q p l h).1) t).deeper)

role_continued : (t : List ℕ) → is_continued (role_of t) ≡ is_continuation t
role_continued t = elim (cases_Bool (is_continuation t)) [
  | inl e ↦ rw e refl
  | inr e ↦ rw e (elim (cases_Bool (bytes_eq t (codes "CHAR"))) [
    | inl f ↦ rw f refl
    | inr f ↦ rw f (elim (cases_Bool (bytes_eq t (codes "GEDC"))) [
      | inl g ↦ rw g refl
      | inr g ↦ rw g (elim (cases_Bool (bytes_eq t (codes "VERS"))) [
        | inl k ↦ rw k refl
        | inr k ↦ rw k refl
      ])
    ])
  ])
]

pub node_depth_after : (q : Progress) (l : Parts) → node_depth (after q l) ≡ cond (is_continuation l.tag)
    l.level (l.level + 1)
node_depth_after q l = rw (counted q.count, eq-eqb l.level l.level refl, role_continued l.tag) refl

grown_none : (q : Progress) (p : List ℕ) (g : Nodes) → judge q p ≡ Ok None → g ≡ grow g p
unfolding grow
grown_none q p g h = sym (ap (grow_read g) (judge_none q p h))

grown_some : (q : Progress) (p : List ℕ) (l : Parts) (g : Nodes) → judge q p ≡ Ok (Some l)
    → record { count = g.count + 1; items = grow_line (g.count + 1) g.items l } ≡ grow g p
unfolding grow
grown_some q p l g h = sym (ap (grow_read g) (judge_some q p l h).0)

-- the nodes after a blank piece, and after a line
pub grown_blank : (q r : Progress) (p : List ℕ) (n m : ℕ) (items : List Item) → judge q p ≡ Ok None → r ≡ q
    → q.count ≡ n → r.count ≡ m → record { count = m; items = items } ≡ grow (record { count = n; items = items }) p
grown_blank q r p n m items h e a b =
    let same : m ≡ n = sym b ∙ ap (λ (x : Progress). x.count) e ∙ a in
    ap (λ (k : ℕ). record { count = k; items = items }) same ∙ grown_none q p (record { count = n; items = items }) h

pub grown_line : (q r : Progress) (p : List ℕ) (l : Parts) (n m : ℕ) (items more : List Item) → judge q p ≡ Ok (Some l)
    → r ≡ after q l → q.count ≡ n → r.count ≡ m → more ≡ grow_line m items l → record { count = m; items = more }
    ≡ grow (record { count = n; items = items }) p
grown_line q r p l n m items more h e a b k =
    let same : m ≡ n + 1 = sym b ∙ ap (λ (x : Progress). x.count) e ∙ ap (λ (x : ℕ). x + 1) a in
    ap (λ (x : List Item). record { count = m; items = x }) k
    ∙ ap (λ (x : ℕ). record { count = x; items = grow_line x items l }) same
    ∙ grown_some q p l (record { count = n; items = items }) h

pub deep_line : (q r : Progress) (l : Parts) (n : ℕ) → r ≡ after q l
    → (is_trailer l ≡ false → n ≡ cond (is_continuation l.tag) l.level (l.level + 1)) → IsDeep r n
deep_line q r l n e h = λ d.
    let done : (after q l).done ≡ false = ap (λ (x : Progress). x.done) (sym e) ∙ d in
    h (or_parts q.done (is_trailer l) done).1 ∙ sym (node_depth_after q l) ∙ ap node_depth (sym e)

pub deep_blank : (q r : Progress) (n : ℕ) → r ≡ q → IsDeep q n → IsDeep r n
deep_blank q r n e h = subst (λ (x : Progress). IsDeep x n) (sym e) h
