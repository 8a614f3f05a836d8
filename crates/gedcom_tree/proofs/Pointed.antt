-- No continuation belongs to a line whose value is a pointer, so lines that break no rule are read as what they compute
-- to.
use Rattle.std.proofs.Common.{
  ◌≡◌,
  ℕ,
  zero,
  suc,
  ◌+◌,
  true,
  false,
  eqb,
  ltb,
  not,
  ◌&&◌,
  List,
  [],
  ◌∷◌,
  ◌++◌,
  take,
  refl,
  sym,
  ap,
  ◌∙◌,
  subst,
  inl,
  inr,
  Some,
  None,
}
use Rattle.std.specs.List.{list_all, prefix_len}
use Rattle.std.proofs.lemmas.Bool.{and_parts, cases_Bool}
use Rattle.gedcom_line.specs.Reading.{Parts, is_continuation}
use Rattle.gedcom_line.specs.Value.{meaning, IsPointer, pointer_in}
use Rattle.gedcom_line.proofs.Pointers.{pointer_is, is_pointer, pointer_meant}
use Rattle.gedcom_rules.specs.Rules.{Standing, standing, standing_at, is_trailer, progress_of}
use Rattle.gedcom_rules.specs.Faults.{Clean}
use Rattle.gedcom_tree.specs.File.{untrailed}
use Rattle.gedcom_rules.specs.Continuing.{belongs}
use Rattle.gedcom_tree.specs.Forest.{IsValue, Reads, continued, node_of, forest_of}
use Rattle.gedcom_rules.proofs.Unbroken.{unbroken}
use Rattle.gedcom_tree.proofs.Joined.{
  belongs-push,
  belongs_other,
  belongs_past,
  above_deeper,
  standing_is,
  unbroken_continues,
}

abbrev pub IsAlone : Parts → List Parts → Type 0
IsAlone l ls = is_continuation l.tag ≡ false → (name : List ℕ) → IsPointer l.raw name → belongs l.level ls ≡ []

abbrev pub Pointed : List Parts → Type 0
Pointed [] = Unit {0}
Pointed (l ∷ ls) = IsAlone l ls × Pointed ls

-- a line more that continues none
pub pointed-push : (ls : List Parts) (l : Parts) → is_continuation l.tag ≡ false → Pointed ls → Pointed (ls ++ l ∷ [])
pointed-push [] l h p = (λ c name i. refl, tt)
pointed-push (m ∷ ms) l h p = (
  λ c name i. belongs-push m.level ms l (rw h refl) ∙ p.0 c name i,
  pointed-push ms l h p.1,
)

-- a continuation only after deeper lines
pointed_deeper : (k : ℕ) (ms : List Parts) (c : Parts) → list_all (λ m. ltb k m.level) ms ≡ true → c.level ≡ k + 1
    → Pointed ms → Pointed (ms ++ c ∷ [])
pointed_deeper k [] c a h p = (λ o name i. refl, tt)
pointed_deeper k (m ∷ ms) c a h p =
    let r = and_parts (ltb k m.level) (list_all (λ j. ltb k j.level) ms) a in (
      λ o name i. belongs_other m.level k ms c h (above_deeper k m.level r.0) ∙ p.0 o name i,
      pointed_deeper k ms c r.1 h p.1,
    )

no_text : (m : Parts) (more : List Parts) (s : Standing) (name : List ℕ) → Some (standing m more) ≡ Some s
    → s.text ≡ true → is_continuation m.tag ≡ false → IsPointer m.raw name → ⊥
no_text m more s name e t o i =
    let same : (standing m more).text ≡ true = ap (λ (r : Standing). r.text) (standing_is (standing m more) s e) ∙ t in
    let bad : false ≡ true = rw (o, pointer_meant m.raw name i) at same in
    cc

-- one that stands below a text
pub pointed_longer : (k : ℕ) (ls : List Parts) (c : Parts) (s : Standing) → standing_at k ls ≡ Some s → s.text ≡ true
    → c.level ≡ k + 1 → Pointed ls → Pointed (ls ++ c ∷ [])
pointed_longer k [] c s h t l p = absurd cc
pointed_longer k (m ∷ ms) c s h t l p = elim (cases_Bool (eqb m.level k && list_all (λ j. ltb k j.level) ms)) [
  | inl e ↦
      let at : Some (standing m (belongs k ms)) ≡ Some s = rw e at h in (
        λ o name i. absurd (no_text m (belongs k ms) s name at t o i),
        pointed_deeper k ms c (and_parts (eqb m.level k) _ e).1 l p.1,
      )
  | inr e ↦
      let rest : standing_at k ms ≡ Some s = rw e at h in
      (λ o name i. belongs_past k m ms c e l ∙ p.0 o name i, pointed_longer k ms c s rest t l p.1)
]

pub clean_pointed : (before : List Parts) (ps : List (List ℕ)) (lines : List Parts) → Pointed before
    → Clean before ps lines → Pointed lines
clean_pointed before [] lines a h = subst Pointed (sym h) a
clean_pointed before (p ∷ ps) lines a (s, inl h) = clean_pointed before ps lines a h.1
clean_pointed before (p ∷ ps) lines a (s, inr h) =
    let u = unbroken (progress_of before) h.0 h.1.1.0 in
    clean_pointed (before ++ h.0 ∷ []) ps lines (elim (cases_Bool (is_continuation h.0.tag)) [
      | inl e ↦ let c = unbroken_continues (progress_of before) h.0 u e in
          pointed_longer c.level before h.0 c.above c.at c.text c.deeper a
      | inr e ↦ pointed-push before h.0 e a
    ]) h.1.1.1

-- in front of the trailer
belongs_front : (n k : ℕ) (ls : List Parts) → belongs k ls ≡ [] → belongs k (take n ls) ≡ []
belongs_front zero k ls h = refl
belongs_front (suc n) k [] h = refl
belongs_front (suc n) k (l ∷ ls) h = elim (cases_Bool (ltb k l.level)) [
  | inl e ↦ elim (cases_Bool (is_continuation l.tag && eqb l.level (k + 1))) [
    | inl c ↦ let bad : l ∷ belongs k ls ≡ [] = rw (e, c) at h in absurd cc
    | inr c ↦ let rest : belongs k ls ≡ [] = rw (e, c) at h in rw (e, c) (belongs_front n k ls rest)
  ]
  | inr e ↦ rw e refl
]

pointed_front : (n : ℕ) (ls : List Parts) → Pointed ls → Pointed (take n ls)
pointed_front zero ls p = tt
pointed_front (suc n) [] p = tt
pointed_front (suc n) (l ∷ ls) p = (λ o name i. belongs_front n l.level ls (p.0 o name i), pointed_front n ls p.1)

pub untrailed_pointed : (ls : List Parts) → Pointed ls → Pointed (untrailed ls)
untrailed_pointed ls p = pointed_front (prefix_len (λ l. not (is_trailer l)) ls) ls p

-- the lines are read as what they compute to
value_is : (raw : List ℕ) (more : List Parts) → ((name : List ℕ) → IsPointer raw name → more ≡ [])
    → IsValue raw more (continued (meaning raw) more)
value_is raw more alone = elim (pointer_in raw) as (λ o. pointer_in raw ≡ o
    → IsValue raw more (continued (meaning raw) more)) [
      | None ↦ λ e. rw e (λ name i. let k : pointer_in raw ≡ Some name = pointer_is raw name i in absurd cc, refl)
      | Some p ↦ λ e. let i : IsPointer raw p = is_pointer raw p e in rw e (i, alone p i)
    ] refl

pub pointed_reads : (n : ℕ) (ls : List Parts) → Pointed ls → Reads n ls (forest_of n ls)
unfolding forest_of
pointed_reads n [] p = refl
pointed_reads n (l ∷ ls) p = elim (cases_Bool (is_continuation l.tag)) [
  | inl e ↦ rw e (inl (refl, pointed_reads (n + 1) ls p.1))
  | inr e ↦ rw e (inr (
    refl,
    (
      node_of n l (belongs l.level ls),
      (
        forest_of (n + 1) ls,
        (
          refl,
          (
            record {
              line = refl;
              level = refl;
              xref = refl;
              tag = refl;
              value = value_is l.raw (belongs l.level ls) (p.0 e);
            },
            pointed_reads (n + 1) ls p.1,
          ),
        ),
      ),
    ),
  ))
]
