-- The forest of lines with one line more: a node more, or a longer text.
use Rattle.std.proofs.Common.{
  ◌≡◌,
  ℕ,
  zero,
  suc,
  ◌+◌,
  ◌-◌,
  ◌<◌,
  Bool,
  true,
  false,
  eqb,
  ltb,
  not,
  ◌&&◌,
  ◌||◌,
  List,
  [],
  ◌∷◌,
  ◌++◌,
  length,
  refl,
  sym,
  ap,
  ◌∙◌,
  subst,
  inl,
  inr,
  arith,
  append_assoc,
  append-nil,
  Option,
  Some,
  None,
}
use Rattle.std.specs.Prelude.{is_some}
use Rattle.std.specs.Option.{option_map_or}
use Rattle.std.specs.List.{list_all, flat_map}
use Rattle.std.proofs.lemmas.Bool.{eqb-true, ltb-true, lt-ltb, le-ltb, not-false, eq-eqb, and_parts, cases_Bool}
use Rattle.std.proofs.lemmas.List.Concat.{flat_map-append}
use Rattle.gedcom_line.specs.Reading.{Parts, is_continuation}
use Rattle.gedcom_line.specs.Escape.{unescaped}
use Rattle.gedcom_line.specs.Value.{Meaning, Text, Pointer, meaning}
use Rattle.gedcom_line.proofs.Steps.{eqb_false}
use Rattle.gedcom_rules.specs.Rules.{Progress, Standing, standing, standing_at, is_continued, may_go_on}
use Rattle.gedcom_tree.specs.Forest.{Item, continued, node_of, forest_of, longer, extended}
use Rattle.gedcom_rules.specs.Continuing.{belongs, adds}
use Rattle.gedcom_rules.proofs.Runs.{belongs_deeper}
use Rattle.gedcom_rules.proofs.Unbroken.{Unbroken}
use Rattle.std.proofs.Math.Bool.{and-false, or-true}
use Rattle.list_laws.proofs.Booleans.{cond_same}

-- a line that continues none of these
pub belongs-push : (n : ℕ) (ls : List Parts) (l : Parts) → (is_continuation l.tag && eqb l.level (n + 1)) ≡ false
    → belongs n (ls ++ l ∷ []) ≡ belongs n ls
belongs-push n [] l h = rw h (cond_same (ltb n l.level) [])
belongs-push n (m ∷ ms) l h = rw (belongs-push n ms l h) refl

-- nothing more belongs to a line that is closed
pub belongs_closed : (n : ℕ) (ms : List Parts) (l : Parts) → list_all (λ m. ltb n m.level) ms ≡ false
    → belongs n (ms ++ l ∷ []) ≡ belongs n ms
belongs_closed n [] l h = absurd cc
belongs_closed n (m ∷ ms) l h = elim (cases_Bool (ltb n m.level)) [
  | inl e ↦ let rest : list_all (λ k. ltb n k.level) ms ≡ false = rw e at h in rw (e, belongs_closed n ms l rest) refl
  | inr e ↦ rw e refl
]

-- a continuation belongs only to a line one level above
pub belongs_other : (n k : ℕ) (ls : List Parts) (c : Parts) → c.level ≡ k + 1 → (n ≡ k → ⊥)
    → belongs n (ls ++ c ∷ []) ≡ belongs n ls
belongs_other n k ls c h d = belongs-push n ls c
    (rw (eqb_false c.level (n + 1) (λ e. d (omega (arith, e, h)))) (and-false (is_continuation c.tag)))

pub forest_of-push : (n : ℕ) (ls : List Parts) (l : Parts) → is_continuation l.tag ≡ false
    → forest_of n (ls ++ l ∷ []) ≡ forest_of n ls ++ node_of (n + length ls) l [] ∷ []
unfolding forest_of
forest_of-push n [] l h = rw h (ap (λ (k : ℕ). node_of k l [] ∷ []) (omega arith))
forest_of-push n (m ∷ ms) l h =
    let none : (is_continuation l.tag && eqb l.level (m.level + 1)) ≡ false = rw h refl in
    let at : n + 1 + length ms ≡ n + suc (length ms) = omega arith in
    elim (cases_Bool (is_continuation m.tag)) [
      | inl e ↦ rw e (forest_of-push (n + 1) ms l h ∙ ap (λ (k : ℕ). forest_of (n + 1) ms ++ node_of k l [] ∷ []) at)
      | inr e ↦ rw (e, belongs-push m.level ms l none)
          (ap (λ (f : List Item). node_of n m (belongs m.level ms) ∷ f)
          (forest_of-push (n + 1) ms l h ∙ ap (λ (k : ℕ). forest_of (n + 1) ms ++ node_of k l [] ∷ []) at))
    ]

-- a text with one continuation more
continued-push : (v : Meaning) (more : List Parts) (c : Parts) → continued v (more ++ c ∷ [])
    ≡ longer (adds c) (continued v more)
continued-push (Text raw) more c =
    ap Text (ap (λ (x : List ℕ). unescaped raw ++ x)
    (flat_map-append adds more (c ∷ []) ∙ ap (λ (x : List ℕ). flat_map adds more ++ x) (append-nil (adds c)))
    ∙ sym (append_assoc (unescaped raw) (flat_map adds more) (adds c)))
continued-push (Pointer p) more c = refl

-- lines that are all deeper
deeper_items : (k n : ℕ) (ms : List Parts) → list_all (λ m. ltb k m.level) ms ≡ true
    → list_all (λ j. ltb k j.level) (forest_of n ms) ≡ true
unfolding forest_of
deeper_items k n [] a = refl
deeper_items k n (m ∷ ms) a =
    let r = and_parts (ltb k m.level) (list_all (λ j. ltb k j.level) ms) a in
    elim (cases_Bool (is_continuation m.tag)) [
      | inl e ↦ rw e (deeper_items k (n + 1) ms r.1)
      | inr e ↦ rw (e, r.0) (deeper_items k (n + 1) ms r.1)
    ]

pub above_deeper : (k level : ℕ) → ltb k level ≡ true → level ≡ k → ⊥
above_deeper k level h e = let less : k < level = ltb-true k level h in omega (arith, less, e)

same_items : (k n : ℕ) (ms : List Parts) (c : Parts) → list_all (λ m. ltb k m.level) ms ≡ true
    → is_continuation c.tag ≡ true → c.level ≡ k + 1 → forest_of n (ms ++ c ∷ []) ≡ forest_of n ms
unfolding forest_of
same_items k n [] c a t h = rw t refl
same_items k n (m ∷ ms) c a t h =
    let r = and_parts (ltb k m.level) (list_all (λ j. ltb k j.level) ms) a in
    elim (cases_Bool (is_continuation m.tag)) [
      | inl e ↦ rw e (same_items k (n + 1) ms c r.1 t h)
      | inr e ↦ rw (
        e,
        belongs_other m.level k ms c h (above_deeper k m.level r.0),
        same_items k (n + 1) ms c r.1 t h,
      ) refl
    ]

pub extended_deeper : (k : ℕ) (t : List ℕ) (is : List Item) → list_all (λ j. ltb k j.level) is ≡ true
    → extended k t is ≡ is
extended_deeper k t [] a = refl
extended_deeper k t (i ∷ is) a =
    let r = and_parts (ltb k i.level) (list_all (λ j. ltb k j.level) is) a in
    rw (eqb_false i.level k (above_deeper k i.level r.0), extended_deeper k t is r.1) refl

-- a node of the level is among them
own_line : (m : Parts) (more : List Parts) → is_continued (standing m more).role ≡ false → is_continuation m.tag ≡ false
own_line m more h = elim (cases_Bool (is_continuation m.tag)) [
  | inl e ↦ let bad : true ≡ false = rw e at h in absurd cc
  | inr e ↦ e
]

pub standing_is : (s r : Standing) → Some s ≡ Some r → s ≡ r
standing_is s r e = cc

own_of : (m : Parts) (more : List Parts) (s : Standing) → Some (standing m more) ≡ Some s → is_continued s.role ≡ false
    → is_continuation m.tag ≡ false
own_of m more s e h = own_line m more (subst (λ (r : Standing). is_continued r.role ≡ false)
    (sym (standing_is (standing m more) s e)) h)

not_below : (k : ℕ) → ltb k k ≡ false
not_below k = le-ltb k k (omega arith)

not_deeper : (k n : ℕ) (ms : List Parts) (s : Standing) → standing_at k ms ≡ Some s → is_continued s.role ≡ false
    → list_all (λ j. ltb k j.level) (forest_of n ms) ≡ false
unfolding forest_of
not_deeper k n [] s h o = absurd cc
not_deeper k n (m ∷ ms) s h o = elim (cases_Bool (eqb m.level k && list_all (λ j. ltb k j.level) ms)) [
  | inl e ↦
      let own : is_continuation m.tag ≡ false = own_of m (belongs k ms) s (rw e at h) o in
      let same : m.level ≡ k = eqb-true m.level k (and_parts (eqb m.level k) _ e).0 in
      rw (own, same, not_below k) refl
  | inr e ↦
      let rest : standing_at k ms ≡ Some s = rw e at h in
      elim (cases_Bool (is_continuation m.tag)) [
        | inl c ↦ rw c (not_deeper k (n + 1) ms s rest o)
        | inr c ↦ rw (c, not_deeper k (n + 1) ms s rest o) (and-false (ltb k m.level))
      ]
]

-- what belongs to a line that is not the one above
pub belongs_past : (k : ℕ) (m : Parts) (ms : List Parts) (c : Parts)
    → (eqb m.level k && list_all (λ j. ltb k j.level) ms) ≡ false → c.level ≡ k + 1
    → belongs m.level (ms ++ c ∷ []) ≡ belongs m.level ms
belongs_past k m ms c e h = elim (cases_Bool (eqb m.level k)) [
  | inl q ↦
      let same : m.level ≡ k = eqb-true m.level k q in
      let closed : list_all (λ j. ltb k j.level) ms ≡ false = rw q at e in
      rw same (belongs_closed k ms c closed)
  | inr q ↦ belongs_other m.level k ms c h (λ z. let bad : eqb k k ≡ false = rw z at q in
      let good : eqb m.level k ≡ true = rw z (eq-eqb k k refl) in absurd cc)
]

-- a continuation makes the text of the node one level above longer
pub forest_longer : (n k : ℕ) (ls : List Parts) (c : Parts) (s : Standing) → standing_at k ls ≡ Some s
    → is_continued s.role ≡ false → is_continuation c.tag ≡ true → c.level ≡ k + 1
    → forest_of n (ls ++ c ∷ []) ≡ extended k (adds c) (forest_of n ls)
unfolding forest_of
forest_longer n k [] c s h o t l = absurd cc
forest_longer n k (m ∷ ms) c s h o t l = elim (cases_Bool (eqb m.level k && list_all (λ j. ltb k j.level) ms)) [
  | inl e ↦
      let own : is_continuation m.tag ≡ false = own_of m (belongs k ms) s (rw e at h) o in
      let r = and_parts (eqb m.level k) (list_all (λ j. ltb k j.level) ms) e in
      let same : m.level ≡ k = eqb-true m.level k r.0 in
      let deep : ltb k c.level ≡ true = lt-ltb k c.level (omega (arith, l)) in
      let one : (is_continuation c.tag && eqb c.level (k + 1)) ≡ true = rw (t, l) (eq-eqb (k + 1) (k + 1) refl) in
      let more : belongs k (ms ++ c ∷ []) ≡ belongs k ms ++ c ∷ [] = rw one at (belongs_deeper k ms c r.1 deep) in
      rw (
        own,
        same,
        eq-eqb k k refl,
        deeper_items k (n + 1) ms r.1,
        extended_deeper k (adds c) (forest_of (n + 1) ms) (deeper_items k (n + 1) ms r.1),
        more,
        same_items k (n + 1) ms c r.1 t l,
      )
      (ap (λ (v : Meaning). record { line = n; level = k; xref = m.xref; tag = m.tag; value = v } ∷ forest_of
      (n + 1) ms) (continued-push (meaning m.raw) (belongs k ms) c))
  | inr e ↦
      let rest : standing_at k ms ≡ Some s = rw e at h in
      elim (cases_Bool (is_continuation m.tag)) [
        | inl g ↦ rw g (forest_longer (n + 1) k ms c s rest o t l)
        | inr g ↦
            rw (g, belongs_past k m ms c e l, not_deeper k (n + 1) ms s rest o, and-false (eqb m.level k))
            (ap (λ (f : List Item). node_of n m (belongs m.level ms) ∷ f) (forest_longer (n + 1) k ms c s rest o t l))
      ]
]

-- what stands above a continuation that breaks no rule
pub record Continues (q : Progress) (l : Parts) : Type 0 where
  pub level : ℕ
  pub deeper : l.level ≡ level + 1
  pub above : Standing
  pub at : q.above level ≡ Some above
  pub text : above.text ≡ true
  pub own : is_continued above.role ≡ false

above_some : (q : Progress) (level : ℕ) (o : Option Standing) → o ≡ q.above level
    → option_map_or (λ s. is_continued s.role) o false ≡ false → option_map_or (may_go_on q level) o false ≡ true
    → (s : Standing) × ((q.above level ≡ Some s) × ((s.text ≡ true) × (is_continued s.role ≡ false)))
above_some q level None e c g = absurd cc
above_some q level (Some s) e c g = (s, (sym e, ((and_parts s.text _ (and_parts _ _ g).0).0, c)))

pub unbroken_continues : (q : Progress) (l : Parts) → Unbroken q l → is_continuation l.tag ≡ true → Continues q l
unbroken_continues q l u t = elim (cases_Bool (eqb l.level 0)) [
  | inl e ↦
      let h : (is_some l.xref || true) ≡ false = rw (t, e) at u.goes_on in
      absurd (let bad : true ≡ false = sym (or-true (is_some l.xref)) ∙ h in cc)
  | inr e ↦
      let h : (is_some l.xref || not (option_map_or (may_go_on q (l.level - 1)) (q.above (l.level - 1)) false))
      ≡ false = rw (t, e) at u.goes_on in
      let c : option_map_or (λ s. is_continued s.role) (q.above (l.level - 1)) false ≡ false = rw e at u.above in
      let g : option_map_or (may_go_on q (l.level - 1)) (q.above (l.level - 1)) false ≡ true = not-false _
      (or_right (is_some l.xref) _ h) in
      let r = above_some q (l.level - 1) (q.above (l.level - 1)) refl c g in
      record {
        level = l.level - 1;
        deeper = some_level l.level e;
        above = r.0;
        at = r.1.0;
        text = r.1.1.0;
        own = r.1.1.1;
      }
]
  where
    or_right : (a b : Bool) → (a || b) ≡ false → b ≡ false
    or_right true b h = absurd cc
    or_right false b h = h

    some_level : (n : ℕ) → eqb n 0 ≡ false → n ≡ n - 1 + 1
    some_level zero h = absurd (let bad : true ≡ false = h in cc)
    some_level (suc n) h = omega arith
