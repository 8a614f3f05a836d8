-- Levels rise by one at most from node to node, and no cross reference stands on two.
use Rattle.std.proofs.Common.{
  ◌≡◌,
  ℕ,
  ◌+◌,
  ◌≤◌,
  true,
  false,
  List,
  [],
  ◌∷◌,
  refl,
  ap,
  ◌∙◌,
  subst,
  inl,
  inr,
  ◌⊎◌,
  arith,
  eq-eqb,
  Option,
  Some,
  None,
}
use Rattle.std.specs.Option.{option_map_or}
use Rattle.std.specs.List.{list_any}
use Rattle.std.specs.Str.{bytes_eq}
use Rattle.std.proofs.lemmas.Bool.{ltb-false, le-leb, cases_eq, or_right, or_left, cases_Bool}
use Rattle.std.proofs.lemmas.Slice.Eq.{bytes_eq-Decides}
use Rattle.gedcom_line.specs.Reading.{Parts, is_continuation}
use Rattle.gedcom_rules.specs.Rules.{Progress, Standing, has_name, is_continued, parent}
use Rattle.gedcom_tree.specs.Forest.{forest_of}
use Rattle.gedcom_rules.specs.Judging.{after}
use Rattle.gedcom_tree.specs.Text.{rises, is_called, are_distinct}
use Rattle.gedcom_rules.proofs.Unbroken.{Unbroken}
use Rattle.gedcom_tree.proofs.Fitting.{Fits, above_own, parent_at}
use Rattle.list_laws.proofs.Bytes.{bytes_same}

-- after a node of the level k and its continuations the last line is no deeper than the node, or a continuation below
-- it
abbrev pub Behind : Progress → ℕ → Type 0
Behind q k = (q.last ≤ k)
    ⊎ ((q.last ≤ k + 1) × (option_map_or (λ s. is_continued s.role) (q.above q.last) false ≡ true))

-- the next line is at most one level deeper than the node
next_le : (q : Progress) (k : ℕ) (l : Parts) → Unbroken q l → Behind q k → l.level ≤ k + 1
next_le q k l u (inl h) = omega (arith, h, ltb-false (q.last + 1) l.level u.jump)
next_le q k l u (inr h) = elim (cases_eq l.level (q.last + 1)) [
  | inl e ↦
      let one : parent q l.level ≡ q.above q.last = parent_at q l.level q.last (eq-eqb l.level (q.last + 1) e) in
      let bad : option_map_or (λ s. is_continued s.role) (q.above q.last) false ≡ false = subst
      (λ (o : Option Standing). option_map_or (λ s. is_continued s.role) o false ≡ false) one u.above in
      absurd (let yes : option_map_or (λ s. is_continued s.role) (q.above q.last) false ≡ true = h.1 in cc)
  | inr n ↦ omega (arith, h.0, n, ltb-false (q.last + 1) l.level u.jump)
]

-- a continuation stands open as one
pub continued_open : (q : Progress) (l : Parts) → is_continuation l.tag ≡ true
    → option_map_or (λ s. is_continued s.role) ((after q l).above l.level) false ≡ true
continued_open q l c = ap (λ (o : Option Standing). option_map_or (λ s. is_continued s.role) o false)
    (above_own q l) ∙ rw c refl

pub fits_rises : (n k : ℕ) (q : Progress) (ls : List Parts) → Behind q k → Fits q ls → rises k (forest_of n ls) ≡ true
unfolding forest_of
fits_rises n k q [] b f = refl
fits_rises n k q (l ∷ ls) b f =
    let le : l.level ≤ k + 1 = next_le q k l f.0.rules b in
    elim (cases_Bool (is_continuation l.tag)) [
      | inl c ↦ rw c (fits_rises (n + 1) k (after q l) ls (inr (le, continued_open q l c)) f.1)
      | inr c ↦ rw (c, le-leb l.level (k + 1) le) (fits_rises (n + 1) l.level (after q l) ls (inl (omega arith)) f.1)
    ]

own_name : (q : Progress) (l : Parts) (x : List ℕ) → (o : Option (List ℕ)) → l.xref ≡ o
    → option_map_or q.named o false ≡ false → q.named x ≡ true → option_map_or (bytes_eq x) o false ≡ false
own_name q l x None e u h = refl
own_name q l x (Some y) e u h = elim (cases_Bool (bytes_eq x y)) [
  | inr k ↦ k
  | inl k ↦ absurd (let named : q.named y ≡ true = subst (λ (z : List ℕ). q.named z ≡ true) (bytes_same x y k) h in cc)
]

not_again : (n : ℕ) (q : Progress) (ls : List Parts) (x : List ℕ) → q.named x ≡ true → Fits q ls
    → list_any (is_called x) (forest_of n ls) ≡ false
unfolding forest_of
not_again n q [] x h f = refl
not_again n q (l ∷ ls) x h f =
    let k = not_again (n + 1) (after q l) ls x (or_left (q.named x) (has_name x l) h) f.1 in
    elim (cases_Bool (is_continuation l.tag)) [
      | inl c ↦ rw c k
      | inr c ↦ rw (c, own_name q l x l.xref refl f.0.rules.name h) k
    ]

apart : (n : ℕ) (q : Progress) (l : Parts) (ls : List Parts) (o : Option (List ℕ)) → l.xref ≡ o → Fits (after q l) ls
    → option_map_or (λ x. list_any (is_called x) (forest_of n ls)) o false ≡ false
apart n q l ls None e f = refl
apart n q l ls (Some x) e f =
    let same : bytes_eq x x ≡ true = (bytes_eq-Decides x x).1 refl in
    let own : has_name x l ≡ true = rw (e, same) refl in
    not_again n (after q l) ls x (or_right (q.named x) (has_name x l) own) f

pub fits_distinct : (n : ℕ) (q : Progress) (ls : List Parts) → Fits q ls → are_distinct (forest_of n ls) ≡ true
unfolding forest_of
fits_distinct n q [] f = refl
fits_distinct n q (l ∷ ls) f =
    let k = fits_distinct (n + 1) (after q l) ls f.1 in
    elim (cases_Bool (is_continuation l.tag)) [
      | inl c ↦ rw c k
      | inr c ↦ rw (c, apart (n + 1) q l ls l.xref refl f.1) k
    ]
