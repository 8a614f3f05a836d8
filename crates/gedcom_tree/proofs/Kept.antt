-- What the lines of nodes leave for the nodes after them, and which rules the lines of a node keep there.
use Rattle.std.proofs.Common.{
  ◌≡◌,
  ℕ,
  ◌+◌,
  ◌-◌,
  ◌<◌,
  ◌≤◌,
  Bool,
  true,
  false,
  cond,
  eqb,
  ltb,
  not,
  ◌&&◌,
  List,
  [],
  ◌∷◌,
  length,
  refl,
  ap,
  ◌∙◌,
  subst,
  inl,
  inr,
  arith,
  Option,
  Some,
  None,
  codes,
  eq-eqb,
}
use Rattle.std.specs.Prelude.{option_map}
use Rattle.std.specs.Option.{option_map_or}
use Rattle.std.specs.List.{list_any}
use Rattle.std.specs.Str.{bytes_eq}
use Rattle.std.proofs.lemmas.Bool.{eqb-true, le-ltb, cases_lt, and_parts, cases_Bool}
use Rattle.std.proofs.lemmas.Slice.Eq.{bytes_eq-Decides}
use Rattle.gedcom_line.specs.Reading.{Parts, is_continuation}
use Rattle.gedcom_line.specs.Split.{Part}
use Rattle.gedcom_line.specs.Value.{meaning, value_of}
use Rattle.gedcom_line.proofs.Steps.{eqb_false, eqb_no}
use Rattle.gedcom_rules.specs.declared.standing.Role.{Role}
use Rattle.gedcom_rules.specs.Rules.{
  Progress,
  Standing,
  role_of,
  standing,
  parent,
  is_continued,
  is_charset_tag,
  is_version_tag,
  is_gedcom_tag,
  names_set,
  names_version,
  is_charset,
  is_version_value,
}
use Rattle.gedcom_tree.specs.Forest.{Item, mark_tag, own_line, own_raw, part_line}
use Rattle.gedcom_rules.specs.Continuing.{adds}
use Rattle.gedcom_rules.specs.Judging.{continue_at, above_after, after}
use Rattle.gedcom_tree.specs.Text.{IsNodeOf, is_called, is_charset_node, is_version_node}
use Rattle.gedcom_rules.proofs.Unbroken.{Unbroken}
use Rattle.gedcom_tree.proofs.Numbered.{mark_continues}
use Rattle.gedcom_tree.proofs.Alone.{charset_again, version_again}
use Rattle.gedcom_tree.proofs.Roles.{
  own_role,
  charset_role,
  gedcom_role,
  version_role,
  continued_charset,
  continued_version,
}
use Rattle.std.proofs.Math.Bool.{and-false, and-true, or-true}
use Rattle.gedcom_rules.proofs.Bools.{counted}

-- What is left for the nodes is, where the last node is of the level, h tells that the header goes on, and u that the
-- last node of level 1 is GEDC.
pub record Stands (q : Progress) (level : ℕ) (h u : Bool) (is : List Item) : Type 0 where
  pub count : eqb q.count 0 ≡ false
  pub done : q.done ≡ false
  pub last : level ≤ q.last
  pub in_head : q.in_head ≡ h
  pub open_ : (k : ℕ) → k ≤ level → option_map_or (λ s. is_continued s.role) (q.above k) false ≡ false
  pub names : (x : List ℕ) → list_any (is_called x) is ≡ true → q.named x ≡ false
  pub gedcom : 1 ≤ level → h ≡ true → option_map_or (λ s. is_gedcom_tag s.role) (q.above 1) false ≡ u

-- what stands open below a deeper line keeps its role
pub above_below : (above : ℕ → Option Standing) (l : Parts) (n : ℕ) → n < l.level
    → above_after above l n ≡ option_map (continue_at n l) (above n)
above_below above l n h =
    let apart : eqb l.level n ≡ false = eqb_false l.level n (λ e. absurd (omega (arith, h, e))) in
    let deep : ltb l.level n ≡ false = le-ltb l.level n (omega (arith, h)) in
    rw (apart, deep) refl

pub above_own : (above : ℕ → Option Standing) (l : Parts) → above_after above l l.level ≡ Some (standing l [])
above_own above l = rw (eq-eqb l.level l.level refl) refl

role_kept : (f : Role → Bool) (n : ℕ) (l : Parts) (o : Option Standing) → option_map_or (λ s. f s.role)
    (option_map (continue_at n l) o) false ≡ option_map_or (λ s. f s.role) o false
role_kept f n l None = refl
role_kept f n l (Some s) = elim (cases_Bool (is_continuation l.tag && eqb l.level (n + 1)))
    [ inl e ↦ rw e refl | inr e ↦ rw e refl ]

role_below : (f : Role → Bool) (above : ℕ → Option Standing) (l : Parts) (n : ℕ) → n < l.level
    → option_map_or (λ s. f s.role) (above_after above l n) false ≡ option_map_or (λ s. f s.role) (above n) false
role_below f above l n h = ap (λ (o : Option Standing). option_map_or (λ s. f s.role) o false) (above_below above l n h)
    ∙ role_kept f n l (above n)

pub role_at : (f : Role → Bool) (above : ℕ → Option Standing) (l : Parts) (n : ℕ) → l.level ≡ n
    → option_map_or (λ s. f s.role) (above_after above l n) false ≡ f (role_of l.tag)
role_at f above l n h = rw (eq-eqb l.level n h) refl

-- a name of a node does not stand on those after it
pub name_apart : (o : Option (List ℕ)) (is : List Item) (x : List ℕ)
    → option_map_or (λ y. list_any (is_called y) is) o false ≡ false → list_any (is_called x) is ≡ true
    → option_map_or (bytes_eq x) o false ≡ false
name_apart None is x h k = refl
name_apart (Some y) is x h k = elim (cases_Bool (bytes_eq x y)) [
  | inr e ↦ e
  | inl e ↦
      let same : x ≡ y = (bytes_eq-Decides x y).0 e in
      let bad : list_any (is_called y) is ≡ true = subst (λ (z : List ℕ). list_any (is_called z) is ≡ true) same k in
      absurd cc
]

-- after the own line of a node
abbrev pub head_after : Bool → Item → Bool
head_after h i = h && not (eqb i.level 0)

abbrev pub gedcom_after : Bool → Item → Bool
gedcom_after u i = cond (eqb i.level 1) (bytes_eq i.tag (codes "GEDC")) u

open_after : (above : ℕ → Option Standing) (i : Item) (level : ℕ) → is_continuation i.tag ≡ false → i.level ≤ level + 1
    → ((k : ℕ) → k ≤ level → option_map_or (λ s. is_continued s.role) (above k) false ≡ false) → (k : ℕ) → k ≤ i.level
    → option_map_or (λ s. is_continued s.role) (above_after above (own_line i) k) false ≡ false
open_after above i level own rise h k le = elim (cases_lt k i.level) [
  | inl lt ↦ role_below is_continued above (own_line i) k lt ∙ h k (omega (arith, lt, rise))
  | inr ge ↦ role_at is_continued above (own_line i) k (omega (arith, ge, le)) ∙ own_role i.tag own
]

gedcom_own : (q : Progress) (level : ℕ) (h u : Bool) (i : Item) (is : List Item) → Stands q level h u (i ∷ is)
    → is_continuation i.tag ≡ false → i.level ≤ level + 1 → 1 ≤ i.level → h ≡ true
    → option_map_or (λ s. is_gedcom_tag s.role) (above_after q.above (own_line i) 1) false ≡ gedcom_after u i
gedcom_own q level h u i is s own rise ge hh = elim (cases_Bool (eqb i.level 1)) [
  | inl e ↦ role_at is_gedcom_tag q.above (own_line i) 1 (eqb-true i.level 1 e) ∙ gedcom_role i.tag own ∙ rw e refl
  | inr e ↦
      let other : i.level ≡ 1 → ⊥ = eqb_no i.level 1 e in
      role_below is_gedcom_tag q.above (own_line i) 1 (omega (arith, ge, other)) ∙ s.gedcom
      (omega (arith, ge, other, rise)) hh ∙ rw e refl
]

pub own_stands : (q : Progress) (level : ℕ) (h u : Bool) (i : Item) (is : List Item) → Stands q level h u (i ∷ is)
    → IsNodeOf i → i.level ≤ level + 1 → option_map_or (λ x. list_any (is_called x) is) i.xref false ≡ false
    → Stands (after q (own_line i)) i.level (head_after h i) (gedcom_after u i) is
own_stands q level h u i is s n rise apart = record {
  count = counted q.count;
  done = rw s.done n.other;
  last = omega arith;
  in_head = rw (s.count, s.in_head) refl;
  open_ = open_after q.above i level n.own rise s.open_;
  names = λ x k.
      let free : q.named x ≡ false = s.names x (rw k (or-true (is_called x i))) in
      rw free (name_apart i.xref is x apart k);
  gedcom = λ ge hh. gedcom_own q level h u i is s n.own rise ge (and_parts h (not (eqb i.level 0)) hh).0;
}

-- after a continuation
pub part_stands : (q : Progress) (level : ℕ) (h u : Bool) (is : List Item) (p : Part) → Stands q level h u is
    → Stands (after q (part_line (level + 1) p)) level h u is
part_stands q level h u is p s = record {
  count = counted q.count;
  done = rw (s.done, counted level) refl;
  last = omega arith;
  in_head = rw (s.count, s.in_head, counted level) (and-true h);
  open_ = λ k le. role_below is_continued q.above (part_line (level + 1) p) k (omega (arith, le)) ∙ s.open_ k le;
  names = λ x k. rw (s.names x k) refl;
  gedcom = λ ge hh. role_below is_gedcom_tag q.above (part_line (level + 1) p) 1 (omega (arith, ge)) ∙ s.gedcom ge hh;
}

abbrev pub text_of : Role → ℕ → Standing
text_of r room = record { role = r; text = true; room = room }

pub part_top : (q : Progress) (level room : ℕ) (r : Role) (p : Part) → q.above level ≡ Some (text_of r room)
    → (after q (part_line (level + 1) p)).above level ≡ Some
    (text_of r (room - length (adds (part_line (level + 1) p))))
part_top q level room r p top =
    let same : eqb (level + 1) (level + 1) ≡ true = eq-eqb (level + 1) (level + 1) refl in
    above_below q.above (part_line (level + 1) p) level (omega arith)
    ∙ ap (option_map (continue_at level (part_line (level + 1) p))) top ∙ rw (mark_continues p.mark, same) refl

-- what names neither the character set nor the version
pub no_set : (q : Progress) (level : ℕ) (r : Role) → is_charset_tag r ≡ false → names_set q level r ≡ false
no_set q level r h = rw h (and-false (q.in_head && eqb level 1))

pub no_version : (q : Progress) (level : ℕ) (r : Role) → is_version_tag r ≡ false → names_version q level r ≡ false
no_version q level r h = rw (h, and-false (q.in_head && eqb level 2)) refl

-- what a node of the header that names one of the two has
pub record Heads (h u : Bool) (i : Item) : Type 0 where
  pub charset : (h && eqb i.level 1 && bytes_eq i.tag (codes "CHAR")) ≡ true → is_charset_node i.value ≡ true
  pub version : (h && eqb i.level 2 && bytes_eq i.tag (codes "VERS") && u) ≡ true → is_version_node i.value ≡ true

pub set_is : (q : Progress) (level : ℕ) (h u : Bool) (i : Item) (is : List Item) → Stands q level h u is
    → is_continuation i.tag ≡ false → names_set q i.level (role_of i.tag)
    ≡ (h && eqb i.level 1 && bytes_eq i.tag (codes "CHAR"))
set_is q level h u i is s own = rw (s.in_head, charset_role i.tag own) refl

pub version_is : (q : Progress) (level : ℕ) (h u : Bool) (i : Item) (is : List Item) → Stands q level h u is
    → is_continuation i.tag ≡ false → i.level ≤ level + 1 → names_version q i.level (role_of i.tag)
    ≡ (h && eqb i.level 2 && bytes_eq i.tag (codes "VERS") && u)
version_is q level h u i is s own rise = elim (cases_Bool (h && eqb i.level 2)) [
  | inr e ↦ rw (s.in_head, e) refl
  | inl e ↦
      let r = and_parts h (eqb i.level 2) e in
      let two : i.level ≡ 2 = eqb-true i.level 2 r.1 in
      rw (s.in_head, version_role i.tag own, s.gedcom (omega (arith, two, rise)) r.0) refl
]

-- the own line of a node breaks no rule
name_free : (q : Progress) (i : Item) (is : List Item)
    → ((x : List ℕ) → list_any (is_called x) (i ∷ is) ≡ true → q.named x ≡ false)
    → option_map_or q.named i.xref false ≡ false
name_free q i is f = elim (i.xref) as (λ o. i.xref ≡ o → option_map_or q.named o false ≡ false) [
  | None ↦ λ e. refl
  | Some x ↦ λ e. f x (let same : bytes_eq x x ≡ true = (bytes_eq-Decides x x).1 refl in rw (e, same) refl)
] refl

own_above : (q : Progress) (level n : ℕ) → n ≤ level + 1
    → ((k : ℕ) → k ≤ level → option_map_or (λ s. is_continued s.role) (q.above k) false ≡ false)
    → option_map_or (λ s. is_continued s.role) (parent q n) false ≡ false
own_above q level n rise h = elim (cases_Bool (eqb n 0)) [
  | inl e ↦ rw e refl
  | inr e ↦ rw e (h (n - 1) (omega (arith, rise)))
]

own_charset : (q : Progress) (level : ℕ) (h u : Bool) (i : Item) (is : List Item) → Stands q level h u is → IsNodeOf i
    → Heads h u i → (names_set q i.level (role_of i.tag) && not (is_charset (own_raw i.value))) ≡ false
own_charset q level h u i is s n k = rw (set_is q level h u i is s n.own)
    (elim (cases_Bool (h && eqb i.level 1 && bytes_eq i.tag (codes "CHAR"))) [
      | inr e ↦ rw e refl
      | inl e ↦ let good : is_charset (own_raw i.value) ≡ true = (charset_again i.value (k.charset e)).reads in
          rw (e, good) refl
    ])

own_version : (q : Progress) (level : ℕ) (h u : Bool) (i : Item) (is : List Item) → Stands q level h u is → IsNodeOf i
    → i.level ≤ level + 1 → Heads h u i
    → (names_version q i.level (role_of i.tag) && not (is_version_value (value_of (own_line i)))) ≡ false
own_version q level h u i is s n rise k = rw (version_is q level h u i is s n.own rise)
    (elim (cases_Bool (h && eqb i.level 2 && bytes_eq i.tag (codes "VERS") && u)) [
      | inr e ↦ rw e refl
      | inl e ↦
          let good : is_version_value (meaning (own_raw i.value))
          ≡ true = (version_again i.value n.value (k.version e)).reads in
          rw (e, n.own, good) refl
    ])

pub own_unbroken : (q : Progress) (level : ℕ) (h u : Bool) (i : Item) (is : List Item) → Stands q level h u (i ∷ is)
    → IsNodeOf i → i.level ≤ level + 1 → Heads h u i → Unbroken q (own_line i)
own_unbroken q level h u i is s n rise k = record {
  done = s.done;
  head = rw s.count refl;
  jump = le-ltb (q.last + 1) i.level (omega (arith, s.last, rise));
  above = own_above q level i.level rise s.open_;
  goes_on = rw n.own refl;
  name = name_free q i is s.names;
  room = rw n.own refl;
  charset = own_charset q level h u i (i ∷ is) s n k;
  version = own_version q level h u i (i ∷ is) s n rise k;
}

-- a continuation breaks no rule
pub part_unbroken : (q : Progress) (level room : ℕ) (h u : Bool) (is : List Item) (r : Role) (p : Part)
    → Stands q level h u is → q.above level ≡ Some (text_of r room) → is_continued r ≡ false
    → names_set q level r ≡ false → names_version q level r ≡ false → length (adds (part_line (level + 1) p)) ≤ room
    → Unbroken q (part_line (level + 1) p)
part_unbroken q level room h u is r p s top role set version fits =
    let back : level + 1 - 1 ≡ level = omega arith in
    let at : parent q (level + 1) ≡ Some (text_of r room) = rw (counted level, back) top in
    let continues : is_continuation (mark_tag p.mark) ≡ true = mark_continues p.mark in
    let no_s : names_set q (level + 1) (role_of (mark_tag p.mark)) ≡ false = no_set q (level + 1)
    (role_of (mark_tag p.mark)) (continued_charset (mark_tag p.mark) continues) in
    let no_v : names_version q (level + 1) (role_of (mark_tag p.mark)) ≡ false = no_version q (level + 1)
    (role_of (mark_tag p.mark)) (continued_version (mark_tag p.mark) continues) in
    record {
      done = s.done;
      head = rw s.count refl;
      jump = le-ltb (q.last + 1) (level + 1) (omega (arith, s.last));
      above = rw at role;
      goes_on = rw (continues, at, back, set, version) refl;
      name = refl;
      room = rw (continues, at) (le-ltb room (length (adds (part_line (level + 1) p))) fits);
      charset = rw no_s refl;
      version = rw no_v refl;
    }
