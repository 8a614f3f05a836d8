-- Lines that nothing goes on with: pointers, and the two lines of the header that name a character set and a version.
use Rattle.std.proofs.Common.{
  ◌≡◌,
  ℕ,
  ◌+◌,
  ◌-◌,
  ◌<◌,
  Bool,
  true,
  false,
  eqb,
  ltb,
  not,
  ◌&&◌,
  ◌||◌,
  List,
  [],
  ◌∷◌,
  refl,
  ap,
  ◌∙◌,
  subst,
  inl,
  inr,
  arith,
  Option,
  Some,
  None,
}
use Rattle.std.specs.Prelude.{option_map, is_some}
use Rattle.std.specs.Option.{option_map_or}
use Rattle.std.proofs.lemmas.Bool.{eqb-true, ltb-true, and_parts, cases_Bool}
use Rattle.gedcom_line.specs.Reading.{Parts, is_continuation}
use Rattle.gedcom_line.specs.Value.{value_of}
use Rattle.gedcom_line.proofs.Steps.{eqb_false}
use Rattle.gedcom_rules.specs.declared.standing.Role.{Role}
use Rattle.gedcom_rules.specs.Rules.{
  Progress,
  Standing,
  standing,
  parent,
  role_of,
  is_text,
  is_gedcom_tag,
  is_version_tag,
  is_charset_tag,
  names_set,
  names_version,
  may_go_on,
}
use Rattle.gedcom_rules.specs.Continuing.{belongs}
use Rattle.gedcom_rules.specs.Judging.{continue_at, after}
use Rattle.gedcom_rules.proofs.Unbroken.{Unbroken}
use Rattle.gedcom_rules.proofs.Bools.{counted}
use Rattle.gedcom_tree.proofs.Fitting.{Fits, above_own, above_deeper, above_kept, parent_at}
use Rattle.std.proofs.Math.Bool.{and-true}

-- what a tag is known by stays as a line is continued
pub role_kept : (test : Role → Bool) (n : ℕ) (l : Parts) (o : Option Standing)
    → option_map_or (λ s. test s.role) (option_map (continue_at n l) o) false ≡ option_map_or (λ s. test s.role) o false
role_kept test n l None = refl
role_kept test n l (Some s) = elim (cases_Bool (is_continuation l.tag && eqb l.level (n + 1)))
    [ inl e ↦ rw e refl | inr e ↦ rw e refl ]

pub role_above : (test : Role → Bool) (q : Progress) (l : Parts) (n : ℕ) → n < l.level
    → option_map_or (λ s. test s.role) ((after q l).above n) false ≡ option_map_or (λ s. test s.role) (q.above n) false
role_above test q l n h = ap (λ (o : Option Standing). option_map_or (λ s. test s.role) o false) (above_deeper q l n h)
    ∙ role_kept test n l (q.above n)

-- a line below level 0 stays inside the header
pub in_head_kept : (q : Progress) (l : Parts) → eqb q.count 0 ≡ false → 0 < l.level → (after q l).in_head ≡ q.in_head
in_head_kept q l c h =
    let some : eqb l.level 0 ≡ false = eqb_false l.level 0 (λ e. absurd (omega (arith, e))) in
    rw (c, some) (and-true q.in_head)

names_set_kept : (q : Progress) (l : Parts) (n : ℕ) (r : Role) → eqb q.count 0 ≡ false → 0 < l.level
    → names_set (after q l) n r ≡ names_set q n r
names_set_kept q l n r c h = ap (λ (b : Bool). b && eqb n 1 && is_charset_tag r) (in_head_kept q l c h)

mid_same : (a b c d e : Bool) → (b ≡ true → d ≡ e) → (a && b && c && d) ≡ (a && b && c && e)
mid_same true true c d e h = ap (λ (x : Bool). c && x) (h refl)
mid_same true false c d e h = refl
mid_same false b c d e h = refl

names_version_kept : (q : Progress) (l : Parts) (n : ℕ) (r : Role) → eqb q.count 0 ≡ false → 0 < l.level
    → (n ≡ 2 → 1 < l.level) → names_version (after q l) n r ≡ names_version q n r
names_version_kept q l n r c h k =
    ap (λ (b : Bool). b && eqb n 2 && is_version_tag r && option_map_or (λ s. is_gedcom_tag s.role)
    ((after q l).above 1) false) (in_head_kept q l c h)
    ∙ mid_same q.in_head (eqb n 2) (is_version_tag r)
    (option_map_or (λ s. is_gedcom_tag s.role) ((after q l).above 1) false)
    (option_map_or (λ s. is_gedcom_tag s.role) (q.above 1) false)
    (λ e. role_above is_gedcom_tag q l 1 (k (eqb-true n 2 e)))

pub may_go_on_kept : (q : Progress) (l : Parts) (n : ℕ) (s : Standing) → eqb q.count 0 ≡ false → 0 < l.level
    → (n ≡ 2 → 1 < l.level) → may_go_on (after q l) n s ≡ may_go_on q n s
may_go_on_kept q l n s c h k =
    ap (λ (b : Bool). s.text && not b && not (names_version (after q l) n s.role)) (names_set_kept q l n s.role c h)
    ∙ ap (λ (b : Bool). s.text && not (names_set q n s.role) && not b) (names_version_kept q l n s.role c h k)

-- a line cannot go on with what may not go on
refused : (q : Progress) (l : Parts) (n : ℕ) (s : Standing) → Unbroken q l → q.above n ≡ Some s
    → may_go_on q n s ≡ false → (is_continuation l.tag && eqb l.level (n + 1)) ≡ true → ⊥
refused q l n s u a m c =
    let r = and_parts (is_continuation l.tag) (eqb l.level (n + 1)) c in
    let above : parent q l.level ≡ Some s = parent_at q l.level n r.1 ∙ a in
    let k : l.level ≡ n + 1 = eqb-true l.level (n + 1) r.1 in
    let less : n ≡ l.level - 1 = omega arith in
    let closed : may_go_on q (l.level - 1) s ≡ false = subst (λ (x : ℕ). may_go_on q x s ≡ false) less m in
    let same : option_map_or (may_go_on q (l.level - 1)) (parent q l.level) false ≡ false = ap
    (λ (o : Option Standing). option_map_or (may_go_on q (l.level - 1)) o false) above ∙ closed in
    let bad : (is_continuation l.tag &&
    (is_some l.xref || not (option_map_or (may_go_on q (l.level - 1)) (parent q l.level) false))) ≡ true =
    clash (is_continuation l.tag) (is_some l.xref)
    (option_map_or (may_go_on q (l.level - 1)) (parent q l.level) false) r.0 same in
    let good = u.goes_on in
    absurd cc
  where
    clash : (x y z : Bool) → x ≡ true → z ≡ false → (x && (y || not z)) ≡ true
    clash x true z e f = rw e refl
    clash x false z e f = rw (e, f) refl

pub closed_none : (n : ℕ) (q : Progress) (ls : List Parts) (s : Standing) → eqb q.count 0 ≡ false → q.above n ≡ Some s
    → may_go_on q n s ≡ false → Fits q ls → belongs n ls ≡ []
closed_none n q [] s c a m f = refl
closed_none n q (l ∷ ls) s c a m f = elim (cases_Bool (ltb n l.level)) [
  | inr e ↦ rw e refl
  | inl e ↦ elim (cases_Bool (is_continuation l.tag && eqb l.level (n + 1))) [
    | inl k ↦ absurd (refused q l n s f.0.rules a m k)
    | inr k ↦
        let deep : n < l.level = ltb-true n l.level e in
        let kept : may_go_on (after q l) n s ≡ false = may_go_on_kept q l n s c (omega arith)
        (λ h. omega (arith, h, deep)) ∙ m in
        rw (e, k) (closed_none n (after q l) ls s (counted q.count) (above_kept q l n s deep k a) kept f.1)
  ]
]

-- after a line that may not go on itself
own_none : (q : Progress) (l : Parts) (ls : List Parts) → Fits (after q l) ls
    → may_go_on (after q l) l.level (standing l []) ≡ false → belongs l.level ls ≡ []
own_none q l ls f m = closed_none l.level (after q l) ls (standing l []) (counted q.count) (above_own q l) m f

-- nor with the line that names the character set
by_set : (a b c : Bool) → b ≡ true → (a && not b && not c) ≡ false
by_set true b c e = rw e refl
by_set false b c e = refl

pub set_none : (q : Progress) (l : Parts) (ls : List Parts) → eqb q.count 0 ≡ false
    → names_set q l.level (role_of l.tag) ≡ true → Fits (after q l) ls → belongs l.level ls ≡ []
set_none q l ls c h f =
    let level : l.level ≡ 1 = eqb-true l.level 1
    (and_parts q.in_head (eqb l.level 1)
    (and_parts (q.in_head && eqb l.level 1) (is_charset_tag (role_of l.tag)) h).0).1 in
    let named : names_set (after q l) l.level (role_of l.tag) ≡ true = names_set_kept q l l.level (role_of l.tag) c
    (omega arith) ∙ h in
    own_none q l ls f (by_set (is_text (value_of l)) (names_set (after q l) l.level (role_of l.tag))
    (names_version (after q l) l.level (role_of l.tag)) named)

-- nor with the line that names the version
by_version : (a b c : Bool) → c ≡ true → (a && not b && not c) ≡ false
by_version true true c e = refl
by_version true false c e = rw e refl
by_version false b c e = refl

version_level : (a b c d : Bool) → (a && b && c && d) ≡ true → b ≡ true
version_level true true c d e = refl
version_level true false c d e = absurd cc
version_level false b c d e = absurd cc

pub version_none : (q : Progress) (l : Parts) (ls : List Parts) → eqb q.count 0 ≡ false
    → names_version q l.level (role_of l.tag) ≡ true → Fits (after q l) ls → belongs l.level ls ≡ []
version_none q l ls c h f =
    let level : l.level ≡ 2 = eqb-true l.level 2
    (version_level q.in_head (eqb l.level 2) (is_version_tag (role_of l.tag))
    (option_map_or (λ s. is_gedcom_tag s.role) (q.above 1) false) h) in
    let named : names_version (after q l) l.level (role_of l.tag) ≡ true = names_version_kept q l l.level
    (role_of l.tag) c (omega arith) (λ e. omega arith) ∙ h in
    own_none q l ls f (by_version (is_text (value_of l)) (names_set (after q l) l.level (role_of l.tag))
    (names_version (after q l) l.level (role_of l.tag)) named)
