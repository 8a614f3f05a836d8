-- The nodes of the header name a character set and a version that are read.
use Rattle.std.proofs.Common.{
  ◌≡◌,
  ℕ,
  ◌+◌,
  ◌<◌,
  Bool,
  true,
  false,
  cond,
  eqb,
  not,
  ◌&&◌,
  ◌||◌,
  List,
  [],
  ◌∷◌,
  ◌++◌,
  append-nil,
  refl,
  sym,
  ap,
  ◌∙◌,
  subst,
  inl,
  inr,
  ◌⊎◌,
  arith,
  Option,
  Some,
  None,
  codes,
}
use Rattle.std.specs.Prelude.{is_some}
use Rattle.std.specs.Option.{option_map_or}
use Rattle.std.specs.List.{list_all, list_any}
use Rattle.std.specs.Str.{bytes_eq}
use Rattle.std.proofs.lemmas.Bool.{eqb-true, not-true, not-false, and_parts, cases_Bool}
use Rattle.std.proofs.lemmas.Bool.Decides.{nat_tests}
use Rattle.gedcom_line.specs.Reading.{Parts, is_continuation}
use Rattle.gedcom_line.specs.Escape.{unescaped}
use Rattle.gedcom_line.specs.Spelling.{is_inner, IsInner}
use Rattle.gedcom_line.specs.Value.{Text, Pointer, meaning, value_of, pointer_in}
use Rattle.gedcom_line.proofs.Steps.{eqb_no}
use Rattle.gedcom_rules.specs.Rules.{
  Progress,
  Standing,
  parent,
  role_of,
  is_continued,
  is_charset_tag,
  is_gedcom_tag,
  is_version_tag,
  names_set,
  names_version,
  is_charset,
  is_version,
  is_version_value,
}
use Rattle.gedcom_rules.specs.Continuing.{belongs}
use Rattle.gedcom_tree.specs.Forest.{continued, forest_of}
use Rattle.gedcom_rules.specs.Judging.{after}
use Rattle.gedcom_tree.specs.Text.{is_charset_node, is_version_node, keeps_header}
use Rattle.gedcom_rules.proofs.Unbroken.{Unbroken}
use Rattle.gedcom_tree.proofs.Fitting.{Fit, Fits, above_own}
use Rattle.gedcom_tree.proofs.Valued.{unescaped_each}
use Rattle.gedcom_tree.proofs.Named.{continued_open}
use Rattle.gedcom_tree.proofs.Closed.{role_above, in_head_kept, set_none, version_none}
use Rattle.gedcom_tree.proofs.Charsets.{charset_unescaped, charset_no_pointer}
use Rattle.gedcom_rules.proofs.Bools.{counted}
use Rattle.list_laws.proofs.Bytes.{bytes_same}

-- a test that must hold where the others do
unless_three : (a b c v : Bool) → (a ≡ true → b ≡ true → c ≡ true → v ≡ true) → (a && b && c && not v) ≡ false
unless_three true true true v h = rw (h refl refl refl) refl
unless_three true true false v h = refl
unless_three true false c v h = refl
unless_three false b c v h = refl

unless_four : (a b c d v : Bool) → (a ≡ true → b ≡ true → c ≡ true → d ≡ true → v ≡ true)
    → (a && b && c && d && not v) ≡ false
unless_four true true true true v h = rw (h refl refl refl refl) refl
unless_four true true true false v h = refl
unless_four true true false d v h = refl
unless_four true false c d v h = refl
unless_four false b c d v h = refl

implied : (a b : Bool) → (a && not b) ≡ false → a ≡ true → b ≡ true
implied true b e h = not-false b e
implied false b e h = absurd cc

set_role : (t : List ℕ) → bytes_eq t (codes "CHAR") ≡ true → is_charset_tag (role_of t) ≡ true
set_role t e = rw (bytes_same t (codes "CHAR") e) refl

gedcom_role : (t : List ℕ) → bytes_eq t (codes "GEDC") ≡ true → is_gedcom_tag (role_of t) ≡ true
gedcom_role t e = rw (bytes_same t (codes "GEDC") e) refl

version_role : (t : List ℕ) → bytes_eq t (codes "VERS") ≡ true → is_version_tag (role_of t) ≡ true
version_role t e = rw (bytes_same t (codes "VERS") e) refl

-- the value of the line that names the character set
set_text : (raw : List ℕ) → is_charset raw ≡ true → is_charset_node (continued (meaning raw) []) ≡ true
set_text raw h =
    let text : continued (meaning raw) [] ≡ Text (unescaped raw ++ []) = rw (charset_no_pointer raw h) refl in
    let same : unescaped raw ++ [] ≡ raw = append-nil (unescaped raw) ∙ charset_unescaped raw h in
    ap is_charset_node (text ∙ ap Text same) ∙ h

set_value : (q : Progress) (l : Parts) (ls : List Parts) → eqb q.count 0 ≡ false → Fit q l → Fits (after q l) ls
    → names_set q l.level (role_of l.tag) ≡ true
    → is_charset_node (continued (meaning l.raw) (belongs l.level ls)) ≡ true
set_value q l ls c f g h =
    ap (λ (more : List Parts). is_charset_node (continued (meaning l.raw) more)) (set_none q l ls c h g)
    ∙ set_text l.raw (implied (names_set q l.level (role_of l.tag)) (is_charset l.raw) f.rules.charset h)

-- the value of the line that names the version
inner_no_lf : (x : ℕ) → is_inner x ≡ true → eqb x 10 ≡ false
inner_no_lf x h = grind (arith, nat_tests)

no_lf : (t : List ℕ) → list_all is_inner t ≡ true → list_any (λ b. eqb b 10) t ≡ false
no_lf [] h = refl
no_lf (x ∷ xs) h =
    let r = and_parts (is_inner x) (list_all is_inner xs) h in
    rw (inner_no_lf x r.0, no_lf xs r.1) refl

version_meant : (raw : List ℕ) (o : Option (List ℕ)) → IsInner raw
    → is_version_value (option_map_or Pointer o (Text raw)) ≡ true
    → is_version_node (continued (option_map_or Pointer o (Text raw)) []) ≡ true
version_meant raw (Some p) i h = refl
version_meant raw None i h =
    let none : list_any (λ b. eqb b 10) (unescaped raw) ≡ false = no_lf (unescaped raw)
    (unescaped_each is_inner raw i.each) in
    let same : unescaped raw ++ [] ≡ unescaped raw = append-nil (unescaped raw) in
    ap (λ (t : List ℕ). is_version t && not (list_any (λ b. eqb b 10) t)) same ∙ rw (h, none) refl

version_value : (q : Progress) (l : Parts) (ls : List Parts) → eqb q.count 0 ≡ false → Fit q l → Fits (after q l) ls
    → is_continuation l.tag ≡ false → names_version q l.level (role_of l.tag) ≡ true
    → is_version_node (continued (meaning l.raw) (belongs l.level ls)) ≡ true
version_value q l ls c f g own h =
    let value : value_of l ≡ meaning l.raw = rw own refl in
    let good : is_version_value (meaning l.raw) ≡ true = ap is_version_value (sym value)
    ∙ implied (names_version q l.level (role_of l.tag)) (is_version_value (value_of l)) f.rules.version h in
    ap (λ (more : List Parts). is_version_node (continued (meaning l.raw) more)) (version_none q l ls c h g)
    ∙ version_meant l.raw (pointer_in l.raw) f.line.raw good

-- while the last node of level 1 is GEDC, its line stands open at level 1, or a continuation below which nothing may
-- stand
abbrev pub Under : Progress → Bool → Type 0
Under q under = q.in_head ≡ true → under ≡ true → (option_map_or (λ s. is_gedcom_tag s.role) (q.above 1) false ≡ true)
    ⊎ (option_map_or (λ s. is_continued s.role) (q.above 1) false ≡ true)

-- so a line of level 2 is below GEDC
below_gedcom : (q : Progress) (l : Parts) (under : Bool) → Unbroken q l → Under q under → q.in_head ≡ true
    → eqb l.level 2 ≡ true → under ≡ true → option_map_or (λ s. is_gedcom_tag s.role) (q.above 1) false ≡ true
below_gedcom q l under u b h two on = elim (b h on) [
  | inl g ↦ g
  | inr c ↦
      let level : l.level ≡ 2 = eqb-true l.level 2 two in
      let no_child : option_map_or (λ s. is_continued s.role) (q.above 1) false ≡ false = subst
      (λ (n : ℕ). option_map_or (λ s. is_continued s.role) (parent q n) false ≡ false) level u.above in
      absurd cc
]

-- a continuation is not at level 0
below_zero : (q : Progress) (l : Parts) → Unbroken q l → is_continuation l.tag ≡ true → eqb l.level 0 ≡ false
below_zero q l u c = elim (cases_Bool (eqb l.level 0)) [
  | inr e ↦ e
  | inl e ↦
      let g = u.goes_on in
      let bad : (is_some l.xref || true) ≡ false = rw (c, e) at g in
      absurd (clash (is_some l.xref) bad)
]
  where
    clash : (b : Bool) → (b || true) ≡ false → ⊥
    clash true e = absurd cc
    clash false e = absurd cc

in_head_before : (q : Progress) (l : Parts) → eqb q.count 0 ≡ false → (after q l).in_head ≡ true
    → (q.in_head ≡ true) × (eqb l.level 0 ≡ false)
in_head_before q l c h =
    let k : (q.in_head && not (eqb l.level 0)) ≡ true = rw c at h in
    let r = and_parts q.in_head (not (eqb l.level 0)) k in
    (r.0, not-true (eqb l.level 0) r.1)

-- a deeper line leaves what stands open at level 1
under_deeper : (q : Progress) (l : Parts) (under : Bool) → eqb q.count 0 ≡ false → Under q under → eqb l.level 1 ≡ false
    → Under (after q l) under
under_deeper q l under c u one = λ h on.
    let r = in_head_before q l c h in
    let other : l.level ≡ 1 → ⊥ = eqb_no l.level 1 one in
    let some : l.level ≡ 0 → ⊥ = eqb_no l.level 0 r.1 in
    let below : 1 < l.level = omega (arith, other, some) in
    elim (u r.0 on) [
      | inl g ↦ inl (role_above is_gedcom_tag q l 1 below ∙ g)
      | inr g ↦ inr (role_above is_continued q l 1 below ∙ g)
    ]

under_continuation : (q : Progress) (l : Parts) (under : Bool) → eqb q.count 0 ≡ false → Under q under
    → is_continuation l.tag ≡ true → Under (after q l) under
under_continuation q l under c u k = elim (cases_Bool (eqb l.level 1)) [
  | inr e ↦ under_deeper q l under c u e
  | inl e ↦ λ h on. inr (subst (λ (n : ℕ). option_map_or (λ s. is_continued s.role) ((after q l).above n) false ≡ true)
      (eqb-true l.level 1 e) (continued_open q l k))
]

gedcom_open : (q : Progress) (l : Parts) → l.level ≡ 1 → bytes_eq l.tag (codes "GEDC") ≡ true
    → option_map_or (λ s. is_gedcom_tag s.role) ((after q l).above 1) false ≡ true
gedcom_open q l e t =
    subst (λ (n : ℕ). option_map_or (λ s. is_gedcom_tag s.role) ((after q l).above n) false ≡ true) e
    (ap (λ (o : Option Standing). option_map_or (λ s. is_gedcom_tag s.role) o false) (above_own q l)
    ∙ gedcom_role l.tag t)

under_node : (q : Progress) (l : Parts) (under : Bool) → eqb q.count 0 ≡ false → Under q under
    → Under (after q l) (cond (eqb l.level 1) (bytes_eq l.tag (codes "GEDC")) under)
under_node q l under c u = elim (cases_Bool (eqb l.level 1)) [
  | inr e ↦ subst (Under (after q l)) (sym (ap (λ (b : Bool). cond b (bytes_eq l.tag (codes "GEDC")) under) e))
      (under_deeper q l under c u e)
  | inl e ↦ subst (Under (after q l)) (sym (ap (λ (b : Bool). cond b (bytes_eq l.tag (codes "GEDC")) under) e))
      (λ h on. inl (gedcom_open q l (eqb-true l.level 1 e) on))
]

-- the two tests of a node
node_set : (q : Progress) (l : Parts) (ls : List Parts) → eqb q.count 0 ≡ false → Fit q l → Fits (after q l) ls
    → (q.in_head && eqb l.level 1 && bytes_eq l.tag (codes "CHAR") && not
    (is_charset_node (continued (meaning l.raw) (belongs l.level ls)))) ≡ false
node_set q l ls c f g =
    unless_three q.in_head (eqb l.level 1) (bytes_eq l.tag (codes "CHAR"))
    (is_charset_node (continued (meaning l.raw) (belongs l.level ls))) (λ h e t.
    let r : is_charset_tag (role_of l.tag) ≡ true = set_role l.tag t in
    let named : names_set q l.level (role_of l.tag) ≡ true = rw (h, e, r) refl in
    set_value q l ls c f g named)

node_version : (q : Progress) (l : Parts) (ls : List Parts) (under : Bool) → eqb q.count 0 ≡ false → Fit q l
    → Fits (after q l) ls → is_continuation l.tag ≡ false → Under q under
    → (q.in_head && eqb l.level 2 && bytes_eq l.tag (codes "VERS") && under && not
    (is_version_node (continued (meaning l.raw) (belongs l.level ls)))) ≡ false
node_version q l ls under c f g own u =
    unless_four q.in_head (eqb l.level 2) (bytes_eq l.tag (codes "VERS")) under
    (is_version_node (continued (meaning l.raw) (belongs l.level ls))) (λ h e t on.
    let r : is_version_tag (role_of l.tag) ≡ true = version_role l.tag t in
    let b : option_map_or (λ s. is_gedcom_tag s.role) (q.above 1) false ≡ true = below_gedcom q l under
    f.rules u h e on in
    let named : names_version q l.level (role_of l.tag) ≡ true = rw (h, e, r, b) refl in
    version_value q l ls c f g own named)

pub fits_header : (n : ℕ) (q : Progress) (ls : List Parts) (under : Bool) → eqb q.count 0 ≡ false → Under q under
    → Fits q ls → keeps_header q.in_head under (forest_of n ls) ≡ true
unfolding forest_of
fits_header n q [] under c u f = refl
fits_header n q (l ∷ ls) under c u f = elim (cases_Bool (is_continuation l.tag)) [
  | inl k ↦
      let level : eqb l.level 0 ≡ false = below_zero q l f.0.rules k in
      let some : 0 < l.level = omega (arith, eqb_no l.level 0 level) in
      let same : (after q l).in_head ≡ q.in_head = in_head_kept q l c some in
      let r : keeps_header (after q l).in_head under (forest_of (n + 1) ls) ≡ true = fits_header (n + 1)
      (after q l) ls under (counted q.count) (under_continuation q l under c u k) f.1 in
      rw k (subst (λ (b : Bool). keeps_header b under (forest_of (n + 1) ls) ≡ true) same r)
  | inr k ↦
      let inside : (after q l).in_head ≡ (q.in_head && not (eqb l.level 0)) = rw c refl in
      let r : keeps_header (after q l).in_head (cond (eqb l.level 1) (bytes_eq l.tag (codes "GEDC")) under)
      (forest_of (n + 1) ls) ≡ true = fits_header (n + 1) (after q l) ls
      (cond (eqb l.level 1) (bytes_eq l.tag (codes "GEDC")) under) (counted q.count)
      (under_node q l under c u) f.1 in
      rw (k, node_set q l ls c f.0 f.1, node_version q l ls under c f.0 f.1 k u)
      (subst (λ (b : Bool). keeps_header b (cond (eqb l.level 1) (bytes_eq l.tag (codes "GEDC")) under)
      (forest_of (n + 1) ls) ≡ true) inside r)
]
