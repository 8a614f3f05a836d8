-- The continuations of a node keep the rules.
use Rattle.std.proofs.Common.{
  ◌≡◌,
  ℕ,
  ◌+◌,
  ◌-◌,
  ◌≤◌,
  Bool,
  false,
  eqb,
  ◌&&◌,
  List,
  [],
  ◌∷◌,
  ◌++◌,
  length,
  map,
  refl,
  sym,
  ap,
  ◌∙◌,
  subst,
  inl,
  inr,
  arith,
  append-nil,
  length-append,
  Some,
  codes,
}
use Rattle.std.specs.List.{flat_map}
use Rattle.std.specs.Str.{bytes_eq}
use Rattle.std.proofs.lemmas.Bool.{cases_Bool}
use Rattle.gedcom_line.specs.Reading.{Parts, is_continuation}
use Rattle.gedcom_line.specs.Split.{Part, canonical, added}
use Rattle.gedcom_line.specs.Value.{Text, Pointer}
use Rattle.gedcom_line.proofs.Cuts.{joined-canonical}
use Rattle.gedcom_line.proofs.Doubled.{unescaped-escaped}
use Rattle.gedcom_line.proofs.Pointers.{escaped_no_pointer}
use Rattle.gedcom_rules.specs.declared.standing.Role.{Role}
use Rattle.gedcom_rules.specs.Rules.{Progress, role_of, standing, is_continued, names_set, names_version, max_text}
use Rattle.gedcom_tree.specs.Forest.{Item, part_line, first_text, rest_parts, own_raw, more_parts, own_line}
use Rattle.gedcom_rules.specs.Continuing.{adds}
use Rattle.gedcom_rules.specs.Judging.{after}
use Rattle.gedcom_tree.specs.Text.{IsNodeValue, IsNodeOf}
use Rattle.gedcom_rules.proofs.Unbroken.{Unbroken, unbroken_none}
use Rattle.gedcom_tree.proofs.Lines.{Keeps}
use Rattle.gedcom_tree.proofs.Numbered.{part_adds, joined_first}
use Rattle.gedcom_tree.proofs.Parted.{PartsFit, more_fit, Written, written_fits, part_written}
use Rattle.gedcom_tree.proofs.Alone.{charset_again, version_again}
use Rattle.gedcom_tree.proofs.Roles.{own_role}
use Rattle.gedcom_tree.proofs.Kept.{Stands, part_stands, text_of, part_top, Heads, set_is, version_is, part_unbroken}

-- a line that breaks no rule, and those after it
pub keeps_line : (q : Progress) (l : Parts) (ls : List Parts) → Written l → Unbroken q l → Keeps (after q l) ls
    → Keeps q (l ∷ ls)
keeps_line q l ls w u k = (w.line, (written_fits l w, (unbroken_none q l u, k)))

-- the continuations of a text, where its node names nothing of the header
abbrev Unnamed : ℕ → Bool → Bool → List Item → Role → Type 0
Unnamed level h u is r = (p : Progress) → Stands p level h u is → (names_set p level r ≡ false)
    × (names_version p level r ≡ false)

parts_keep : (ps : List Part) (level room : ℕ) (h u : Bool) (is : List Item) (rest : List Parts) (r : Role)
    (q : Progress) → level ≤ 98 → PartsFit ps → is_continued r ≡ false → Unnamed level h u is r → Stands q level h u is
    → q.above level ≡ Some (text_of r room) → length (flat_map added ps) ≤ room
    → ((p : Progress) → Stands p level h u is → Keeps p rest) → Keeps q (map (part_line (level + 1)) ps ++ rest)
parts_keep [] level room h u is rest r q low f role unnamed s top fits k = k q s
parts_keep (p ∷ ps) level room h u is rest r q low f role unnamed s top fits k =
    let l : Parts = part_line (level + 1) p in
    let size : length (adds l) ≡ length (added p) = ap length (part_adds (level + 1) p) in
    let sum : length (flat_map added (p ∷ ps)) ≡ length (added p) + length (flat_map added ps) = length-append (added p)
    (flat_map added ps) in
    let n = unnamed q s in
    keeps_line q l (map (part_line (level + 1)) ps ++ rest)
    (part_written (level + 1) p (omega (arith, low)) f.inner.0 f.short.0)
    (part_unbroken q level room h u is r p s top role n.0 n.1 (omega (arith, size, sum, fits)))
    (parts_keep ps level (room - length (adds l)) h u is rest r (after q l) low
    (record { inner = f.inner.1; short = f.short.1 }) role unnamed (part_stands q level h u is p s)
    (part_top q level room r p top) (omega (arith, size, sum, fits)) k)

-- the node's own line stands open as a text, with room for its parts
text_top : (i : Item) (t : List ℕ) → i.value ≡ Text t → is_continuation i.tag ≡ false
    → standing (own_line i) [] ≡ text_of (role_of i.tag) (max_text - length (first_text (canonical t) ++ []))
text_top i t e own =
    let raw : own_raw i.value ≡ own_raw (Text t) = ap own_raw e in
    rw (own, raw, escaped_no_pointer (first_text (canonical t)), unescaped-escaped (first_text (canonical t))) refl

text_room : (t : List ℕ) → length t ≤ max_text → length (flat_map added (rest_parts (canonical t))) ≤ max_text - length
    (first_text (canonical t) ++ [])
text_room t h =
    let whole : first_text (canonical t) ++ flat_map added (rest_parts (canonical t)) ≡ t = joined_first (canonical t)
    ∙ joined-canonical t in
    let size : length t ≡ length (first_text (canonical t)) + length (flat_map added (rest_parts (canonical t))) = ap
    length (sym whole) ∙ length-append (first_text (canonical t)) (flat_map added (rest_parts (canonical t))) in
    let front : length (first_text (canonical t) ++ []) ≡ length (first_text (canonical t)) = ap length
    (append-nil (first_text (canonical t))) in
    omega (arith, h, size, front)

text_keeps : (i : Item) (t : List ℕ) (h u : Bool) (is : List Item) (rest : List Parts) (q : Progress) → i.value ≡ Text t
    → IsNodeOf i → Unnamed i.level h u is (role_of i.tag) → Stands q i.level h u is
    → q.above i.level ≡ Some (standing (own_line i) []) → ((p : Progress) → Stands p i.level h u is → Keeps p rest)
    → Keeps q (map (part_line (i.level + 1)) (more_parts (Text t)) ++ rest)
text_keeps i t h u is rest q e n unnamed s top k =
    let v : IsNodeValue (Text t) = subst IsNodeValue e n.value in
    parts_keep (rest_parts (canonical t)) i.level (max_text - length (first_text (canonical t) ++ [])) h u is rest
    (role_of i.tag) q n.low (more_fit (Text t) v) (own_role i.tag n.own) unnamed s
    (top ∙ ap Some (text_top i t e n.own)) (text_room t v.1.1) k

-- the continuations of a node, of which there are none where it names something of the header
alone_keeps : (i : Item) (q : Progress) (rest : List Parts) → more_parts i.value ≡ [] → Keeps q rest
    → Keeps q (map (part_line (i.level + 1)) (more_parts i.value) ++ rest)
alone_keeps i q rest e k = rw e k

pub more_keeps : (i : Item) (h u : Bool) (is : List Item) (rest : List Parts) (q : Progress) → IsNodeOf i → Heads h u i
    → Stands q i.level h u is → q.above i.level ≡ Some (standing (own_line i) [])
    → ((p : Progress) → Stands p i.level h u is → Keeps p rest)
    → Keeps q (map (part_line (i.level + 1)) (more_parts i.value) ++ rest)
more_keeps i h u is rest q n a s top k = elim (cases_Bool (h && eqb i.level 1 && bytes_eq i.tag (codes "CHAR"))) [
  | inl e ↦ alone_keeps i q rest (charset_again i.value (a.charset e)).alone (k q s)
  | inr e ↦ elim (cases_Bool (h && eqb i.level 2 && bytes_eq i.tag (codes "VERS") && u)) [
    | inl f ↦ alone_keeps i q rest (version_again i.value n.value (a.version f)).alone (k q s)
    | inr f ↦
        let unnamed : Unnamed i.level h u is
        (role_of i.tag) = (λ p w. (
          set_is p i.level h u i is w n.own ∙ e,
          version_is p i.level h u i is w n.own (omega arith) ∙ f,
        )) in
        elim (i.value) as (λ v. i.value ≡ v → Keeps q (map (part_line (i.level + 1)) (more_parts v) ++ rest)) [
          | Text t ↦ λ g. text_keeps i t h u is rest q g n unnamed s top k
          | Pointer p ↦ λ g. k q s
        ] refl
  ]
]
