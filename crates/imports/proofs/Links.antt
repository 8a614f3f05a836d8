-- What the numbers of what is read name, as positions of nodes; and the paths by which places are sought.
use Rattle.std.proofs.Common.{◌≡◌, ◌⊎◌, ℕ, ◌<◌, true, List, [], ◌∷◌, ◌++◌}
use Rattle.std.specs.Prelude.{Option, Some, None, IfSome, map, option_map, bytes_eq, codes}
use Rattle.std.specs.List.{flat_map}
use Rattle.stored_lines.specs.Line.{Line, Lines}
use Rattle.stored_lines.specs.Tree.{Tree, Forest, node, none, more, forest_of, list_of}
use Rattle.stored_lines.specs.declared.carried.Value.{Value}
use Rattle.stored_lines.specs.declared.carried.Value.TheVariants as value
use Rattle.record_kinds.specs.Model as model
use Rattle.record_kinds.specs.declared.record.Record.{Record}
use Rattle.record_kinds.specs.declared.record.Record.TheVariants as kind
use Rattle.archive_state.specs.Links.{
  Link,
  Wanted,
  a_cited,
  a_holder,
  a_person,
  a_place,
  a_repo,
  a_source,
  at_level_0,
  carried_links,
  forest_links,
  is_wanted,
  line_links,
  links,
  participant_links,
  value_links,
}
use Rattle.record_shapes.specs.declared.field.Field.{Field}
use Rattle.record_shapes.specs.Fields.{is_same}
use Rattle.record_shapes.specs.Forms.{Known, below, names_a, number_in}
use Rattle.record_shapes.specs.Lists.{EachOf}
use Rattle.record_shapes.specs.Paths.{has_part, is_within_limits, normal}
use Rattle.record_shapes.specs.Picking.{all_of}
use Rattle.record_shapes.specs.Reading.{Draft, read, sought}
use Rattle.imports.specs.Read.{PointsWithin}
use Rattle.imports.proofs.Clean.{IsClean}
use Rattle.imports.proofs.SoundLists.{each_filter, filter_holds}
use Rattle.record_shapes.proofs.Each.{each_back, each_both, each_front, each_more, each_zip, each_flat, each_mapped}

-- ---- links
-- what stands at the position has the tag that is wanted; one on a carried line is there; owners are judged apart
abbrev pub NamesAs : Known → ℕ → Wanted → ℕ → Type 0
NamesAs known count a_place n = bytes_eq (known.tag n) (codes "_LOC") ≡ true
NamesAs known count a_repo n = bytes_eq (known.tag n) (codes "REPO") ≡ true
NamesAs known count a_source n = bytes_eq (known.tag n) (codes "SOUR") ≡ true
NamesAs known count a_person n = bytes_eq (known.tag n) (codes "INDI") ≡ true
NamesAs known count at_level_0 n = n < count
NamesAs known count _ n = ⊥

abbrev pub Names : Known → ℕ → Link → Type 0
Names known count l = NamesAs known count l.1 l.0

abbrev pub OwnerIs : Wanted → Option Record → Type 0
OwnerIs w o = option_map (is_wanted w) o ≡ Some true

-- a path by which a place is sought
pub record IsPath (q : List ℕ) : Type 0 where
  pub normal_is : normal q ≡ q
  pub within : is_within_limits q ≡ true
  pub said : has_part q ≡ true
  pub clean : IsClean q

-- the place of an event: it is known, or it is sought
abbrev pub PlaceIs : Known → Option (List ℕ) → ℕ → Type 0
PlaceIs known None n = (q : List ℕ) × (known.path n ≡ Some q) × (has_part q ≡ true)
PlaceIs known (Some q) n = IsPath q

-- the links of a record that is read, with its owner and the path by which its place is sought; an event or a citation
-- has an owner by itself
abbrev pub NamesAll : Known → ℕ → Option Record → Option (List ℕ) → Record → Type 0
NamesAll known count o path (kind.Event e) =
    OwnerIs a_holder o
    × IfSome e.place (λ (p : model.EventPlace). PlaceIs known path p.place
    × EachOf (Names known count) (carried_links p.carried))
    × EachOf (Names known count) (flat_map participant_links e.participants ++ carried_links e.carried)
NamesAll known count o path (kind.Citation c) =
    OwnerIs a_cited o × NamesAs known count a_source c.source × EachOf (Names known count) (carried_links c.carried)
NamesAll known count o path (kind.Entry e) =
    (o ≡ None) × EachOf (Names known count) (links (kind.Entry e)) × IfSome e.place (PlaceIs known None)
NamesAll known count o path r = (o ≡ None) × EachOf (Names known count) (links r)

-- the path is sought at a node of a forest
abbrev pub IsSought : List ℕ → Forest Draft → Type 0
IsSought q none = ⊥
IsSought q (more (node (sought p) g) ts) = (p ≡ q) ⊎ IsSought q ts
IsSought q (more (node (read r path) g) ts) = IsSought q ts

abbrev mutual
  pub EachNamed : Known → ℕ → Option Record → Tree Draft → Type 0
  EachNamed known count o (node (read r path) f) =
      NamesAll known count o path r × IfSome path (λ q. IsSought q f) × AllNamed known count (Some r) f
  EachNamed known count o (node (sought q) f) = IsPath q

  pub AllNamed : Known → ℕ → Option Record → Forest Draft → Type 0
  AllNamed known count o none = Unit {0}
  AllNamed known count o (more t ts) = EachNamed known count o t × AllNamed known count o ts

pub named_both : (known : Known) (count : ℕ) (o : Option Record) (xs ys : List (Tree Draft))
    → AllNamed known count o (forest_of xs) → AllNamed known count o (forest_of ys)
    → AllNamed known count o (forest_of (xs ++ ys))
named_both known count o [] ys h k = k
named_both known count o (x ∷ xs) ys h k = (h.0, named_both known count o xs ys h.1 k)

-- ---- lines
module _ (known : Known) (count : ℕ) where
  abbrev pub Low : Tree Line → Type 0
  Low t = PointsWithin count t

  pub value_named : (v : Value) → EachOf (λ (l : Link). l.0 < count) (value_links v)
      → EachOf (Names known count) (value_links v)
  value_named (value.Text t) h = tt
  value_named (value.Ref n) h = (h.0, tt)

  mutual
    line_named : (t : Tree Line) → Low t → EachOf (Names known count) (line_links t)
    line_named (node l f) h = each_both (Names known count) (value_links l.value) (forest_links f)
        (value_named l.value (each_front (λ (l : Link). l.0 < count) (value_links l.value) (forest_links f) h))
        (forest_named f (each_back (λ (l : Link). l.0 < count) (value_links l.value) (forest_links f) h))

    forest_named : (f : Forest Line) → EachOf (λ (l : Link). l.0 < count) (forest_links f)
        → EachOf (Names known count) (forest_links f)
    forest_named none h = tt
    forest_named (more t ts) h = each_both (Names known count) (line_links t) (forest_links ts)
        (line_named t (each_front (λ (l : Link). l.0 < count) (line_links t) (forest_links ts) h))
        (forest_named ts (each_back (λ (l : Link). l.0 < count) (line_links t) (forest_links ts) h))

  pub lines_named : (ts : Lines) → EachOf Low ts → EachOf (Names known count) (carried_links ts)
  lines_named ts h = each_flat (Names known count) line_links ts
      (each_more Low (λ t. EachOf (Names known count) (line_links t)) line_named ts h)

  forest_low : (f : Forest Line) → EachOf (λ (l : Link). l.0 < count) (forest_links f) → EachOf Low (list_of f)
  forest_low none h = tt
  forest_low (more t ts) h = (
    each_front (λ (l : Link). l.0 < count) (line_links t) (forest_links ts) h,
    forest_low ts (each_back (λ (l : Link). l.0 < count) (line_links t) (forest_links ts) h),
  )

  pub below_low : (t : Tree Line) → Low t → EachOf Low (below t)
  below_low (node l f) h = forest_low f (each_back (λ (l : Link). l.0 < count) (value_links l.value) (forest_links f) h)

  -- the lines of a field, each of which is of it
  pub field_lines : (field : Tree Line → Field) (x : Field) (ts : Lines) → EachOf Low ts
      → EachOf (λ t. Low t × (is_same (field t) x ≡ true)) (all_of field x ts)
  field_lines field x ts h = each_zip Low (λ t. is_same (field t) x ≡ true) (λ t. Low t × (is_same (field t) x ≡ true))
      (λ t a b. (a, b)) (all_of field x ts) (each_filter Low (λ t. is_same (field t) x) ts h)
      (filter_holds (λ t. is_same (field t) x) ts)

  -- what is made of each
  pub made_of_each : {A : Type 0} (Q : Tree Line → Type 0) (P : A → Type 0) (g : Tree Line → A)
      → ((t : Tree Line) → Q t → P (g t)) → (ts : Lines) → EachOf Q ts → EachOf P (map g ts)
  made_of_each Q P g f ts h = each_mapped P g ts (each_more Q (λ t. P (g t)) f ts h)

-- a value that names one
pub named_a : (tag : List ℕ) (known : Known) (v : Value) → names_a tag known v ≡ true
    → bytes_eq (known.tag (number_in v)) tag ≡ true
named_a tag known (value.Text t) e = absurd cc
named_a tag known (value.Ref n) e = e
