-- What a position names stands at the number that it becomes, and is of the kind that is wanted.
use Rattle.std.proofs.Common.{
  ◌≡◌,
  ◌⊎◌,
  ℕ,
  zero,
  suc,
  ◌<◌,
  ◌==◌,
  Bool,
  true,
  false,
  List,
  [],
  ◌∷◌,
  ◌++◌,
  length,
  refl,
  sym,
  ap,
  ◌∙◌,
  subst,
  inl,
  inr,
  arith,
}
use Rattle.std.specs.Prelude.{Option, Some, None, map, option_map, bytes_eq, codes}
use Rattle.std.specs.FinMap.{get}
use Rattle.std.specs.List.{flat_map, slice_get}
use Rattle.std.specs.Option.{unwrap_or}
use Rattle.std.proofs.lemmas.Bool.{eq-eqb, eqb-true, or_parts}
use Rattle.std.proofs.lemmas.List.{map-append}
use Rattle.stored_lines.specs.Line.{Line, Lines}
use Rattle.stored_lines.specs.Tree.{Tree}
use Rattle.record_kinds.specs.Model as model
use Rattle.record_kinds.specs.declared.record.Record.{Record}
use Rattle.record_kinds.specs.declared.record.Record.TheVariants as kind
use Rattle.archive_state.specs.Links.{
  Link,
  a_cited,
  a_holder,
  a_person,
  a_place,
  a_repo,
  a_source,
  at_level_0,
  carried_links,
  child_links,
  is_wanted,
  links,
  partner_links,
}
use Rattle.record_shapes.specs.Forms.{tag_of}
use Rattle.record_shapes.specs.Lists.{EachOf, IsOnce}
use Rattle.record_shapes.specs.Members.{members}
use Rattle.archive_state.specs.Content.{Records}
use Rattle.archive_state.specs.Merging.{child_with, family_with, partner_with, record_with}
use Rattle.archive_state.specs.Sound.{Stands}
use Rattle.import_definitions.specs.Made.{drawing}
use Rattle.import_definitions.specs.Numbers.{Places, owned_by}
use Rattle.import_definitions.specs.Positions.{known, tag_at}
use Rattle.imports.proofs.Agreeing.{at_node, f}
use Rattle.imports.proofs.Links.{Names}
use Rattle.imports.proofs.ReadFamilies.{map_by}
use Rattle.archive_state.proofs.RenumberedLinks.{links_moved, moved}
use Rattle.imports.proofs.Rooted.{There}
use Rattle.record_shapes.proofs.Each.{each_back, each_both, each_front, each_more, each_mapped, has}
use Rattle.list_laws.proofs.Booleans.{or_none}

-- a record that is wanted as another is
record IsWantedAs (old r : Record) : Type 0 where
  place : is_wanted a_place old ≡ is_wanted a_place r
  repo : is_wanted a_repo old ≡ is_wanted a_repo r
  source : is_wanted a_source old ≡ is_wanted a_source r
  person : is_wanted a_person old ≡ is_wanted a_person r
  level_0 : is_wanted at_level_0 old ≡ is_wanted at_level_0 r

wanted_as : (g : ℕ → ℕ) (r : Record) → IsWantedAs r (owned_by 0 (record_with g r))
wanted_as g (kind.Place x) = record { place = refl; repo = refl; source = refl; person = refl; level_0 = refl }
wanted_as g (kind.Repo x) = record { place = refl; repo = refl; source = refl; person = refl; level_0 = refl }
wanted_as g (kind.Source x) = record { place = refl; repo = refl; source = refl; person = refl; level_0 = refl }
wanted_as g (kind.Person x) = record { place = refl; repo = refl; source = refl; person = refl; level_0 = refl }
wanted_as g (kind.Family x) = record { place = refl; repo = refl; source = refl; person = refl; level_0 = refl }
wanted_as g (kind.Citation x) = record { place = refl; repo = refl; source = refl; person = refl; level_0 = refl }
wanted_as g (kind.Event x) = record { place = refl; repo = refl; source = refl; person = refl; level_0 = refl }
wanted_as g (kind.Entry x) = record { place = refl; repo = refl; source = refl; person = refl; level_0 = refl }
wanted_as g (kind.Other x) = record { place = refl; repo = refl; source = refl; person = refl; level_0 = refl }

some_at : {A : Type 0} (xs : List A) (k : ℕ) → k < length xs → (x : A) × (slice_get xs k ≡ Some x)
some_at [] k less = absurd (omega arith)
some_at (x ∷ xs) zero less = (x, refl)
some_at (x ∷ xs) (suc k) less = some_at xs k (omega arith)

module _ (A : Records) (w : Places) (next : ℕ) (rs : Lines)
    (all : EachOf (There A w (drawing next w rs)) (drawing next w rs).drawn) (zero_none : get A 0 ≡ None) where
  abbrev g : ℕ → ℕ
  g k = f A w next rs all zero_none k

  -- a position with a node
  abbrev pub IsThere : ℕ → Type 0
  IsThere k = (r : Tree Line) × (slice_get rs k ≡ Some r)

  -- what has a tag is a node
  pub tagged_there : (k : ℕ) (word : List ℕ) → bytes_eq (tag_at rs k) word ≡ true → (bytes_eq [] word ≡ false)
      → (r : Tree Line) × (slice_get rs k ≡ Some r) × (bytes_eq (tag_of r) word ≡ true)
  tagged_there k word e lacks = by (slice_get rs k) refl
    where
      by : (o : Option (Tree Line)) → slice_get rs k ≡ o
          → (r : Tree Line) × (slice_get rs k ≡ Some r) × (bytes_eq (tag_of r) word ≡ true)
      by None at =
          let empty : bytes_eq [] word ≡ true = sym (ap (λ (o : Option (Tree Line)).
          bytes_eq (unwrap_or (option_map tag_of o) []) word) at) ∙ e in
          let both : true ≡ false = sym empty ∙ lacks in absurd cc
      by (Some r) at = (
        r,
        at,
        sym (ap (λ (o : Option (Tree Line)).
            bytes_eq (unwrap_or (option_map tag_of o) []) word) at) ∙ e,
      )

  pub link_stands : (l : Link) → Names (known rs) (length rs) l → Stands A (moved g l)
  link_stands (n, a_place) h =
      let there = tagged_there n (codes "_LOC") h refl in
      let root = at_node A w next rs all zero_none n there.0 there.1 in
      ap (option_map (is_wanted a_place)) root.stands
      ∙ ap Some (sym (wanted_as g root.root.own).place ∙ ap (is_wanted a_place) (root.root.fits.loc there.2))
  link_stands (n, a_repo) h =
      let there = tagged_there n (codes "REPO") h refl in
      let root = at_node A w next rs all zero_none n there.0 there.1 in
      ap (option_map (is_wanted a_repo)) root.stands
      ∙ ap Some (sym (wanted_as g root.root.own).repo ∙ root.root.fits.repo there.2)
  link_stands (n, a_source) h =
      let there = tagged_there n (codes "SOUR") h refl in
      let root = at_node A w next rs all zero_none n there.0 there.1 in
      ap (option_map (is_wanted a_source)) root.stands
      ∙ ap Some (sym (wanted_as g root.root.own).source ∙ root.root.fits.source there.2)
  link_stands (n, a_person) h =
      let there = tagged_there n (codes "INDI") h refl in
      let root = at_node A w next rs all zero_none n there.0 there.1 in
      ap (option_map (is_wanted a_person)) root.stands
      ∙ ap Some (sym (wanted_as g root.root.own).person ∙ root.root.fits.person there.2)
  link_stands (n, at_level_0) h =
      let there = some_at rs n h in
      let root = at_node A w next rs all zero_none n there.0 there.1 in
      ap (option_map (is_wanted at_level_0)) root.stands
      ∙ ap Some (sym (wanted_as g root.root.own).level_0 ∙ root.root.fits.level_0)
  link_stands (n, a_holder) h = absurd h
  link_stands (n, a_cited) h = absurd h

  pub links_stand : (ls : List Link) → EachOf (Names (known rs) (length rs)) ls → EachOf (Stands A) (map (moved g) ls)
  links_stand ls h = each_mapped (Stands A) (moved g) ls
      (each_more (Names (known rs) (length rs)) (λ l. Stands A (moved g l)) link_stands ls h)

  pub record_stands : (r : Record) → EachOf (Names (known rs) (length rs)) (links r)
      → EachOf (Stands A) (links (record_with g r))
  record_stands r h = subst (EachOf (Stands A)) (sym (links_moved g r)) (links_stand (links r) h)

  -- ---- two positions become two numbers
  pub apart : (a b : ℕ) → IsThere a → IsThere b → g a ≡ g b → a ≡ b
  apart a b ha hb e =
      elim (order a b) as (λ _. a ≡ b) [
        | inl same ↦ same
        | inr r ↦ elim r as (λ _. a ≡ b) [
          | inl less ↦
              let up : g a < g b = (at_node A w next rs all zero_none b hb.0 hb.1).later a less in absurd (omega arith)
          | inr less ↦
              let up : g b < g a = (at_node A w next rs all zero_none a ha.0 ha.1).later b less in absurd (omega arith)
        ]
      ]
    where
      order : (a b : ℕ) → (a ≡ b) ⊎ ((a < b) ⊎ (b < a))
      order a b = grind arith

  has_mapped : (n : ℕ) (ns : List ℕ) → IsThere n → EachOf IsThere ns → has n ns ≡ false
      → has (g n) (map g ns) ≡ false
  has_mapped n [] hn h e = refl
  has_mapped n (m ∷ ns) hn h e =
      let parts = or_parts (m == n) (has n ns) e in
      or_none (g m == g n) (has (g n) (map g ns)) (other (m == n) refl parts.0) (has_mapped n ns hn h.1 parts.1)
    where
      other : (b : Bool) → (m == n) ≡ b → b ≡ false → (g m == g n) ≡ false
      other b is differs = elim (g m == g n) as (λ v. (g m == g n) ≡ v → v ≡ false) [
        | true ↦ λ same.
            let e : m ≡ n = apart m n h.0 hn (eqb-true (g m) (g n) same) in
            let yes : (m == n) ≡ true = eq-eqb m n e in
            let both : true ≡ false = sym yes ∙ is ∙ differs in absurd cc
        | false ↦ λ same. refl
      ] refl

  once_mapped : (ns : List ℕ) → EachOf IsThere ns → IsOnce ns → IsOnce (map g ns)
  once_mapped [] h o = tt
  once_mapped (n ∷ ns) h o = (has_mapped n ns h.0 h.1 o.0, once_mapped ns h.1 o.1)

  -- ---- members of a family
  person_there : (n : ℕ) → Names (known rs) (length rs) (n, a_person) → IsThere n
  person_there n h = let there = tagged_there n (codes "INDI") h refl in (there.0, there.1)

  partners_there : (ps : List model.Partner) → EachOf (Names (known rs) (length rs)) (flat_map partner_links ps)
      → EachOf IsThere (map (λ (p : model.Partner). p.person) ps)
  partners_there [] h = tt
  partners_there (p ∷ ps) h = (
    person_there p.person h.0,
    partners_there ps (each_back (Names (known rs) (length rs))
        (carried_links p.carried ++ carried_links p.carried_by_person) (flat_map partner_links ps) h.1),
  )

  children_there : (cs : List model.Child) → EachOf (Names (known rs) (length rs)) (flat_map child_links cs)
      → EachOf IsThere (map (λ (c : model.Child). c.person) cs)
  children_there [] h = tt
  children_there (c ∷ cs) h = (
    person_there c.person h.0,
    children_there cs (each_back (Names (known rs) (length rs))
        (carried_links c.carried ++ carried_links c.carried_by_person) (flat_map child_links cs) h.1),
  )

  pub family_once : (x : model.Family) → EachOf (Names (known rs) (length rs)) (links (kind.Family x))
      → IsOnce (members x) → IsOnce (members (family_with g x))
  family_once x h o =
      let N : Link → Type 0 = Names (known rs) (length rs) in
      let ps : List ℕ = map (λ (p : model.Partner). p.person) x.partners in
      let cs : List ℕ = map (λ (c : model.Child). c.person) x.children in
      let rest : EachOf N (flat_map child_links x.children ++ carried_links x.carried) =
      each_back N (flat_map partner_links x.partners) (flat_map child_links x.children ++ carried_links x.carried) h in
      let there : EachOf IsThere (members x) = each_both IsThere ps cs
      (partners_there x.partners (each_front N (flat_map partner_links x.partners)
      (flat_map child_links x.children ++ carried_links x.carried) h))
      (children_there x.children (each_front N (flat_map child_links x.children) (carried_links x.carried) rest)) in
      let by_partner : map (λ (p : model.Partner). p.person) (map (partner_with g) x.partners) ≡ map g ps =
      map_by (λ (p : model.Partner). p.person) (partner_with g) (λ (p : model.Partner). g p.person)
      (λ p. refl) x.partners
      ∙ sym (map_by g (λ (p : model.Partner). p.person) (λ (p : model.Partner). g p.person) (λ p. refl) x.partners) in
      let by_child : map (λ (c : model.Child). c.person) (map (child_with g) x.children) ≡ map g cs =
      map_by (λ (c : model.Child). c.person) (child_with g) (λ (c : model.Child). g c.person) (λ c. refl) x.children
      ∙ sym (map_by g (λ (c : model.Child). c.person) (λ (c : model.Child). g c.person) (λ c. refl) x.children) in
      subst IsOnce (sym ((λ i. by_partner i ++ by_child i) ∙ sym (map-append g ps cs)))
      (once_mapped (members x) there o)
