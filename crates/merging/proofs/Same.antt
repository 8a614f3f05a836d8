-- A record that does not name the one that is gone is not changed.
use Rattle.std.proofs.Common.{◌≡◌, ℕ, List, [], ◌∷◌, ◌++◌, true, false, refl, ap, ◌∙◌, subst}
use Rattle.std.specs.Prelude.{map, Option, Some, None, option_map, ◌==◌, if◌then◌else◌}
use Rattle.std.specs.List.{flat_map, list_any}
use Rattle.std.proofs.lemmas.Bool.{or_parts, eqb-true}
use Rattle.stored_lines.specs.Tree.{Tree, Forest, node, none, more, relabel, relabel_all}
use Rattle.stored_lines.specs.Line.{Line, Lines}
use Rattle.stored_lines.specs.declared.carried.Value.{Value}
use Rattle.stored_lines.specs.declared.carried.Value.TheVariants as value
use Rattle.record_kinds.specs.Model as model
use Rattle.record_kinds.specs.declared.record.Record.{Record}
use Rattle.record_kinds.specs.declared.record.Record.TheVariants as kind
use Rattle.archive_state.specs.Links.{
  Link,
  Wanted,
  links,
  value_links,
  line_links,
  forest_links,
  carried_links,
  field_links,
  holding_links,
  name_links,
  partner_links,
  child_links,
  place_line_links,
  participant_links,
  mention_links,
  is_among,
  a_person,
  a_place,
}
use Rattle.archive_state.specs.Merging.{
  value_with,
  line_with,
  lines_with,
  holding_with,
  name_with,
  partner_with,
  child_with,
  event_place_with,
  participant_with,
  link_with,
  mention_with,
  record_with,
  renamed,
  once_child,
  child_of_all,
  others,
  once_in,
  joined_child,
}
use Rattle.record_shapes.specs.Lists.{EachOf, IsOnce}
use Rattle.archive_state.specs.Sound.{HasMembersOnce}
use Rattle.record_shapes.proofs.Each.{once_behind, each_front, each_back}

module _ (f : ℕ → ℕ) where
  abbrev pub Fixed : Link → Type 0
  Fixed l = f l.0 ≡ l.0

  map_same : {A : Type 0} (g : A → A) (h : A → List Link) → ((a : A) → EachOf Fixed (h a) → g a ≡ a) → (xs : List A)
      → EachOf Fixed (flat_map h xs) → map g xs ≡ xs
  map_same g h e [] k = refl
  map_same g h e (x ∷ xs) k = λ i. e x (each_front Fixed (h x) (flat_map h xs) k) i ∷ map_same g h e xs
      (each_back Fixed (h x) (flat_map h xs) k) i

  value_same : (v : Value) → EachOf Fixed (value_links v) → value_with f v ≡ v
  value_same (value.Text t) h = refl
  value_same (value.Ref n) h = ap value.Ref h.0

  mutual
    line_same : (t : Tree Line) → EachOf Fixed (line_links t) → relabel (line_with f) t ≡ t
    line_same (node l ts) h =
        λ i. node (record {
          tag = l.tag;
          value = value_same l.value (each_front Fixed (value_links l.value) (forest_links ts) h) i;
        })
        (forest_same ts (each_back Fixed (value_links l.value) (forest_links ts) h) i)

    forest_same : (ts : Forest Line) → EachOf Fixed (forest_links ts) → relabel_all (line_with f) ts ≡ ts
    forest_same none h = refl
    forest_same (more t ts) h = λ i. more (line_same t (each_front Fixed (line_links t) (forest_links ts) h) i)
        (forest_same ts (each_back Fixed (line_links t) (forest_links ts) h) i)

  lines_same : (ts : Lines) → EachOf Fixed (carried_links ts) → lines_with f ts ≡ ts
  lines_same ts h = map_same (relabel (line_with f)) line_links line_same ts h

  field_same : (w : Wanted) (o : Option ℕ) → EachOf Fixed (field_links w o) → option_map f o ≡ o
  field_same w None h = refl
  field_same w (Some n) h = ap Some h.0

  holding_same : (x : model.Holding) → EachOf Fixed (holding_links x) → holding_with f x ≡ x
  holding_same x h = λ i. record x { repo = h.0 i; carried = lines_same x.carried h.1 i }

  name_same : (x : model.Name) → EachOf Fixed (name_links x) → name_with f x ≡ x
  name_same x h = λ i. record x { carried = lines_same x.carried h i }

  partner_same : (x : model.Partner) → EachOf Fixed (partner_links x) → partner_with f x ≡ x
  partner_same x h = λ i. record x {
    person = h.0 i;
    carried = lines_same x.carried (each_front Fixed (carried_links x.carried) (carried_links x.carried_by_person) h.1)
        i;
    carried_by_person = lines_same x.carried_by_person
        (each_back Fixed (carried_links x.carried) (carried_links x.carried_by_person) h.1) i;
  }

  child_same : (x : model.Child) → EachOf Fixed (child_links x) → child_with f x ≡ x
  child_same x h = λ i. record x {
    person = h.0 i;
    carried = lines_same x.carried (each_front Fixed (carried_links x.carried) (carried_links x.carried_by_person) h.1)
        i;
    carried_by_person = lines_same x.carried_by_person
        (each_back Fixed (carried_links x.carried) (carried_links x.carried_by_person) h.1) i;
  }

  place_same : (o : Option model.EventPlace) → EachOf Fixed (place_line_links o) → option_map (event_place_with f) o ≡ o
  place_same None h = refl
  place_same (Some x) h = λ i. Some (record x { place = h.0 i; carried = lines_same x.carried h.1 i })

  participant_same : (x : model.Participant) → EachOf Fixed (participant_links x) → participant_with f x ≡ x
  participant_same x h = λ i. record x { person = h.0 i; carried = lines_same x.carried h.1 i }

  link_same : (o : Option model.Link)
      → EachOf Fixed (field_links a_person (option_map (λ (l : model.Link). l.person) o))
      → option_map (link_with f) o ≡ o
  link_same None h = refl
  link_same (Some l) h = λ i. Some (record l { person = h.0 i })

  mention_same : (x : model.Mention) → EachOf Fixed (mention_links x) → mention_with f x ≡ x
  mention_same x h = λ i. record x { link = link_same x.link h i }

  pub record_same : (r : Record) → EachOf Fixed (links r) → record_with f r ≡ r
  record_same (kind.Place x) h = λ i. kind.Place (record x {
    parent = field_same a_place x.parent (each_front Fixed (field_links a_place x.parent) (carried_links x.carried) h)
        i;
    carried = lines_same x.carried (each_back Fixed (field_links a_place x.parent) (carried_links x.carried) h) i;
  })
  record_same (kind.Repo x) h = λ i. kind.Repo (record x { carried = lines_same x.carried h i })
  record_same (kind.Source x) h = λ i. kind.Source (record x {
    holdings = map_same (holding_with f) holding_links holding_same x.holdings
        (each_front Fixed (flat_map holding_links x.holdings) (carried_links x.carried) h) i;
    carried = lines_same x.carried (each_back Fixed (flat_map holding_links x.holdings) (carried_links x.carried) h) i;
  })
  record_same (kind.Person x) h = λ i. kind.Person (record x {
    names = map_same (name_with f) name_links name_same x.names
        (each_front Fixed (flat_map name_links x.names) (carried_links x.carried) h) i;
    carried = lines_same x.carried (each_back Fixed (flat_map name_links x.names) (carried_links x.carried) h) i;
  })
  record_same (kind.Family x) h =
      let rest : EachOf Fixed (flat_map child_links x.children ++ carried_links x.carried) = each_back Fixed
      (flat_map partner_links x.partners) (flat_map child_links x.children ++ carried_links x.carried) h in
      λ i. kind.Family (record x {
        partners = map_same (partner_with f) partner_links partner_same x.partners
            (each_front Fixed (flat_map partner_links x.partners)
            (flat_map child_links x.children ++ carried_links x.carried) h) i;
        children = map_same (child_with f) child_links child_same x.children
            (each_front Fixed (flat_map child_links x.children) (carried_links x.carried) rest) i;
        carried = lines_same x.carried
            (each_back Fixed (flat_map child_links x.children) (carried_links x.carried) rest) i;
      })
  record_same (kind.Citation x) h = λ i. kind.Citation
      (record x { owner = h.0 i; source = h.1.0 i; carried = lines_same x.carried h.1.1 i })
  record_same (kind.Event x) h =
      let rest : EachOf Fixed (flat_map participant_links x.participants ++ carried_links x.carried) = each_back Fixed
      (place_line_links x.place) (flat_map participant_links x.participants ++ carried_links x.carried) h.1 in
      λ i. kind.Event (record x {
        owner = h.0 i;
        place = place_same x.place
            (each_front Fixed (place_line_links x.place)
            (flat_map participant_links x.participants ++ carried_links x.carried) h.1) i;
        participants = map_same (participant_with f) participant_links participant_same x.participants
            (each_front Fixed (flat_map participant_links x.participants) (carried_links x.carried) rest) i;
        carried = lines_same x.carried (each_back Fixed (flat_map participant_links x.participants)
            (carried_links x.carried) rest) i;
      })
  record_same (kind.Entry x) h = λ i. kind.Entry (record x {
    source = h.0 i;
    place = field_same a_place x.place
        (each_front Fixed (field_links a_place x.place) (flat_map mention_links x.mentions) h.1) i;
    mentions = map_same (mention_with f) mention_links mention_same x.mentions
        (each_back Fixed (field_links a_place x.place) (flat_map mention_links x.mentions) h.1) i;
  })
  record_same (kind.Other x) h = λ i. kind.Other (record x {
    value = value_same x.value (each_front Fixed (value_links x.value) (carried_links x.carried) h) i;
    carried = lines_same x.carried (each_back Fixed (value_links x.value) (carried_links x.carried) h) i;
  })

-- ---- not named
pub all_fixed : (keep gone : ℕ) (ls : List Link) → is_among gone ls ≡ false → EachOf (Fixed (renamed keep gone)) ls
all_fixed keep gone [] e = tt
all_fixed keep gone (l ∷ ls) e = (
  ap (λ b. if b then keep else l.0) (or_parts (l.0 == gone) (is_among gone ls) e).0,
  all_fixed keep gone ls (or_parts (l.0 == gone) (is_among gone ls) e).1,
)

-- ---- children that are once
abbrev person : model.Child → ℕ
person c = c.person

none_joined : (n : ℕ) (c : model.Child) (ds : List model.Child) → list_any (λ m. m == n) (map person ds) ≡ false
    → (child_of_all n c ds ≡ c) × (others n ds ≡ ds)
none_joined n c [] e = (refl, refl)
none_joined n c (d ∷ ds) e =
    let rest = none_joined n c ds (or_parts (d.person == n) (list_any (λ m. m == n) (map person ds)) e).1 in
    let other : (d.person == n) ≡ false = (or_parts (d.person == n) (list_any (λ m. m == n) (map person ds)) e).0 in (
      ap (λ b. if b then child_of_all n (joined_child c d) ds else child_of_all n c ds) other ∙ rest.0,
      ap (λ b. if b then others n ds else d ∷ others n ds) other ∙ ap (λ l. d ∷ l) rest.1,
    )

once_same : (n : ℕ) (cs : List model.Child) → IsOnce (map person cs) → once_child n cs ≡ cs
once_same n [] h = refl
once_same n (c ∷ cs) h =
    elim (c.person == n) as (λ b. (c.person == n) ≡ b
    → (if b then child_of_all n c cs ∷ others n cs else c ∷ once_child n cs) ≡ c ∷ cs) [
      | true ↦ λ e.
          let both = none_joined n c cs (subst (λ k. list_any (λ m. m == k) (map person cs) ≡ false)
          (eqb-true c.person n e) h.0) in
          λ i. both.0 i ∷ both.1 i
      | false ↦ λ e. ap (λ l. c ∷ l) (once_same n cs h.1)
    ] refl

pub once_in_same : (n : ℕ) (r : Record) → HasMembersOnce r → once_in n r ≡ r
once_in_same n (kind.Family x) h = ap (λ l. kind.Family (record x { children = l }))
    (once_same n x.children (once_behind (map (λ (p : model.Partner). p.person) x.partners) (map person x.children) h))
once_in_same n (kind.Place x) h = refl
once_in_same n (kind.Repo x) h = refl
once_in_same n (kind.Source x) h = refl
once_in_same n (kind.Person x) h = refl
once_in_same n (kind.Citation x) h = refl
once_in_same n (kind.Event x) h = refl
once_in_same n (kind.Entry x) h = refl
once_in_same n (kind.Other x) h = refl
