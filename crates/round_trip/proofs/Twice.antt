-- Numbers changed twice in a record, its owner apart.
use Rattle.std.specs.Prelude.{ℕ, ◌≡◌, List, [], ◌∷◌, ◌++◌, map, Option, Some, None, option_map, refl}
use Rattle.std.specs.List.{flat_map}
use Rattle.std.proofs.Common.{ap}
use Rattle.stored_lines.specs.Tree.{Tree, Forest, node, none, more, relabel, relabel_all}
use Rattle.stored_lines.specs.Line.{Line, Lines}
use Rattle.stored_lines.specs.declared.carried.Value.{Value}
use Rattle.stored_lines.specs.declared.carried.Value.TheVariants as value
use Rattle.record_kinds.specs.Model as model
use Rattle.record_kinds.specs.declared.record.Record.{Record}
use Rattle.record_kinds.specs.declared.record.Record.TheVariants as kind
use Rattle.archive_state.specs.Links.{
  Link,
  a_place,
  a_repo,
  a_source,
  a_person,
  at_level_0,
  value_links,
  line_links,
  forest_links,
  carried_links,
  field_links,
  holding_links,
  name_links,
  partner_links,
  child_links,
  participant_links,
  place_line_links,
  mention_links,
  links,
}
use Rattle.record_shapes.specs.Lists.{EachOf}
use Rattle.archive_state.specs.Content.{Records}
use Rattle.archive_state.specs.Merging.{
  value_with,
  line_with,
  lines_with,
  holding_with,
  name_with,
  partner_with,
  child_with,
  participant_with,
  event_place_with,
  mention_with,
  link_with,
  record_with,
}
use Rattle.archive_state.specs.Sound as sound
use Rattle.import_definitions.specs.Numbers.{owned_by}
use Rattle.round_trip.proofs.Linked.{stands_0, place_0, repo_0, source_0, person_0}
use Rattle.round_trip.specs.Drafts.{without_owner}
use Rattle.record_shapes.proofs.Each.{each_parts}

-- ---- numbers changed twice
module _ (m : Records) (a b c : ℕ → ℕ) (ab : (n : ℕ) → sound.Stands m (n, at_level_0) → a (b n) ≡ c n) where
  abbrev S : Link → Type 0
  S = sound.Stands m

  value_twice : (v : Value) → EachOf S (value_links v) → value_with a (value_with b v) ≡ value_with c v
  value_twice (value.Text t) h = refl
  value_twice (value.Ref n) h = ap value.Ref (ab n h.0)

  mutual
    tree_twice : (t : Tree Line) → EachOf S (line_links t) → relabel (line_with a) (relabel (line_with b) t)
        ≡ relabel (line_with c) t
    tree_twice (node l ts) h =
        let both : EachOf S (value_links l.value) × EachOf S (forest_links ts) =
        each_parts S (value_links l.value) (forest_links ts) h in
        λ i. node (record { tag = l.tag; value = value_twice l.value both.0 i }) (forest_twice ts both.1 i)

    forest_twice : (ts : Forest Line) → EachOf S (forest_links ts)
        → relabel_all (line_with a) (relabel_all (line_with b) ts) ≡ relabel_all (line_with c) ts
    forest_twice none h = refl
    forest_twice (more t ts) h =
        let both : EachOf S (line_links t) × EachOf S (forest_links ts) =
        each_parts S (line_links t) (forest_links ts) h in
        λ i. more (tree_twice t both.0 i) (forest_twice ts both.1 i)

  lines_twice : (ts : Lines) → EachOf S (carried_links ts) → lines_with a (lines_with b ts) ≡ lines_with c ts
  lines_twice [] h = refl
  lines_twice (t ∷ ts) h =
      let both : EachOf S (line_links t) × EachOf S (carried_links ts) =
      each_parts S (line_links t) (carried_links ts) h in
      λ i. tree_twice t both.0 i ∷ lines_twice ts both.1 i

  -- each of a list with its links
  list_twice : {A : Type 0} (l : A → List Link) (fa fb fc : A → A) (xs : List A)
      → ((x : A) → EachOf S (l x) → fa (fb x) ≡ fc x) → EachOf S (flat_map l xs) → map fa (map fb xs) ≡ map fc xs
  list_twice l fa fb fc [] one h = refl
  list_twice l fa fb fc (x ∷ xs) one h =
      let both : EachOf S (l x) × EachOf S (flat_map l xs) = each_parts S (l x) (flat_map l xs) h in
      λ i. one x both.0 i ∷ list_twice l fa fb fc xs one both.1 i

  holding_twice : (x : model.Holding) → EachOf S (holding_links x)
      → holding_with a (holding_with b x) ≡ holding_with c x
  holding_twice x h = λ i.
      record {
        repo = ab x.repo (stands_0 m a_repo x.repo (repo_0 m) h.0) i;
        call_number = x.call_number;
        carried = lines_twice x.carried h.1 i;
      }

  name_twice : (x : model.Name) → EachOf S (name_links x) → name_with a (name_with b x) ≡ name_with c x
  name_twice x h = λ i. record { text = x.text; carried = lines_twice x.carried h i }

  partner_twice : (x : model.Partner) → EachOf S (partner_links x)
      → partner_with a (partner_with b x) ≡ partner_with c x
  partner_twice x h =
      let both = each_parts S (carried_links x.carried) (carried_links x.carried_by_person) h.1 in
      λ i. record {
        partnership = x.partnership;
        person = ab x.person (stands_0 m a_person x.person (person_0 m) h.0) i;
        carried = lines_twice x.carried both.0 i;
        carried_by_person = lines_twice x.carried_by_person both.1 i;
      }

  child_twice : (x : model.Child) → EachOf S (child_links x) → child_with a (child_with b x) ≡ child_with c x
  child_twice x h =
      let both = each_parts S (carried_links x.carried) (carried_links x.carried_by_person) h.1 in
      λ i. record {
        person = ab x.person (stands_0 m a_person x.person (person_0 m) h.0) i;
        carried = lines_twice x.carried both.0 i;
        carried_by_person = lines_twice x.carried_by_person both.1 i;
      }

  participant_twice : (x : model.Participant) → EachOf S (participant_links x)
      → participant_with a (participant_with b x) ≡ participant_with c x
  participant_twice x h =
      λ i. record {
        person = ab x.person (stands_0 m a_person x.person (person_0 m) h.0) i;
        role = x.role;
        carried = lines_twice x.carried h.1 i;
      }

  mention_twice : (x : model.Mention) → EachOf S (mention_links x)
      → mention_with a (mention_with b x) ≡ mention_with c x
  mention_twice x h = λ i. record { role = x.role; name = x.name; link = by x.link h i }
    where
      by : (o : Option model.Link) → EachOf S (field_links a_person (option_map (λ (l : model.Link). l.person) o))
          → option_map (link_with a) (option_map (link_with b) o) ≡ option_map (link_with c) o
      by None z = refl
      by (Some l) z = λ i.
          Some (record { person = ab l.person (stands_0 m a_person l.person (person_0 m) z.0) i; reason = l.reason })

  place_twice : (o : Option ℕ) → EachOf S (field_links a_place o) → option_map a (option_map b o) ≡ option_map c o
  place_twice None h = refl
  place_twice (Some n) h = λ i. Some (ab n (stands_0 m a_place n (place_0 m) h.0) i)

  event_place_twice : (o : Option model.EventPlace) → EachOf S (place_line_links o)
      → option_map (event_place_with a) (option_map (event_place_with b) o) ≡ option_map (event_place_with c) o
  event_place_twice None h = refl
  event_place_twice (Some p) h =
      λ i. Some (record {
        place = ab p.place (stands_0 m a_place p.place (place_0 m) h.0) i;
        carried = lines_twice p.carried h.1 i;
      })

  -- the owner is that of the new record
  abbrev pub OwnedBy : ℕ → Record → Type 0
  OwnedBy o (kind.Event e) = o ≡ c e.owner
  OwnedBy o (kind.Citation x) = o ≡ c x.owner
  OwnedBy o _ = Unit {0}

  pub record_twice : (o : ℕ) (r : Record) → EachOf S (links r) → OwnedBy o r
      → owned_by o (record_with a (without_owner (record_with b r))) ≡ record_with c r
  record_twice o (kind.Place x) h w = let one = each_parts S (field_links a_place x.parent) (carried_links x.carried)
      h in
      λ i. kind.Place (record {
        name = x.name;
        parent = place_twice x.parent one.0 i;
        carried = lines_twice x.carried one.1 i;
      })
  record_twice o (kind.Repo x) h w = λ i. kind.Repo (record { name = x.name; carried = lines_twice x.carried h i })
  record_twice o (kind.Source x) h w = let one = each_parts S (flat_map holding_links x.holdings)
      (carried_links x.carried) h in
      λ i. kind.Source (record {
        title = x.title;
        author = x.author;
        publisher = x.publisher;
        holdings = list_twice holding_links (holding_with a) (holding_with b) (holding_with c) x.holdings
            holding_twice one.0 i;
        carried = lines_twice x.carried one.1 i;
      })
  record_twice o (kind.Person x) h w = let one = each_parts S (flat_map name_links x.names) (carried_links x.carried)
      h in
      λ i. kind.Person (record {
        names = list_twice name_links (name_with a) (name_with b) (name_with c) x.names
            name_twice one.0 i;
        sex = x.sex;
        carried = lines_twice x.carried one.1 i;
      })
  record_twice o (kind.Family x) h w =
      let one = each_parts S (flat_map partner_links x.partners)
      (flat_map child_links x.children ++ carried_links x.carried) h in
      let two = each_parts S (flat_map child_links x.children) (carried_links x.carried) one.1 in
      λ i. kind.Family (record {
        partners = list_twice partner_links (partner_with a) (partner_with b) (partner_with c)
            x.partners partner_twice one.0 i;
        children = list_twice child_links (child_with a) (child_with b) (child_with c) x.children child_twice two.0 i;
        carried = lines_twice x.carried two.1 i;
      })
  record_twice o (kind.Citation x) h w =
      λ i. kind.Citation (record {
        owner = w i;
        source = ab x.source (stands_0 m a_source x.source (source_0 m) h.1.0) i;
        page = x.page;
        quality = x.quality;
        carried = lines_twice x.carried h.1.1 i;
      })
  record_twice o (kind.Event x) h w =
      let one = each_parts S (place_line_links x.place)
      (flat_map participant_links x.participants ++ carried_links x.carried) h.1 in
      let two = each_parts S (flat_map participant_links x.participants) (carried_links x.carried) one.1 in
      λ i. kind.Event (record {
        owner = w i;
        tag = x.tag;
        value = x.value;
        date = x.date;
        place = event_place_twice x.place one.0 i;
        participants =
            list_twice participant_links (participant_with a) (participant_with b) (participant_with c) x.participants
            participant_twice two.0 i;
        carried = lines_twice x.carried two.1 i;
      })
  record_twice o (kind.Entry x) h w = let one = each_parts S (field_links a_place x.place)
      (flat_map mention_links x.mentions) h.1 in
      λ i. kind.Entry (record {
        source = ab x.source (stands_0 m a_source x.source (source_0 m) h.0) i;
        kind = x.kind;
        page = x.page;
        item = x.item;
        date = x.date;
        place = place_twice x.place one.0 i;
        text = x.text;
        mentions = list_twice mention_links (mention_with a) (mention_with b) (mention_with c) x.mentions
            mention_twice one.1 i;
      })
  record_twice o (kind.Other x) h w = let one = each_parts S (value_links x.value) (carried_links x.carried) h in
      λ i. kind.Other (record {
        tag = x.tag;
        value = value_twice x.value one.0 i;
        carried = lines_twice x.carried one.1 i;
      })
