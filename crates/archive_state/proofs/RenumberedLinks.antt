-- The links of a record with its numbers changed are its links, each with its number changed.
use Rattle.std.proofs.Common.{◌≡◌, ℕ, ◌∷◌, ◌++◌, refl, ap}
use Rattle.std.specs.Prelude.{map, Option, Some, None, option_map}
use Rattle.std.specs.List.{flat_map}
use Rattle.stored_lines.specs.Tree.{Tree, Forest, node, none, more, relabel, relabel_all}
use Rattle.stored_lines.specs.Line.{Line, Lines}
use Rattle.stored_lines.specs.declared.carried.Value.{Value}
use Rattle.stored_lines.specs.declared.carried.Value.TheVariants as value
use Rattle.record_kinds.specs.Model as model
use Rattle.record_kinds.specs.declared.record.Record.{Record}
use Rattle.record_kinds.specs.declared.record.Record.TheVariants as kind
use Rattle.archive_state.specs.Links.{
  Link,
  Wanted,
  links,
  value_links,
  line_links,
  forest_links,
  carried_links,
  field_links,
  holding_links,
  name_links,
  partner_links,
  child_links,
  place_line_links,
  participant_links,
  mention_links,
  a_person,
  a_place,
  a_repo,
  a_source,
  a_cited,
  a_holder,
}
use Rattle.archive_state.specs.Merging.{
  value_with,
  line_with,
  lines_with,
  holding_with,
  name_with,
  partner_with,
  child_with,
  event_place_with,
  participant_with,
  link_with,
  mention_with,
  record_with,
}
use Rattle.list_laws.proofs.Lists.{cat, flat_cat}

abbrev pub moved : (ℕ → ℕ) → Link → Link
moved f l = (f l.0, l.1)

module _ (f : ℕ → ℕ) where
  value_moved : (v : Value) → value_links (value_with f v) ≡ map (moved f) (value_links v)
  value_moved (value.Text t) = refl
  value_moved (value.Ref n) = refl

  mutual
    line_moved : (t : Tree Line) → line_links (relabel (line_with f) t) ≡ map (moved f) (line_links t)
    line_moved (node l ts) = cat (moved f) (value_links l.value) (forest_links ts) _ _ (value_moved l.value)
        (forest_moved ts)

    forest_moved : (ts : Forest Line) → forest_links (relabel_all (line_with f) ts) ≡ map (moved f) (forest_links ts)
    forest_moved none = refl
    forest_moved (more t ts) = cat (moved f) (line_links t) (forest_links ts) _ _ (line_moved t) (forest_moved ts)

  pub lines_moved : (ts : Lines) → carried_links (lines_with f ts) ≡ map (moved f) (carried_links ts)
  lines_moved ts = flat_cat (moved f) (relabel (line_with f)) line_links line_links line_moved ts

  field_moved : (w : Wanted) (o : Option ℕ) → field_links w (option_map f o) ≡ map (moved f) (field_links w o)
  field_moved w None = refl
  field_moved w (Some n) = refl

  holding_moved : (h : model.Holding) → holding_links (holding_with f h) ≡ map (moved f) (holding_links h)
  holding_moved h = ap (λ l. (f h.repo, a_repo) ∷ l) (lines_moved h.carried)

  name_moved : (n : model.Name) → name_links (name_with f n) ≡ map (moved f) (name_links n)
  name_moved n = lines_moved n.carried

  partner_moved : (p : model.Partner) → partner_links (partner_with f p) ≡ map (moved f) (partner_links p)
  partner_moved p = ap (λ l. (f p.person, a_person) ∷ l)
      (cat (moved f) (carried_links p.carried) (carried_links p.carried_by_person) _ _ (lines_moved p.carried)
      (lines_moved p.carried_by_person))

  child_moved : (p : model.Child) → child_links (child_with f p) ≡ map (moved f) (child_links p)
  child_moved p = ap (λ l. (f p.person, a_person) ∷ l)
      (cat (moved f) (carried_links p.carried) (carried_links p.carried_by_person) _ _ (lines_moved p.carried)
      (lines_moved p.carried_by_person))

  place_moved : (o : Option model.EventPlace) → place_line_links (option_map (event_place_with f) o)
      ≡ map (moved f) (place_line_links o)
  place_moved None = refl
  place_moved (Some p) = ap (λ l. (f p.place, a_place) ∷ l) (lines_moved p.carried)

  pub participant_moved : (p : model.Participant) → participant_links (participant_with f p) ≡ map (moved f)
      (participant_links p)
  participant_moved p = ap (λ l. (f p.person, a_person) ∷ l) (lines_moved p.carried)

  link_moved : (o : Option model.Link) → field_links a_person
      (option_map (λ (l : model.Link). l.person) (option_map (link_with f) o)) ≡ map (moved f)
      (field_links a_person (option_map (λ (l : model.Link). l.person) o))
  link_moved None = refl
  link_moved (Some l) = refl

  mention_moved : (m : model.Mention) → mention_links (mention_with f m) ≡ map (moved f) (mention_links m)
  mention_moved m = link_moved m.link

  pub links_moved : (r : Record) → links (record_with f r) ≡ map (moved f) (links r)
  links_moved (kind.Place p) = cat (moved f) (field_links a_place p.parent) (carried_links p.carried) _ _
      (field_moved a_place p.parent) (lines_moved p.carried)
  links_moved (kind.Repo r) = lines_moved r.carried
  links_moved (kind.Source s) = cat (moved f) (flat_map holding_links s.holdings) (carried_links s.carried) _ _
      (flat_cat (moved f) (holding_with f) holding_links holding_links holding_moved s.holdings) (lines_moved s.carried)
  links_moved (kind.Person p) = cat (moved f) (flat_map name_links p.names) (carried_links p.carried) _ _
      (flat_cat (moved f) (name_with f) name_links name_links name_moved p.names) (lines_moved p.carried)
  links_moved (kind.Family x) =
      cat (moved f) (flat_map partner_links x.partners) (flat_map child_links x.children ++ carried_links x.carried) _ _
      (flat_cat (moved f) (partner_with f) partner_links partner_links partner_moved x.partners)
      (cat (moved f) (flat_map child_links x.children) (carried_links x.carried) _ _
      (flat_cat (moved f) (child_with f) child_links child_links child_moved x.children) (lines_moved x.carried))
  links_moved (kind.Citation c) = ap (λ l. (f c.owner, a_cited) ∷ ((f c.source, a_source) ∷ l)) (lines_moved c.carried)
  links_moved (kind.Event e) = ap (λ l. (f e.owner, a_holder) ∷ l)
      (cat (moved f) (place_line_links e.place) (flat_map participant_links e.participants ++ carried_links e.carried) _
      _ (place_moved e.place)
      (cat (moved f) (flat_map participant_links e.participants) (carried_links e.carried) _ _
      (flat_cat (moved f) (participant_with f) participant_links participant_links participant_moved e.participants)
      (lines_moved e.carried)))
  links_moved (kind.Entry e) = ap (λ l. (f e.source, a_source) ∷ l)
      (cat (moved f) (field_links a_place e.place) (flat_map mention_links e.mentions) _ _ (field_moved a_place e.place)
      (flat_cat (moved f) (mention_with f) mention_links mention_links mention_moved e.mentions))
  links_moved (kind.Other o) = cat (moved f) (value_links o.value) (carried_links o.carried) _ _ (value_moved o.value)
      (lines_moved o.carried)
