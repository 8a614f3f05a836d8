-- The numbers on the lines of the nodes of a sound archive name records of level 0.
use Rattle.std.specs.Prelude.{ℕ, ◌≡◌, ◌==◌, Bool, true, false, cond, List, [], ◌∷◌, ◌++◌, map, option_map}
use Rattle.std.specs.List.{filter, flat_map}
use Rattle.std.specs.FinMap.{entries}
use Rattle.std.proofs.Common.{ap, sym, subst}
use Rattle.stored_lines.specs.Tree.{Tree, node, none, forest_of, list_of, children, relabel_all}
use Rattle.stored_lines.specs.Line.{Lines}
use Rattle.record_kinds.specs.Model as model
use Rattle.record_kinds.specs.declared.record.Record.{Record}
use Rattle.record_kinds.specs.declared.record.Record.TheVariants as kind
use Rattle.archive_state.specs.Links.{
  Link,
  at_level_0,
  is_wanted,
  forest_links,
  carried_links,
  partner_links,
  child_links,
  value_links,
  links,
}
use Rattle.record_shapes.specs.Lists.{EachOf}
use Rattle.record_shapes.specs.Shapes.{
  Side,
  place_lines,
  repo_lines,
  source_lines,
  person_lines,
  family_lines,
  entry_lines,
}
use Rattle.archive_state.specs.Content.{Content, Records}
use Rattle.archive_state.specs.Sound.{IsSound}
use Rattle.archive_state.specs.Sound as sound
use Rattle.gedcom_export.specs.Around.{around, child_sides, partner_sides}
use Rattle.gedcom_export.specs.Order.{Numbered, is_event_of, is_citation_of, citations_of}
use Rattle.round_trip.proofs.Listed.{each_filter}
use Rattle.round_trip.proofs.Entries.{Stands, entries_stand}
use Rattle.round_trip.proofs.Ordered.{StandsAt0}
use Rattle.round_trip.proofs.Nodes.{lines_of, owns}
use Rattle.round_trip.proofs.Linked.{
  Branch,
  Fine,
  FineSide,
  Leaf,
  fine_entry,
  fine_family,
  fine_person,
  fine_place,
  fine_repo,
  fine_source,
  forest_flat,
}
use Rattle.record_shapes.proofs.Each.{each_front, each_back, each_more, each_flat, each_parts}
use Rattle.list_laws.proofs.Booleans.{true_not_false}

abbrev side_of_child : ℕ → model.Child → Side
side_of_child k c = record { family = k; carried = c.carried_by_person }

abbrev side_of_partner : ℕ → model.Partner → Side
side_of_partner k p = record { family = k; carried = p.carried_by_person }

module _ (c : Content) (is : IsSound c) where
  abbrev m : Records
  m = c.records

  abbrev es : List Numbered
  es = entries m

  abbrev S : Link → Type 0
  S = sound.Stands m

  -- ---- what a record owns
  abbrev Named : Numbered → Type 0
  Named e = EachOf S (links e.1)

  named_some : (test : Numbered → Bool) → EachOf Named (filter test es)
  named_some test = each_more (λ e. Stands m e × (test e ≡ true)) Named
      (λ (e : Numbered) (h : Stands m e × (test e ≡ true)). is.named e.0 e.1 h.0) (filter test es)
      (each_filter (Stands m) test es (entries_stand m))

  leaf_leaves : (xs : List Numbered) → EachOf Named xs
      → EachOf (Leaf m) (list_of
      (relabel_all (λ (e : Numbered). e.1) (forest_of (map (λ (e : Numbered). node e none) xs))))
  leaf_leaves [] h = tt
  leaf_leaves (x ∷ xs) h = (h.0, leaf_leaves xs h.1)

  leaf_branches : (xs : List Numbered) → EachOf Named xs
      → EachOf (Branch m) (list_of
      (relabel_all (λ (e : Numbered). e.1) (forest_of (map (λ (e : Numbered). node e none) xs))))
  leaf_branches [] h = tt
  leaf_branches (x ∷ xs) h = ((h.0, tt), leaf_branches xs h.1)

  abbrev all_owned : List Numbered → List Numbered → List (Tree Record)
  all_owned xs ys = list_of
      (relabel_all (λ (e : Numbered). e.1)
      (forest_of (map (λ (e : Numbered). node e (forest_of (citations_of es e.0))) xs
      ++ map (λ (e : Numbered). node e none) ys)))

  owned_leaves : (xs ys : List Numbered) → EachOf Named xs → EachOf Named ys → EachOf (Leaf m) (all_owned xs ys)
  owned_leaves [] ys h g = leaf_leaves ys g
  owned_leaves (x ∷ xs) ys h g = (h.0, owned_leaves xs ys h.1 g)

  owned_branches : (xs ys : List Numbered) → EachOf Named xs → EachOf Named ys → EachOf (Branch m) (all_owned xs ys)
  owned_branches [] ys h g = leaf_branches ys g
  owned_branches (x ∷ xs) ys h g = (
    (
      h.0,
      leaf_leaves (filter (λ (e : Numbered). is_citation_of x.0 e.1) es)
          (named_some (λ (e : Numbered). is_citation_of x.0 e.1)),
    ),
    owned_branches xs ys h.1 g,
  )

  leaves : (k : ℕ) → EachOf (Leaf m) (owns m k)
  leaves k = owned_leaves (filter (λ (e : Numbered). is_event_of k e.1) es)
      (filter (λ (e : Numbered). is_citation_of k e.1) es)
      (named_some (λ (e : Numbered). is_event_of k e.1)) (named_some (λ (e : Numbered). is_citation_of k e.1))

  branches : (k : ℕ) → EachOf (Branch m) (owns m k)
  branches k = owned_branches (filter (λ (e : Numbered). is_event_of k e.1) es)
      (filter (λ (e : Numbered). is_citation_of k e.1) es)
      (named_some (λ (e : Numbered). is_event_of k e.1)) (named_some (λ (e : Numbered). is_citation_of k e.1))

  -- ---- the sides of a person
  child_fine : (n k : ℕ) (cs : List model.Child) → S (k, at_level_0) → EachOf S (flat_map child_links cs)
      → EachOf (FineSide m) (map (side_of_child k) (filter (λ (x : model.Child). x.person == n) cs))
  child_fine n k [] z h = tt
  child_fine n k (x ∷ cs) z h =
      let both : EachOf S (child_links x) × EachOf S (flat_map child_links cs) =
      each_parts S (child_links x) (flat_map child_links cs) h in
      elim (x.person == n)
      as (λ b. EachOf (FineSide m)
      (map (side_of_child k)
      (cond b (x ∷ filter (λ (y : model.Child). y.person == n) cs)
      (filter (λ (y : model.Child). y.person == n) cs)))) [
        | true ↦ (
          (z, each_back S (carried_links x.carried) (carried_links x.carried_by_person) both.0.1),
          child_fine n k cs z both.1,
        )
        | false ↦ child_fine n k cs z both.1
      ]

  partner_fine : (n k : ℕ) (ps : List model.Partner) → S (k, at_level_0) → EachOf S (flat_map partner_links ps)
      → EachOf (FineSide m) (map (side_of_partner k) (filter (λ (x : model.Partner). x.person == n) ps))
  partner_fine n k [] z h = tt
  partner_fine n k (x ∷ ps) z h =
      let both : EachOf S (partner_links x) × EachOf S (flat_map partner_links ps) =
      each_parts S (partner_links x) (flat_map partner_links ps) h in
      elim (x.person == n)
      as (λ b. EachOf (FineSide m)
      (map (side_of_partner k)
      (cond b (x ∷ filter (λ (y : model.Partner). y.person == n) ps)
      (filter (λ (y : model.Partner). y.person == n) ps)))) [
        | true ↦ (
          (z, each_back S (carried_links x.carried) (carried_links x.carried_by_person) both.0.1),
          partner_fine n k ps z both.1,
        )
        | false ↦ partner_fine n k ps z both.1
      ]

  child_side : (n : ℕ) (e : Numbered) → Stands m e → EachOf (FineSide m) (child_sides n e)
  child_side n (k, kind.Family x) st = child_fine n k x.children (ap (option_map (is_wanted at_level_0)) st)
      (each_front S (flat_map child_links x.children) (carried_links x.carried)
      (each_back S (flat_map partner_links x.partners) (flat_map child_links x.children ++ carried_links x.carried)
      (is.named k (kind.Family x) st)))
  child_side n (k, _) st = tt

  partner_side : (n : ℕ) (e : Numbered) → Stands m e → EachOf (FineSide m) (partner_sides n e)
  partner_side n (k, kind.Family x) st = partner_fine n k x.partners (ap (option_map (is_wanted at_level_0)) st)
      (each_front S (flat_map partner_links x.partners) (flat_map child_links x.children ++ carried_links x.carried)
      (is.named k (kind.Family x) st))
  partner_side n (k, _) st = tt

  children_fine : (n : ℕ) → EachOf (FineSide m) ((around m).child_in n)
  children_fine n = each_flat (FineSide m) (child_sides n) es
      (each_more (Stands m) (λ e. EachOf (FineSide m) (child_sides n e)) (λ e st. child_side n e st) es
      (entries_stand m))

  partners_fine : (n : ℕ) → EachOf (FineSide m) ((around m).partner_in n)
  partners_fine n = each_flat (FineSide m) (partner_sides n) es
      (each_more (Stands m) (λ e. EachOf (FineSide m) (partner_sides n e)) (λ e st. partner_side n e st) es
      (entries_stand m))

  -- ---- all lines below a node
  fine_forest : (ts : Lines) → Fine m ts → EachOf S (forest_links (forest_of ts))
  fine_forest ts h = subst (EachOf S) (sym (forest_flat ts)) h

  pub node_fine : (e : Numbered) → StandsAt0 m e → EachOf S (forest_links (children (lines_of m e)))
  node_fine (k, kind.Place x) st = fine_forest (place_lines x) (fine_place m x (is.named k (kind.Place x) st.0))
  node_fine (k, kind.Repo x) st = fine_forest (repo_lines x) (fine_repo m x (is.named k (kind.Repo x) st.0))
  node_fine (k, kind.Source x) st = fine_forest (source_lines x) (fine_source m x (is.named k (kind.Source x) st.0))
  node_fine (k, kind.Person x) st = fine_forest (person_lines (around m) k x (owns m k))
      (fine_person m (around m) k (children_fine k) (partners_fine k) x (owns m k) (is.named k (kind.Person x) st.0)
      (branches k) (leaves k))
  node_fine (k, kind.Family x) st = fine_forest (family_lines (around m) x (owns m k))
      (fine_family m (around m) x (owns m k) (is.named k (kind.Family x) st.0) (branches k) (leaves k))
  node_fine (k, kind.Entry x) st = fine_forest (entry_lines (around m) x)
      (fine_entry m (around m) x (is.named k (kind.Entry x) st.0))
  node_fine (k, kind.Other x) st =
      fine_forest x.carried
      (each_back S (value_links x.value) (carried_links x.carried) (is.named k (kind.Other x) st.0))
  node_fine (k, kind.Event x) st = absurd (true_not_false (sym st.1))
  node_fine (k, kind.Citation x) st = absurd (true_not_false (sym st.1))
