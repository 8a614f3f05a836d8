-- The lines that a record is kept as have the numbers that it names: part by part, as the lines are put together.
use Rattle.std.proofs.Common.{◌≡◌, ℕ, ◌+◌, List, [], ◌∷◌, ◌++◌, refl, sym, ap, ap₂, ◌∙◌, Bool, false, map}
use Rattle.std.specs.Prelude.{◌||◌, ◌==◌, Option, Some, None, option_map, decimal}
use Rattle.std.specs.List.{list_any, flat_map}
use Rattle.std.proofs.lemmas.List.Folds.{list_any-append}
use Rattle.std.proofs.lemmas.List.{append-nil}
use Rattle.std.proofs.Math.Bool.{or-false, or_comm}
use Rattle.stored_lines.specs.Tree.{Tree, Forest, node, none, more, forest_of, flat, flat_all, relabel, relabel_all}
use Rattle.stored_lines.specs.Line.{Line, Label, Lines, Branches, label_for, label_of}
use Rattle.stored_lines.specs.declared.carried.Value.{Value}
use Rattle.stored_lines.specs.declared.carried.Value.TheVariants as value
use Rattle.record_fields.specs.Dated.{date_text}
use Rattle.record_fields.specs.Words.{entry_kind_word, role_word}
use Rattle.record_kinds.specs.Model as model
use Rattle.record_kinds.specs.declared.record.Record.{Record}
use Rattle.record_kinds.specs.declared.record.Record.TheVariants as kind
use Rattle.records.specs.declared.field.Field.{Field}
use Rattle.records.specs.declared.field.Field.TheVariants as field
use Rattle.records.specs.Stored.{
  stored,
  branch,
  lines_below,
  text_trees,
  place_tree,
  repo_tree,
  holding_tree,
  source_tree,
  citation_tree,
  name_tree,
  person_tree,
  partner_tree,
  child_tree,
  family_tree,
  when_trees,
  participant_tree,
  event_tree,
  mention_tree,
  key_words,
  entry_tree,
  other_tree,
  record_tree,
  bare_place,
  link_person,
  link_reason,
  tag_tree,
}
use Rattle.archive_state.specs.Links.{
  Link,
  Wanted,
  a_place,
  a_repo,
  a_source,
  a_person,
  a_holder,
  a_cited,
  at_level_0,
  is_among,
  value_links,
  line_links,
  forest_links,
  carried_links,
  field_links,
  place_links,
  repo_links,
  holding_links,
  source_links,
  name_links,
  person_links,
  partner_links,
  child_links,
  family_links,
  citation_links,
  place_line_links,
  participant_links,
  event_links,
  mention_links,
  entry_links,
  other_links,
  links,
}
use Rattle.archive_state.specs.Stored.{is_target, some_line_names}
use Rattle.archive_state.proofs.LinkLinks.{among_both}

module _ (n : ℕ) where
  -- whether a tree of lines has the number
  abbrev mutual
    tree_has : Tree Label → Bool
    tree_has (node l ts) = is_target n l.target || forest_has ts

    forest_has : Forest Label → Bool
    forest_has none = false
    forest_has (more t ts) = tree_has t || forest_has ts

-- trees, or one tree, have the number where links have it
record Tells (n : ℕ) (bs : Branches) (ls : List Link) : Type 0 where
  same : list_any (tree_has n) bs ≡ is_among n ls

record Has (n : ℕ) (t : Tree Label) (ls : List Link) : Type 0 where
  same : tree_has n t ≡ is_among n ls

module _ (n : ℕ) where
  mutual
    flat_has : (d : ℕ) (t : Tree Label) → some_line_names n (flat d t) ≡ tree_has n t
    flat_has d (node l ts) = ap (λ b. is_target n l.target || b) (flat_all_has (d + 1) ts)

    flat_all_has : (d : ℕ) (ts : Forest Label) → some_line_names n (flat_all d ts) ≡ forest_has n ts
    flat_all_has d none = refl
    flat_all_has d (more t ts) = list_any-append _ (flat d t) (flat_all d ts) ∙ ap₂ (λ a b. a || b) (flat_has d t)
        (flat_all_has d ts)

  forest_some : (bs : Branches) → forest_has n (forest_of bs) ≡ list_any (tree_has n) bs
  forest_some [] = refl
  forest_some (b ∷ bs) = ap (λ c. tree_has n b || c) (forest_some bs)

  -- ---- how trees are put together
  tells_none : Tells n [] []
  tells_none = record { same = refl }

  tells_both : {bs cs : Branches} {ls ms : List Link} → Tells n bs ls → Tells n cs ms → Tells n (bs ++ cs) (ls ++ ms)
  tells_both {bs} {cs} {ls} {ms} p q =
      record {
        same = list_any-append (tree_has n) bs cs ∙ ap₂ (λ a b. a || b) p.same q.same
            ∙ sym (among_both n ls ms);
      }

  tells_one : {t : Tree Label} {ls : List Link} → Has n t ls → Tells n (t ∷ []) ls
  tells_one {t} p = record { same = or-false (tree_has n t) ∙ p.same }

  tells_swap : {bs : Branches} (ls ms : List Link) → Tells n bs (ls ++ ms) → Tells n bs (ms ++ ls)
  tells_swap ls ms p = record {
    same = p.same ∙ among_both n ls ms ∙ or_comm (is_among n ls) (is_among n ms)
        ∙ sym (among_both n ms ls);
  }

  tells_each : {X : Type 0} (tree : X → Tree Label) (of : X → List Link) → ((x : X) → Has n (tree x) (of x))
      → (xs : List X) → Tells n (map tree xs) (flat_map of xs)
  tells_each tree of each [] = tells_none
  tells_each tree of each (x ∷ xs) = record {
    same = ap₂ (λ a b. a || b) (each x).same (tells_each tree of each xs).same
        ∙ sym (among_both n (of x) (flat_map of xs));
  }

  -- a line with those below it
  has_branch : (f : Field) (text : Option (List ℕ)) (target : Option ℕ) {below : Branches}
      (front : List Link) {ls : List Link} → is_target n target ≡ is_among n front → Tells n below ls
      → Has n (branch f text target below) (front ++ ls)
  has_branch f text target {below} front {ls} p q =
      record { same = ap₂ (λ a b. a || b) p (forest_some below ∙ q.same) ∙ sym (among_both n front ls) }

  the_target : (w : Wanted) (m : ℕ) → is_target n (Some m) ≡ is_among n ((m, w) ∷ [])
  the_target w m = sym (or-false (m == n))

  if_target : (w : Wanted) (o : Option ℕ) → is_target n o ≡ is_among n (field_links w o)
  if_target w None = refl
  if_target w (Some m) = the_target w m

  no_text : (f : Field) (o : Option (List ℕ)) → Tells n (text_trees f o) []
  no_text f None = tells_none
  no_text f (Some t) = record { same = refl }

  -- ---- carried lines
  value_has : (tag : List ℕ) (v : Value) → is_target n (label_for tag v).target ≡ is_among n (value_links v)
  value_has tag (value.Text t) = refl
  value_has tag (value.Ref m) = the_target at_level_0 m

  mutual
    line_has : (t : Tree Line) → tree_has n (relabel label_of t) ≡ is_among n (line_links t)
    line_has (node l ts) = ap₂ (λ a b. a || b) (value_has l.tag l.value) (forest_line_has ts)
        ∙ sym (among_both n (value_links l.value) (forest_links ts))

    forest_line_has : (ts : Forest Line) → forest_has n (relabel_all label_of ts) ≡ is_among n (forest_links ts)
    forest_line_has none = refl
    forest_line_has (more t ts) = ap₂ (λ a b. a || b) (line_has t) (forest_line_has ts)
        ∙ sym (among_both n (line_links t) (forest_links ts))

  carried_has : (ts : Lines) → Tells n (map (relabel label_of) ts) (carried_links ts)
  carried_has = tells_each (relabel label_of) line_links (λ t. record { same = line_has t })

  lines_have : (f : Field) (ts : Lines) → Tells n (lines_below f ts) (carried_links ts)
  lines_have f [] = tells_none
  lines_have f (t ∷ ts) = tells_one (has_branch f None None [] refl (carried_has (t ∷ ts)))

  -- ---- each kind
  place_has : (p : model.Place) → Has n (place_tree p) (place_links p)
  place_has p = has_branch field.Place (Some p.name) p.parent (field_links a_place p.parent)
      (if_target a_place p.parent) (lines_have field.Carried p.carried)

  repo_has : (r : model.Repo) → Has n (repo_tree r) (repo_links r)
  repo_has r = has_branch field.Repo r.name None [] refl (lines_have field.Carried r.carried)

  holding_has : (h : model.Holding) → Has n (holding_tree h) (holding_links h)
  holding_has h = has_branch field.Holding h.call_number (Some h.repo) ((h.repo, a_repo) ∷ [])
      (the_target a_repo h.repo) (lines_have field.Carried h.carried)

  source_has : (s : model.Source) → Has n (source_tree s) (source_links s)
  source_has s = has_branch field.Source s.title None [] refl
      (tells_both (no_text field.Author s.author) (tells_both (no_text field.Publisher s.publisher)
      (tells_both (tells_each holding_tree holding_links holding_has s.holdings) (lines_have field.Carried s.carried))))

  citation_has : (c : model.Citation) → Has n (citation_tree c) (citation_links c)
  citation_has c = has_branch field.Citation None (Some c.owner) ((c.owner, a_cited) ∷ []) (the_target a_cited c.owner)
      (tells_both (tells_one (has_branch field.Source c.page (Some c.source) ((c.source, a_source) ∷ [])
      (the_target a_source c.source) tells_none))
      (tells_both (no_text field.Quality _) (lines_have field.Carried c.carried)))

  name_has : (x : model.Name) → Has n (name_tree x) (name_links x)
  name_has x = has_branch field.Name (Some x.text) None [] refl (lines_have field.Carried x.carried)

  person_has : (p : model.Person) → Has n (person_tree p) (person_links p)
  person_has p = has_branch field.Person None None [] refl
      (tells_both (tells_each name_tree name_links name_has p.names)
      (tells_both (no_text field.Sex _) (lines_have field.Carried p.carried)))

  partner_has : (p : model.Partner) → Has n (partner_tree p) (partner_links p)
  partner_has p = has_branch field.Partner _ (Some p.person) ((p.person, a_person) ∷ []) (the_target a_person p.person)
      (tells_swap (carried_links p.carried_by_person) (carried_links p.carried)
      (tells_both (lines_have field.Side p.carried_by_person) (lines_have field.Carried p.carried)))

  child_has : (c : model.Child) → Has n (child_tree c) (child_links c)
  child_has c = has_branch field.Child None (Some c.person) ((c.person, a_person) ∷ []) (the_target a_person c.person)
      (tells_swap (carried_links c.carried_by_person) (carried_links c.carried)
      (tells_both (lines_have field.Side c.carried_by_person) (lines_have field.Carried c.carried)))

  family_has : (f : model.Family) → Has n (family_tree f) (family_links f)
  family_has f = has_branch field.Family None None [] refl
      (tells_both (tells_each partner_tree partner_links partner_has f.partners)
      (tells_both (tells_each child_tree child_links child_has f.children) (lines_have field.Carried f.carried)))

  when_has : (date : Option (List ℕ)) (place : Option model.EventPlace) → Tells n (when_trees date place)
      (place_line_links place)
  when_has date None = no_text field.Date date
  when_has date (Some p) = tells_one (has_branch field.Date date (Some p.place) ((p.place, a_place) ∷ [])
      (the_target a_place p.place) (lines_have field.Carried p.carried))

  participant_has : (p : model.Participant) → Has n (participant_tree p) (participant_links p)
  participant_has p = has_branch field.Participant (Some p.role) (Some p.person) ((p.person, a_person) ∷ [])
      (the_target a_person p.person) (lines_have field.Carried p.carried)

  own_tag : (e : model.Event) → Has n (tag_tree e) []
  own_tag e = record { same = refl }

  event_has : (e : model.Event) → Has n (event_tree e) (event_links e)
  event_has e = has_branch field.Event None (Some e.owner) ((e.owner, a_holder) ∷ []) (the_target a_holder e.owner)
      (tells_both (tells_one (own_tag e))
      (tells_both (when_has _ e.place)
      (tells_both (tells_each participant_tree participant_links participant_has e.participants)
      (lines_have field.Carried e.carried))))

  mention_has : (m : model.Mention) → Has n (mention_tree m) (mention_links m)
  mention_has m =
      let all = has_branch field.Mention (Some m.name) (option_map link_person m.link) (mention_links m)
      (if_target a_person (option_map link_person m.link))
      (tells_both (no_text field.Role (Some (role_word m.role)))
      (no_text field.Reason (option_map link_reason m.link))) in
      record { same = all.same ∙ ap (is_among n) (append-nil (mention_links m)) }

  bare_has : (date : Option (List ℕ)) (place : Option ℕ) → Tells n (when_trees date (option_map bare_place place))
      (field_links a_place place)
  bare_has date None = no_text field.Date date
  bare_has date (Some p) = when_has date (Some (bare_place p))

  entry_has : (e : model.Entry) → Has n (entry_tree e) (entry_links e)
  entry_has e = has_branch field.Entry (Some (entry_kind_word e.kind)) None [] refl
      (tells_both (tells_one (has_branch field.Key (Some (key_words e.item e.page)) (Some e.source)
      ((e.source, a_source) ∷ []) (the_target a_source e.source) tells_none))
      (tells_both (no_text field.Page (Some e.page))
      (tells_both (no_text field.Item (Some (decimal e.item.number)))
      (tells_both (bare_has (option_map date_text e.date) e.place)
      (tells_both (no_text field.Text (Some e.text)) (tells_each mention_tree mention_links mention_has e.mentions))))))

  other_has : (o : model.Other) → Has n (other_tree o) (other_links o)
  other_has o = has_branch field.Other None None [] refl (tells_one (record {
    same = ap₂ (λ a b. a || b) (value_has o.tag o.value)
        (forest_some (map (relabel label_of) o.carried) ∙ (carried_has o.carried).same)
        ∙ sym (among_both n (value_links o.value) (carried_links o.carried));
  }))

  record_has : (r : Record) → Has n (record_tree r) (links r)
  record_has (kind.Place p) = place_has p
  record_has (kind.Repo r) = repo_has r
  record_has (kind.Source s) = source_has s
  record_has (kind.Person p) = person_has p
  record_has (kind.Family f) = family_has f
  record_has (kind.Citation c) = citation_has c
  record_has (kind.Event e) = event_has e
  record_has (kind.Entry e) = entry_has e
  record_has (kind.Other o) = other_has o

pub lines_tell : (r : Record) (n : ℕ) → some_line_names n (stored r) ≡ is_among n (links r)
lines_tell r n = flat_has n 0 (record_tree r) ∙ (record_has n r).same
