-- Each number on the lines of an export names a record of level 0.
use Rattle.std.specs.Prelude.{ℕ, ◌≡◌, Bool, true, List, [], ◌∷◌, ◌++◌, map, codes, Option, Some, None, option_map, refl}
use Rattle.std.specs.List.{flat_map}
use Rattle.std.specs.FinMap.{get}
use Rattle.std.proofs.Common.{ap, sym, subst}
use Rattle.stored_lines.specs.Tree.{Tree, node, forest_of, list_of}
use Rattle.stored_lines.specs.Line.{Line, Lines}
use Rattle.stored_lines.specs.declared.carried.Value.TheVariants as value
use Rattle.record_kinds.specs.Model as model
use Rattle.record_kinds.specs.declared.record.Record.{Record}
use Rattle.record_kinds.specs.declared.record.Record.TheVariants as kind
use Rattle.record_fields.specs.Dated.{date_text}
use Rattle.record_fields.specs.Words.{quality_word, sex_word, role_word}
use Rattle.archive_state.specs.Links.{
  Link,
  Wanted,
  a_place,
  a_repo,
  a_source,
  a_person,
  at_level_0,
  is_wanted,
  line_links,
  forest_links,
  carried_links,
  field_links,
  holding_links,
  name_links,
  partner_links,
  child_links,
  participant_links,
  place_line_links,
  mention_links,
  links,
}
use Rattle.record_shapes.specs.Shapes.{
  Side,
  Around,
  line,
  pointer_line,
  text_line,
  text_lines,
  loc_line,
  loc_lines,
  holding_line,
  repo_lines,
  source_lines,
  place_lines,
  citation_line,
  citation_lines,
  event_place_lines,
  role_said,
  role_lines,
  participant_line,
  event_lines,
  events_below,
  name_line,
  side_line,
  person_lines,
  partner_tag,
  partner_line,
  child_line,
  family_lines,
  link_lines,
  mention_line,
  entry_place_lines,
  entry_lines,
}
use Rattle.record_shapes.specs.Lists.{EachOf}
use Rattle.archive_state.specs.Content.{Records}
use Rattle.archive_state.specs.Sound as sound
use Rattle.record_shapes.proofs.Each.{each_both, each_parts}

pub forest_flat : (ts : List (Tree Line)) → forest_links (forest_of ts) ≡ carried_links ts
forest_flat [] = refl
forest_flat (t ∷ ts) = ap (λ ls. line_links t ++ ls) (forest_flat ts)

module _ (m : Records) where
  abbrev S : Link → Type 0
  S = sound.Stands m

  abbrev pub Fine : Lines → Type 0
  Fine ts = EachOf S (carried_links ts)

  -- where something of a kind is wanted, it is of level 0
  pub stands_0 : (w : Wanted) (n : ℕ) → ((r : Record) → is_wanted w r ≡ true → is_wanted at_level_0 r ≡ true) → S (n, w)
      → S (n, at_level_0)
  stands_0 w n f h = by (get m n) h
    where
      by : (o : Option Record) → option_map (is_wanted w) o ≡ Some true
          → option_map (is_wanted at_level_0) o ≡ Some true
      by None e = absurd cc
      by (Some r) e = let is : is_wanted w r ≡ true = cc in ap (λ b. let z : Option Bool = Some b in z) (f r is)

  pub place_0 : (r : Record) → is_wanted a_place r ≡ true → is_wanted at_level_0 r ≡ true
  place_0 (kind.Place x) h = refl
  place_0 _ h = absurd cc

  pub repo_0 : (r : Record) → is_wanted a_repo r ≡ true → is_wanted at_level_0 r ≡ true
  repo_0 (kind.Repo x) h = refl
  repo_0 _ h = absurd cc

  pub source_0 : (r : Record) → is_wanted a_source r ≡ true → is_wanted at_level_0 r ≡ true
  source_0 (kind.Source x) h = refl
  source_0 _ h = absurd cc

  pub person_0 : (r : Record) → is_wanted a_person r ≡ true → is_wanted at_level_0 r ≡ true
  person_0 (kind.Person x) h = refl
  person_0 _ h = absurd cc

  -- ---- one line and those after
  fine_text : (tag text : List ℕ) (below rest : Lines) → Fine below → Fine rest
      → Fine (line tag (value.Text text) below ∷ rest)
  fine_text tag text below rest h g = each_both S (forest_links (forest_of below)) (carried_links rest)
      (subst (EachOf S) (sym (forest_flat below)) h) g

  fine_pointer : (tag : List ℕ) (n : ℕ) (below rest : Lines) → S (n, at_level_0) → Fine below → Fine rest
      → Fine (pointer_line tag n below ∷ rest)
  fine_pointer tag n below rest s h g = (
    s,
    each_both S (forest_links (forest_of below)) (carried_links rest)
        (subst (EachOf S) (sym (forest_flat below)) h) g,
  )

  fine_texts : (tag : List ℕ) (o : Option (List ℕ)) (rest : Lines) → Fine rest → Fine (text_lines tag o ++ rest)
  fine_texts tag None rest h = h
  fine_texts tag (Some t) rest h = h

  -- ---- parts
  fine_holdings : (hs : List model.Holding) (rest : Lines) → EachOf S (flat_map holding_links hs) → Fine rest
      → Fine (map holding_line hs ++ rest)
  fine_holdings [] rest h g = g
  fine_holdings (x ∷ hs) rest h g =
      let both : EachOf S (holding_links x) × EachOf S (flat_map holding_links hs) =
      each_parts S (holding_links x) (flat_map holding_links hs) h in
      fine_pointer (codes "REPO") x.repo (text_lines (codes "CALN") x.call_number ++ x.carried)
      (map holding_line hs ++ rest) (stands_0 a_repo x.repo repo_0 both.0.0)
      (fine_texts (codes "CALN") x.call_number x.carried both.0.1) (fine_holdings hs rest both.1 g)

  fine_citation : (c : model.Citation) (rest : Lines) → EachOf S (links (kind.Citation c)) → Fine rest
      → Fine (citation_line c ∷ rest)
  fine_citation c rest h g =
      fine_pointer (codes "SOUR") c.source
      (text_lines (codes "PAGE") c.page
      ++ (text_lines (codes "QUAY") (option_map quality_word c.quality) ++ c.carried)) rest
      (stands_0 a_source c.source source_0 h.1.0)
      (fine_texts (codes "PAGE") c.page _
      (fine_texts (codes "QUAY") (option_map quality_word c.quality) c.carried h.1.1)) g

  abbrev pub Leaf : Tree Record → Type 0
  Leaf (node r f) = EachOf S (links r)

  abbrev pub Branch : Tree Record → Type 0
  Branch (node r f) = EachOf S (links r) × EachOf Leaf (list_of f)

  fine_citations : (ts : List (Tree Record)) (rest : Lines) → EachOf Leaf ts → Fine rest
      → Fine (citation_lines ts ++ rest)
  fine_citations [] rest h g = g
  fine_citations (node (kind.Citation c) f ∷ ts) rest h g = fine_citation c (citation_lines ts ++ rest) h.0
      (fine_citations ts rest h.1 g)
  fine_citations (node _ f ∷ ts) rest h g = fine_citations ts rest h.1 g

  fine_participants : (ps : List model.Participant) (rest : Lines) → EachOf S (flat_map participant_links ps)
      → Fine rest → Fine (map participant_line ps ++ rest)
  fine_participants [] rest h g = g
  fine_participants (p ∷ ps) rest h g =
      let both : EachOf S (participant_links p) × EachOf S (flat_map participant_links ps) =
      each_parts S (participant_links p) (flat_map participant_links ps) h in
      fine_pointer (codes "_PART") p.person (role_lines p.role ++ p.carried) (map participant_line ps ++ rest)
      (stands_0 a_person p.person person_0 both.0.0)
      (fine_texts (codes "_ROLE") (role_said p.role) p.carried both.0.1) (fine_participants ps rest both.1 g)

  fine_event_place : (a : Around) (o : Option model.EventPlace) (rest : Lines) → EachOf S (place_line_links o)
      → Fine rest → Fine (event_place_lines a o ++ rest)
  fine_event_place a None rest h g = g
  fine_event_place a (Some p) rest h g = fine_text (codes "PLAC") (a.path p.place) (loc_line p.place ∷ p.carried) rest
      (stands_0 a_place p.place place_0 h.0, h.1) g

  fine_event : (a : Around) (e : model.Event) (ts : List (Tree Record)) → EachOf S (links (kind.Event e))
      → EachOf Leaf ts → Fine (event_lines a e ts)
  fine_event a e ts h l =
      let one = each_parts S (place_line_links e.place)
      (flat_map participant_links e.participants ++ carried_links e.carried) h.1 in
      let two = each_parts S (flat_map participant_links e.participants) (carried_links e.carried) one.1 in
      fine_texts (codes "DATE") (option_map date_text e.date) _
      (fine_event_place a e.place _ one.0
      (fine_participants e.participants _ two.0 (fine_citations ts e.carried l two.1)))

  fine_events : (a : Around) (ts : List (Tree Record)) (rest : Lines) → EachOf Branch ts → Fine rest
      → Fine (events_below a ts ++ rest)
  fine_events a [] rest h g = g
  fine_events a (node (kind.Event e) f ∷ ts) rest h g = fine_text e.tag e.value (event_lines a e (list_of f))
      (events_below a ts ++ rest) (fine_event a e (list_of f) h.0.0 h.0.1) (fine_events a ts rest h.1 g)
  fine_events a (node _ f ∷ ts) rest h g = fine_events a ts rest h.1 g

  fine_names : (ns : List model.Name) (rest : Lines) → EachOf S (flat_map name_links ns) → Fine rest
      → Fine (map name_line ns ++ rest)
  fine_names [] rest h g = g
  fine_names (n ∷ ns) rest h g =
      let both : Fine n.carried × EachOf S (flat_map name_links ns) =
      each_parts S (name_links n) (flat_map name_links ns) h in
      fine_text (codes "NAME") n.text n.carried (map name_line ns ++ rest) both.0 (fine_names ns rest both.1 g)

  abbrev pub FineSide : Side → Type 0
  FineSide s = S (s.family, at_level_0) × Fine s.carried

  fine_sides : (tag : List ℕ) (ss : List Side) (rest : Lines) → EachOf FineSide ss → Fine rest
      → Fine (map (side_line tag) ss ++ rest)
  fine_sides tag [] rest h g = g
  fine_sides tag (s ∷ ss) rest h g = fine_pointer tag s.family s.carried (map (side_line tag) ss ++ rest) h.0.0 h.0.1
      (fine_sides tag ss rest h.1 g)

  fine_partners : (ps : List model.Partner) (rest : Lines) → EachOf S (flat_map partner_links ps) → Fine rest
      → Fine (map partner_line ps ++ rest)
  fine_partners [] rest h g = g
  fine_partners (p ∷ ps) rest h g =
      let both : EachOf S (partner_links p) × EachOf S (flat_map partner_links ps) =
      each_parts S (partner_links p) (flat_map partner_links ps) h in
      fine_pointer (partner_tag p.partnership) p.person p.carried (map partner_line ps ++ rest)
      (stands_0 a_person p.person person_0 both.0.0)
      (each_parts S (carried_links p.carried) (carried_links p.carried_by_person) both.0.1).0
      (fine_partners ps rest both.1 g)

  fine_children : (ps : List model.Child) (rest : Lines) → EachOf S (flat_map child_links ps) → Fine rest
      → Fine (map child_line ps ++ rest)
  fine_children [] rest h g = g
  fine_children (p ∷ ps) rest h g =
      let both : EachOf S (child_links p) × EachOf S (flat_map child_links ps) =
      each_parts S (child_links p) (flat_map child_links ps) h in
      fine_pointer (codes "CHIL") p.person p.carried (map child_line ps ++ rest)
      (stands_0 a_person p.person person_0 both.0.0)
      (each_parts S (carried_links p.carried) (carried_links p.carried_by_person) both.0.1).0
      (fine_children ps rest both.1 g)

  fine_link : (o : Option model.Link) → EachOf S (field_links a_person (option_map (λ (l : model.Link). l.person) o))
      → Fine (link_lines o)
  fine_link None h = tt
  fine_link (Some l) h = (stands_0 a_person l.person person_0 h.0, tt)

  fine_mentions : (ms : List model.Mention) → EachOf S (flat_map mention_links ms) → Fine (map mention_line ms)
  fine_mentions [] h = tt
  fine_mentions (x ∷ ms) h =
      let both : EachOf S (mention_links x) × EachOf S (flat_map mention_links ms) =
      each_parts S (mention_links x) (flat_map mention_links ms) h in
      fine_text (codes "_MENT") x.name (text_line (codes "_ROLE") (role_word x.role) ∷ link_lines x.link)
      (map mention_line ms) (fine_link x.link both.0) (fine_mentions ms both.1)

  fine_locs : (o : Option ℕ) (rest : Lines) → EachOf S (field_links a_place o) → Fine rest → Fine (loc_lines o ++ rest)
  fine_locs None rest h g = g
  fine_locs (Some n) rest h g = (stands_0 a_place n place_0 h.0, g)

  fine_entry_place : (a : Around) (o : Option ℕ) (rest : Lines) → EachOf S (field_links a_place o) → Fine rest
      → Fine (entry_place_lines a o ++ rest)
  fine_entry_place a None rest h g = g
  fine_entry_place a (Some n) rest h g = fine_text (codes "PLAC") (a.path n) (pointer_line (codes "_LOC") n [] ∷ [])
      rest (stands_0 a_place n place_0 h.0, tt) g

  -- ---- the lines of a record of level 0
  module _ (a : Around) (n : ℕ) (cs : EachOf FineSide (a.child_in n)) (ps : EachOf FineSide (a.partner_in n)) where
    pub fine_person : (p : model.Person) (ts : List (Tree Record)) → EachOf S (links (kind.Person p)) → EachOf Branch ts
        → EachOf Leaf ts → Fine (person_lines a n p ts)
    fine_person p ts h b l =
        let one = each_parts S (flat_map name_links p.names) (carried_links p.carried) h in
        fine_names p.names _ one.0 (fine_texts (codes "SEX") (option_map sex_word p.sex) _ (fine_events a ts _ b
        (fine_sides (codes "FAMC") (a.child_in n) _ cs
        (fine_sides (codes "FAMS") (a.partner_in n) _ ps (fine_citations ts p.carried l one.1)))))

  pub fine_family : (a : Around) (x : model.Family) (ts : List (Tree Record)) → EachOf S (links (kind.Family x))
      → EachOf Branch ts → EachOf Leaf ts → Fine (family_lines a x ts)
  fine_family a x ts h b l =
      let one = each_parts S (flat_map partner_links x.partners)
      (flat_map child_links x.children ++ carried_links x.carried) h in
      let two = each_parts S (flat_map child_links x.children) (carried_links x.carried) one.1 in
      fine_partners x.partners _ one.0
      (fine_children x.children _ two.0 (fine_events a ts _ b (fine_citations ts x.carried l two.1)))

  pub fine_place : (p : model.Place) → EachOf S (links (kind.Place p)) → Fine (place_lines p)
  fine_place p h = let one = each_parts S (field_links a_place p.parent) (carried_links p.carried) h in
      fine_locs p.parent p.carried one.0 one.1

  pub fine_repo : (r : model.Repo) → EachOf S (links (kind.Repo r)) → Fine (repo_lines r)
  fine_repo r h = fine_texts (codes "NAME") r.name r.carried h

  pub fine_source : (s : model.Source) → EachOf S (links (kind.Source s)) → Fine (source_lines s)
  fine_source s h =
      let one = each_parts S (flat_map holding_links s.holdings) (carried_links s.carried) h in
      fine_texts (codes "TITL") s.title _
      (fine_texts (codes "AUTH") s.author _
      (fine_texts (codes "PUBL") s.publisher _ (fine_holdings s.holdings s.carried one.0 one.1)))

  pub fine_entry : (a : Around) (e : model.Entry) → EachOf S (links (kind.Entry e)) → Fine (entry_lines a e)
  fine_entry a e h =
      let one = each_parts S (field_links a_place e.place) (flat_map mention_links e.mentions) h.1 in (
        stands_0 a_source e.source source_0 h.0,
        fine_texts (codes "DATE") (option_map date_text e.date) _
            (fine_entry_place a e.place _ one.0 (fine_mentions e.mentions one.1)),
      )
