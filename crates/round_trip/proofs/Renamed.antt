-- The lines of records with their numbers changed are the lines with their numbers changed.
use Rattle.std.specs.Prelude.{ℕ, ◌≡◌, List, [], ◌∷◌, ◌++◌, map, Option, Some, None, option_map, codes, refl, decimal}
use Rattle.std.proofs.Common.{ap, sym, ◌∙◌}
use Rattle.std.proofs.lemmas.List.{map-append}
use Rattle.stored_lines.specs.Tree.{Tree, Forest, node, none, more, forest_of, list_of, relabel, relabel_all}
use Rattle.stored_lines.specs.Line.{Line, Lines}
use Rattle.stored_lines.specs.declared.carried.Value.{Value}
use Rattle.stored_lines.specs.declared.carried.Value.TheVariants as value
use Rattle.stored_lines.proofs.Relabel.{relabel_children}
use Rattle.record_kinds.specs.Model as model
use Rattle.record_kinds.specs.declared.record.Record.{Record}
use Rattle.record_kinds.specs.declared.record.Record.TheVariants as kind
use Rattle.record_fields.specs.Dated.{date_text}
use Rattle.record_fields.specs.Words.{quality_word, sex_word, role_word, entry_kind_word}
use Rattle.archive_state.specs.Merging.{
  value_with,
  line_with,
  lines_with,
  holding_with,
  name_with,
  partner_with,
  child_with,
  participant_with,
  event_place_with,
  citation_with,
  event_with,
  mention_with,
  link_with,
  entry_with,
  record_with,
}
use Rattle.record_shapes.specs.Shapes.{
  Side,
  Around,
  line,
  pointer_line,
  text_line,
  text_lines,
  loc_line,
  loc_lines,
  holding_line,
  repo_lines,
  source_lines,
  place_lines,
  citation_line,
  citation_lines,
  event_place_lines,
  role_said,
  role_lines,
  participant_line,
  event_lines,
  events_below,
  name_line,
  side_line,
  person_lines,
  partner_tag,
  partner_line,
  child_line,
  family_lines,
  link_lines,
  mention_line,
  entry_place_lines,
  entry_lines,
  shape,
}
use Rattle.round_trip.specs.OrderLaws.{IsAroundWith, IsRenamed, side_with}

pub list_relabelled : {A B : Type 0} (g : A → B) (fo : Forest A)
    → list_of (relabel_all g fo) ≡ map (relabel g) (list_of fo)
list_relabelled g none = refl
list_relabelled g (more t ts) = ap (λ us. relabel g t ∷ us) (list_relabelled g ts)

module _ (f : ℕ → ℕ) where
  abbrev pub R : Tree Line → Tree Line
  R = relabel (line_with f)

  line_renamed : (tag : List ℕ) (v : Value) (below : Lines) (below' : Lines) → map R below ≡ below'
      → R (line tag v below) ≡ line tag (value_with f v) below'
  line_renamed tag v below below' e = ap (node (record { tag = tag; value = value_with f v }))
      (relabel_children (line_with f) below ∙ ap forest_of e)

  -- two segments
  pub both : (a b a' b' : Lines) → map R a ≡ a' → map R b ≡ b' → map R (a ++ b) ≡ a' ++ b'
  both a b a' b' e g = map-append R a b ∙ (λ i. e i ++ g i)

  texts : (tag : List ℕ) (o : Option (List ℕ)) → map R (text_lines tag o) ≡ text_lines tag o
  texts tag None = refl
  texts tag (Some t) = refl

  pub locs : (o : Option ℕ) → map R (loc_lines o) ≡ loc_lines (option_map f o)
  locs None = refl
  locs (Some n) = refl

  holdings : (hs : List model.Holding) → map R (map holding_line hs) ≡ map holding_line (map (holding_with f) hs)
  holdings [] = refl
  holdings (h ∷ hs) = λ i. line_renamed (codes "REPO") (value.Ref h.repo)
      (text_lines (codes "CALN") h.call_number ++ h.carried)
      (text_lines (codes "CALN") h.call_number ++ lines_with f h.carried)
      (both (text_lines (codes "CALN") h.call_number) h.carried (text_lines (codes "CALN") h.call_number)
      (lines_with f h.carried) (texts (codes "CALN") h.call_number) refl) i ∷ holdings hs i

  sources : (s : model.Source) → map R (source_lines s) ≡ text_lines (codes "TITL") s.title
      ++ (text_lines (codes "AUTH") s.author
      ++ (text_lines (codes "PUBL") s.publisher
      ++ (map holding_line (map (holding_with f) s.holdings) ++ lines_with f s.carried)))
  sources s =
      both (text_lines (codes "TITL") s.title) _ (text_lines (codes "TITL") s.title) _ (texts (codes "TITL") s.title)
      (both (text_lines (codes "AUTH") s.author) _ (text_lines (codes "AUTH") s.author) _
      (texts (codes "AUTH") s.author)
      (both (text_lines (codes "PUBL") s.publisher) _ (text_lines (codes "PUBL") s.publisher) _
      (texts (codes "PUBL") s.publisher)
      (both (map holding_line s.holdings) s.carried (map holding_line (map (holding_with f) s.holdings))
      (lines_with f s.carried) (holdings s.holdings) refl)))

  citation : (c : model.Citation) → R (citation_line c) ≡ citation_line (citation_with f c)
  citation c = line_renamed (codes "SOUR") (value.Ref c.source) _ _
      (both (text_lines (codes "PAGE") c.page) _ (text_lines (codes "PAGE") c.page) _ (texts (codes "PAGE") c.page)
      (both (text_lines (codes "QUAY") (option_map quality_word c.quality)) c.carried
      (text_lines (codes "QUAY") (option_map quality_word c.quality)) (lines_with f c.carried)
      (texts (codes "QUAY") (option_map quality_word c.quality)) refl))

  citations : (ts : List (Tree Record)) → map R (citation_lines ts)
      ≡ citation_lines (map (relabel (record_with f)) ts)
  citations [] = refl
  citations (node (kind.Citation c) fo ∷ ts) = λ i. citation c i ∷ citations ts i
  citations (node _ fo ∷ ts) = citations ts

  participants : (ps : List model.Participant) → map R (map participant_line ps)
      ≡ map participant_line (map (participant_with f) ps)
  participants [] = refl
  participants (p ∷ ps) = λ i. line_renamed (codes "_PART") (value.Ref p.person) (role_lines p.role ++ p.carried)
      (role_lines p.role ++ lines_with f p.carried)
      (both (role_lines p.role) p.carried (role_lines p.role) (lines_with f p.carried)
      (texts (codes "_ROLE") (role_said p.role)) refl) i ∷ participants ps i

  names : (ns : List model.Name) → map R (map name_line ns) ≡ map name_line (map (name_with f) ns)
  names [] = refl
  names (n ∷ ns) = λ i. line_renamed (codes "NAME") (value.Text n.text) n.carried (lines_with f n.carried) refl i
      ∷ names ns i

  partners : (ps : List model.Partner) → map R (map partner_line ps) ≡ map partner_line (map (partner_with f) ps)
  partners [] = refl
  partners (p ∷ ps) = λ i. line_renamed (partner_tag p.partnership) (value.Ref p.person) p.carried
      (lines_with f p.carried) refl i ∷ partners ps i

  children : (cs : List model.Child) → map R (map child_line cs) ≡ map child_line (map (child_with f) cs)
  children [] = refl
  children (c ∷ cs) = λ i. line_renamed (codes "CHIL") (value.Ref c.person) c.carried (lines_with f c.carried) refl i
      ∷ children cs i

  pub sides : (tag : List ℕ) (ss : List Side) → map R (map (side_line tag) ss)
      ≡ map (side_line tag) (map (side_with f) ss)
  sides tag [] = refl
  sides tag (s ∷ ss) = λ i. line_renamed tag (value.Ref s.family) s.carried (lines_with f s.carried) refl i
      ∷ sides tag ss i

  links : (o : Option model.Link) → map R (link_lines o) ≡ link_lines (option_map (link_with f) o)
  links None = refl
  links (Some l) = refl

  mentions : (ms : List model.Mention) → map R (map mention_line ms) ≡ map mention_line (map (mention_with f) ms)
  mentions [] = refl
  mentions (m ∷ ms) = λ i. line_renamed (codes "_MENT") (value.Text m.name)
      (text_line (codes "_ROLE") (role_word m.role) ∷ link_lines m.link)
      (text_line (codes "_ROLE") (role_word m.role) ∷ link_lines (option_map (link_with f) m.link))
      (ap (λ (us : Lines). text_line (codes "_ROLE") (role_word m.role) ∷ us) (links m.link)) i ∷ mentions ms i

  module _ (a b : Around) (h : IsAroundWith f a b) where
    places : (o : Option model.EventPlace) → map R (event_place_lines a o)
        ≡ event_place_lines b (option_map (event_place_with f) o)
    places None = refl
    places (Some p) = ap (λ t. t ∷ [])
        (line_renamed (codes "PLAC") (value.Text (a.path p.place)) (loc_line p.place ∷ p.carried)
        (loc_line (f p.place) ∷ lines_with f p.carried) refl
        ∙ ap (λ path. line (codes "PLAC") (value.Text path) (loc_line (f p.place) ∷ lines_with f p.carried))
        (sym (h.paths p.place)))

    entry_places : (o : Option ℕ) → map R (entry_place_lines a o) ≡ entry_place_lines b (option_map f o)
    entry_places None = refl
    entry_places (Some n) = ap (λ path. line (codes "PLAC") (value.Text path) (loc_line (f n) ∷ []) ∷ [])
        (sym (h.paths n))

    event : (e : model.Event) (ts : List (Tree Record)) → map R (event_lines a e ts)
        ≡ event_lines b (event_with f e) (map (relabel (record_with f)) ts)
    event e ts =
        both (text_lines (codes "DATE") (option_map date_text e.date)) _
        (text_lines (codes "DATE") (option_map date_text e.date)) _
        (texts (codes "DATE") (option_map date_text e.date))
        (both (event_place_lines a e.place) _ (event_place_lines b (option_map (event_place_with f) e.place)) _
        (places e.place)
        (both (map participant_line e.participants) _ (map participant_line (map (participant_with f) e.participants))
        _ (participants e.participants)
        (both (citation_lines ts) e.carried (citation_lines (map (relabel (record_with f)) ts))
        (lines_with f e.carried) (citations ts) refl)))

    events : (ts : List (Tree Record)) → map R (events_below a ts) ≡ events_below b (map (relabel (record_with f)) ts)
    events [] = refl
    events (node (kind.Event e) fo ∷ ts) =
        λ i. (line_renamed e.tag (value.Text e.value) (event_lines a e (list_of fo))
        (event_lines b (event_with f e) (map (relabel (record_with f)) (list_of fo))) (event e (list_of fo))
        ∙ ap (λ us. line e.tag (value.Text e.value) (event_lines b (event_with f e) us))
        (sym (list_relabelled (record_with f) fo))) i ∷ events ts i
    events (node _ fo ∷ ts) = events ts

    person : (n : ℕ) (p : model.Person) (ts : List (Tree Record))
        → map R (person_lines a n p ts)
        ≡ person_lines b (f n)
        (record { names = map (name_with f) p.names; sex = p.sex; carried = lines_with f p.carried })
        (map (relabel (record_with f)) ts)
    person n p ts =
        both (map name_line p.names) _ (map name_line (map (name_with f) p.names)) _ (names p.names)
        (both (text_lines (codes "SEX") (option_map sex_word p.sex)) _
        (text_lines (codes "SEX") (option_map sex_word p.sex)) _ (texts (codes "SEX") (option_map sex_word p.sex))
        (both (events_below a ts) _ (events_below b (map (relabel (record_with f)) ts)) _ (events ts)
        (both (map (side_line (codes "FAMC")) (a.child_in n)) _ (map (side_line (codes "FAMC")) (b.child_in (f n))) _
        (sides (codes "FAMC") (a.child_in n) ∙ ap (map (side_line (codes "FAMC"))) (sym (h.child_in n)))
        (both (map (side_line (codes "FAMS")) (a.partner_in n)) _
        (map (side_line (codes "FAMS")) (b.partner_in (f n))) _
        (sides (codes "FAMS") (a.partner_in n) ∙ ap (map (side_line (codes "FAMS"))) (sym (h.partner_in n)))
        (both (citation_lines ts) p.carried (citation_lines (map (relabel (record_with f)) ts))
        (lines_with f p.carried) (citations ts) refl)))))

    family : (x : model.Family) (ts : List (Tree Record)) → map R (family_lines a x ts)
        ≡ family_lines b (record {
          partners = map (partner_with f) x.partners;
          children = map (child_with f) x.children;
          carried = lines_with f x.carried;
        }) (map (relabel (record_with f)) ts)
    family x ts =
        both (map partner_line x.partners) _ (map partner_line (map (partner_with f) x.partners)) _
        (partners x.partners)
        (both (map child_line x.children) _ (map child_line (map (child_with f) x.children)) _ (children x.children)
        (both (events_below a ts) _ (events_below b (map (relabel (record_with f)) ts)) _ (events ts)
        (both (citation_lines ts) x.carried (citation_lines (map (relabel (record_with f)) ts))
        (lines_with f x.carried) (citations ts) refl)))

    pub entry : (e : model.Entry) → map R (entry_lines a e) ≡ entry_lines b (entry_with f e)
    entry e =
        ap (λ (us : Lines). R (pointer_line (codes "SOUR") e.source [])
        ∷ (text_line (codes "PAGE") e.page ∷ (text_line (codes "_ITEM") (decimal e.item.number) ∷ us)))
        (both (text_lines (codes "DATE") (option_map date_text e.date)) _
        (text_lines (codes "DATE") (option_map date_text e.date)) _
        (texts (codes "DATE") (option_map date_text e.date))
        (both (entry_place_lines a e.place) _ (entry_place_lines b (option_map f e.place)) _ (entry_places e.place)
        (ap (λ (us : Lines). text_line (codes "TEXT") e.text ∷ us) (mentions e.mentions))))

renamed_at : (f : ℕ → ℕ) (a b : Around) → IsAroundWith f a b → (n : ℕ) (r : Record) (fo : Forest Record)
    → relabel (line_with f) (shape a n (node r fo))
    ≡ shape b (f n) (node (record_with f r) (relabel_all (record_with f) fo))
renamed_at f a b h n (kind.Place p) fo = line_renamed f (codes "_LOC") (value.Text []) (place_lines p) _
    (ap (λ (us : Lines). text_line (codes "NAME") p.name ∷ us)
    (both f (loc_lines p.parent) p.carried (loc_lines (option_map f p.parent)) (lines_with f p.carried)
    (locs f p.parent) refl))
renamed_at f a b h n (kind.Repo r) fo = line_renamed f (codes "REPO") (value.Text []) (repo_lines r) _
    (both f (text_lines (codes "NAME") r.name) r.carried (text_lines (codes "NAME") r.name) (lines_with f r.carried)
    (texts f (codes "NAME") r.name) refl)
renamed_at f a b h n (kind.Source s) fo = line_renamed f (codes "SOUR") (value.Text []) (source_lines s) _
    (sources f s)
renamed_at f a b h n (kind.Person p) fo = line_renamed f (codes "INDI") (value.Text [])
    (person_lines a n p (list_of fo)) _
    (person f a b h n p (list_of fo)
    ∙ ap (person_lines b (f n)
    (record { names = map (name_with f) p.names; sex = p.sex; carried = lines_with f p.carried }))
    (sym (list_relabelled (record_with f) fo)))
renamed_at f a b h n (kind.Family x) fo = line_renamed f (codes "FAM") (value.Text []) (family_lines a x (list_of fo))
    _
    (family f a b h x (list_of fo)
    ∙ ap (family_lines b
    (record {
      partners = map (partner_with f) x.partners;
      children = map (child_with f) x.children;
      carried = lines_with f x.carried;
    })) (sym (list_relabelled (record_with f) fo)))
renamed_at f a b h n (kind.Citation c) fo = citation f c
renamed_at f a b h n (kind.Event e) fo = line_renamed f e.tag (value.Text e.value) (event_lines a e (list_of fo)) _
    (event f a b h e (list_of fo) ∙ ap (event_lines b (event_with f e)) (sym (list_relabelled (record_with f) fo)))
renamed_at f a b h n (kind.Entry e) fo = line_renamed f (codes "_REG") (value.Text (entry_kind_word e.kind))
    (entry_lines a e) _ (entry f a b h e)
renamed_at f a b h n (kind.Other o) fo = line_renamed f o.tag o.value o.carried (lines_with f o.carried) refl

pub renamed : IsRenamed
renamed f a b n (node r fo) h = renamed_at f a b h n r fo
