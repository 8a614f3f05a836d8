-- What is read from the tree that a record is kept as is that record.
use Rattle.std.specs.Prelude.{
  ℕ,
  List,
  [],
  ◌∷◌,
  ◌++◌,
  ◌≡◌,
  map,
  Option,
  Some,
  None,
  true,
  false,
  cond,
  bytes_eq,
  refl,
  option_map,
  Bool,
  decimal,
}
use Rattle.std.specs.List.{All}
use Rattle.std.specs.Option.{unwrap_or}
use Rattle.std.proofs.lemmas.List.Elements.{All-head, All-tail}
use Rattle.std.proofs.Common.{ap, ◌∙◌}
use Rattle.stored_lines.specs.Tree.{Tree, node, forest_of, list_of, relabel}
use Rattle.stored_lines.specs.Line.{Label, Lines, Branches, label_for, label_of}
use Rattle.record_kinds.specs.Model as model
use Rattle.records.specs.Stored.{
  word,
  branch,
  lines_below,
  text_trees,
  place_tree,
  repo_tree,
  holding_tree,
  source_tree,
  citation_tree,
  name_tree,
  person_tree,
  partner_tree,
  child_tree,
  family_tree,
  when_trees,
  participant_tree,
  event_tree,
  link_person,
  link_reason,
  mention_tree,
  bare_place,
  key_words,
  entry_tree,
  other_tree,
  record_tree,
}
use Rattle.records.specs.Shallow.{
  InHolding,
  InSource,
  InName,
  InPerson,
  InPartner,
  InChild,
  InFamily,
  InPlaceLine,
  InParticipant,
  InEvent,
  InRecord,
}
use Rattle.records.specs.Reading.{
  under,
  first,
  text_at,
  number_at,
  below_all,
  lines_from,
  text_from,
  read_by,
  text_or_empty,
  place_from,
  repo_from,
  holding_from,
  source_from,
  citation_from,
  name_from,
  person_from,
  partner_from,
  child_from,
  family_from,
  event_place_from,
  participant_from,
  event_from,
  link_from,
  mention_from,
  place_number,
  entry_from,
  other_on,
  other_from,
  record_from,
}
use Rattle.stored_lines.proofs.Back.{list_of_forest_of, line_back}
use Rattle.record_fields.specs.Words.{quality_word, sex_word, partnership_word, role_word, quality_of, sex_of, role_of}
use Rattle.record_fields.specs.Items.{first_item, item_of}
use Rattle.record_fields.specs.Dated.{date_text, date_from}
use Rattle.record_fields.proofs.Worded.{quality_back, sex_back, partnership_back, entry_kind_back, role_back}
use Rattle.record_fields.proofs.Items.{item_back}
use Rattle.record_fields.proofs.Dated.{date_back}
use Rattle.stored_lines.specs.declared.carried.Value.{Value}
use Rattle.record_fields.specs.declared.entry_words.EntryKind.TheVariants as entry_kind
use Rattle.record_fields.specs.declared.entry_words.Role.TheVariants as role
use Rattle.records.proofs.Segments.{IsOf, Segment, laid, chosen, under-one}
use Rattle.record_fields.specs.declared.words.Partnership.TheVariants as partnership
use Rattle.records.specs.declared.field.Field.{Field}
use Rattle.records.specs.declared.field.Field.TheVariants as field
use Rattle.record_kinds.specs.declared.record.Record.{Record}
use Rattle.record_kinds.specs.declared.record.Record.TheVariants as kind

-- what a field has on the lines below a line, where these are segments
field-of : (g : Field) (ss : List Segment) (ts : Branches) → chosen g ss ≡ ts ++ []
    → under g (list_of (forest_of (laid ss))) ≡ ts
field-of g ss ts e = ap (under g) (list_of_forest_of (laid ss)) ∙ under-one g ss ts e

-- lines of one field
no-lines : (b : Bool) (ts : Branches) → ts ≡ [] → ts ≡ cond b ts []
no-lines true ts e = refl
no-lines false ts e = e

one-line : (b : Bool) (t : Tree Label) (ts us : Branches) → us ≡ cond b ts [] → cond b (t ∷ us) us ≡ cond b (t ∷ ts) []
one-line true t ts us e = ap (λ (vs : Branches). t ∷ vs) e
one-line false t ts us e = e

of-none : (f : Field) → IsOf f []
of-none f g = no-lines (bytes_eq (word f) (word g)) [] refl

of-more : (f : Field) (text : Option (List ℕ)) (target : Option ℕ) (below ts : Branches) → IsOf f ts
    → IsOf f (branch f text target below ∷ ts)
of-more f text target below ts h g = one-line (bytes_eq (word f) (word g)) (branch f text target below) ts
    (under g ts) (h g)

of-one : (f : Field) (text : Option (List ℕ)) (target : Option ℕ) (below : Branches)
    → IsOf f (branch f text target below ∷ [])
of-one f text target below = of-more f text target below [] (of-none f)

of-text : (f : Field) (t : Option (List ℕ)) → IsOf f (text_trees f t)
of-text f None = of-none f
of-text f (Some t) = of-one f (Some t) None []

of-lines : (f : Field) (cs : Lines) → IsOf f (lines_below f cs)
of-lines f [] = of-none f
of-lines f (c ∷ cs) = of-one f None None (map (relabel label_of) (c ∷ cs))

-- what a line of a field gives back
text-back : (f : Field) (t : Option (List ℕ)) → text_at (first (text_trees f t)) ≡ t
text-back f None = refl
text-back f (Some t) = refl

word-back : {A : Type 0} (word : A → List ℕ) (of_text : List ℕ → Option A) → ((a : A) → of_text (word a) ≡ Some a)
    → (o : Option A) → read_by of_text (option_map word o) ≡ o
word-back word of_text back None = refl
word-back word of_text back (Some a) = back a

map-back : {A B : Type 0} (f : A → B) (g : B → A) (Q : A → Type 0) → ((a : A) → Q a → g (f a) ≡ a) → (xs : List A)
    → All Q xs → map g (map f xs) ≡ xs
map-back f g Q back [] k = refl
map-back f g Q back (x ∷ xs) k = λ i. back x (All-head Q x xs k) i ∷ map-back f g Q back xs (All-tail Q x xs k) i

text-field : (f : Field) (ss : List Segment) (t : Option (List ℕ)) → chosen f ss ≡ text_trees f t ++ []
    → text_from f (list_of (forest_of (laid ss))) ≡ t
text-field f ss t e = ap (λ ts. text_at (first ts)) (field-of f ss (text_trees f t) e) ∙ text-back f t

parts-field : {A : Type 0} (kept : A → Tree Label) (from : Tree Label → A) (Q : A → Type 0)
    → ((a : A) → Q a → from (kept a) ≡ a) → (f : Field) (ss : List Segment) (xs : List A)
    → chosen f ss ≡ map kept xs ++ [] → All Q xs → map from (under f (list_of (forest_of (laid ss)))) ≡ xs
parts-field kept from Q back f ss xs e k = ap (map from) (field-of f ss (map kept xs) e)
    ∙ map-back kept from Q back xs k

-- the segments of each part
abbrev carried-of : Lines → Segment
carried-of cs = record {
  field = field.Carried;
  lines = lines_below field.Carried cs;
  is_of = of-lines field.Carried cs;
}

abbrev side-of : Lines → Segment
side-of cs = record { field = field.Side; lines = lines_below field.Side cs; is_of = of-lines field.Side cs }

abbrev text-of : Field → Option (List ℕ) → Segment
text-of f t = record { field = f; lines = text_trees f t; is_of = of-text f t }

of-holdings : (hs : List model.Holding) → IsOf field.Holding (map holding_tree hs)
of-holdings [] = of-none field.Holding
of-holdings (h ∷ hs) = of-more field.Holding h.call_number (Some h.repo) (lines_below field.Carried h.carried)
    (map holding_tree hs) (of-holdings hs)

of-names : (ns : List model.Name) → IsOf field.Name (map name_tree ns)
of-names [] = of-none field.Name
of-names (n ∷ ns) = of-more field.Name (Some n.text) None (lines_below field.Carried n.carried)
    (map name_tree ns) (of-names ns)

of-partners : (ps : List model.Partner) → IsOf field.Partner (map partner_tree ps)
of-partners [] = of-none field.Partner
of-partners (p ∷ ps) = of-more field.Partner (Some (partnership_word p.partnership)) (Some p.person)
    (lines_below field.Side p.carried_by_person ++ lines_below field.Carried p.carried) (map partner_tree ps)
    (of-partners ps)

of-children : (cs : List model.Child) → IsOf field.Child (map child_tree cs)
of-children [] = of-none field.Child
of-children (c ∷ cs) = of-more field.Child None (Some c.person)
    (lines_below field.Side c.carried_by_person ++ lines_below field.Carried c.carried) (map child_tree cs)
    (of-children cs)

-- a date and a place on one line
of-when : (t : Option (List ℕ)) (p : Option model.EventPlace) → IsOf field.Date (when_trees t p)
of-when t None = of-text field.Date t
of-when t (Some p) = of-one field.Date t (Some p.place) (lines_below field.Carried p.carried)

when-text : (t : Option (List ℕ)) (p : Option model.EventPlace) → text_at (first (when_trees t p)) ≡ t
when-text t None = text-back field.Date t
when-text t (Some p) = refl

of-participants : (ps : List model.Participant) → IsOf field.Participant (map participant_tree ps)
of-participants [] = of-none field.Participant
of-participants (p ∷ ps) = of-more field.Participant (Some p.role) (Some p.person) (lines_below field.Carried p.carried)
    (map participant_tree ps) (of-participants ps)

link-back : (l : Option model.Link) → link_from (option_map link_person l) (option_map link_reason l) ≡ l
link-back None = refl
link-back (Some l) = refl

mention-back : (m : model.Mention) → mention_from (mention_tree m) ≡ m
mention-back m =
    let reason = option_map link_reason m.link in
    let ss = text-of field.Role (Some (role_word m.role)) ∷ text-of field.Reason reason ∷ [] in
    λ i. record {
      role = (ap (λ t. unwrap_or (read_by role_of t) role.Child)
          (text-field field.Role ss (Some (role_word m.role)) refl) ∙ ap (λ o. unwrap_or o role.Child)
          (role_back m.role)) i;
      name = m.name;
      link = (ap (link_from (option_map link_person m.link)) (text-field field.Reason ss reason refl)
          ∙ link-back m.link) i;
    }

of-mentions : (ms : List model.Mention) → IsOf field.Mention (map mention_tree ms)
of-mentions [] = of-none field.Mention
of-mentions (m ∷ ms) = of-more field.Mention (Some m.name) (option_map link_person m.link)
    (text_trees field.Role (Some (role_word m.role)) ++ text_trees field.Reason (option_map link_reason m.link))
    (map mention_tree ms) (of-mentions ms)

number-back : (p : Option ℕ) → option_map place_number (option_map bare_place p) ≡ p
number-back None = refl
number-back (Some n) = refl

-- carried lines of which P holds are read again
module _ (read : Branches → Lines) (P : Lines → Type 0) (nil : P [])
    (back : (ls : Lines) → P ls → read (map (relabel label_of) ls) ≡ ls) where
  lines-back : (f : Field) (cs : Lines) → P cs → read (below_all (first (lines_below f cs))) ≡ cs
  lines-back f [] k = back [] k
  lines-back f (c ∷ cs) k = ap read (list_of_forest_of (map (relabel label_of) (c ∷ cs))) ∙ back (c ∷ cs) k

  -- the fields of a line whose lines below are segments
  lines-field : (f : Field) (ss : List Segment) (cs : Lines) → chosen f ss ≡ lines_below f cs ++ [] → P cs
      → lines_from read f (list_of (forest_of (laid ss))) ≡ cs
  lines-field f ss cs e k = ap (λ ts. read (below_all (first ts))) (field-of f ss (lines_below f cs) e)
      ∙ lines-back f cs k

  place-back : (p : model.Place) → P p.carried → place_from read (place_tree p) ≡ p
  place-back p k =
      let ss = carried-of p.carried ∷ [] in
      λ i. record { name = p.name; parent = p.parent; carried = lines-field field.Carried ss p.carried refl k i }

  repo-back : (r : model.Repo) → P r.carried → repo_from read (repo_tree r) ≡ r
  repo-back r k =
      let ss = carried-of r.carried ∷ [] in
      λ i. record { name = r.name; carried = lines-field field.Carried ss r.carried refl k i }

  holding-back : (h : model.Holding) → InHolding P h → holding_from read (holding_tree h) ≡ h
  holding-back h k =
      let ss = carried-of h.carried ∷ [] in
      λ i. record {
        repo = h.repo;
        call_number = h.call_number;
        carried = lines-field field.Carried ss h.carried refl k i;
      }

  source-back : (s : model.Source) → InSource P s → source_from read (source_tree s) ≡ s
  source-back s k =
      let hs : Segment = record {
        field = field.Holding;
        lines = map holding_tree s.holdings;
        is_of = of-holdings s.holdings;
      } in
      let ss = text-of field.Author s.author ∷ text-of field.Publisher s.publisher ∷ hs ∷ carried-of s.carried ∷ [] in
      λ i. record {
        title = s.title;
        author = text-field field.Author ss s.author refl i;
        publisher = text-field field.Publisher ss s.publisher refl i;
        holdings = parts-field holding_tree (holding_from read) (InHolding P) holding-back field.Holding ss
            s.holdings refl k.0 i;
        carried = lines-field field.Carried ss s.carried refl k.1 i;
      }

  citation-back : (c : model.Citation) → P c.carried → citation_from read (citation_tree c) ≡ c
  citation-back c k =
      let place = branch field.Source c.page (Some c.source) [] ∷ [] in
      let source : Segment = record {
        field = field.Source;
        lines = place;
        is_of = of-one field.Source c.page (Some c.source) [];
      } in
      let ss = source ∷ text-of field.Quality (option_map quality_word c.quality) ∷ carried-of c.carried ∷ [] in
      λ i. record {
        owner = c.owner;
        source = ap (λ ts. number_at (first ts)) (field-of field.Source ss place refl) i;
        page = ap (λ ts. text_at (first ts)) (field-of field.Source ss place refl) i;
        quality = (ap (read_by quality_of) (text-field field.Quality ss (option_map quality_word c.quality) refl)
            ∙ word-back quality_word quality_of quality_back c.quality) i;
        carried = lines-field field.Carried ss c.carried refl k i;
      }

  name-back : (n : model.Name) → InName P n → name_from read (name_tree n) ≡ n
  name-back n k =
      let ss = carried-of n.carried ∷ [] in
      λ i. record { text = n.text; carried = lines-field field.Carried ss n.carried refl k i }

  person-back : (p : model.Person) → InPerson P p → person_from read (person_tree p) ≡ p
  person-back p k =
      let names : Segment = record { field = field.Name; lines = map name_tree p.names; is_of = of-names p.names } in
      let ss = names ∷ text-of field.Sex (option_map sex_word p.sex) ∷ carried-of p.carried ∷ [] in
      λ i. record {
        names = parts-field name_tree (name_from read) (InName P) name-back field.Name ss p.names refl k.0 i;
        sex = (ap (read_by sex_of) (text-field field.Sex ss (option_map sex_word p.sex) refl)
            ∙ word-back sex_word sex_of sex_back p.sex) i;
        carried = lines-field field.Carried ss p.carried refl k.1 i;
      }

  partner-back : (p : model.Partner) → InPartner P p → partner_from read (partner_tree p) ≡ p
  partner-back p k =
      let ss = side-of p.carried_by_person ∷ carried-of p.carried ∷ [] in
      λ i. record {
        partnership = ap (λ o. unwrap_or o partnership.Husband) (partnership_back p.partnership) i;
        person = p.person;
        carried = lines-field field.Carried ss p.carried refl k.0 i;
        carried_by_person = lines-field field.Side ss p.carried_by_person refl k.1 i;
      }

  child-back : (c : model.Child) → InChild P c → child_from read (child_tree c) ≡ c
  child-back c k =
      let ss = side-of c.carried_by_person ∷ carried-of c.carried ∷ [] in
      λ i. record {
        person = c.person;
        carried = lines-field field.Carried ss c.carried refl k.0 i;
        carried_by_person = lines-field field.Side ss c.carried_by_person refl k.1 i;
      }

  family-back : (f : model.Family) → InFamily P f → family_from read (family_tree f) ≡ f
  family-back f k =
      let partners : Segment = record {
        field = field.Partner;
        lines = map partner_tree f.partners;
        is_of = of-partners f.partners;
      } in
      let children : Segment = record {
        field = field.Child;
        lines = map child_tree f.children;
        is_of = of-children f.children;
      } in
      let ss = partners ∷ children ∷ carried-of f.carried ∷ [] in
      λ i. record {
        partners = parts-field partner_tree (partner_from read) (InPartner P) partner-back field.Partner ss
            f.partners refl k.0 i;
        children = parts-field child_tree (child_from read) (InChild P) child-back field.Child ss
            f.children refl k.1.0 i;
        carried = lines-field field.Carried ss f.carried refl k.1.1 i;
      }

  when-place : (t : Option (List ℕ)) (p : Option model.EventPlace) → InPlaceLine P p
      → event_place_from read (first (when_trees t p)) ≡ p
  when-place None None k = refl
  when-place (Some t) None k = refl
  when-place t (Some p) k =
      λ i. Some (record {
        place = p.place;
        carried = lines-field field.Carried (carried-of p.carried ∷ [])
            p.carried refl k i;
      })

  participant-back : (p : model.Participant) → InParticipant P p → participant_from read (participant_tree p) ≡ p
  participant-back p k =
      let ss = carried-of p.carried ∷ [] in
      λ i. record { person = p.person; role = p.role; carried = lines-field field.Carried ss p.carried refl k i }

  event-back : (e : model.Event) → InEvent P e → event_from read (event_tree e) ≡ e
  event-back e k =
      let date = option_map date_text e.date in
      let when : Segment = record {
        field = field.Date;
        lines = when_trees date e.place;
        is_of = of-when date e.place;
      } in
      let participants : Segment = record {
        field = field.Participant;
        lines = map participant_tree e.participants;
        is_of = of-participants e.participants;
      } in
      let ss = when ∷ participants ∷ carried-of e.carried ∷ [] in
      let line = field-of field.Date ss (when_trees date e.place) refl in
      λ i. record {
        owner = e.owner;
        tag = e.tag;
        value = e.value;
        date = (ap (λ ts. date_from (text_at (first ts))) line ∙ ap date_from (when-text date e.place)
            ∙ date_back e.date) i;
        place = (ap (λ ts. event_place_from read (first ts)) line ∙ when-place date e.place k.0) i;
        participants = parts-field participant_tree (participant_from read) (InParticipant P) participant-back
            field.Participant ss e.participants refl k.1.0 i;
        carried = lines-field field.Carried ss e.carried refl k.1.1 i;
      }

  bare-place : (p : Option ℕ) → InPlaceLine P (option_map bare_place p)
  bare-place None = tt
  bare-place (Some n) = nil

  entry-back : (e : model.Entry) → entry_from read (entry_tree e) ≡ e
  entry-back e =
      let date = option_map date_text e.date in
      let place = option_map bare_place e.place in
      let when : Segment = record { field = field.Date; lines = when_trees date place; is_of = of-when date place } in
      let mentions : Segment = record {
        field = field.Mention;
        lines = map mention_tree e.mentions;
        is_of = of-mentions e.mentions;
      } in
      let item = decimal e.item.number in
      let words = Some (key_words e.item e.page) in
      let lines = branch field.Key words (Some e.source) [] ∷ [] in
      let key : Segment = record {
        field = field.Key;
        lines = lines;
        is_of = of-one field.Key words (Some e.source) [];
      } in
      let ss = key ∷ text-of field.Page (Some e.page) ∷ text-of field.Item (Some item) ∷ when ∷ text-of field.Text
      (Some e.text) ∷ mentions ∷ [] in
      let line = field-of field.Date ss (when_trees date place) refl in
      λ i. record {
        source = ap (λ ts. number_at (first ts)) (field-of field.Key ss lines refl) i;
        kind = ap (λ o. unwrap_or o entry_kind.Baptism) (entry_kind_back e.kind) i;
        page = ap text_or_empty (text-field field.Page ss (Some e.page) refl) i;
        item = (ap (λ t. unwrap_or (read_by item_of t) first_item) (text-field field.Item ss (Some item) refl)
            ∙ ap (λ o. unwrap_or o first_item) (item_back e.item)) i;
        date = (ap (λ ts. date_from (text_at (first ts))) line ∙ ap date_from (when-text date place)
            ∙ date_back e.date) i;
        place = (ap (λ ts. option_map place_number (event_place_from read (first ts))) line
            ∙ ap (option_map place_number) (when-place date place (bare-place e.place)) ∙ number-back e.place) i;
        text = ap text_or_empty (text-field field.Text ss (Some e.text) refl) i;
        mentions = parts-field mention_tree mention_from (λ _. Unit {0}) (λ m _. mention-back m) field.Mention ss
            e.mentions refl (λ _ _ _. tt) i;
      }

  other-line : (tag : List ℕ) (v : Value) (ts : Lines) → P ts
      → other_on read (Some (node (label_for tag v) (forest_of (map (relabel label_of) ts))))
      ≡ record { tag = tag; value = v; carried = ts }
  other-line tag v ts k = λ i. record {
    tag = (line_back (record { tag = tag; value = v }) i).tag;
    value = (line_back (record { tag = tag; value = v }) i).value;
    carried = (ap read (list_of_forest_of (map (relabel label_of) ts)) ∙ back ts k) i;
  }

  other-back : (o : model.Other) → P o.carried → other_from read (other_tree o) ≡ o
  other-back o k = other-line o.tag o.value o.carried k

  -- a record's tree gives back the record
  pub record_back : (r : Record) → InRecord P r → record_from read (record_tree r) ≡ Some r
  record_back (kind.Place p) k = ap (λ x. Some (kind.Place x)) (place-back p k)
  record_back (kind.Repo r) k = ap (λ x. Some (kind.Repo x)) (repo-back r k)
  record_back (kind.Source s) k = ap (λ x. Some (kind.Source x)) (source-back s k)
  record_back (kind.Person p) k = ap (λ x. Some (kind.Person x)) (person-back p k)
  record_back (kind.Family f) k = ap (λ x. Some (kind.Family x)) (family-back f k)
  record_back (kind.Citation c) k = ap (λ x. Some (kind.Citation x)) (citation-back c k)
  record_back (kind.Event e) k = ap (λ x. Some (kind.Event x)) (event-back e k)
  record_back (kind.Entry e) k = ap (λ x. Some (kind.Entry x)) (entry-back e)
  record_back (kind.Other o) k = ap (λ x. Some (kind.Other x)) (other-back o k)
