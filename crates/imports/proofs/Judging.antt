-- Each record that is drawn keeps the rules on one record, among the records that stand after the import.
use Rattle.std.proofs.Common.{◌≡◌, ℕ, ◌<◌, true, false, List, ◌∷◌, ◌++◌, length, refl, sym, ap, ◌∙◌, subst, arith}
use Rattle.std.specs.Prelude.{Option, Some, None, IfSome, map, option_map, bytes_eq, codes}
use Rattle.std.specs.FinMap.{get}
use Rattle.std.specs.List.{flat_map, list_any, slice_get}
use Rattle.stored_lines.specs.Line.{Line, Lines}
use Rattle.stored_lines.specs.Tree.{Tree, label}
use Rattle.record_kinds.specs.Model as model
use Rattle.record_kinds.specs.declared.record.Record.{Record}
use Rattle.record_kinds.specs.declared.record.Record.TheVariants as kind
use Rattle.archive_state.specs.Links.{
  Link,
  a_cited,
  a_holder,
  a_place,
  a_source,
  carried_links,
  is_wanted,
  participant_links,
}
use Rattle.record_shapes.specs.Entries.{entry_of}
use Rattle.record_shapes.specs.Fields.{a_parent, is_above, is_same, parent_field}
use Rattle.record_shapes.specs.Forms.{Known, below, number_of, tagged}
use Rattle.record_shapes.specs.Levels.{room_below}
use Rattle.record_shapes.specs.Lists.{EachOf}
use Rattle.record_shapes.specs.Paths.{has_part}
use Rattle.record_shapes.specs.Reading.{parent_line, place_from, place_name, read}
use Rattle.record_shapes.specs.Tags.{is_event_tag}
use Rattle.record_shapes.specs.Untaken.{HasUntaken}
use Rattle.archive_state.specs.Content.{Records}
use Rattle.archive_state.specs.Known.{known_before as archive_before, known_of, path_of}
use Rattle.archive_state.specs.Merging.{lines_with, participant_with, record_with}
use Rattle.archive_state.specs.Paths.{HasPath}
use Rattle.archive_state.specs.Sound.{IsNumber, Stands}
use Rattle.archive_state.proofs.Keeping.{KeepsRules}
use Rattle.import_definitions.specs.Made.{drawing}
use Rattle.import_definitions.specs.Numbers.{Places}
use Rattle.import_definitions.specs.Positions.{known, known_before}
use Rattle.import_definitions.specs.Sides.{draft_at}
use Rattle.imports.specs.Read.{IsRead}
use Rattle.imports.proofs.Agreeing.{all_known, at_node, before_known, f, filed}
use Rattle.imports.proofs.DrawnWell.{IsOwnerLike}
use Rattle.imports.proofs.Left.{first_is}
use Rattle.imports.proofs.Links.{Names, NamesAll, PlaceIs}
use Rattle.imports.proofs.LinksMet.{parent_met}
use Rattle.list_laws.proofs.Lists.{cat, flat_cat}
use Rattle.imports.proofs.Paths.{known_earlier}
use Rattle.archive_state.proofs.Untaken.{through, untaken_with}
use Rattle.archive_state.proofs.RenumberedEntries.{no_entry_with}
use Rattle.archive_state.proofs.RenumberedLinks.{lines_moved, moved, participant_moved}
use Rattle.archive_state.proofs.Texts.{of_records_with, room_with, texts_with}
use Rattle.imports.proofs.RootRecords.{root_is_read}
use Rattle.imports.proofs.Rooted.{There}
use Rattle.imports.proofs.Targets.{family_once, link_stands, links_stand, record_stands}
use Rattle.imports.proofs.Said.{is_no_place, path_stands, said_at, sound_mentions}
use Rattle.record_shapes.proofs.Each.{each_both}

module _ (A : Records) (w : Places) (next : ℕ) (rs : Lines)
    (all : EachOf (There A w (drawing next w rs)) (drawing next w rs).drawn) (zero_none : get A 0
    ≡ None) (last : ℕ) where
  abbrev pub g : ℕ → ℕ
  g k = f A w next rs all zero_none k

  abbrev N : Link → Type 0
  N l = Names (known rs) (length rs) l

  -- ---- carried lines
  known_same : through g (known_of A) ≡ known rs
  known_same = all_known A w next rs all zero_none

  untaken_other : (k n : ℕ) (r : Record) → is_no_place r ≡ true → HasUntaken (known_before rs k) (known rs) r
      → HasUntaken (archive_before A n) (known_of A) (record_with g r)
  untaken_other k n (kind.Place x) e h = absurd cc
  untaken_other k n (kind.Repo x) e h = untaken_with g (archive_before A n) (known_of A) (kind.Repo x)
      (subst (λ (b : Known). HasUntaken (through g (archive_before A n)) b (kind.Repo x)) (sym known_same) h)
  untaken_other k n (kind.Source x) e h = untaken_with g (archive_before A n) (known_of A) (kind.Source x)
      (subst (λ (b : Known). HasUntaken (through g (archive_before A n)) b (kind.Source x)) (sym known_same) h)
  untaken_other k n (kind.Person x) e h = untaken_with g (archive_before A n) (known_of A) (kind.Person x)
      (subst (λ (b : Known). HasUntaken (through g (archive_before A n)) b (kind.Person x)) (sym known_same) h)
  untaken_other k n (kind.Family x) e h = untaken_with g (archive_before A n) (known_of A) (kind.Family x)
      (subst (λ (b : Known). HasUntaken (through g (archive_before A n)) b (kind.Family x)) (sym known_same) h)
  untaken_other k n (kind.Citation x) e h = untaken_with g (archive_before A n) (known_of A) (kind.Citation x)
      (subst (λ (b : Known). HasUntaken (through g (archive_before A n)) b (kind.Citation x)) (sym known_same) h)
  untaken_other k n (kind.Event x) e h = untaken_with g (archive_before A n) (known_of A) (kind.Event x)
      (subst (λ (b : Known). HasUntaken (through g (archive_before A n)) b (kind.Event x)) (sym known_same) h)
  untaken_other k n (kind.Entry x) e h = untaken_with g (archive_before A n) (known_of A) (kind.Entry x)
      (subst (λ (b : Known). HasUntaken (through g (archive_before A n)) b (kind.Entry x)) (sym known_same) h)
  untaken_other k n (kind.Other x) e h = untaken_with g (archive_before A n) (known_of A) (kind.Other x)
      (subst (λ (b : Known). HasUntaken (through g (archive_before A n)) b (kind.Other x)) (sym known_same) h)

  untaken_place : (k n : ℕ) (t : Tree Line) (p : model.Place) → slice_get rs k ≡ Some t → n ≡ g k
      → HasUntaken (known_before rs k) (known rs) (kind.Place p)
      → HasUntaken (archive_before A n) (known_of A) (record_with g (kind.Place p))
  untaken_place k n t p at e h =
      let before : through g (archive_before A n) ≡ known_before rs k =
      ap (λ m. through g (archive_before A m)) e ∙ before_known A w next rs all zero_none k t at in
      untaken_with g (archive_before A n) (known_of A) (kind.Place p)
      (subst (λ (b : Known). HasUntaken b (through g (known_of A)) (kind.Place p)) (sym before)
      (subst (λ (b : Known). HasUntaken (known_before rs k) b (kind.Place p)) (sym known_same) h))

  -- ---- places of the file
  -- a place that is read at a node is that of its lines
  place_is : (k : ℕ) (t : Tree Line) (p : model.Place) → label (draft_at rs k t) ≡ read (kind.Place p) None
      → p ≡ place_from (known_before rs k) (below t)
  place_is k t p e =
      let root = root_is_read rs k t in
      let is : read root.own None ≡ read (kind.Place p) None = sym (ap label root.whole) ∙ e in
      let own : root.own ≡ kind.Place p = cc in
      elim (tagged (codes "_LOC") t) as (λ b. tagged (codes "_LOC") t ≡ b
      → p ≡ place_from (known_before rs k) (below t)) [
        | true ↦ λ loc.
            let both : kind.Place p ≡ kind.Place (place_from (known_before rs k) (below t)) =
            sym own ∙ root.fits.loc loc in cc
        | false ↦ λ loc. absurd (root.fits.no_loc loc p own)
      ] refl

  parent_low : (k n : ℕ) (t : Tree Line) → slice_get rs k ≡ Some t → n ≡ g k → (o : Option (Tree Line))
      → IfSome o (λ u. is_same (parent_field (known_before rs k) (place_name (below t)) u) a_parent ≡ true)
      → IfSome (option_map g (option_map number_of o)) (λ q. q < n)
  parent_low k n t at e None h = tt
  parent_low k n t at e (Some u) h = by ((known_before rs k).path (number_of u)) refl (parent_met rs k _ u h)
    where
      by : (o : Option (List ℕ)) → (known_before rs k).path (number_of u) ≡ o
          → is_above (place_name (below t)) o ≡ true → g (number_of u) < n
      by None is above = absurd cc
      by (Some q) is above =
          let earlier = known_earlier rs k (number_of u) q is in
          let low : g (number_of u) < g k = (at_node A w next rs all zero_none k t at).later (number_of u) earlier.0 in
          omega arith

  parent_smaller : (k n : ℕ) (t : Tree Line) (p : model.Place) → slice_get rs k ≡ Some t → n ≡ g k
      → label (draft_at rs k t) ≡ read (kind.Place p) None → IfSome (option_map g p.parent) (λ q. q < n)
  parent_smaller k n t p at e is =
      subst (λ (x : model.Place). IfSome (option_map g x.parent) (λ q. q < n)) (sym (place_is k t p is))
      (parent_low k n t at e (parent_line (known_before rs k) (below t))
      (first_is (parent_field (known_before rs k) (place_name (below t))) a_parent (below t)))

  -- ---- entries
  entry_said : (o : Option ℕ) → IfSome o (PlaceIs (known rs) None)
      → IfSome (option_map g o) (λ p. (path : List ℕ) → HasPath A p path → has_part path ≡ true)
  entry_said None h = tt
  entry_said (Some n) (q, e, said) = said_at A (g n) q (filed A w next rs all zero_none n q e) said

  -- ---- records of level 0
  pub judge_root : (k n : ℕ) (t : Tree Line) → slice_get rs k ≡ Some t → n ≡ g k → IsNumber last n
      → (path : Option (List ℕ)) (r : Record) → label (draft_at rs k t) ≡ read r None
      → IsRead (known_before rs k) (known rs) None r → NamesAll (known rs) (length rs) None path r
      → KeepsRules last A n (record_with g r)
  judge_root k n t at e number path (kind.Place p) is h named = record {
    number = number;
    named = record_stands A w next rs all zero_none (kind.Place p) named.1;
    parents = parent_smaller k n t p at e is;
    normal = h.normal;
    once = tt;
    tags = of_records_with g (kind.Place p) h.of_tags;
    trailers = tt;
    texts = texts_with g (kind.Place p) h.of_texts;
    places = tt;
    events = tt;
    mentions = tt;
    untaken = untaken_place k n t p at e h.untaken;
    shapes = tt;
    levels = room_with g None None refl (kind.Place p) h.room;
  }
  judge_root k n t at e number path (kind.Repo x) is h named = record {
    number = number;
    named = record_stands A w next rs all zero_none (kind.Repo x) named.1;
    parents = tt;
    normal = tt;
    once = tt;
    tags = of_records_with g (kind.Repo x) h.of_tags;
    trailers = tt;
    texts = texts_with g (kind.Repo x) h.of_texts;
    places = tt;
    events = tt;
    mentions = tt;
    untaken = untaken_other k n (kind.Repo x) refl h.untaken;
    shapes = tt;
    levels = room_with g None None refl (kind.Repo x) h.room;
  }
  judge_root k n t at e number path (kind.Source x) is h named = record {
    number = number;
    named = record_stands A w next rs all zero_none (kind.Source x) named.1;
    parents = tt;
    normal = tt;
    once = tt;
    tags = of_records_with g (kind.Source x) h.of_tags;
    trailers = tt;
    texts = texts_with g (kind.Source x) h.of_texts;
    places = tt;
    events = tt;
    mentions = tt;
    untaken = untaken_other k n (kind.Source x) refl h.untaken;
    shapes = tt;
    levels = room_with g None None refl (kind.Source x) h.room;
  }
  judge_root k n t at e number path (kind.Person x) is h named = record {
    number = number;
    named = record_stands A w next rs all zero_none (kind.Person x) named.1;
    parents = tt;
    normal = tt;
    once = tt;
    tags = of_records_with g (kind.Person x) h.of_tags;
    trailers = tt;
    texts = texts_with g (kind.Person x) h.of_texts;
    places = tt;
    events = tt;
    mentions = tt;
    untaken = untaken_other k n (kind.Person x) refl h.untaken;
    shapes = tt;
    levels = room_with g None None refl (kind.Person x) h.room;
  }
  judge_root k n t at e number path (kind.Family x) is h named = record {
    number = number;
    named = record_stands A w next rs all zero_none (kind.Family x) named.1;
    parents = tt;
    normal = tt;
    once = family_once A w next rs all zero_none x named.1 h.once;
    tags = of_records_with g (kind.Family x) h.of_tags;
    trailers = tt;
    texts = texts_with g (kind.Family x) h.of_texts;
    places = tt;
    events = tt;
    mentions = tt;
    untaken = untaken_other k n (kind.Family x) refl h.untaken;
    shapes = tt;
    levels = room_with g None None refl (kind.Family x) h.room;
  }
  judge_root k n t at e number path (kind.Entry x) is h named = record {
    number = number;
    named = record_stands A w next rs all zero_none (kind.Entry x) named.1;
    parents = tt;
    normal = tt;
    once = tt;
    tags = of_records_with g (kind.Entry x) h.of_tags;
    trailers = tt;
    texts = texts_with g (kind.Entry x) h.of_texts;
    places = entry_said x.place named.2;
    events = tt;
    mentions = sound_mentions g x h.mentions;
    untaken = untaken_other k n (kind.Entry x) refl h.untaken;
    shapes = tt;
    levels = room_with g None None refl (kind.Entry x) h.room;
  }
  judge_root k n t at e number path (kind.Other x) is h named = record {
    number = number;
    named = record_stands A w next rs all zero_none (kind.Other x) named.1;
    parents = tt;
    normal = tt;
    once = tt;
    tags = of_records_with g (kind.Other x) h.of_tags;
    trailers = h.trailers;
    texts = texts_with g (kind.Other x) h.of_texts;
    places = tt;
    events = tt;
    mentions = tt;
    untaken = untaken_other k n (kind.Other x) refl h.untaken;
    shapes = record {
      own = h.shapes.own;
      no_entry = λ reg. no_entry_with g (known_of A) x.value x.carried
          (subst (λ (b : Known). entry_of b x.value x.carried ≡ None) (sym known_same) (h.shapes.no_entry reg));
    };
    levels = room_with g None None refl (kind.Other x) h.room;
  }
  judge_root k n t at e number path (kind.Event x) is h named = absurd (let none_is : None ≡ Some true = named.0 in cc)
  judge_root k n t at e number path (kind.Citation x) is h named = absurd
      (let none_is : None ≡ Some true = named.0 in cc)

  -- ---- what is owned
  -- an owner that stands
  abbrev pub IsOwner : ℕ → Record → Type 0
  IsOwner owner o = (s : Record) × (get A owner ≡ Some s) × IsOwnerLike o s

  carried_stand : (ts : Lines) → EachOf N (carried_links ts) → EachOf (Stands A) (carried_links (lines_with g ts))
  carried_stand ts h = subst (EachOf (Stands A)) (sym (lines_moved g ts))
      (links_stand A w next rs all zero_none (carried_links ts) h)

  pub judge_citation : (k n owner : ℕ) (o : Record) (c : model.Citation) → IsOwner owner o → IsNumber last n
      → (path : Option (List ℕ)) → IsRead (known_before rs k) (known rs) (Some o) (kind.Citation c)
      → NamesAll (known rs) (length rs) (Some o) path (kind.Citation c)
      → KeepsRules last A n (kind.Citation
      (record c { owner = owner; source = g c.source; carried = lines_with g c.carried }))
  judge_citation k n owner o c (s, at, like) number path h named = record {
    number = number;
    named = (
      ap (option_map (is_wanted a_cited)) at ∙ (ap Some (sym like.cited) ∙ named.0),
      (link_stands A w next rs all zero_none (c.source, a_source) named.1, carried_stand c.carried named.2),
    );
    parents = tt;
    normal = tt;
    once = tt;
    tags = of_records_with g (kind.Citation c) h.of_tags;
    trailers = tt;
    texts = texts_with g (kind.Citation c) h.of_texts;
    places = tt;
    events = tt;
    mentions = tt;
    untaken = untaken_other k n (kind.Citation c) refl h.untaken;
    shapes = tt;
    levels = room_with g (Some o) (get A owner) (like.room ∙ sym (ap room_below at)) (kind.Citation c) h.room;
  }

  -- an event of that owner, with that place
  abbrev pub event_of : ℕ → model.Event → Option model.EventPlace → model.Event
  event_of owner e place = record {
    owner = owner;
    tag = e.tag;
    value = e.value;
    date = e.date;
    place = place;
    participants = map (participant_with g) e.participants;
    carried = lines_with g e.carried;
  }

  abbrev pub placeless : model.Event → Option model.EventPlace → model.Event
  placeless e place = record e { place = place }

  event_tag_is : (owner : ℕ) (o : Record) (tag : List ℕ) → IsOwner owner o → is_event_tag tag o ≡ true
      → IfSome (get A owner) (λ x. is_event_tag tag x ≡ true)
  event_tag_is owner o tag (s, at, like) h =
      subst (λ x. IfSome x (λ y. is_event_tag tag y ≡ true)) (sym at)
      (ap (list_any (bytes_eq tag)) (sym like.tags) ∙ h)

  parts_stand : (e : model.Event)
      → EachOf N (flat_map participant_links e.participants ++ carried_links e.carried)
      → EachOf (Stands A) (flat_map participant_links (map (participant_with g) e.participants)
      ++ carried_links (lines_with g e.carried))
  parts_stand e h =
      subst (EachOf (Stands A)) (sym (cat (moved g) (flat_map participant_links e.participants)
      (carried_links e.carried)
      _ _ (flat_cat (moved g) (participant_with g) participant_links participant_links (participant_moved g)
      e.participants) (lines_moved g e.carried)))
      (links_stand A w next rs all zero_none (flat_map participant_links e.participants ++ carried_links e.carried) h)

  -- where its place is: a number with a path that has a part that is not empty
  abbrev pub IsPlaceAt : ℕ → Type 0
  IsPlaceAt m = (q : List ℕ) × (path_of A m ≡ Some q) × (has_part q ≡ true)

  pub judge_event_none : (k n owner : ℕ) (o : Record) (e : model.Event) → IsOwner owner o → IsNumber last n
      → (path : Option (List ℕ)) → IsRead (known_before rs k) (known rs) (Some o) (kind.Event (placeless e None))
      → NamesAll (known rs) (length rs) (Some o) path (kind.Event (placeless e None))
      → KeepsRules last A n (kind.Event (event_of owner e None))
  judge_event_none k n owner o e owned number path h named = record {
    number = number;
    named = (
      ap (option_map (is_wanted a_holder)) owned.1 ∙ (ap Some (sym owned.2.holder) ∙ named.0),
      parts_stand e named.2,
    );
    parents = tt;
    normal = tt;
    once = tt;
    tags = of_records_with g (kind.Event (placeless e None)) h.of_tags;
    trailers = tt;
    texts = texts_with g (kind.Event (placeless e None)) h.of_texts;
    places = tt;
    events = event_tag_is owner o e.tag owned h.events;
    mentions = tt;
    untaken = untaken_other k n (kind.Event (placeless e None)) refl h.untaken;
    shapes = tt;
    levels = room_with g (Some o) (Some o) refl (kind.Event (placeless e None)) h.room;
  }

  pub judge_event_some : (k n owner : ℕ) (o : Record) (e : model.Event) (p : model.EventPlace) (m : ℕ) → IsOwner owner o
      → IsNumber last n → (path : Option (List ℕ))
      → IsRead (known_before rs k) (known rs) (Some o) (kind.Event (placeless e (Some p)))
      → NamesAll (known rs) (length rs) (Some o) path (kind.Event (placeless e (Some p))) → IsPlaceAt m
      → KeepsRules last A n
      (kind.Event (event_of owner e (Some (record { place = m; carried = lines_with g p.carried }))))
  judge_event_some k n owner o e p m owned number path h named there = record {
    number = number;
    named = (
      ap (option_map (is_wanted a_holder)) owned.1 ∙ (ap Some (sym owned.2.holder) ∙ named.0),
      each_both (Stands A) ((m, a_place) ∷ carried_links (lines_with g p.carried)) _
          (path_stands A m there.0 there.1, carried_stand p.carried named.1.1) (parts_stand e named.2),
    );
    parents = tt;
    normal = tt;
    once = tt;
    tags = of_records_with g (kind.Event (placeless e (Some p))) h.of_tags;
    trailers = tt;
    texts = texts_with g (kind.Event (placeless e (Some p))) h.of_texts;
    places = said_at A m there.0 there.1 there.2;
    events = event_tag_is owner o e.tag owned h.events;
    mentions = tt;
    untaken = untaken_other k n (kind.Event (placeless e (Some p))) refl h.untaken;
    shapes = tt;
    levels = room_with g (Some o) (Some o) refl (kind.Event (placeless e (Some p))) h.room;
  }
