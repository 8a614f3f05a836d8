-- No two register entries of an export are read as entries of one key.
use Rattle.std.specs.Prelude.{
  ℕ,
  ◌≡◌,
  ◌+◌,
  ◌==◌,
  ◌||◌,
  ◌&&◌,
  Bool,
  true,
  false,
  cond,
  List,
  [],
  ◌∷◌,
  map,
  Option,
  Some,
  None,
  option_map,
  bytes_eq,
  refl,
  decimal,
}
use Rattle.std.specs.List.{list_any}
use Rattle.std.specs.FinMap.{get, entries}
use Rattle.std.proofs.Common.{ap, sym, ◌∙◌}
use Rattle.std.proofs.lemmas.Bool.{eqb-true}
use Rattle.std.proofs.lemmas.Simd.{map-map}
use Rattle.stored_lines.specs.Tree.{Tree, label, relabel}
use Rattle.stored_lines.specs.Line.{Lines}
use Rattle.record_kinds.specs.Model as model
use Rattle.record_kinds.specs.declared.record.Record.{Record}
use Rattle.record_kinds.specs.declared.record.Record.TheVariants as kind
use Rattle.record_fields.specs.Bytes.{bytes_are}
use Rattle.record_fields.specs.Items.{item_of}
use Rattle.record_fields.specs.Words.{entry_kind_of, entry_kind_word}
use Rattle.record_fields.specs.declared.entry_words.EntryKind.{EntryKind}
use Rattle.record_fields.specs.declared.item.Item as items
use Rattle.record_fields.proofs.Items.{item_back}
use Rattle.record_fields.proofs.Worded.{entry_kind_back}
use Rattle.archive_state.specs.Links.{a_source, is_wanted}
use Rattle.record_shapes.specs.Lists.{EachOf, IsOnce}
use Rattle.record_shapes.specs.Reading.{Draft, read}
use Rattle.archive_state.specs.Content.{Content, Records}
use Rattle.archive_state.specs.Merging.{entry_with, record_with}
use Rattle.archive_state.specs.Sound.{IsSound}
use Rattle.archive_state.specs.Sound as sound
use Rattle.import_definitions.specs.Made.{has_key_of, same_key, second}
use Rattle.import_definitions.specs.Sides.{draft_at, drafts_from}
use Rattle.gedcom_export.specs.Order.{Numbered, household, households}
use Rattle.round_trip.specs.Positions.{nodes_by_position}
use Rattle.round_trip.proofs.Entries.{keys, Stands}
use Rattle.round_trip.proofs.Listed.{other_way}
use Rattle.round_trip.proofs.Nodes.{pos}
use Rattle.round_trip.proofs.Ordered.{order, order_once, order_stands, StandsAt0}
use Rattle.round_trip.specs.Drafts.{without_owner}
use Rattle.round_trip.specs.ReadingLaws.{DraftsComeBack}
use Rattle.round_trip.proofs.Seen.{positions_apart}
use Rattle.record_shapes.proofs.Each.{each_more, has}
use Rattle.list_laws.proofs.Booleans.{both_true, neither, true_not_false}
use Rattle.list_laws.proofs.Numbers.{same_self}

-- ---- words and items tell kinds and items apart
kinds_same : (a b : EntryKind) → bytes_eq (entry_kind_word a) (entry_kind_word b) ≡ true → a ≡ b
kinds_same a b h = let two : Some a ≡ Some b = sym (entry_kind_back a)
    ∙ ap entry_kind_of (bytes_are (entry_kind_word a) (entry_kind_word b) h) ∙ entry_kind_back b in cc

items_same : (a b : items.Item) → (a.number == b.number) ≡ true → a ≡ b
items_same a b h = let two : Some a ≡ Some b = sym (item_back a)
    ∙ ap (λ n. item_of (decimal n)) (eqb-true a.number b.number h) ∙ item_back b in cc

-- ---- the first of a key that one before it has, among drafts
abbrev pub second_among : ℕ → List Draft → List Draft → Option ℕ
second_among k before [] = None
second_among k before (d ∷ behind) = cond (list_any (λ b. same_key b d) before) (Some k)
    (second_among (k + 1) (d ∷ before) behind)

pub second_is : (rs : Lines) (k : ℕ) (before : List Draft) (behind : Lines)
    → second rs k before behind ≡ second_among k before (map label (drafts_from rs k behind))
second_is rs k before [] = refl
second_is rs k before (r ∷ behind) =
    let d : Draft = label (draft_at rs k r) in
    ap (λ o. cond (list_any (λ b. same_key b d) before) (Some k) o) (second_is rs (k + 1) (d ∷ before) behind)

module _ (c : Content) (is : IsSound c) where
  abbrev m : Records
  m = c.records

  abbrev whole : Numbered → Draft
  whole x = read (without_owner (record_with (pos m) x.1)) None

  source_apart : (n : ℕ) → sound.Stands m (n, a_source) → (i : ℕ) → pos m i ≡ pos m n → i ≡ n
  source_apart n h i e = by (get m n) refl h
    where
      by : (o : Option Record) → get m n ≡ o → option_map (is_wanted a_source) o ≡ Some true → i ≡ n
      by (Some (kind.Source x)) g z = positions_apart m n (kind.Source x) g refl i e
      by None g z = absurd cc
      by (Some _) g z = absurd cc

  entries_apart : (n k : ℕ) (e g : model.Entry) → get m n ≡ Some (kind.Entry e) → get m k ≡ Some (kind.Entry g)
      → has_key_of (entry_with (pos m) e) (entry_with (pos m) g) ≡ true → n ≡ k
  entries_apart n k e g he hg h =
      let items_are = e.item.number == g.item.number in
      let pages_are = bytes_eq e.page g.page && items_are in
      let a = both_true (pos m e.source == pos m g.source)
      (bytes_eq (entry_kind_word e.kind) (entry_kind_word g.kind) && pages_are) h in
      let b = both_true (bytes_eq (entry_kind_word e.kind) (entry_kind_word g.kind)) pages_are a.1 in
      let d = both_true (bytes_eq e.page g.page) items_are b.1 in
      is.rules.keys n k e he (
        g,
        hg,
        (
          sym (source_apart g.source (is.named k (kind.Entry g) hg).0 e.source
              (eqb-true (pos m e.source) (pos m g.source) a.0)),
          sym (kinds_same e.kind g.kind b.0),
          sym (bytes_are e.page g.page d.0),
          sym (items_same e.item g.item d.1),
        ),
      )

  key_false : (x y : Numbered) → Stands m x → Stands m y → (x.0 == y.0) ≡ false → same_key (whole x) (whole y) ≡ false
  key_false (n, kind.Entry e) (k, kind.Entry g) he hg d = by (has_key_of (entry_with (pos m) e) (entry_with (pos m) g))
      refl
    where
      by : (b : Bool) → has_key_of (entry_with (pos m) e) (entry_with (pos m) g) ≡ b → b ≡ false
      by false z = refl
      by true z = absurd (true_not_false (sym (ap (λ j. j == k) (entries_apart n k e g he hg z) ∙ same_self k) ∙ d))
  key_false (n, kind.Entry e) (k, kind.Event g) he hg d = refl
  key_false (n, kind.Entry e) (k, kind.Citation g) he hg d = refl
  key_false (n, kind.Entry e) (k, kind.Place g) he hg d = refl
  key_false (n, kind.Entry e) (k, kind.Repo g) he hg d = refl
  key_false (n, kind.Entry e) (k, kind.Source g) he hg d = refl
  key_false (n, kind.Entry e) (k, kind.Person g) he hg d = refl
  key_false (n, kind.Entry e) (k, kind.Family g) he hg d = refl
  key_false (n, kind.Entry e) (k, kind.Other g) he hg d = refl
  key_false (n, kind.Event e) y he hg d = refl
  key_false (n, kind.Citation e) y he hg d = refl
  key_false (n, kind.Place e) y he hg d = refl
  key_false (n, kind.Repo e) y he hg d = refl
  key_false (n, kind.Source e) y he hg d = refl
  key_false (n, kind.Person e) y he hg d = refl
  key_false (n, kind.Family e) y he hg d = refl
  key_false (n, kind.Other e) y he hg d = refl

  abbrev Fresh : List Numbered → Numbered → Type 0
  Fresh done x = EachOf (λ (y : Numbered). (y.0 == x.0) ≡ false) done

  none_same : (x : Numbered) (done : List Numbered) → Stands m x → EachOf (Stands m) done → Fresh done x
      → list_any (λ b. same_key b (whole x)) (map whole done) ≡ false
  none_same x [] hx st d = refl
  none_same x (y ∷ done) hx st d = λ i. key_false y x st.0 hx d.0 i || none_same x done hx st.1 d.1 i

  fresh_more : (x : Numbered) (done rest : List Numbered) → has x.0 (keys rest) ≡ false → EachOf (Fresh done) rest
      → EachOf (Fresh (x ∷ done)) rest
  fresh_more x done [] n h = tt
  fresh_more x done (y ∷ rest) n h =
      let both : ((y.0 == x.0) ≡ false) × (has x.0 (keys rest) ≡ false) =
      neither (y.0 == x.0) (has x.0 (keys rest)) n in
      ((other_way y.0 x.0 both.0, h.0), fresh_more x done rest both.1 h.1)

  no_second : (k : ℕ) (done rest : List Numbered) → EachOf (Stands m) done → EachOf (Stands m) rest → IsOnce (keys rest)
      → EachOf (Fresh done) rest → second_among k (map whole done) (map whole rest) ≡ None
  no_second k done [] a b o f = refl
  no_second k done (x ∷ rest) a b o f =
      ap (λ z. cond z (Some k) (second_among (k + 1) (map whole (x ∷ done)) (map whole rest)))
      (none_same x done b.0 a f.0)
      ∙ no_second (k + 1) (x ∷ done) rest (b.0, a) b.1 o.1 (fresh_more x done rest o.0 f.1)

  all_fresh : (rest : List Numbered) → EachOf (Fresh []) rest
  all_fresh [] = tt
  all_fresh (x ∷ rest) = (tt, all_fresh rest)

  pub none_second : DraftsComeBack → second (nodes_by_position m) 0 [] (nodes_by_position m) ≡ None
  none_second drafts_back =
      second_is (nodes_by_position m) 0 [] (nodes_by_position m)
      ∙ ap (λ ts. second_among 0 [] (map label ts)) (drafts_back c is)
      ∙ ap (second_among 0 []) (map-map label (relabel whole) (households m)
      ∙ map-map (λ (t : Tree Numbered). label (relabel whole t)) (household (entries m)) (order m))
      ∙ no_second 0 [] (order m) tt (each_more (StandsAt0 m) (Stands m) (λ e h. h.0) (order m) (order_stands m))
      (order_once m) (all_fresh (order m))
