-- Whether a record keeps each rule of a sound archive, by computing: a test for each rule.
use Rattle.std.specs.Prelude.{
  ℕ,
  ◌+◌,
  zero,
  suc,
  Bool,
  true,
  false,
  not,
  ◌&&◌,
  ◌||◌,
  ◌==◌,
  nat_lt,
  nat_le,
  List,
  [],
  ◌∷◌,
  ◌++◌,
  length,
  codes,
  bytes_eq,
  Option,
  Some,
  None,
  option_map,
  if◌then◌else◌,
}
use Rattle.std.specs.List.{list_all, list_any}
use Rattle.std.specs.Str.{is_utf8}
use Rattle.stored_lines.specs.Tree.{Tree, forest_of, node, none}
use Rattle.stored_lines.specs.Line.{Line, Lines}
use Rattle.stored_lines.specs.Levels.{forest_levels}
use Rattle.record_text.specs.Text.{is_word}
use Rattle.record_kinds.specs.Model as model
use Rattle.record_kinds.specs.declared.record.Record.{Record}
use Rattle.record_kinds.specs.declared.record.Record.TheVariants as kind
use Rattle.record_fields.specs.Words.{entry_kind_word}
use Rattle.archive_state.specs.Carried.{carried_tags}
use Rattle.archive_state.specs.Links.{Link, is_wanted}
use Rattle.record_shapes.specs.Entries.{entry_of}
use Rattle.record_shapes.specs.declared.field.Field.{Field}
use Rattle.record_shapes.specs.Fields.{
  citation_field,
  event_field,
  family_field,
  holding_field,
  parent_field,
  participant_field,
  person_field,
  repo_field,
  source_field,
}
use Rattle.record_shapes.specs.Forms.{Known, is_among, is_some}
use Rattle.record_shapes.specs.Levels.{room_below}
use Rattle.record_shapes.specs.Members.{members}
use Rattle.record_shapes.specs.Paths.{has_part, normal}
use Rattle.record_shapes.specs.Roles.{is_role_of}
use Rattle.record_shapes.specs.Tags.{is_event_tag}
use Rattle.record_shapes.specs.Untaken.{
  citation_leaves,
  event_leaves,
  family_leaves,
  holding_leaves,
  participant_leaves,
  person_leaves,
  place_leaves,
  repo_leaves,
  source_leaves,
}
use Rattle.archive_state.specs.Known.{path_with, tag_at}
use Rattle.archive_state.specs.Sound.{own_tags, place_of}
use Rattle.archive_state.specs.Texts.{carried_texts, own_texts}

-- ---- of what may be missing, and of each that stands somewhere
abbrev pub all_some : {X : Type 0} → (X → Bool) → Option X → Bool
all_some p None = true
all_some p (Some x) = p x

-- ---- what is known of records, by what stands at each number
abbrev pub path_seen : ℕ → (ℕ → Option Record) → ℕ → Option (List ℕ)
path_seen zero look n = None
path_seen (suc steps) look n = path_with n (path_seen steps look) (look n)

abbrev pub seen : (ℕ → Option Record) → Known
seen look = record { tag = λ n. tag_at (look n); path = λ n. path_seen (n + 1) look n }

abbrev pub seen_before : (ℕ → Option Record) → ℕ → Known
seen_before look k = record {
  tag = λ n. tag_at (look n);
  path = λ n. if nat_lt n k then path_seen
      (n + 1) look n else None;
}

-- ---- the rules on one record
abbrev pub is_number : ℕ → ℕ → Bool
is_number next n = nat_lt 0 n && nat_lt n next

abbrev pub has_smaller_parent : ℕ → Record → Bool
has_smaller_parent n (kind.Place p) = all_some (λ q. nat_lt q n) p.parent
has_smaller_parent n _ = true

abbrev pub has_normal_name : Record → Bool
has_normal_name (kind.Place p) = bytes_eq (normal p.name) p.name
has_normal_name _ = true

abbrev pub is_once : List ℕ → Bool
is_once [] = true
is_once (n ∷ ns) = not (list_any (λ m. m == n) ns) && is_once ns

abbrev pub has_members_once : Record → Bool
has_members_once (kind.Family f) = is_once (members f)
has_members_once _ = true

abbrev pub is_tag : List ℕ → Bool
is_tag tag = nat_lt 0 (length tag) && (nat_le (length tag) 31 && list_all is_word tag)

abbrev pub is_of_records : List ℕ → Bool
is_of_records tag = is_tag tag && (not (bytes_eq tag (codes "CONC")) && not (bytes_eq tag (codes "CONT")))

abbrev pub has_tags : Record → Bool
has_tags r = list_all is_of_records (own_tags r ++ carried_tags r)

abbrev pub is_no_trailer : Record → Bool
is_no_trailer (kind.Other o) = not (bytes_eq o.tag (codes "TRLR"))
is_no_trailer _ = true

-- ASCII is UTF-8 without decoding
abbrev pub is_ascii : List ℕ → Bool
is_ascii bytes = list_all (λ b. nat_lt b 128) bytes

abbrev pub is_text : List ℕ → Bool
is_text bytes = (is_ascii bytes || is_utf8 bytes) &&
    (not (list_any (λ b. b == 0) bytes) && (not (list_any (λ b. b == 13) bytes) && nat_le (length bytes) 1048576))

abbrev pub has_texts : Record → Bool
has_texts r = list_all is_text (own_texts r ++ carried_texts r)

abbrev pub has_said_place : Known → Record → Bool
has_said_place known r = all_some (λ p. all_some has_part (known.path p)) (place_of r)

abbrev pub has_event_tag : (ℕ → Option Record) → Record → Bool
has_event_tag look (kind.Event e) = all_some (is_event_tag e.tag) (look e.owner)
has_event_tag look _ = true

abbrev pub has_sound_mentions : Record → Bool
has_sound_mentions (kind.Entry e) = (nat_le 1 (length e.mentions) && nat_le (length e.mentions) 100)
    && list_all (λ (x : model.Mention). is_role_of e.kind x.role) e.mentions
has_sound_mentions _ = true

-- ---- carried lines
abbrev pub are_untaken : (Tree Line → Field) → (Field → Bool) → Lines → Bool
are_untaken field leaves ts = list_all (λ t. leaves (field t)) ts

abbrev pub has_untaken : Known → Known → Record → Bool
has_untaken earlier known (kind.Place p) = are_untaken (parent_field earlier p.name) (place_leaves p) p.carried
has_untaken earlier known (kind.Repo r) = are_untaken repo_field (repo_leaves r) r.carried
has_untaken earlier known (kind.Source s) =
    list_all (λ (h : model.Holding). are_untaken holding_field (holding_leaves h) h.carried) s.holdings && are_untaken
    (source_field known) (source_leaves s) s.carried
has_untaken earlier known (kind.Person p) = are_untaken (person_field known) (person_leaves p) p.carried
has_untaken earlier known (kind.Family f) = are_untaken (family_field known) (λ x. family_leaves x) f.carried
has_untaken earlier known (kind.Citation c) = are_untaken citation_field (citation_leaves c) c.carried
has_untaken earlier known (kind.Event e) =
    list_all (λ (p : model.Participant). are_untaken participant_field (participant_leaves p) p.carried) e.participants
    && are_untaken (event_field known) (event_leaves e) e.carried
has_untaken earlier known (kind.Entry e) = true
has_untaken earlier known (kind.Other o) = true

abbrev pub has_own_tag : model.Other → Bool
has_own_tag o = not (is_among (codes "_LOC" ∷ codes "REPO" ∷ codes "SOUR" ∷ codes "INDI" ∷ codes "FAM" ∷ [])
    (node (record { tag = o.tag; value = o.value }) none))

abbrev pub has_own_shape : Known → Record → Bool
has_own_shape known (kind.Other o) = has_own_tag o &&
    (not (bytes_eq o.tag (codes "_REG")) || not (is_some (entry_of known o.value o.carried)))
has_own_shape known _ = true

abbrev pub are_within : ℕ → Lines → Bool
are_within n ts = nat_le (forest_levels (forest_of ts)) n

abbrev pub owner_seen : (ℕ → Option Record) → Record → Option Record
owner_seen look (kind.Citation c) = look c.owner
owner_seen look (kind.Event e) = look e.owner
owner_seen look _ = None

abbrev pub has_room : Option Record → Record → Bool
has_room owner (kind.Place p) = are_within 98 p.carried
has_room owner (kind.Repo r) = are_within 98 r.carried
has_room owner (kind.Source s) = list_all (λ (h : model.Holding). are_within 97 h.carried) s.holdings &&
    are_within 98 s.carried
has_room owner (kind.Person p) = list_all (λ (n : model.Name). are_within 97 n.carried) p.names &&
    are_within 98 p.carried
has_room owner (kind.Family f) =
    list_all (λ (p : model.Partner). are_within 97 p.carried && are_within 97 p.carried_by_person) f.partners
    && (list_all (λ (c : model.Child). are_within 97 c.carried && are_within 97 c.carried_by_person) f.children &&
    are_within 98 f.carried)
has_room owner (kind.Citation c) = are_within (room_below owner) c.carried
has_room owner (kind.Event e) = all_some (λ (p : model.EventPlace). are_within 96 p.carried) e.place
    && (list_all (λ (p : model.Participant). are_within 96 p.carried) e.participants && are_within 97 e.carried)
has_room owner (kind.Entry e) = true
has_room owner (kind.Other o) = are_within 98 o.carried

-- ---- entries of one key
abbrev pub has_key_of : model.Entry → model.Entry → Bool
has_key_of e f = f.source == e.source && (bytes_eq (entry_kind_word f.kind) (entry_kind_word e.kind)
    && (bytes_eq f.page e.page && f.item.number == e.item.number))

abbrev pub is_apart : ℕ → model.Entry → ℕ → Record → Bool
is_apart n e k (kind.Entry f) = not (has_key_of e f) || n == k
is_apart n e k _ = true

-- ---- links
abbrev pub is_yes : Option Bool → Bool
is_yes None = false
is_yes (Some b) = b

abbrev pub stands : (ℕ → Option Record) → Link → Bool
stands look link = is_yes (option_map (is_wanted link.1) (look link.0))

abbrev pub stands_if_there : (ℕ → Option Record) → Link → Bool
stands_if_there look link = all_some (is_wanted link.1) (look link.0)

-- ---- slips
abbrev pub ascends : List ℕ → Bool
ascends [] = true
ascends (n ∷ ns) = list_all (λ m. nat_lt n m) ns && ascends ns

abbrev pub is_person : Record → Bool
is_person (kind.Person p) = true
is_person _ = false

abbrev pub is_nil : {A : Type 0} → List A → Bool
is_nil [] = true
is_nil (x ∷ xs) = false

abbrev pub is_empty_person : Record → Bool
is_empty_person (kind.Person p) = is_nil p.names && (not (is_some p.sex) && is_nil p.carried)
is_empty_person _ = false

abbrev pub is_some_person : Option Record → Bool
is_some_person None = false
is_some_person (Some r) = is_person r

abbrev pub may_keep : Option Record → Option Record → Bool
may_keep other None = all_some is_empty_person other
may_keep other (Some r) = is_person r
