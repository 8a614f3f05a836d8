-- Each test of one record decides its rule.
use Rattle.std.proofs.Common.{
  ◌≡◌,
  ◌≢◌,
  ℕ,
  zero,
  suc,
  ◌<◌,
  ◌≤◌,
  ◌==◌,
  List,
  [],
  ◌∷◌,
  ◌++◌,
  Bool,
  true,
  false,
  not,
  ◌&&◌,
  ◌||◌,
  nat_lt,
  nat_le,
  length,
  refl,
  sym,
  ap,
  ◌∙◌,
  true≢false,
  arith,
  bytes_eq,
  codes,
}
use Rattle.std.specs.Prelude.{Option, Some, None}
use Rattle.std.specs.Bool.{Decides}
use Rattle.std.proofs.lemmas.Bool.Decides.{nat_tests, Decides-and, Decides-not, Decides-ltb, Decides-eqb}
use Rattle.std.proofs.lemmas.Slice.Eq.{bytes_eq-Decides}
use Rattle.std.specs.List.{list_all, list_any, slice_index}
use Rattle.stored_lines.specs.Tree.{forest_of}
use Rattle.stored_lines.specs.Line.{Lines}
use Rattle.stored_lines.specs.Levels.{forest_levels}
use Rattle.std.specs.Str.{IsUtf8, is_utf8}
use Rattle.std.proofs.lemmas.Str.{IsUtf8-from_ascii, IsUtf8-from_is_utf8, is_utf8-from_IsUtf8}
use Rattle.record_text.specs.Text.{IsTag, IsText, is_word}
use Rattle.record_kinds.specs.Model as model
use Rattle.record_kinds.specs.declared.record.Record.{Record}
use Rattle.record_kinds.specs.declared.record.Record.TheVariants as kind
use Rattle.record_fields.specs.Words.{entry_kind_of, entry_kind_word}
use Rattle.record_fields.specs.declared.entry_words.EntryKind.{EntryKind}
use Rattle.record_fields.specs.declared.item.Item.{Item}
use Rattle.record_fields.proofs.Items.{same_item}
use Rattle.record_fields.proofs.Worded.{entry_kind_back}
use Rattle.archive_state.specs.Carried.{carried_tags}
use Rattle.record_shapes.specs.Entries.{entry_of}
use Rattle.record_shapes.specs.Forms.{Known, is_some}
use Rattle.record_shapes.specs.Levels.{AreWithin, HasRoom, room_below}
use Rattle.record_shapes.specs.Lists.{EachOf, IsOnce}
use Rattle.record_shapes.specs.Members.{members}
use Rattle.record_shapes.specs.Paths.{normal}
use Rattle.record_shapes.specs.Readable.{IsReadableOther}
use Rattle.record_shapes.specs.Roles.{is_role_of}
use Rattle.record_shapes.specs.Untaken.{HasUntaken}
use Rattle.archive_state.specs.Entries.{HasKey}
use Rattle.archive_state.specs.Sound.{
  HasMembersOnce,
  HasNormalName,
  HasSmallerParent,
  HasSoundMentions,
  IsNoTrailer,
  IsNumber,
  IsOfRecords,
  own_tags,
}
use Rattle.archive_state.specs.Texts.{carried_texts, own_texts}
use Rattle.record_rules.specs.Judged.{
  are_within,
  has_key_of,
  has_members_once,
  has_normal_name,
  has_own_shape,
  has_own_tag,
  has_room,
  has_smaller_parent,
  has_sound_mentions,
  has_tags,
  has_untaken,
  has_texts,
  is_ascii,
  is_no_trailer,
  is_number,
  is_of_records,
  is_once,
  is_tag,
  is_text,
  is_yes,
}
use Rattle.record_rules.proofs.Tests.{each_of, if_some}

-- ---- small tests
pub yes : Decides true (Unit {0})
yes = (λ _. tt, λ _. refl)

pub itself : (b : Bool) → Decides b (b ≡ true)
itself b = (λ e. e, λ e. e)

pub at_most : (a b : ℕ) → Decides (nat_le a b) (a ≤ b)
at_most a b = (λ h. grind (arith, nat_tests), λ h. grind (arith, nat_tests))

pub is_not : (b : Bool) → Decides (not b) (b ≡ false)
is_not true = (λ e. sym e, λ e. sym e)
is_not false = (λ _. refl, λ _. refl)

pub other_text : (xs ys : List ℕ) → Decides (not (bytes_eq xs ys)) (xs ≢ ys)
other_text xs ys = Decides-not (bytes_eq xs ys) (bytes_eq-Decides xs ys)

pub implies : {A B : Type 0} (a b : Bool) → Decides a A → Decides b B → Decides (not a || b) (A → B)
implies true b d k = (λ e x. k.0 e, λ f. k.1 (f (d.0 refl)))
implies false b d k = (λ _ x. absurd (true≢false (sym (d.1 x))), λ _. refl)

pub is_yes_if : (o : Option Bool) → Decides (is_yes o) (o ≡ Some true)
is_yes_if None = (λ e. absurd (true≢false (sym e)), λ e. absurd cc)
is_yes_if (Some b) = (λ e. ap Some e, λ e. cc)

pub no_value : {A : Type 0} (o : Option A) → Decides (not (is_some o)) (o ≡ None)
no_value None = (λ _. refl, λ _. refl)
no_value (Some a) = (λ e. absurd (true≢false (sym e)), λ e. absurd cc)

pub three : {A B C : Type 0} (a b c : Bool) → Decides a A → Decides b B → Decides c C
    → Decides (a && (b && c)) (A × B × C)
three a b c d k l = let all = Decides-and a (b && c) d (Decides-and b c k l) in
    (λ e. let h = all.0 e in (h.0, h.1.0, h.1.1), λ h. all.1 (h.0, (h.1, h.2)))

four : {A B C D : Type 0} (a b c d : Bool) → Decides a A → Decides b B → Decides c C → Decides d D
    → Decides (a && (b && (c && d))) (A × B × C × D)
four a b c d i j k l = let all = Decides-and a (b && (c && d)) i (Decides-and b (c && d) j (Decides-and c d k l)) in
    (λ e. let h = all.0 e in (h.0, h.1.0, h.1.1.0, h.1.1.1), λ h. all.1 (h.0, (h.1, (h.2, h.3))))

-- ---- rules on one record
pub number : (next n : ℕ) → Decides (is_number next n) (IsNumber next n)
number next n = Decides-and (nat_lt 0 n) (nat_lt n next) (Decides-ltb 0 n) (Decides-ltb n next)

pub parent : (n : ℕ) (r : Record) → Decides (has_smaller_parent n r) (HasSmallerParent n r)
parent n (kind.Place p) = if_some (λ q. nat_lt q n) (λ q. q < n) (λ q. Decides-ltb q n) p.parent
parent n _ = yes

pub name : (r : Record) → Decides (has_normal_name r) (HasNormalName r)
name (kind.Place p) = bytes_eq-Decides (normal p.name) p.name
name _ = yes

pub once : (ns : List ℕ) → Decides (is_once ns) (IsOnce ns)
once [] = yes
once (n ∷ ns) = Decides-and (not (list_any (λ m. m == n) ns)) (is_once ns)
    (is_not (list_any (λ m. m == n) ns)) (once ns)

pub members_once : (r : Record) → Decides (has_members_once r) (HasMembersOnce r)
members_once (kind.Family f) = once (members f)
members_once _ = yes

pub tag : (t : List ℕ) → Decides (is_tag t) (IsTag t)
tag t =
    let d = Decides-and (nat_lt 0 (length t)) (nat_le (length t) 31 && list_all is_word t) (Decides-ltb 0 (length t))
    (Decides-and (nat_le (length t) 31) (list_all is_word t) (at_most (length t) 31) (itself (list_all is_word t))) in
    (λ e. let h = d.0 e in record { some = h.0; short = h.1.0; words = h.1.1 }, λ h. d.1 (h.some, (h.short, h.words)))

pub of_records : (t : List ℕ) → Decides (is_of_records t) (IsOfRecords t)
of_records t = three (is_tag t) (not (bytes_eq t (codes "CONC"))) (not (bytes_eq t (codes "CONT"))) (tag t)
    (other_text t (codes "CONC")) (other_text t (codes "CONT"))

pub all_tags : (r : Record) → Decides (has_tags r) (EachOf IsOfRecords (own_tags r ++ carried_tags r))
all_tags r = each_of is_of_records IsOfRecords of_records (own_tags r ++ carried_tags r)

either : {A : Type 0} (a b : Bool) → (a ≡ true → A) → Decides b A → Decides (a || b) A
either true b f d = (λ _. f refl, λ _. refl)
either false b f d = d

below : (bytes : List ℕ) → is_ascii bytes ≡ true → (i : ℕ) → slice_index bytes i < 128
below [] e i = omega arith
below (b ∷ bytes) e zero =
    ((Decides-and (nat_lt b 128) (is_ascii bytes) (Decides-ltb b 128) (itself (is_ascii bytes))).0 e).0
below (b ∷ bytes) e (suc i) =
    below bytes ((Decides-and (nat_lt b 128) (is_ascii bytes) (Decides-ltb b 128) (itself (is_ascii bytes))).0 e).1 i

utf8 : (bytes : List ℕ) → Decides (is_ascii bytes || is_utf8 bytes) (IsUtf8 bytes)
utf8 bytes = either (is_ascii bytes) (is_utf8 bytes) (λ e. IsUtf8-from_ascii bytes (below bytes e))
    (IsUtf8-from_is_utf8 bytes, is_utf8-from_IsUtf8 bytes)

pub text : (t : List ℕ) → Decides (is_text t) (IsText t)
text t =
    let d = four (is_ascii t || is_utf8 t) (not (list_any (λ b. b == 0) t)) (not (list_any (λ b. b == 13) t))
    (nat_le (length t) 1048576) (utf8 t) (is_not _) (is_not _) (at_most (length t) 1048576) in (
      λ e. let h = d.0 e in record { utf8 = h.0; no_nul = h.1; no_cr = h.2; short = h.3 },
      λ h. d.1 (h.utf8, h.no_nul, h.no_cr, h.short),
    )

pub all_texts : (r : Record) → Decides (has_texts r) (EachOf IsText (own_texts r ++ carried_texts r))
all_texts r = each_of is_text IsText text (own_texts r ++ carried_texts r)

pub trailer : (r : Record) → Decides (is_no_trailer r) (IsNoTrailer r)
trailer (kind.Other o) = other_text o.tag (codes "TRLR")
trailer _ = yes

pub sound_mentions : (r : Record) → Decides (has_sound_mentions r) (HasSoundMentions r)
sound_mentions (kind.Entry e) = Decides-and (nat_le 1 (length e.mentions) && nat_le (length e.mentions) 100)
    (list_all (λ (x : model.Mention). is_role_of e.kind x.role) e.mentions)
    (Decides-and (nat_le 1 (length e.mentions)) (nat_le (length e.mentions) 100) (at_most 1 (length e.mentions))
    (at_most (length e.mentions) 100))
    (each_of (λ (x : model.Mention). is_role_of e.kind x.role) (λ (x : model.Mention). is_role_of e.kind x.role ≡ true)
    (λ x. itself (is_role_of e.kind x.role)) e.mentions)
sound_mentions _ = yes

-- ---- carried lines
each_is : {A : Type 0} (p : A → Bool) (xs : List A) → Decides (list_all p xs) (EachOf (λ x. p x ≡ true) xs)
each_is p xs = each_of p (λ x. p x ≡ true) (λ x. itself (p x)) xs

pub untaken : (earlier known : Known) (r : Record) → Decides (has_untaken earlier known r) (HasUntaken earlier known r)
untaken earlier known (kind.Place p) = itself _
untaken earlier known (kind.Repo r) = itself _
untaken earlier known (kind.Source s) = Decides-and _ _ (each_is _ s.holdings) (itself _)
untaken earlier known (kind.Person p) = itself _
untaken earlier known (kind.Family f) = itself _
untaken earlier known (kind.Citation c) = itself _
untaken earlier known (kind.Event e) = Decides-and _ _ (each_is _ e.participants) (itself _)
untaken earlier known (kind.Entry e) = yes
untaken earlier known (kind.Other o) = yes

pub other_shape : (known : Known) (o : model.Other) → Decides (has_own_shape known (kind.Other o))
    (IsReadableOther known o)
other_shape known o =
    let d = Decides-and (has_own_tag o)
    (not (bytes_eq o.tag (codes "_REG")) || not (is_some (entry_of known o.value o.carried))) (is_not _)
    (implies (bytes_eq o.tag (codes "_REG")) (not (is_some (entry_of known o.value o.carried)))
    (bytes_eq-Decides o.tag (codes "_REG")) (no_value (entry_of known o.value o.carried))) in
    (λ e. let h = d.0 e in record { own = h.0; no_entry = h.1 }, λ h. d.1 (h.own, h.no_entry))

-- ---- levels
room_of : (n : ℕ) (ts : Lines) → Decides (are_within n ts) (AreWithin n ts)
room_of n ts = at_most (forest_levels (forest_of ts)) n

rooms : {A : Type 0} (n : ℕ) (f : A → Lines) (xs : List A) → Decides (list_all (λ x. are_within n (f x)) xs)
    (EachOf (λ x. AreWithin n (f x)) xs)
rooms n f xs = each_of (λ x. are_within n (f x)) (λ x. AreWithin n (f x)) (λ x. room_of n (f x)) xs

two_rooms : {A : Type 0} (n : ℕ) (f g : A → Lines) (xs : List A)
    → Decides (list_all (λ x. are_within n (f x) && are_within n (g x)) xs)
    (EachOf (λ x. AreWithin n (f x) × AreWithin n (g x)) xs)
two_rooms n f g xs = each_of (λ x. are_within n (f x) && are_within n (g x))
    (λ x. AreWithin n (f x) × AreWithin n (g x)) (λ x. Decides-and _ _ (room_of n (f x)) (room_of n (g x))) xs

pub room : (owner : Option Record) (r : Record) → Decides (has_room owner r) (HasRoom owner r)
room owner (kind.Place p) = room_of 98 p.carried
room owner (kind.Repo r) = room_of 98 r.carried
room owner (kind.Source s) = Decides-and _ _ (rooms 97 (λ (h : model.Holding). h.carried) s.holdings)
    (room_of 98 s.carried)
room owner (kind.Person p) = Decides-and _ _ (rooms 97 (λ (n : model.Name). n.carried) p.names) (room_of 98 p.carried)
room owner (kind.Family f) =
    three _ _ _ (two_rooms 97 (λ (p : model.Partner). p.carried)
    (λ (p : model.Partner). p.carried_by_person) f.partners)
    (two_rooms 97 (λ (c : model.Child). c.carried) (λ (c : model.Child). c.carried_by_person) f.children)
    (room_of 98 f.carried)
room owner (kind.Citation c) = room_of (room_below owner) c.carried
room owner (kind.Event e) =
    three _ _ _ (if_some (λ (p : model.EventPlace). are_within 96 p.carried)
    (λ (p : model.EventPlace). AreWithin 96 p.carried) (λ (p : model.EventPlace). room_of 96 p.carried) e.place)
    (rooms 96 (λ (p : model.Participant). p.carried) e.participants) (room_of 97 e.carried)
room owner (kind.Entry e) = yes
room owner (kind.Other o) = room_of 98 o.carried

-- ---- keys of entries
one_kind : (a b : EntryKind) → Decides (bytes_eq (entry_kind_word a) (entry_kind_word b)) (a ≡ b)
one_kind a b =
    let d = bytes_eq-Decides (entry_kind_word a) (entry_kind_word b) in (
      λ e. let both : Some a ≡ Some b = sym (entry_kind_back a) ∙ (ap entry_kind_of (d.0 e) ∙ entry_kind_back b) in
          cc,
      λ e. d.1 (ap entry_kind_word e),
    )

one_item : (i j : Item) → Decides (i.number == j.number) (i ≡ j)
one_item i j = (
  λ e. same_item i j ((Decides-eqb i.number j.number).0 e),
  λ e. (Decides-eqb i.number j.number).1 (ap (λ (x : Item). x.number) e),
)

pub key : (e f : model.Entry) → Decides (has_key_of e f) (HasKey e.source e.kind e.page e.item f)
key e f = four _ _ _ _ (Decides-eqb f.source e.source) (one_kind f.kind e.kind) (bytes_eq-Decides f.page e.page)
    (one_item f.item e.item)
