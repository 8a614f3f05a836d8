-- Register entries, and records of no other kind, that are read from lines keep the rules on one record.
use Rattle.std.proofs.Common.{◌≡◌, ◌≢◌, ℕ, Bool, true, false, cond, List, [], ◌∷◌, length, refl, sym, ◌∙◌, subst}
use Rattle.std.specs.Prelude.{Option, Some, None, IfSome, ◌&&◌, nat_le, bytes_eq, codes, map, option_map}
use Rattle.std.specs.List.{filter, flat_map, list_all}
use Rattle.std.proofs.lemmas.Bool.{and_parts}
use Rattle.stored_lines.specs.Tree.{Tree, node, none, forest_of}
use Rattle.stored_lines.specs.Line.{Line, Lines}
use Rattle.stored_lines.specs.declared.carried.Value.{Value}
use Rattle.record_kinds.specs.Model as model
use Rattle.record_kinds.specs.declared.record.Record.{Record}
use Rattle.record_kinds.specs.declared.record.Record.TheVariants as kind
use Rattle.record_fields.specs.Bytes.{bytes_same}
use Rattle.record_fields.specs.Dated.{date_from}
use Rattle.record_fields.specs.Words.{entry_kind_of}
use Rattle.record_text.specs.Text.{IsText}
use Rattle.record_shapes.specs.Entries.{
  around,
  entry_of,
  entry_on,
  has_its_lines,
  is_entry,
  is_said,
  line_at,
  link_on,
  mention_on,
  names_person,
  same_forest,
  text_on,
}
use Rattle.record_shapes.specs.Forms.{Known, below, is_among, is_some, is_text_value, tagged, text_in, text_of}
use Rattle.record_shapes.specs.Lists.{EachOf}
use Rattle.record_shapes.specs.Readable.{IsReadableOther}
use Rattle.record_shapes.specs.Reading.{entry_or_other, registered}
use Rattle.record_shapes.specs.Roles.{is_role_of}
use Rattle.record_shapes.specs.Shapes.{entry_lines}
use Rattle.archive_state.specs.Sound.{HasSoundMentions, IsOfRecords}
use Rattle.archive_state.specs.Texts.{date_texts, line_texts, mention_texts, own_texts, reason_texts, value_texts}
use Rattle.imports.specs.Read.{IsLine, IsRead}
use Rattle.imports.proofs.Fine.{
  AreLines,
  below_lines,
  empty_text,
  lines_tags,
  lines_texts,
  lines_within,
  mapped_lines,
  text_is,
}
use Rattle.imports.proofs.SoundLists.{each_filter, if_first}
use Rattle.imports.proofs.ReadEvents.{date_of_texts}
use Rattle.list_laws.proofs.Numbers.{at_most}
use Rattle.record_shapes.proofs.EntryLines.{if_entry}
use Rattle.record_shapes.proofs.Each.{each_both, each_more, each_flat}

-- ---- texts of an entry
line_at_is : (n : ℕ) (tag : List ℕ) (ts : Lines) → AreLines n ts → IfSome (line_at tag ts) (IsLine n)
line_at_is n tag ts h = if_first (IsLine n) (filter (tagged tag) ts) (each_filter (IsLine n) (tagged tag) ts h)

on_text : (n : ℕ) (o : Option (Tree Line)) → IfSome o (IsLine n) → IsText (text_on o)
on_text n None h = empty_text
on_text n (Some t) h = text_is n t h

field_text : (n : ℕ) (tag : List ℕ) (ts : Lines) → AreLines n ts → IsText (text_on (line_at tag ts))
field_text n tag ts h = on_text n (line_at tag ts) (line_at_is n tag ts h)

date_on_texts : (o : Option (Tree Line)) → IfSome o (IsLine 98)
    → EachOf IsText (date_texts (date_from (option_map text_of o)))
date_on_texts None h = tt
date_on_texts (Some t) h = date_of_texts (text_of t) (text_is 98 t h)

link_texts : (o : Option (Tree Line)) → IfSome o (IsLine 97) → EachOf IsText (reason_texts (link_on o))
link_texts None h = tt
link_texts (Some t) h = (field_text 96 (codes "_WHY") (below t) (below_lines 96 97 refl t h), tt)

mention_on_texts : (t : Tree Line) → IsLine 98 t → EachOf IsText (mention_texts (mention_on t))
mention_on_texts t h = (
  text_is 98 t h,
  link_texts (line_at (codes "_LINK") (below t))
      (line_at_is 97 (codes "_LINK") (below t) (below_lines 97 98 refl t h)),
)

-- ---- the rules on mentions
pub each_true : {A : Type 0} (q : A → Bool) (xs : List A) → list_all q xs ≡ true → EachOf (λ x. q x ≡ true) xs
each_true q [] e = tt
each_true q (x ∷ xs) e = let p = and_parts (q x) (list_all q xs) e in (p.0, each_true q xs p.1)

sound_mentions : (known : Known) (e : model.Entry) → is_entry known e ≡ true → HasSoundMentions (kind.Entry e)
sound_mentions known e h =
    let role : model.Mention → Bool = λ m. is_role_of e.kind m.role in
    let whole : model.Mention → Bool = λ m. role m && names_person known m.link in
    let all : Bool = list_all whole e.mentions in
    let count : Bool = nat_le (length e.mentions) 100 && all in
    let a = and_parts (bytes_eq (known.tag e.source) (codes "SOUR"))
    (is_said known e.place && (nat_le 1 (length e.mentions) && count)) h in
    let b = and_parts (is_said known e.place) (nat_le 1 (length e.mentions) && count) a.1 in
    let c = and_parts (nat_le 1 (length e.mentions)) count b.1 in
    let d = and_parts (nat_le (length e.mentions) 100) all c.1 in (
      (at_most 1 (length e.mentions) c.0, at_most (length e.mentions) 100 d.0),
      each_more (λ m. whole m ≡ true) (λ m. role m ≡ true) (λ m k. (and_parts (role m) (names_person known m.link) k).0)
          e.mentions (each_true whole e.mentions d.1),
    )

-- ---- entries

-- what is read is the entry that is guessed, which keeps the rules
pub guessed : (known : Known) (v : Value) (ts : Lines) (e : model.Entry) → entry_of known v ts ≡ Some e
    → (is_entry known (entry_on (text_in v) ts) ≡ true) × (entry_on (text_in v) ts ≡ e)
unfolding entry_of
guessed known v ts e is =
    let g : model.Entry = entry_on (text_in v) ts in
    let a = if_entry (has_its_lines known v ts g) g e is in
    let same : Bool = same_forest (forest_of ts) (forest_of (entry_lines (around known) g)) in
    let b = and_parts (is_some (entry_kind_of (text_in v))) (is_text_value v && (same && is_entry known g)) a.0 in
    let c = and_parts (is_text_value v) (same && is_entry known g) b.1 in
    ((and_parts same (is_entry known g) c.1).1, a.1)

entry_on_read : (earlier known : Known) (owner : Option Record) (word : List ℕ) (ts : Lines) → AreLines 98 ts
    → is_entry known (entry_on word ts) ≡ true → IsRead earlier known owner (kind.Entry (entry_on word ts))
entry_on_read earlier known owner word ts h rules =
    let ms : Lines = filter (tagged (codes "_MENT")) ts in
    let mentions : EachOf IsText (flat_map mention_texts (map mention_on ms)) =
    each_flat IsText mention_texts (map mention_on ms) (mapped_lines 98 (λ m. EachOf IsText (mention_texts m))
    mention_on mention_on_texts ms (each_filter (IsLine 98) (tagged (codes "_MENT")) ts h)) in
    let own : EachOf IsText (own_texts (kind.Entry (entry_on word ts))) = (
      field_text 98 (codes "PAGE") ts h,
      (
        field_text 98 (codes "TEXT") ts h,
        each_both IsText (date_texts (date_from (option_map text_of (line_at (codes "DATE") ts))))
            (flat_map mention_texts (map mention_on ms))
            (date_on_texts (line_at (codes "DATE") ts) (line_at_is 98 (codes "DATE") ts h)) mentions,
      ),
    ) in
    record {
      normal = tt;
      once = tt;
      of_tags = tt;
      trailers = tt;
      of_texts = each_both IsText (own_texts (kind.Entry (entry_on word ts))) [] own tt;
      events = tt;
      mentions = sound_mentions known (entry_on word ts) rules;
      untaken = tt;
      shapes = tt;
      room = tt;
    }

pub entry_read : (earlier known : Known) (owner : Option Record) (v : Value) (ts : Lines) (e : model.Entry)
    → AreLines 98 ts → entry_of known v ts ≡ Some e → IsRead earlier known owner (kind.Entry e)
entry_read earlier known owner v ts e h is =
    let g = guessed known v ts e is in
    subst (λ x. IsRead earlier known owner (kind.Entry x)) g.1
    (entry_on_read earlier known owner (text_in v) ts h g.0)

-- ---- records of no other kind
pub other_read : (earlier known : Known) (owner : Option Record) (tag : List ℕ) (v : Value) (ts : Lines)
    → IsOfRecords tag → tag ≢ codes "TRLR" → EachOf IsText (value_texts v) → AreLines 98 ts
    → IsReadableOther known (record { tag = tag; value = v; carried = ts })
    → IsRead earlier known owner (kind.Other (record { tag = tag; value = v; carried = ts }))
other_read earlier known owner tag v ts fits own said h shape = record {
  normal = tt;
  once = tt;
  of_tags = (fits, lines_tags 98 ts h);
  trailers = own;
  of_texts = each_both IsText (value_texts v) (flat_map line_texts ts) said (lines_texts 98 ts h);
  events = tt;
  mentions = tt;
  untaken = tt;
  shapes = shape;
  room = lines_within 98 ts h;
}

-- a node of none of the five kinds is an entry, or of no other kind
pub registered_read : (earlier known : Known) (owner : Option Record) (tag : List ℕ) (v : Value) (ts : Lines)
    → IsOfRecords tag → tag ≢ codes "TRLR" → EachOf IsText (value_texts v) → AreLines 98 ts
    → is_among (codes "_LOC" ∷ codes "REPO" ∷ codes "SOUR" ∷ codes "INDI" ∷ codes "FAM" ∷ [])
    (node (record { tag = tag; value = v }) none) ≡ false
    → IsRead earlier known owner (registered known tag v ts)
registered_read earlier known owner tag v ts fits own said h apart =
    by (bytes_eq tag (codes "_REG")) refl (entry_of known v ts) refl
  where
    by : (b : Bool) → bytes_eq tag (codes "_REG") ≡ b → (o : Option model.Entry) → entry_of known v ts ≡ o
        → IsRead earlier known owner (entry_or_other tag v ts (cond b o None))
    by true e (Some x) is = entry_read earlier known owner v ts x h is
    by true e None is = other_read earlier known owner tag v ts fits own said h
        (record { own = apart; no_entry = λ same. is })
    by false e o is = other_read earlier known owner tag v ts fits own said h (record {
      own = apart;
      no_entry = λ same. absurd (let no : true ≡ false = sym (bytes_same tag (codes "_REG") same) ∙ e in cc);
    })
