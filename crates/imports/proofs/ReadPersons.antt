-- Persons that are read from lines keep the rules on one record, and so does what a person or a family owns.
use Rattle.std.proofs.Common.{◌≡◌, true, [], ◌∷◌, ◌++◌, refl, arith}
use Rattle.std.specs.Prelude.{Option, Some, None, IfSome, ◌&&◌, ◌||◌, codes, map, option_map}
use Rattle.std.specs.List.{flat_map}
use Rattle.std.proofs.lemmas.Bool.{and_parts}
use Rattle.stored_lines.specs.Tree.{Tree, forest_of}
use Rattle.stored_lines.specs.Line.{Line, Lines}
use Rattle.record_kinds.specs.Model as model
use Rattle.record_kinds.specs.declared.record.Record.{Record}
use Rattle.record_kinds.specs.declared.record.Record.TheVariants as kind
use Rattle.record_fields.specs.Words.{sex_of}
use Rattle.record_text.specs.Text.{IsText}
use Rattle.record_shapes.specs.declared.field.Field.{Field}
use Rattle.record_shapes.specs.Fields.{
  a_citation,
  a_name,
  a_sex,
  a_side,
  an_event,
  carried,
  is_citation,
  is_same,
  person_field,
  row,
}
use Rattle.record_shapes.specs.Forms.{
  Known,
  below,
  is_among,
  is_bare,
  is_some,
  is_text,
  names_a,
  tag_of,
  tagged,
  text_of,
  value_of,
}
use Rattle.record_shapes.specs.Levels.{AreWithin, room_below}
use Rattle.record_shapes.specs.Picking.{all_of, first, is_left}
use Rattle.record_shapes.specs.Reading.{draft_if, name_from, person_from, read_by}
use Rattle.record_shapes.specs.Tags.{is_event_tag, person_tags}
use Rattle.record_shapes.specs.Untaken.{person_leaves}
use Rattle.imports.specs.Read.{AllRead, IsLine, IsRead}
use Rattle.imports.proofs.Fine.{
  AreLines,
  below_lines,
  each_left,
  each_of,
  lines_deeper,
  lines_tags,
  lines_texts,
  lines_within,
  mapped_lines,
  text_is,
}
use Rattle.imports.proofs.Left.{all_find, first_is, left_untaken, row_is, row_next, row_not}
use Rattle.imports.proofs.ReadEvents.{event_draft_read, read_both}
use Rattle.imports.proofs.ReadSources.{citation_read}
use Rattle.record_shapes.proofs.Each.{each_both, each_flat, each_mapped}

-- ---- what is owned
-- the field tells events, of the tags of their owner
module _ (earlier known : Known) (o : Record) (room : room_below (Some o) ≡ 97) (field : Tree Line → Field)
    (tells : (t : Tree Line) → is_same (field t) an_event ≡ true → is_event_tag (tag_of t) o ≡ true) where
  one_read : (x : Field) (t : Tree Line) → (is_same x an_event ≡ true → is_event_tag (tag_of t) o ≡ true) → IsLine 98 t
      → AllRead (IsRead earlier known) (Some o) (forest_of (draft_if known x t))
  one_read an_event t tag h = (event_draft_read earlier known o t (tag refl) h, tt)
  one_read a_citation t tag h = ((citation_read earlier known (Some o) 97 98 room refl t h, tt), tt)
  one_read _ t tag h = tt

  pub owned_read : (ts : Lines) → AreLines 98 ts → AllRead (IsRead earlier known) (Some o)
      (forest_of (flat_map (λ t. draft_if known (field t) t) ts))
  owned_read [] h = tt
  owned_read (t ∷ ts) h = read_both (IsRead earlier known) (Some o) (draft_if known (field t) t)
      (flat_map (λ t. draft_if known (field t) t) ts) (one_read (field t) t (tells t) h.0) (owned_read ts h.1)

-- ---- persons
-- a line of an event has a tag of events
pub person_event : (known : Known) (p : model.Person) (t : Tree Line) → is_same (person_field known t) an_event ≡ true
    → is_event_tag (tag_of t) (kind.Person p) ≡ true
person_event known p t e =
    let side = (tagged (codes "FAMC") t || tagged (codes "FAMS") t) && names_a (codes "FAM") known (value_of t) in
    let fits = is_among person_tags t && is_text t in
    let rest : Field = row side a_side (row (is_citation known t) a_citation carried) in
    let sex = tagged (codes "SEX") t && (is_bare t && is_some (sex_of (text_of t))) in
    let behind : is_same (row fits an_event rest) an_event ≡ true =
    row_next sex a_sex (row fits an_event rest) an_event
    (row_next (tagged (codes "NAME") t && is_text t) a_name (row sex a_sex (row fits an_event rest)) an_event e refl)
    refl in
    (and_parts (is_among person_tags t) (is_text t) (row_is fits an_event rest an_event behind
    (row_not side a_side (row (is_citation known t) a_citation carried) an_event refl
    (row_not (is_citation known t) a_citation carried an_event refl refl)))).0

-- the word of a sex is one
sex_met : (known : Known) (t : Tree Line) → is_same (person_field known t) a_sex ≡ true
    → is_some (sex_of (text_of t)) ≡ true
sex_met known t e =
    let side = (tagged (codes "FAMC") t || tagged (codes "FAMS") t) && names_a (codes "FAM") known (value_of t) in
    let fits = is_among person_tags t && is_text t in
    let rest : Field = row side a_side (row (is_citation known t) a_citation carried) in
    let sex = tagged (codes "SEX") t && (is_bare t && is_some (sex_of (text_of t))) in
    let met : sex ≡ true = row_is sex a_sex (row fits an_event rest) a_sex
    (row_next (tagged (codes "NAME") t && is_text t) a_name (row sex a_sex (row fits an_event rest)) a_sex e refl)
    (row_not fits an_event rest a_sex refl
    (row_not side a_side (row (is_citation known t) a_citation carried) a_sex refl
    (row_not (is_citation known t) a_citation carried a_sex refl refl))) in
    (and_parts (is_bare t) (is_some (sex_of (text_of t)))
    (and_parts (tagged (codes "SEX") t) (is_bare t && is_some (sex_of (text_of t))) met).1).1

sex_there : (known : Known) (o : Option (Tree Line)) → IfSome o (λ t. is_same (person_field known t) a_sex ≡ true)
    → is_some o ≡ true → is_some (read_by sex_of (option_map text_of o)) ≡ true
sex_there known None h e = absurd cc
sex_there known (Some t) h e = sex_met known t h

person_leaves_it : (p : model.Person) (x : Field) → is_left (a_sex ∷ []) x ≡ true
    → (x ≡ a_sex → is_some p.sex ≡ true) → person_leaves p x ≡ true
person_leaves_it p carried e h = refl
person_leaves_it p a_sex e h = h refl
person_leaves_it p _ e h = absurd cc

pub person_read : (earlier known : Known) (owner : Option Record) (ts : Lines) → AreLines 98 ts
    → IsRead earlier known owner (kind.Person (person_from known ts))
person_read earlier known owner ts h =
    let field : Tree Line → Field = person_field known in
    let p : model.Person = person_from known ts in
    let of : Lines = all_of field a_name ts in
    let kept : AreLines 98 of = each_of (IsLine 98) field a_name ts h in
    let lines : AreLines 98 p.carried = each_left (IsLine 98) field (a_sex ∷ []) ts h in
    let named : AreLines 98 (flat_map (λ (n : model.Name). n.carried) p.names) =
    each_flat (IsLine 98) (λ (n : model.Name). n.carried) p.names
    (mapped_lines 98 (λ (n : model.Name). AreLines 98 n.carried) name_from
    (λ t k. lines_deeper 97 98 (omega arith) (below t) (below_lines 97 98 refl t k)) of kept) in
    let all : AreLines 98 (flat_map (λ (n : model.Name). n.carried) p.names ++ p.carried) =
    each_both (IsLine 98) (flat_map (λ (n : model.Name). n.carried) p.names) p.carried named lines in
    record {
      normal = tt;
      once = tt;
      of_tags = lines_tags 98 _ all;
      trailers = tt;
      of_texts = each_both IsText (map (λ (n : model.Name). n.text) p.names) _
          (each_mapped IsText (λ (n : model.Name). n.text) p.names
          (mapped_lines 98 (λ (n : model.Name). IsText n.text) name_from (text_is 98) of kept))
          (lines_texts 98 _ all);
      events = tt;
      mentions = tt;
      untaken = left_untaken field (a_sex ∷ []) (person_leaves p) ts ts
          (λ t finds e. person_leaves_it p (field t) e
          (λ is. sex_there known (first (all_of field a_sex ts)) (first_is field a_sex ts) (finds a_sex is)))
          (all_find field ts);
      shapes = tt;
      room = (
        mapped_lines 98 (λ (n : model.Name). AreWithin 97 n.carried) name_from
            (λ t k. lines_within 97 (below t) (below_lines 97 98 refl t k)) of kept,
        lines_within 98 p.carried lines,
      );
    }

pub person_owned : (earlier known : Known) (p : model.Person) (ts : Lines) → AreLines 98 ts
    → AllRead (IsRead earlier known) (Some (kind.Person p))
    (forest_of (flat_map (λ t. draft_if known (person_field known t) t) ts))
person_owned earlier known p ts h = owned_read earlier known (kind.Person p) refl (person_field known)
    (person_event known p) ts h
