-- Places that are read from lines keep the rules on one record.
use Rattle.std.proofs.Common.{◌≡◌, true, [], ◌∷◌, refl}
use Rattle.std.specs.Prelude.{Option, Some, None, IfSome, ◌&&◌, codes, option_map}
use Rattle.std.specs.Option.{unwrap_or}
use Rattle.std.proofs.lemmas.Bool.{and_parts}
use Rattle.stored_lines.specs.Tree.{Tree}
use Rattle.stored_lines.specs.Line.{Line, Lines}
use Rattle.record_kinds.specs.Model as model
use Rattle.record_kinds.specs.declared.record.Record.{Record}
use Rattle.record_kinds.specs.declared.record.Record.TheVariants as kind
use Rattle.record_text.specs.Text.{IsText}
use Rattle.record_shapes.specs.declared.field.Field.{Field}
use Rattle.record_shapes.specs.Fields.{a_name, a_parent, carried, is_same, parent_field, place_field}
use Rattle.record_shapes.specs.Forms.{Known, is_bare, is_some, number_of, tagged, text_of}
use Rattle.record_shapes.specs.Paths.{is_within_limits, normal}
use Rattle.record_shapes.specs.Picking.{all_of, first, is_left, without_first}
use Rattle.record_shapes.specs.Reading.{place_from, place_name}
use Rattle.record_shapes.specs.Untaken.{place_leaves}
use Rattle.imports.specs.Read.{IsLine, IsRead}
use Rattle.imports.proofs.Fine.{
  AreLines,
  each_but_first,
  each_left,
  empty_text,
  first_of_field,
  lines_tags,
  lines_texts,
  lines_within,
  text_is,
}
use Rattle.imports.proofs.Left.{Finds, all_find, first_is, left_untaken, row_is, some_mapped}
use Rattle.imports.proofs.Normal.{normal_text}
use Rattle.record_shapes.proofs.Names.{normal_twice}

-- the name on a line is within the limits
name_met : (t : Tree Line) → is_same (place_field t) a_name ≡ true → is_within_limits (normal (text_of t)) ≡ true
name_met t e =
    (and_parts (is_bare t) (is_within_limits (normal (text_of t)))
    (and_parts (tagged (codes "NAME") t) (is_bare t && is_within_limits (normal (text_of t)))
    (row_is (tagged (codes "NAME") t && (is_bare t && is_within_limits (normal (text_of t)))) a_name carried a_name e
    refl)).1).1

empty_within : is_within_limits (normal []) ≡ true
unfolding is_within_limits normal
empty_within = refl

pub name_within : (o : Option (Tree Line)) → IfSome o (λ t. is_same (place_field t) a_name ≡ true)
    → is_within_limits (normal (unwrap_or (option_map text_of o) [])) ≡ true
name_within None h = empty_within
name_within (Some t) h = name_met t h

name_text : (o : Option (Tree Line)) → IfSome o (IsLine 98) → IsText (unwrap_or (option_map text_of o) [])
name_text None h = empty_text
name_text (Some t) h = text_is 98 t h

pub place_name_within : (ts : Lines) → is_within_limits (place_name ts) ≡ true
place_name_within ts = name_within (first (all_of place_field a_name ts)) (first_is place_field a_name ts)

pub place_name_text : (ts : Lines) → AreLines 98 ts → IsText (place_name ts)
place_name_text ts h = normal_text _ (name_text (first (all_of place_field a_name ts))
    (first_of_field (IsLine 98) place_field a_name ts h)) (place_name_within ts)

place_leaves_it : (p : model.Place) (x : Field) → is_left (a_parent ∷ []) x ≡ true
    → (x ≡ a_parent → is_some p.parent ≡ true) → place_leaves p x ≡ true
place_leaves_it p carried e h = refl
place_leaves_it p a_parent e h = h refl
place_leaves_it p _ e h = absurd cc

pub place_read : (earlier known : Known) (owner : Option Record) (ts : Lines) → AreLines 98 ts
    → IsRead earlier known owner (kind.Place (place_from earlier ts))
place_read earlier known owner ts h =
    let p : model.Place = place_from earlier ts in
    let field : Tree Line → Field = parent_field earlier (place_name ts) in
    let rest : Lines = without_first place_field a_name ts in
    let lines : AreLines 98 p.carried = each_left (IsLine 98) field (a_parent ∷ []) rest
    (each_but_first (IsLine 98) place_field a_name ts h) in
    record {
      normal = normal_twice _;
      once = tt;
      of_tags = lines_tags 98 p.carried lines;
      trailers = tt;
      of_texts = (place_name_text ts h, lines_texts 98 p.carried lines);
      events = tt;
      mentions = tt;
      untaken = left_untaken field (a_parent ∷ []) (place_leaves p) rest ts
          (λ t finds e. place_leaves_it p (field t) e
          (λ is. some_mapped number_of (first (all_of field a_parent ts)) (finds a_parent is)))
          (each_but_first (Finds field ts) place_field a_name ts (all_find field ts));
      shapes = tt;
      room = lines_within 98 p.carried lines;
    }
