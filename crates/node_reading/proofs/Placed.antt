-- Places read from their lines.
use Rattle.std.specs.Prelude.{
  ℕ,
  ◌≡◌,
  ◌&&◌,
  not,
  cond,
  Bool,
  true,
  false,
  List,
  [],
  ◌∷◌,
  ◌++◌,
  Option,
  Some,
  None,
  option_map,
  codes,
  bytes_eq,
  refl,
}
use Rattle.std.specs.Option.{unwrap_or}
use Rattle.std.proofs.Common.{ap, sym, ◌∙◌}
use Rattle.stored_lines.specs.Tree.{Tree}
use Rattle.stored_lines.specs.Line.{Line, Lines}
use Rattle.record_fields.specs.Bytes.{bytes_are}
use Rattle.record_kinds.specs.Model as model
use Rattle.record_shapes.specs.Paths.{is_within_limits, normal}
use Rattle.record_shapes.specs.declared.field.Field.{Field}
use Rattle.record_shapes.specs.Forms.{Known, is_bare, is_childless, is_text, number_of, tag_of, tagged, text_of}
use Rattle.record_shapes.specs.Fields.{a_name, a_parent, carried, is_above, is_same, parent_field, place_field, row}
use Rattle.record_shapes.specs.Picking.{all_of, first, is_left, without_first}
use Rattle.record_shapes.specs.Reading.{parent_line, path_from, path_on, place_from, place_name}
use Rattle.node_reading.specs.Partly.{left_with, name_or, or_told, path_at, place_called, place_with, unless}
use Rattle.node_reading.proofs.Picked.{is_first, left_kept, missing_one, row_is}

-- ---- the name

normal_none : normal [] ≡ []
unfolding normal
normal_none = refl

pub name_said : (o : Option (List ℕ)) → unwrap_or (option_map normal o) [] ≡ normal (unwrap_or o [])
name_said None = sym normal_none
name_said (Some t) = refl

-- ---- the place above
parent_fields : (known : Known) (name : List ℕ) (t : Tree Line)
    → is_left (a_parent ∷ []) (parent_field known name t) ≡ true
parent_fields known name t =
    row_is (is_left (a_parent ∷ [])) (tagged (codes "_LOC") t && (is_childless t && (not (is_text t)
    && is_above name (known.path (number_of t))))) a_parent carried refl refl

pub place_carried : (known : Known) (p : model.Place) (t : Tree Line)
    → is_first (parent_field known p.name t) a_parent p.parent ≡ false → (ts : Lines)
    → place_with known (record { name = p.name; parent = p.parent; carried = p.carried ++ t ∷ [] }) ts
    ≡ place_with known p (t ∷ ts)
place_carried known p t h ts = λ i. record {
  name = p.name;
  parent = parent_same (parent_field known p.name) p.parent h i;
  carried = left_kept (parent_field known p.name) p.carried (a_parent ∷ []) (unless p.parent a_parent) t ts
      (parent_fields known p.name t) (missing_one (parent_field known p.name t) a_parent p.parent h) i;
}
  where
    parent_same : (field : Tree Line → Field) (o : Option ℕ) → is_first (field t) a_parent o ≡ false
        → or_told o (option_map number_of (first (all_of field a_parent ts)))
        ≡ or_told o (option_map number_of (first (all_of field a_parent (t ∷ ts))))
    parent_same field (Some n) e = refl
    parent_same field None e = ap (λ (b : Bool). option_map number_of (first (cond b (t ∷ all_of field a_parent ts)
        (all_of field a_parent ts)))) (sym (same (is_same (field t) a_parent) e))
      where
        same : (a : Bool) → (a && true) ≡ false → a ≡ false
        same true e = e
        same false e = refl

-- the line of the name is not that of a place above
name_apart : (known : Known) (name : List ℕ) (t : Tree Line) → is_same (place_field t) a_name ≡ true
    → is_same (parent_field known name t) a_parent ≡ false
name_apart known name t e =
    elim (tagged (codes "NAME") t) as (λ b. tagged (codes "NAME") t ≡ b
    → is_same (row (b && (is_bare t && is_within_limits (normal (text_of t)))) a_name carried) a_name ≡ true
    → is_same (parent_field known name t) a_parent ≡ false) [
      | true ↦ λ n h. ap (λ tag. is_same (row (bytes_eq tag (codes "_LOC") && (is_childless t && (not (is_text t)
          && is_above name (known.path (number_of t))))) a_parent carried) a_parent)
          (bytes_are (tag_of t) (codes "NAME") n)
      | false ↦ λ n h. absurd cc
    ] refl e

all_beside : (known : Known) (name : List ℕ) (ts : Lines)
    → all_of (parent_field known name) a_parent (without_first place_field a_name ts)
    ≡ all_of (parent_field known name) a_parent ts
all_beside known name [] = refl
all_beside known name (t ∷ ts) =
    let all : Lines → Lines = all_of (parent_field known name) a_parent in
    elim (is_same (place_field t) a_name) as (λ b. is_same (place_field t) a_name ≡ b
    → all (cond b ts (t ∷ without_first place_field a_name ts)) ≡ all (t ∷ ts)) [
      | true ↦ λ e. ap (λ (b : Bool). cond b (t ∷ all ts) (all ts)) (sym (name_apart known name t e))
      | false ↦ λ e. ap (λ us. cond (is_same (parent_field known name t) a_parent) (t ∷ us) us)
          (all_beside known name ts)
    ] refl

pub place_is : (known : Known) (ts : Lines)
    → place_with known (place_called (place_name ts)) (without_first place_field a_name ts) ≡ place_from known ts
place_is known ts = λ i. record {
  name = place_name ts;
  parent = option_map number_of (first (all_beside known (place_name ts) ts i));
  carried = left_with (parent_field known (place_name ts)) (a_parent ∷ []) (a_parent ∷ [])
      (without_first place_field a_name ts);
}

path_is : (known : Known) (name : List ℕ) (o : Option (Tree Line)) → path_at known name (option_map number_of o)
    ≡ path_on known name o
path_is known name None = refl
path_is known name (Some t) = refl

pub path_read : (known : Known) (ts : Lines) (p : model.Place) → p ≡ place_from known ts
    → path_at known p.name p.parent ≡ path_from known ts
path_read known ts p e = ap (λ (x : model.Place). path_at known x.name x.parent) e
    ∙ path_is known (place_name ts) (parent_line known ts)

pub place_read : (known : Known) (ts : Lines) (name : List ℕ) (rest : Lines) (p : model.Place) → name ≡ place_name ts
    → rest ≡ without_first place_field a_name ts → p ≡ place_with known (place_called name) rest
    → p ≡ place_from known ts
place_read known ts name rest p e h k = k ∙ (λ i. place_with known (place_called (e i)) (h i)) ∙ place_is known ts

pub name_read : (o told : Option (List ℕ)) (n : List ℕ) → n ≡ unwrap_or o [] → name_or o [] ≡ option_map normal told
    → n ≡ normal (unwrap_or told [])
name_read None told n e h = e ∙ ap (λ (x : Option (List ℕ)). unwrap_or x []) h ∙ name_said told
name_read (Some t) told n e h = e ∙ ap (λ (x : Option (List ℕ)). unwrap_or x []) h ∙ name_said told
