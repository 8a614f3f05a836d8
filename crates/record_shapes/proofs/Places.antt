-- What is read from the lines of a place is that place, and its path is found.
use Rattle.std.specs.Prelude.{ℕ, ◌≡◌, [], ◌∷◌, ◌++◌, true, false, cond, Option, Some, None, option_map, codes, refl}
use Rattle.std.specs.List.{filter}
use Rattle.std.specs.Option.{unwrap_or}
use Rattle.std.proofs.Common.{ap, sym, ◌∙◌}
use Rattle.stored_lines.specs.Tree.{Tree}
use Rattle.stored_lines.specs.Line.{Line}
use Rattle.record_kinds.specs.Model as model
use Rattle.record_shapes.specs.Paths.{is_within_limits, normal}
use Rattle.record_shapes.specs.Forms.{Known, is_some, number_of, text_of}
use Rattle.record_shapes.specs.Fields.{
  Field,
  a_name,
  a_parent,
  carried,
  is_same,
  parent_field,
  path_below,
  place_field,
  row,
}
use Rattle.record_shapes.specs.Picking.{all_of, first, is_left, left, without_first}
use Rattle.record_shapes.specs.Shapes.{loc_line, loc_lines, place_lines, text_line}
use Rattle.record_shapes.specs.Reading.{parent_line, path_from, path_on, place_from, place_name}
use Rattle.record_shapes.specs.Untaken.{place_leaves}
use Rattle.record_shapes.specs.Readable.{IsReadablePlace}
use Rattle.record_shapes.specs.Laws.{FindsPath}
use Rattle.record_shapes.proofs.Picked.{kept_all, lacks, one_here, one_out, left_more}

module _ (earlier : Known) (p : model.Place) (h : IsReadablePlace earlier p) where
  name-is : place_field (text_line (codes "NAME") p.name) ≡ a_name
  name-is = ap (λ b. row b a_name carried) (ap is_within_limits h.normal_name ∙ h.short_name)

  name_back : place_name (place_lines p) ≡ p.name
  name_back =
      let behind = all_of place_field a_name (loc_lines p.parent ++ p.carried) in
      ap (λ x. normal (unwrap_or
      (option_map text_of (first (cond (is_same x a_name) (text_line (codes "NAME") p.name ∷ behind) behind))) []))
      name-is
      ∙ h.normal_name

  without-name : without_first place_field a_name (place_lines p) ≡ loc_lines p.parent ++ p.carried
  without-name =
      let behind = loc_lines p.parent ++ p.carried in
      ap (λ x. cond (is_same x a_name) behind
      (text_line (codes "NAME") p.name ∷ without_first place_field a_name behind)) name-is

  parent-is : (t : Tree Line) → option_map loc_line p.parent ≡ Some t → parent_field earlier p.name t ≡ a_parent
  parent-is t e = by p.parent refl e
    where
      by : (o : Option ℕ) → p.parent ≡ o → option_map loc_line o ≡ Some t → parent_field earlier p.name t ≡ a_parent
      by None z e = absurd cc
      by (Some q) z e =
          let same : loc_line q ≡ t = cc in
          ap (parent_field earlier p.name) (sym same) ∙ ap (λ b. row b a_parent carried) (h.parent q z)

  no-parent : option_map loc_line p.parent ≡ None → all_of (parent_field earlier p.name) a_parent p.carried ≡ []
  no-parent e = lacks (parent_field earlier p.name) (place_leaves p) a_parent p.carried h.untaken (by p.parent e)
    where
      by : (o : Option ℕ) → option_map loc_line o ≡ None → is_some o ≡ false
      by None e = refl
      by (Some q) e = absurd cc

  parent-here : parent_line earlier (place_lines p) ≡ option_map loc_line p.parent
  parent-here = ap (λ name. first (all_of (parent_field earlier name) a_parent (place_lines p))) name_back
      ∙ one_here (parent_field earlier p.name) a_parent (option_map loc_line p.parent) p.carried
      parent-is refl no-parent

  numbers-back : (o : Option ℕ) → option_map number_of (option_map loc_line o) ≡ o
  numbers-back None = refl
  numbers-back (Some q) = refl

  place-kept : (x : Field) → place_leaves p x ≡ true → is_left (a_parent ∷ []) x ≡ true
  place-kept carried e = refl
  place-kept a_parent e = refl
  place-kept _ e = absurd cc

  pub place_back : place_from earlier (place_lines p) ≡ p
  place_back =
      let f = parent_field earlier p.name in
      λ i. record {
        name = name_back i;
        parent = (ap (option_map number_of) parent-here ∙ numbers-back p.parent) i;
        carried = ((λ j. left (parent_field earlier (name_back j)) (a_parent ∷ []) (without-name j))
            ∙ ap (filter (λ t. is_left (a_parent ∷ []) (f t)))
            (one_out f a_parent (option_map loc_line p.parent) p.carried parent-is refl no-parent)
            ∙ kept_all f (is_left (a_parent ∷ [])) p.carried
            (left_more f (place_leaves p) (is_left (a_parent ∷ [])) p.carried place-kept h.untaken)) i;
      }

  -- the path, by that of the place above
  path_back : path_from earlier (place_lines p) ≡ path_on earlier p.name (option_map loc_line p.parent)
  path_back = λ i. path_on earlier (name_back i) (parent-here i)

pub path_found : FindsPath
path_found earlier p h = (
  λ none. path_back earlier p h ∙ ap (λ o. path_on earlier p.name (option_map loc_line o)) none,
  λ q above parent known. path_back earlier p h ∙ ap (λ o. path_on earlier p.name (option_map loc_line o)) parent
      ∙ ap (λ o. path_below p.name (unwrap_or o [])) known,
)
