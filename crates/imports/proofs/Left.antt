-- Lines that are left once the fields of a part are removed: no field would take them.
use Rattle.std.proofs.Common.{◌≡◌, Bool, true, false, cond, List, [], ◌∷◌, refl, sym, ap, ◌∙◌}
use Rattle.std.specs.Prelude.{Option, Some, None, IfSome, option_map, ◌&&◌}
use Rattle.std.specs.List.{list_all}
use Rattle.std.proofs.lemmas.Bool.{eq-eqb}
use Rattle.stored_lines.specs.Tree.{Tree}
use Rattle.stored_lines.specs.Line.{Line, Lines}
use Rattle.record_shapes.specs.declared.field.Field.{Field}
use Rattle.record_shapes.specs.Fields.{field_number, is_same, row}
use Rattle.record_shapes.specs.Forms.{is_some, text_of}
use Rattle.record_shapes.specs.Lists.{EachOf}
use Rattle.record_shapes.specs.Picking.{all_of, first, is_left, left, without_firsts}
use Rattle.record_shapes.specs.Untaken.{AreUntaken}
use Rattle.imports.proofs.Fine.{each_but_firsts}
use Rattle.imports.proofs.SoundLists.{each_filter, filter_holds, if_first}
use Rattle.record_shapes.proofs.Each.{each_more, each_zip}

pub same_itself : (x : Field) → is_same x x ≡ true
same_itself x = eq-eqb (field_number x) (field_number x) refl

all_true : {A : Type 0} (q : A → Bool) (xs : List A) → EachOf (λ x. q x ≡ true) xs → list_all q xs ≡ true
all_true q [] h = refl
all_true q (x ∷ xs) h = λ i. h.0 i && all_true q xs h.1 i

-- a row that is met
pub row_is : (fits : Bool) (x y z : Field) → is_same (row fits x y) z ≡ true → is_same y z ≡ false → fits ≡ true
row_is true x y z e other = refl
row_is false x y z e other = absurd (let no : true ≡ false = sym e ∙ other in cc)

-- a row that is passed over
pub row_next : (fits : Bool) (x y z : Field) → is_same (row fits x y) z ≡ true → is_same x z ≡ false
    → is_same y z ≡ true
row_next true x y z e other = absurd (let no : true ≡ false = sym e ∙ other in cc)
row_next false x y z e other = e

module _ (field : Tree Line → Field) where
  -- where a line of a field is there, a first one is
  abbrev pub Finds : Lines → Tree Line → Type 0
  Finds ts t = (x : Field) → field t ≡ x → is_some (first (all_of field x ts)) ≡ true

  finds_more : (u : Tree Line) (ts : Lines) (t : Tree Line) → Finds ts t → Finds (u ∷ ts) t
  finds_more u ts t h x e =
      elim (is_same (field u) x) as (λ b. is_some (first (cond b (u ∷ all_of field x ts) (all_of field x ts))) ≡ true) [
        | true ↦ refl
        | false ↦ h x e
      ]

  pub all_find : (ts : Lines) → EachOf (Finds ts) ts
  all_find [] = tt
  all_find (t ∷ ts) = (
    λ x e. ap (λ b. is_some (first (cond b (t ∷ all_of field x ts) (all_of field x ts))))
        (ap (λ y. is_same y x) e ∙ same_itself x),
    each_more (Finds ts) (Finds (t ∷ ts)) (finds_more t ts) ts (all_find ts),
  )

  -- the first line of a field is of it
  pub first_is : (x : Field) (ts : Lines) → IfSome (first (all_of field x ts)) (λ t. is_same (field t) x ≡ true)
  first_is x ts = if_first (λ t. is_same (field t) x ≡ true) (all_of field x ts) (filter_holds (λ t. is_same
      (field t) x) ts)

  -- what is left is untaken, where each line that is to be left is one that leaves
  pub left_untaken : (once : List Field) (leaves : Field → Bool) (ts from : Lines)
      → ((t : Tree Line) → Finds from t → is_left once (field t) ≡ true → leaves (field t) ≡ true)
      → EachOf (Finds from) ts → AreUntaken field leaves (left field once ts)
  left_untaken once leaves ts from each h =
      let rest : Lines = without_firsts field once ts in
      let kept : Lines = left field once ts in
      all_true (λ t. leaves (field t)) kept
      (each_zip (Finds from) (λ t. is_left once (field t) ≡ true) (λ t. leaves (field t) ≡ true) each kept
      (each_filter (Finds from) (λ t. is_left once (field t)) rest (each_but_firsts (Finds from) field once ts h))
      (filter_holds (λ t. is_left once (field t)) rest))

-- a text is there where its line is
pub some_text : (o : Option (Tree Line)) → is_some o ≡ true → is_some (option_map text_of o) ≡ true
some_text None e = absurd cc
some_text (Some t) e = refl

pub some_mapped : {A B : Type 0} (f : A → B) (o : Option A) → is_some o ≡ true → is_some (option_map f o) ≡ true
some_mapped f None e = absurd cc
some_mapped f (Some a) e = refl

-- a row of another field
pub row_not : (fits : Bool) (x y z : Field) → is_same x z ≡ false → is_same y z ≡ false → is_same (row fits x y) z
    ≡ false
row_not true x y z e f = e
row_not false x y z e f = f
