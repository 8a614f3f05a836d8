-- What is picked from lines that are one segment after the other.
use Rattle.std.specs.Prelude.{
  ℕ,
  ◌≡◌,
  List,
  [],
  ◌∷◌,
  ◌++◌,
  cond,
  Bool,
  true,
  false,
  ◌&&◌,
  Option,
  Some,
  None,
  option_map,
  refl,
}
use Rattle.std.specs.List.{filter, list_all}
use Rattle.std.proofs.Common.{ap, sym, ◌∙◌}
use Rattle.std.proofs.lemmas.List.Elements.{filter-append}
use Rattle.std.proofs.lemmas.Bool.{and_parts}
use Rattle.stored_lines.specs.Tree.{Tree}
use Rattle.stored_lines.specs.Line.{Line, Lines}
use Rattle.record_shapes.specs.Forms.{text_of}
use Rattle.record_shapes.specs.Fields.{Field, is_same}
use Rattle.record_shapes.specs.Picking.{all_of, first, text_at, without_first}
use Rattle.record_shapes.specs.Shapes.{maybe, text_line, text_lines}
use Rattle.record_shapes.specs.Untaken.{AreUntaken}
use Rattle.record_shapes.proofs.Fields.{same_field}

module _ (field : Tree Line → Field) where
  -- each of the lines is of that field
  abbrev pub Are : Field → Lines → Type 0
  Are x [] = Unit {0}
  Are x (t ∷ ts) = (field t ≡ x) × Are x ts

  -- the lines that are kept
  pub kept_all : (keep : Field → Bool) (ts : Lines) → list_all (λ t. keep (field t)) ts ≡ true
      → filter (λ t. keep (field t)) ts ≡ ts
  kept_all keep [] h = refl
  kept_all keep (t ∷ ts) h =
      let both : (keep (field t) ≡ true) × (list_all (λ u. keep (field u)) ts ≡ true) = and_parts (keep (field t))
      (list_all (λ u. keep (field u)) ts) h in
      ap (λ b. cond b (t ∷ filter (λ u. keep (field u)) ts) (filter (λ u. keep (field u)) ts)) both.0
      ∙ ap (λ (us : Lines). t ∷ us) (kept_all keep ts both.1)

  pub kept_none : (keep : Field → Bool) (x : Field) (ts : Lines) → Are x ts → keep x ≡ false
      → filter (λ t. keep (field t)) ts ≡ []
  kept_none keep x [] h n = refl
  kept_none keep x (t ∷ ts) h n =
      ap (λ b. cond b (t ∷ filter (λ u. keep (field u)) ts) (filter (λ u. keep (field u)) ts)) (ap keep h.0 ∙ n)
      ∙ kept_none keep x ts h.1 n

  pub keep_skip : (keep : Field → Bool) (x : Field) (a b : Lines) → Are x a → keep x ≡ false
      → filter (λ t. keep (field t)) (a ++ b) ≡ filter (λ t. keep (field t)) b
  keep_skip keep x a b h n = filter-append (λ t. keep (field t)) a b
      ∙ ap (λ (us : Lines). us ++ filter (λ t. keep (field t)) b) (kept_none keep x a h n)

  -- lines of one field
  pub all_own : (x : Field) (ts : Lines) → Are x ts → is_same x x ≡ true → all_of field x ts ≡ ts
  all_own x [] h s = refl
  all_own x (t ∷ ts) h s =
      ap (λ b. cond b (t ∷ all_of field x ts) (all_of field x ts)) (ap (λ y. is_same y x) h.0 ∙ s)
      ∙ ap (λ (us : Lines). t ∷ us) (all_own x ts h.1 s)

  pub all_other : (x y : Field) (ts : Lines) → Are y ts → is_same y x ≡ false → all_of field x ts ≡ []
  all_other x y ts h n = kept_none (λ z. is_same z x) y ts h n

  pub all_skip : (x y : Field) (a b : Lines) → Are y a → is_same y x ≡ false → all_of field x (a ++ b)
      ≡ all_of field x b
  all_skip x y a b h n = filter-append (λ t. is_same (field t) x) a b ∙ ap (λ (us : Lines). us ++ all_of field x b)
      (all_other x y a h n)

  pub all_take : (x : Field) (a b : Lines) → Are x a → is_same x x ≡ true → all_of field x b ≡ []
      → all_of field x (a ++ b) ≡ a ++ []
  all_take x a b h s n = filter-append (λ t. is_same (field t) x) a b ∙ (λ i. all_own x a h s i ++ n i)

  -- carried lines have none of a field that does not leave them
  pub lacks : (leaves : Field → Bool) (x : Field) (ts : Lines) → AreUntaken field leaves ts → leaves x ≡ false
      → all_of field x ts ≡ []
  lacks leaves x [] h n = refl
  lacks leaves x (t ∷ ts) h n =
      let both : (leaves (field t) ≡ true) × (list_all (λ u. leaves (field u)) ts ≡ true) = and_parts (leaves (field t))
      (list_all (λ u. leaves (field u)) ts) h in
      elim (is_same (field t) x) as (λ b. is_same (field t) x ≡ b → cond b (t ∷ all_of field x ts)
      (all_of field x ts) ≡ []) [
        | true ↦ λ e. let same : field t ≡ x = same_field (field t) x e in
            absurd (let wrong : true ≡ false = sym both.0 ∙ ap leaves same ∙ n in cc)
        | false ↦ λ e. lacks leaves x ts both.1 n
      ] refl

  -- without the first of a field
  pub none_first : (x : Field) (ts : Lines) → all_of field x ts ≡ [] → without_first field x ts ≡ ts
  none_first x [] h = refl
  none_first x (t ∷ ts) h =
      elim (is_same (field t) x) as (λ b. cond b (t ∷ all_of field x ts) (all_of field x ts) ≡ []
      → cond b ts (t ∷ without_first field x ts) ≡ t ∷ ts) [
        | true ↦ λ e. absurd cc
        | false ↦ λ e. ap (λ (us : Lines). t ∷ us) (none_first x ts e)
      ] h

  pub skip_first : (x y : Field) (a b : Lines) → Are y a → is_same y x ≡ false → without_first field x (a ++ b)
      ≡ a ++ without_first field x b
  skip_first x y [] b h n = refl
  skip_first x y (t ∷ a) b h n =
      ap (λ v. cond v (a ++ b) (t ∷ without_first field x (a ++ b))) (ap (λ z. is_same z x) h.0 ∙ n)
      ∙ ap (λ (us : Lines). t ∷ us) (skip_first x y a b h.1 n)

  -- the line of a text that may be missing
  pub text_are : (x : Field) (tag : List ℕ) (o : Option (List ℕ))
      → ((t : List ℕ) → o ≡ Some t → field (text_line tag t) ≡ x) → Are x (text_lines tag o)
  text_are x tag None h = tt
  text_are x tag (Some t) h = (h t refl, tt)

  pub out_first : (x : Field) (tag : List ℕ) (o : Option (List ℕ)) (b : Lines)
      → ((t : List ℕ) → o ≡ Some t → field (text_line tag t) ≡ x) → is_same x x ≡ true
      → (o ≡ None → all_of field x b ≡ []) → without_first field x (text_lines tag o ++ b) ≡ b
  out_first x tag None b h s n = none_first x b (n refl)
  out_first x tag (Some t) b h s n = ap (λ v. cond v b (text_line tag t ∷ without_first field x b))
      (ap (λ z. is_same z x) (h t refl) ∙ s)

  pub text_here : (x : Field) (tag : List ℕ) (o : Option (List ℕ)) (b : Lines)
      → ((t : List ℕ) → o ≡ Some t → field (text_line tag t) ≡ x) → is_same x x ≡ true
      → (o ≡ None → all_of field x b ≡ []) → text_at field x (text_lines tag o ++ b) ≡ o
  text_here x tag None b h s n = ap (λ (us : Lines). option_map text_of (first us)) (n refl)
  text_here x tag (Some t) b h s n =
      ap (λ v. option_map text_of (first (cond v (text_line tag t ∷ all_of field x b) (all_of field x b))))
      (ap (λ z. is_same z x) (h t refl) ∙ s)

  pub text_skip : (x y : Field) (a b : Lines) → Are y a → is_same y x ≡ false → text_at field x (a ++ b)
      ≡ text_at field x b
  text_skip x y a b h n = ap (λ (us : Lines). option_map text_of (first us)) (all_skip x y a b h n)

  -- a line that may be missing
  pub one_are : (x : Field) (o : Option (Tree Line)) → ((t : Tree Line) → o ≡ Some t → field t ≡ x) → Are x (maybe o)
  one_are x None h = tt
  one_are x (Some t) h = (h t refl, tt)

  pub one_out : (x : Field) (o : Option (Tree Line)) (b : Lines) → ((t : Tree Line) → o ≡ Some t → field t ≡ x)
      → is_same x x ≡ true → (o ≡ None → all_of field x b ≡ []) → without_first field x (maybe o ++ b) ≡ b
  one_out x None b h s n = none_first x b (n refl)
  one_out x (Some t) b h s n = ap (λ v. cond v b (t ∷ without_first field x b)) (ap (λ z. is_same z x) (h t refl) ∙ s)

  pub one_here : (x : Field) (o : Option (Tree Line)) (b : Lines) → ((t : Tree Line) → o ≡ Some t → field t ≡ x)
      → is_same x x ≡ true → (o ≡ None → all_of field x b ≡ []) → first (all_of field x (maybe o ++ b)) ≡ o
  one_here x None b h s n = ap first (n refl)
  one_here x (Some t) b h s n = ap (λ v. first (cond v (t ∷ all_of field x b) (all_of field x b)))
      (ap (λ z. is_same z x) (h t refl) ∙ s)

  -- what leaves lines keeps them
  pub left_more : (leaves keep : Field → Bool) (ts : Lines) → ((x : Field) → leaves x ≡ true → keep x ≡ true)
      → AreUntaken field leaves ts → list_all (λ t. keep (field t)) ts ≡ true
  left_more leaves keep [] m h = refl
  left_more leaves keep (t ∷ ts) m h =
      let both : (leaves (field t) ≡ true) × (list_all (λ u. leaves (field u)) ts ≡ true) = and_parts (leaves (field t))
      (list_all (λ u. leaves (field u)) ts) h in
      λ i. m (field t) both.0 i && left_more leaves keep ts m both.1 i
