-- A line with other numbers is of the same field, where of those numbers the same is known.
use Rattle.std.specs.Prelude.{ℕ, ◌≡◌, Bool, ◌&&◌, List, [], ◌∷◌, map, refl}
use Rattle.std.specs.List.{list_all}
use Rattle.std.proofs.Common.{ap, ◌∙◌}
use Rattle.stored_lines.specs.Tree.{Tree, Forest, node, none, more, relabel, relabel_all}
use Rattle.stored_lines.specs.Line.{Line, Lines}
use Rattle.stored_lines.specs.declared.carried.Value.{Value}
use Rattle.stored_lines.specs.declared.carried.Value.TheVariants as value
use Rattle.archive_state.specs.Merging.{value_with, line_with, lines_with}
use Rattle.record_shapes.specs.declared.field.Field.{Field}
use Rattle.record_shapes.specs.Forms.{Known}
use Rattle.record_shapes.specs.Fields.{
  is_same,
  repo_field,
  holding_field,
  source_field,
  citation_field,
  person_field,
  family_field,
  event_field,
  participant_field,
  parent_field,
}
use Rattle.record_shapes.specs.Picking.{all_of}
use Rattle.record_shapes.specs.Untaken.{AreUntaken}
use Rattle.round_trip.proofs.Listed.{filter_under}

module _ (f : ℕ → ℕ) (k j : Known) (h : (n : ℕ) → j.tag (f n) ≡ k.tag n) where
  abbrev with : List ℕ → Value → Forest Line → Tree Line
  with tag v fo = node (record { tag = tag; value = value_with f v }) (relabel_all (line_with f) fo)

  abbrev plain : List ℕ → Value → Forest Line → Tree Line
  plain tag v fo = node (record { tag = tag; value = v }) fo

  -- a field that asks of other records only for their tags
  abbrev pub IsAlike : (Known → Tree Line → Field) → Type 0
  IsAlike field = (t : Tree Line) → field j (relabel (line_with f) t) ≡ field k t

  person_by : (tag : List ℕ) (v : Value) (fo : Forest Line) → person_field j (with tag v fo)
      ≡ person_field k (plain tag v fo)
  person_by tag (value.Text u) none = refl
  person_by tag (value.Text u) (more t ts) = refl
  person_by tag (value.Ref n) fo = rw (h n)

  pub person_alike : IsAlike person_field
  person_alike (node l fo) = person_by l.tag l.value fo

  family_by : (tag : List ℕ) (v : Value) (fo : Forest Line) → family_field j (with tag v fo)
      ≡ family_field k (plain tag v fo)
  family_by tag (value.Text u) none = refl
  family_by tag (value.Text u) (more t ts) = refl
  family_by tag (value.Ref n) fo = rw (h n)

  pub family_alike : IsAlike family_field
  family_alike (node l fo) = family_by l.tag l.value fo

  source_by : (tag : List ℕ) (v : Value) (fo : Forest Line) → source_field j (with tag v fo)
      ≡ source_field k (plain tag v fo)
  source_by tag (value.Text u) none = refl
  source_by tag (value.Text u) (more t ts) = refl
  source_by tag (value.Ref n) fo = rw (h n)

  pub source_alike : IsAlike source_field
  source_alike (node l fo) = source_by l.tag l.value fo

  event_by : (tag : List ℕ) (v : Value) (fo : Forest Line) → event_field j (with tag v fo)
      ≡ event_field k (plain tag v fo)
  event_by tag (value.Text u) none = refl
  event_by tag (value.Text u) (more t ts) = refl
  event_by tag (value.Ref n) fo = rw (h n)

  pub event_alike : IsAlike event_field
  event_alike (node l fo) = event_by l.tag l.value fo

  -- a field that asks of no other record
  own_by : (field : Tree Line → Field)
      → ((tag : List ℕ) (v : Value) (fo : Forest Line) → field (with tag v fo) ≡ field (plain tag v fo))
      → (t : Tree Line) → field (relabel (line_with f) t) ≡ field t
  own_by field g (node l fo) = g l.tag l.value fo

  repo_by : (tag : List ℕ) (v : Value) (fo : Forest Line) → repo_field (with tag v fo) ≡ repo_field (plain tag v fo)
  repo_by tag (value.Text u) none = refl
  repo_by tag (value.Text u) (more t ts) = refl
  repo_by tag (value.Ref n) fo = refl

  pub repo_alike : (t : Tree Line) → repo_field (relabel (line_with f) t) ≡ repo_field t
  repo_alike = own_by repo_field repo_by

  holding_by : (tag : List ℕ) (v : Value) (fo : Forest Line)
      → holding_field (with tag v fo) ≡ holding_field (plain tag v fo)
  holding_by tag (value.Text u) none = refl
  holding_by tag (value.Text u) (more t ts) = refl
  holding_by tag (value.Ref n) fo = refl

  pub holding_alike : (t : Tree Line) → holding_field (relabel (line_with f) t) ≡ holding_field t
  holding_alike = own_by holding_field holding_by

  citation_by : (tag : List ℕ) (v : Value) (fo : Forest Line)
      → citation_field (with tag v fo) ≡ citation_field (plain tag v fo)
  citation_by tag (value.Text u) none = refl
  citation_by tag (value.Text u) (more t ts) = refl
  citation_by tag (value.Ref n) fo = refl

  pub citation_alike : (t : Tree Line) → citation_field (relabel (line_with f) t) ≡ citation_field t
  citation_alike = own_by citation_field citation_by

  participant_by : (tag : List ℕ) (v : Value) (fo : Forest Line)
      → participant_field (with tag v fo) ≡ participant_field (plain tag v fo)
  participant_by tag (value.Text u) none = refl
  participant_by tag (value.Text u) (more t ts) = refl
  participant_by tag (value.Ref n) fo = refl

  pub participant_alike : (t : Tree Line) → participant_field (relabel (line_with f) t) ≡ participant_field t
  participant_alike = own_by participant_field participant_by

pub all_alike : (f : ℕ → ℕ) (field field' : Tree Line → Field) (x : Field) (ts : Lines)
    → ((t : Tree Line) → field' (relabel (line_with f) t) ≡ field t)
    → all_of field' x (lines_with f ts) ≡ lines_with f (all_of field x ts)
all_alike f field field' x ts h = filter_under (relabel (line_with f)) (λ t. is_same (field' t) x)
    (λ t. is_same (field t) x) ts (λ t. ap (λ y. is_same y x) (h t))

-- the line that names the place above asks for paths
module _ (f : ℕ → ℕ) (k j : Known) (h : (n : ℕ) → j.path (f n) ≡ k.path n) (name : List ℕ) where
  parent_by : (tag : List ℕ) (v : Value) (fo : Forest Line)
      → parent_field j name (node (record { tag = tag; value = value_with f v }) (relabel_all (line_with f) fo))
      ≡ parent_field k name (node (record { tag = tag; value = v }) fo)
  parent_by tag (value.Text u) none = refl
  parent_by tag (value.Text u) (more t ts) = refl
  parent_by tag (value.Ref n) none = rw (h n)
  parent_by tag (value.Ref n) (more t ts) = refl

  pub parent_alike : (t : Tree Line) → parent_field j name (relabel (line_with f) t) ≡ parent_field k name t
  parent_alike (node l fo) = parent_by l.tag l.value fo

pub all_under : {A B : Type 0} (g : A → B) (p : B → Bool) (q : A → Bool) (xs : List A) → ((x : A) → p (g x) ≡ q x)
    → list_all p (map g xs) ≡ list_all q xs
all_under g p q [] h = refl
all_under g p q (x ∷ xs) h = λ i. h x i && all_under g p q xs h i

-- lines that are left
pub untaken_alike : (f : ℕ → ℕ) (field field' : Tree Line → Field) (leaves leaves' : Field → Bool) (ts : Lines)
    → ((t : Tree Line) → field' (relabel (line_with f) t) ≡ field t)
    → ((x : Field) → leaves' x ≡ leaves x) → AreUntaken field leaves ts → AreUntaken field' leaves' (lines_with f ts)
untaken_alike f field field' leaves leaves' ts h g l =
    all_under (relabel (line_with f)) (λ t. leaves' (field' t)) (λ t. leaves (field t)) ts
    (λ t. g (field' (relabel (line_with f) t)) ∙ ap leaves (h t)) ∙ l
