-- Lines that are segments one after the other, each of one field: what stands under a field is its segment.
use Rattle.std.specs.Prelude.{List, [], ◌∷◌, ◌++◌, ◌≡◌, cond, bytes_eq, refl}
use Rattle.std.proofs.Common.{ap, sym, ◌∙◌, append-nil}
use Rattle.std.proofs.lemmas.List.Elements.{filter-append}
use Rattle.stored_lines.specs.Line.{Branches}
use Rattle.records.specs.Stored.{word}
use Rattle.records.specs.Reading.{tag_of, under}
use Rattle.records.specs.declared.field.Field.{Field}

-- each of the lines has the word of the field
abbrev pub IsOf : Field → Branches → Type 0
IsOf f ts = (g : Field) → under g ts ≡ cond (bytes_eq (word f) (word g)) ts []

pub record Segment : Type 0 where
  pub field : Field
  pub lines : Branches
  pub is_of : IsOf field lines

abbrev pub laid : List Segment → Branches
laid [] = []
laid (s ∷ []) = s.lines
laid (s ∷ t ∷ ss) = s.lines ++ laid (t ∷ ss)

-- the segments of a field
abbrev pub chosen : Field → List Segment → Branches
chosen g [] = []
chosen g (s ∷ ss) = cond (bytes_eq (word s.field) (word g)) s.lines [] ++ chosen g ss

pub under-laid : (g : Field) (ss : List Segment) → under g (laid ss) ≡ chosen g ss
under-laid g [] = refl
under-laid g (s ∷ []) = s.is_of g ∙ sym (append-nil (cond (bytes_eq (word s.field) (word g)) s.lines []))
under-laid g (s ∷ t ∷ ss) = filter-append (λ u. bytes_eq (tag_of u) (word g)) s.lines (laid (t ∷ ss))
    ∙ ap (λ (us : Branches). us ++ under g (laid (t ∷ ss))) (s.is_of g)
    ∙ ap (λ (us : Branches). cond (bytes_eq (word s.field) (word g)) s.lines [] ++ us) (under-laid g (t ∷ ss))

-- the one segment of a field
pub under-one : (g : Field) (ss : List Segment) (ts : Branches) → chosen g ss ≡ ts ++ [] → under g (laid ss) ≡ ts
under-one g ss ts e = under-laid g ss ∙ e ∙ append-nil ts
