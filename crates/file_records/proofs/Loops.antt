-- Sides of one family, one after the other.
use Rattle.std.proofs.Common.{
  ◌≡◌,
  ℕ,
  ◌+◌,
  ◌<◌,
  ◌^◌,
  true,
  false,
  List,
  [],
  ◌∷◌,
  ◌++◌,
  length,
  drop,
  get_or,
  map,
  refl,
  sym,
  ap,
  ◌∙◌,
  subst,
  cond,
  append_assoc,
  append-nil,
  Vec,
}
use Rattle.std.specs.Prelude.{◌==◌, Option, Some, None, option_map}
use Rattle.std.specs.List.{filter}
use Rattle.std.specs.Vec.{with_items}
use Rattle.std.proofs.lemmas.List.{length-map, with_items_is}
use Rattle.record_kinds.specs.Model as model
use Rattle.record_shapes.specs.Picking.{first}
use Rattle.import_definitions.specs.Numbers.{or_else}
use Rattle.import_definitions.specs.Nodes.{FileNode}
use Rattle.file_records.specs.declared.sides.Side.{Side}
use Rattle.file_records.specs.Carried.{late_sides, late_told, late_told_if, line_among, line_on, AreFew}
use Rattle.import_definitions.proofs.Firsts.{or_else-assoc, or_else-none}
use Rattle.list_laws.proofs.Lists.{from_here}

-- ---- which line it is of each person

among_first : (s : Side) (ss : List Side) (n : ℕ) → line_among (s ∷ ss) n ≡ or_else (line_on s n) (line_among ss n)
among_first s ss n = elim (s.person == n) as (λ b. option_map (λ (x : Side). x.line)
    (first (cond b (s ∷ filter (λ (x : Side). x.person == n) ss) (filter (λ (x : Side). x.person == n) ss)))
    ≡ or_else (cond b (Some s.line) None) (line_among ss n)) [
      | true ↦ refl
      | false ↦ refl
    ]

pub line_step : (s : Side) (rest ss : List Side) (old new all : ℕ → Option ℕ) → ss ≡ s ∷ rest
    → ((n : ℕ) → new n ≡ or_else (old n) (line_on s n))
    → ((n : ℕ) → or_else (old n) (line_among ss n) ≡ all n) → (n : ℕ) → or_else (new n) (line_among rest n) ≡ all n
line_step s rest ss old new all e more so n =
    ap (λ o. or_else o (line_among rest n)) (more n)
    ∙ or_else-assoc (old n) (line_on s n) (line_among rest n)
    ∙ ap (or_else (old n)) (sym (among_first s rest n))
    ∙ ap (λ us. or_else (old n) (line_among us n)) (sym e) ∙ so n

pub line_end : (old : Option ℕ) (n : ℕ) (ss : List Side) (all : Option ℕ) → ss ≡ []
    → or_else old (line_among ss n) ≡ all → old ≡ all
line_end old n ss all none so =
    sym (or_else-none old) ∙ sym (ap (λ us. or_else old (line_among us n)) none) ∙ so

-- ---- the persons whom the family does not name
module _ (ks : List FileNode) (lines : ℕ → Option ℕ) where
  abbrev told : List Side → List model.Child
  told ss = map (late_told ks lines) (late_sides ss)

  told_front : (s : Side) (ss : List Side) → late_told_if ks lines s ++ told ss ≡ told (s ∷ ss)
  told_front s ss = elim s.is_late as (λ b. cond b (late_told ks lines s ∷ []) [] ++ told ss
      ≡ map (late_told ks lines) (cond b (s ∷ late_sides ss) (late_sides ss))) [
        | true ↦ refl
        | false ↦ refl
      ]

  pub late_step : (s : Side) (rest ss : List Side) (before after all : List model.Child) → ss ≡ s ∷ rest
      → after ≡ before ++ late_told_if ks lines s → before ++ told ss ≡ all → after ++ told rest ≡ all
  late_step s rest ss before after all e one so =
      ap (λ us. us ++ told rest) one
      ∙ append_assoc before (late_told_if ks lines s) (told rest)
      ∙ ap (λ us. before ++ us) (told_front s rest)
      ∙ ap (λ us. before ++ told us) (sym e) ∙ so

  pub late_end : (ss : List Side) (before all : List model.Child) → ss ≡ [] → before ++ told ss ≡ all → before ≡ all
  late_end ss before all none so =
      sym (append-nil before) ∙ sym (ap (λ us. before ++ told us) none) ∙ so

pub few_front : (s : Side) (rest ss : List Side) → ss ≡ s ∷ rest → AreFew ss
    → (s.person < 2 ^ 32) × AreFew rest
few_front s rest ss e h = subst AreFew e h

-- what the loops read as the side at an index
abbrev pub side_at : List Side → ℕ → Side
side_at ss i = get_or ss i (record { family = 0; person = 0; line = 0; is_late = false })

pub front_at : (ss : List Side) (i : ℕ) → i < length ss → drop i ss ≡ side_at ss i ∷ drop (i + 1) ss
front_at ss i h = from_here ss i (record { family = 0; person = 0; line = 0; is_late = false }) h

-- ---- items changed through a slice of them
pub refilled : {X Z : Type 0} (v : Vec X Z) (ws old : List X) (f : X → X) → ws ≡ map f old → old ≡ v.items
    → (with_items v ws).items ≡ map f v.items
refilled v ws old f e o =
    with_items_is v ws (ap length e ∙ length-map old f ∙ ap length o ∙ sym v.ok.0) ∙ e ∙ ap (map f) o
