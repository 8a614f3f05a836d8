-- Lines below a line, with those that are dropped left out.
use Rattle.std.proofs.Common.{◌≡◌, ◌≤◌, ◌<◌, ℕ, [], ◌∷◌, Bool, true, false, refl, sym, ap, ◌∙◌, map, cond, arith}
use Rattle.std.specs.Prelude.{not, if◌then◌else◌}
use Rattle.std.specs.List.{filter}
use Rattle.stored_lines.specs.Tree.{Tree, Forest, node, none, more, forest_of, list_of, label}
use Rattle.stored_lines.specs.Levels.{forest_levels}
use Rattle.stored_lines.specs.Line.{Line, Lines}
use Rattle.archive_state.specs.Content.{Records}
use Rattle.plain_export.specs.Kept.{is_dropped, kept, kept_below, trimmed}

abbrev pub stays : Records → Tree Line → Bool
stays m t = not (is_dropped m (label t))

-- the lines that are kept, one after the other
abbrev pub kept_each : Records → Lines → Lines
kept_each m ts = map (trimmed m) (filter (stays m) ts)

pub kept_is : (m : Records) (ts : Lines) → list_of (kept_below m (forest_of ts)) ≡ kept_each m ts
kept_is m [] = refl
kept_is m (node l f ∷ ts) = elim (is_dropped m l) as (λ b. is_dropped m l ≡ b
    → list_of (if b then kept_below m (forest_of ts) else more (node l (kept_below m f)) (kept_below m (forest_of ts)))
    ≡ map (trimmed m) (cond (not b) (node l f ∷ filter (stays m) ts) (filter (stays m) ts))) [
      | true ↦ λ is. kept_is m ts
      | false ↦ λ is. ap (λ us. node l (kept_below m f) ∷ us) (kept_is m ts)
    ] refl

-- the same as a forest
forest_back : (f : Forest Line) → forest_of (list_of f) ≡ f
forest_back none = refl
forest_back (more t f) = ap (more t) (forest_back f)

pub forest_kept : (m : Records) (ts : Lines) → forest_of (kept_each m ts) ≡ kept_below m (forest_of ts)
forest_kept m ts = ap (λ us. forest_of us) (sym (kept_is m ts)) ∙ forest_back (kept_below m (forest_of ts))

-- no deeper than before
pub kept_levels : (m : Records) (f : Forest Line) → forest_levels (kept_below m f) ≤ forest_levels f
kept_levels m none = omega arith
kept_levels m (more (node l f) g) = elim (is_dropped m l) as (λ b.
    forest_levels (if b then kept_below m g else more (node l (kept_below m f)) (kept_below m g))
    ≤ forest_levels (more (node l f) g)) [
      | true ↦ omega (arith, kept_levels m g)
      | false ↦ omega (arith, kept_levels m f, kept_levels m g)
    ]

-- a line made again with the lines below it that are kept
pub trimmed_again : (m : Records) (t : Tree Line) (l k : Line) (ts us : Lines) → t ≡ node l (forest_of ts) → k ≡ l
    → us ≡ kept_each m ts → node k (forest_of us) ≡ trimmed m t
trimmed_again m t l k ts us is same below =
    ap (λ j. node j (forest_of us)) same ∙ ap (λ vs. node l (forest_of vs)) below ∙ ap (node l) (forest_kept m ts)
    ∙ ap (trimmed m) (sym is)

pub few_below : (m : Records) (ts us : Lines) (k : ℕ) → us ≡ kept_each m ts → forest_levels (forest_of ts) < k
    → forest_levels (forest_of us) < k
few_below m ts us k below few = omega (
  arith,
  few,
  kept_levels m (forest_of ts),
  ap (λ (f : Forest Line). forest_levels f) (ap (λ vs. forest_of vs) below ∙ forest_kept m ts),
)

pub all_kept : (m : Records) (ts us : Lines) → us ≡ kept_each m ts → us ≡ kept m ts
all_kept m ts us h = h ∙ sym (kept_is m ts)
