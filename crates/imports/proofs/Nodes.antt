-- What is drawn and made of drafts is what an import draws and makes of nodes.
use Rattle.std.proofs.Common.{◌≡◌, ℕ, ◌+◌, Bool, true, false, cond, List, [], ◌∷◌, refl, sym, ap, ◌∙◌}
use Rattle.std.specs.Prelude.{None, Ok, Err, Result, nat_lt}
use Rattle.std.specs.BTreeMap.{BTreeMap}
use Rattle.std.specs.Global.{Global}
use Rattle.std.specs.declared.string.String.{String}
use Rattle.stored_lines.specs.Line.{Lines}
use Rattle.record_text.specs.declared.refusal.Refusal.{Refusal}
use Rattle.record_text.specs.declared.refusal.RefusalKind.TheVariants.{Full}
use Rattle.archive_state.specs.Changes.{Batch}
use Rattle.archive_state.specs.Content.{Content}
use Rattle.import_definitions.specs.Made.{batch, drawing, lowest_place, places, unless_full}
use Rattle.import_definitions.specs.Numbers.{Drawing, Places, begun, draw, draw_roots, root_drawn}
use Rattle.import_definitions.specs.Positions.{paths, position_of}
use Rattle.import_definitions.specs.Sides.{draft_at, drafts_from}
use Rattle.import_numbers.specs.Views.{places_of, under}
use Rattle.imports.specs.Drafts.{draw_each}
use Rattle.imports.specs.Drawing.{batch_or_full, with_no_line}

pub draws_same : (rs : Lines) (w : Places) (k : ℕ) (d : Drawing) (behind : Lines)
    → draw_roots rs w k d behind ≡ draw_each w k d (drafts_from rs k behind)
draws_same rs w k d [] = refl
draws_same rs w k d (r ∷ behind) = draws_same rs w (k + 1) (draw w k 0 (root_drawn d) (draft_at rs k r)) behind

full_same : (w : Places) (d : Drawing) → unless_full w d ≡ with_no_line (batch_or_full w d)
full_same w d = by (nat_lt 4294967296 d.next)
  where
    by : (b : Bool) → cond {A = Result Batch Refusal} b (Err (record { kind = Full; at = None })) (Ok (batch w d))
        ≡ with_no_line (cond b (Err Full) (Ok (batch w d)))
    by true = refl
    by false = refl

pub batch_same : (c : Content) (rs : Lines) (file : BTreeMap (String Global) ℕ)
    → ((path : List ℕ) → under file path ≡ position_of path 0 (paths rs))
    → unless_full (places (lowest_place c.records) rs) (drawing c.next (places (lowest_place c.records) rs) rs)
    ≡ with_no_line (batch_or_full (places_of c file)
    (draw_each (places_of c file) 0 (begun c.next) (drafts_from rs 0 rs)))
batch_same c rs file first =
    let w : Places = places (lowest_place c.records) rs in
    let same : w ≡ places_of c file =
    λ i. record { archive = lowest_place c.records; file = λ path. sym (first path) i } in
    full_same w (drawing c.next w rs)
    ∙ ap (λ d. with_no_line (batch_or_full w d)) (draws_same rs w 0 (begun c.next) rs)
    ∙ ap (λ v. with_no_line (batch_or_full v (draw_each v 0 (begun c.next) (drafts_from rs 0 rs)))) same
