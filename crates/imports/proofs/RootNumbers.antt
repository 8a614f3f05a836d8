-- The numbers that are drawn for the positions of drafts are those of the nodes.
use Rattle.std.proofs.Common.{◌≡◌, ◌∙◌, ◌<◌, ℕ, Bool, List, Ok, Err, ap, cond, sym, true}
use Rattle.std.specs.Prelude.{Result, nat_lt}
use Rattle.std.proofs.lemmas.Bool.{lt-ltb}
use Rattle.std.specs.BTreeMap.{BTreeMap}
use Rattle.std.specs.Global.{Global}
use Rattle.std.specs.declared.string.String.{String}
use Rattle.archive_state.specs.Changes.{Batch}
use Rattle.archive_state.specs.Content.{Content}
use Rattle.record_text.specs.declared.refusal.RefusalKind.{RefusalKind}
use Rattle.record_text.specs.declared.refusal.RefusalKind.TheVariants.{Full}
use Rattle.stored_lines.specs.Tree.{Tree}
use Rattle.record_shapes.specs.Reading.{Draft}
use Rattle.gedcom_tree.specs.Forest.{Item}
use Rattle.import_definitions.specs.Lines.{roots}
use Rattle.import_definitions.specs.Made.{batch, drawing, lowest_place, places}
use Rattle.import_definitions.specs.Numbers.{Drawing, Places, begun}
use Rattle.import_definitions.specs.Positions.{paths, position_of}
use Rattle.import_definitions.specs.Roots.{candidates, kept}
use Rattle.import_definitions.specs.Sides.{drafts_from}
use Rattle.import_numbers.specs.Views.{places_of, under}
use Rattle.imports.specs.Drafts.{draw_each}
use Rattle.imports.specs.Drawing.{batch_or_full}
use Rattle.imports.specs.RootNumbers.{root_numbers}
use Rattle.imports.proofs.Nodes.{draws_same}

-- too many were drawn
pub is_full : (w : Places) (d : Drawing) → 4294967296 < d.next → batch_or_full w d ≡ Err Full
is_full w d less =
    ap (λ (b : Bool). cond {A = Result Batch RefusalKind} b (Err Full) (Ok (batch w d))) (lt-ltb 4294967296 d.next less)

pub numbers_same : (c : Content) (f : List Item) (file : BTreeMap (String Global) ℕ) (next : ℕ) (ds : List (Tree Draft))
    → ((path : List ℕ) → under file path ≡ position_of path 0 (paths (roots (kept (candidates f)))))
    → next ≡ c.next → ds ≡ drafts_from (roots (kept (candidates f))) 0 (roots (kept (candidates f)))
    → (draw_each (places_of c file) 0 (begun next) ds).roots ≡ root_numbers c f
numbers_same c f file next ds at same-next same-ds =
    let rs = roots (kept (candidates f)) in
    let w : Places = places (lowest_place c.records) rs in
    let same : places_of c file ≡ w =
    λ i. record { archive = lowest_place c.records; file = λ path. at path i } in
    ap (λ (ts : List (Tree Draft)). (draw_each (places_of c file) 0 (begun next) ts).roots) same-ds
    ∙ ap (λ (n : ℕ). (draw_each (places_of c file) 0 (begun n) (drafts_from rs 0 rs)).roots) same-next
    ∙ ap (λ (v : Places). (draw_each v 0 (begun c.next) (drafts_from rs 0 rs)).roots) same
    ∙ sym (ap (λ (d : Drawing). d.roots) (draws_same rs w 0 (begun c.next) rs))
