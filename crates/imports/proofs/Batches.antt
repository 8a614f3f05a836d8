-- The batch of drafts, written as that of a forest.
use Rattle.std.proofs.Common.{◌≡◌, ℕ, List, Option, Some, None, Result, Err, ap, sym, ◌∙◌, true, false, refl, inl, inr}
use Rattle.std.specs.BTreeMap.{BTreeMap}
use Rattle.std.specs.Global.{Global}
use Rattle.std.specs.declared.string.String.{String}
use Rattle.archive_state.specs.Changes.{Batch}
use Rattle.archive_state.specs.Content.{Content, nothing}
use Rattle.archive_state.specs.Looks.{is_stop}
use Rattle.record_text.specs.declared.refusal.Refusal.{Refusal}
use Rattle.record_text.specs.declared.refusal.RefusalKind.{RefusalKind}
use Rattle.record_text.specs.declared.refusal.RefusalKind.TheVariants.{OutOfMemory}
use Rattle.stored_lines.specs.Line.{Lines}
use Rattle.stored_lines.specs.Tree.{Tree}
use Rattle.record_shapes.specs.Reading.{Draft}
use Rattle.gedcom_tree.specs.Forest.{Item}
use Rattle.import_definitions.specs.Lines.{roots}
use Rattle.import_definitions.specs.Nodes.{FileNode}
use Rattle.import_definitions.specs.Roots.{candidates, kept}
use Rattle.import_definitions.specs.Made.{drawing, lowest_place, made, places, unless_full, unless_second}
use Rattle.import_definitions.specs.Numbers.{Places, begun}
use Rattle.import_definitions.specs.Positions.{paths, position_of}
use Rattle.import_numbers.specs.Views.{places_of, under}
use Rattle.imports.specs.Drafts.{draw_each}
use Rattle.imports.specs.Drawing.{batch_or_full, with_no_line}
use Rattle.import_definitions.specs.Sides.{drafts_from}
use Rattle.imports.specs.Seconds.{refused_second, second_position}
use Rattle.imports.specs.Results.{IsUnreported}

-- a second entry of one key is the answer, whatever else there is
second_refused : (ks : List FileNode) (at : Option ℕ) (whole : Result Batch Refusal) (e : Refusal)
    → refused_second ks at ≡ Err e → unless_second ks at whole ≡ Err e
second_refused ks None whole e same = absurd cc
second_refused ks (Some k) whole e same = cc

pub made_refused : (c : Content) (f : List Item) (e : Refusal)
    → refused_second (kept (candidates f)) (second_position (kept (candidates f))) ≡ Err e → made c f ≡ Err e
unfolding made
made_refused c f e same = second_refused (kept (candidates f)) (second_position (kept (candidates f))) _ e same

-- what is drawn for the drafts is what the forest makes, where no two entries have one key
pub made_whole : (c : Content) (f : List Item) (file : BTreeMap (String Global) ℕ) (next : ℕ) (ds : List (Tree Draft))
    (r : Result Batch RefusalKind)
    → ((c : Content) (rs : Lines) (file : BTreeMap (String Global) ℕ)
    → ((path : List ℕ) → under file path ≡ position_of path 0 (paths rs))
    → unless_full (places (lowest_place c.records) rs) (drawing c.next (places (lowest_place c.records) rs) rs)
    ≡ with_no_line (batch_or_full (places_of c file)
    (draw_each (places_of c file) 0 (begun c.next) (drafts_from rs 0 rs))))
    → second_position (kept (candidates f)) ≡ None
    → ((path : List ℕ) → under file path ≡ position_of path 0 (paths (roots (kept (candidates f)))))
    → next ≡ c.next → ds ≡ drafts_from (roots (kept (candidates f))) 0 (roots (kept (candidates f)))
    → batch_or_full (places_of c file) (draw_each (places_of c file) 0 (begun next) ds) ≡ r
    → made c f ≡ with_no_line r
unfolding made
made_whole c f file next ds r law apart at same-next same-ds is =
    let ks : List FileNode = kept (candidates f) in
    let rs : Lines = roots ks in
    let w : Places = places (lowest_place c.records) rs in
    ap (λ o. unless_second ks o (unless_full w (drawing c.next w rs))) apart
    ∙ law c rs file at
    ∙ ap (λ n. with_no_line (batch_or_full (places_of c file)
    (draw_each (places_of c file) 0 (begun n) (drafts_from rs 0 rs)))) (sym same-next)
    ∙ ap (λ ts. with_no_line (batch_or_full (places_of c file) (draw_each (places_of c file) 0 (begun next) ts)))
    (sym same-ds)
    ∙ ap with_no_line is

-- why a forest is not reported of
pub unreported : (f : List Item) (e : Refusal)
    → (is_stop e.kind ≡ false
    → refused_second (kept (candidates f)) (second_position (kept (candidates f))) ≡ Err e)
    → (is_stop e.kind ≡ true → e ≡ record { kind = OutOfMemory; at = None }) → IsUnreported f e
unreported f e second stops =
    elim (is_stop e.kind) as (λ b. is_stop e.kind ≡ b → IsUnreported f e) [
      | true ↦ λ stop. inl (stops stop)
      | false ↦ λ none. inr (made_refused nothing f e (second none))
    ] refl
