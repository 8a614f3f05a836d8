use Rattle.std.proofs.Common.{◌≡◌, ◌++◌, sym, ap, ◌∙◌, arith}
use Rattle.std.specs.FinMap as map
use Rattle.std.specs.Prelude.{Some, None, codes, string_bytes}
use Rattle.gedcom_export.specs.Paths.{path_at}
use Rattle.gedcom_export.proofs.Places.{ends_here, lost_above, climbs}
use Rattle.gedcom_export.proofs.names.found_path.Goals as goal
use Rattle.record_shapes.proofs.Climbed.{so_far, starts}

pub above-init : goal.above-init
above-init c = sym (starts (string_bytes c.new-path.result) (path_at (map.get c.args.index.now.names) c.args.place)
    c.new-path.ensures.bytes)

pub returns-in_default-parent : goal.returns-in_default-parent
returns-in_default-parent c =
    let none : c.in-Some.found.now.parent ≡ None = grind arith in
    ap Some (c.in_ok-push_str.ensures.bytes ∙ ap (λ l. string_bytes c.above.path ++ l) c.as_str.ensures.same)
    ∙ sym (c.above.invariant ∙ ends_here (map.get c.args.index.now.names) c.above.at (string_bytes c.above.path)
    c.in-Some.found.now (sym c.in-Some.ensures) none)

pub returns-then-parent-at : goal.returns-then-parent-at
returns-then-parent-at c =
    sym (c.above.invariant ∙ lost_above (map.get c.args.index.now.names) c.above.at (string_bytes c.above.path)
    c.in-Some.found.now c.in-Some-parent.parent (sym c.in-Some.ensures) c.in-Some-parent.is c.if-parent-at.true)

pub above-preserved : goal.above-preserved
above-preserved c =
    c.above.invariant ∙ climbs (map.get c.args.index.now.names) c.above.at (string_bytes c.above.path)
    c.in-Some.found.now c.in-Some-parent.parent (sym c.in-Some.ensures) c.in-Some-parent.is c.if-parent-at.false
    ∙ ap (λ f. so_far f (path_at (map.get c.args.index.now.names) c.in-Some-parent.parent))
    (sym (c.in_ok-push_str-2.ensures.bytes ∙ ap (λ l. l ++ codes ", ")
    (c.in_ok-push_str.ensures.bytes ∙ ap (λ l. string_bytes c.above.path ++ l) c.as_str.ensures.same)))
