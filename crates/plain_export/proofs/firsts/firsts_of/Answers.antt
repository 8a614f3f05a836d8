use Rattle.std.proofs.Common.{◌≡◌, ◌++◌, ◌+◌, arith, get_or, subst, sym, take}
use Rattle.std.proofs.lemmas.Grind.{common_steps}
use Rattle.std.specs.Prelude.{None}
use Rattle.std.specs.BTreeMap.{get_by_text}
use Rattle.std.specs.FinMap.{keys}
use Rattle.std.specs.List.{flat_map}
use Rattle.plain_export.specs.Firsts.{Adds, marks_at}
use Rattle.plain_export.proofs.Marking.{adds_then, all_added}
use Rattle.plain_export.proofs.firsts.firsts_of.Goals as goal

pub all-preserved : goal.all-preserved
all-preserved c =
    let f = marks_at c.args.state.now.records in
    let ns = keys c.args.state.now.records in
    let i = c.all.number-index in
    let n = get_or c.deref-number-items.result.now i 0 in
    let more : flat_map f (take (i + 1) ns) ≡ flat_map f (take i ns) ++ f n = grind (arith, common_steps) in
    subst (Adds (λ _. None) (get_by_text c.put_found.new.numbers)) (sym more)
    (adds_then (λ _. None) (get_by_text c.all.found) (get_by_text c.put_found.new.numbers) (flat_map f (take i ns))
    (f n) c.all.invariant c.in_ok-put_found.ensures)

pub returns : goal.returns
returns c =
    let f = marks_at c.args.state.now.records in
    let ns = keys c.args.state.now.records in
    let whole : flat_map f (take c.all.number-index ns) ≡ flat_map f ns = grind (arith, common_steps) in
    all_added (get_by_text c.all.found) (flat_map f (take c.all.number-index ns)) (flat_map f ns) whole c.all.invariant
