use Rattle.std.proofs.Common.{◌≡◌, ◌++◌, ◌+◌, ℕ, ap, arith, map, subst, sym, take}
use Rattle.std.proofs.lemmas.Grind.{common_steps}
use Rattle.std.specs.BTreeMap.{get_by_text}
use Rattle.std.specs.List.{flat_map}
use Rattle.record_kinds.specs.Model as model
use Rattle.plain_export.specs.Firsts.{Adds, marks_of}
use Rattle.plain_export.proofs.Marking.{adds_none, adds_then}
use Rattle.plain_export.proofs.firsts.put_for_partners.Goals as goal

pub partners-init : goal.partners-init
partners-init c = adds_none (get_by_text c.args.numbers.now)

pub partners-preserved : goal.partners-preserved
partners-preserved c =
    let f = marks_of c.args.number c.args.event.now in
    let person : model.Partner → ℕ = λ p. p.person in
    let ps = c.args.partners.now in
    let i = c.partners.partner-index in
    let old = get_by_text c.args.numbers.now in
    let mid = get_by_text c.partners.numbers in
    let new = get_by_text c.put_event_of.new.numbers in
    let more : flat_map f (map person (take (i + 1) ps))
    ≡ flat_map f (map person (take i ps)) ++ f c.partner-item.result.person = grind (arith, common_steps) in
    subst (Adds old new) (sym more)
    (adds_then old mid new (flat_map f (map person (take i ps))) (f c.partner-item.result.person)
    c.partners.invariant
    (subst (λ k. Adds mid new (f k)) (ap person c.partner.view_is) c.in_ok-put_event_of.ensures))
