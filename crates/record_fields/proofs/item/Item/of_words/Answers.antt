use Rattle.std.proofs.Common.{rules, ◌≡◌, ◌≢◌, ◌≤◌, ◌∙◌, ap, sym, subst, decimal, ℕ, Ok}
use Rattle.std.specs.Prelude.{string_bytes}
use Rattle.record_fields.proofs.Items.{parsed, parsed_number}
use Rattle.record_fields.proofs.item.Item.of_words.Goals as goal

pub returns-in_default : goal.returns-in_default
returns-in_default c = λ i e. let read : c.parse.result ≡ Ok i.number = parsed c.args.words.now c.parse.result
    c.parse.ensures.value.0 i e in absurd cc

pub returns-in_default-new : goal.returns-in_default-new
returns-in_default-new c = λ i e.
    let same : c.in-Ok.number ≡ i.number = parsed_number c.args.words.now c.parse.result c.parse.ensures.value.0
    c.in-Ok.number c.in-Ok.is i e in
    c.in_default-new.ensures (subst (λ (n : ℕ). (1 ≤ n) × (n ≤ 999999)) (sym same) i.in_range)

pub returns : goal.returns
returns c = λ i e.
    let same : c.in-Ok.number ≡ i.number = parsed_number c.args.words.now c.parse.result c.parse.ensures.value.0
    c.in-Ok.number c.in-Ok.is i e in
    let spelt : string_bytes c.in_ok-spelt.spelt ≡ decimal c.in-Ok.number = search rules in
    let differs : string_bytes c.in_ok-spelt.spelt ≢ c.args.words.now = search rules in
    differs (spelt ∙ ap decimal same ∙ sym e)
