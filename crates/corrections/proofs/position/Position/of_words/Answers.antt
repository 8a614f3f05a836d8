use Rattle.std.proofs.Common.{rules, ◌≡◌, ◌≢◌, ◌∙◌, ap, sym, decimal, Ok}
use Rattle.std.specs.Prelude.{string_bytes}
use Rattle.corrections.proofs.Positions.{none_is_zero, parsed, parsed_number}
use Rattle.corrections.proofs.position.Position.of_words.Goals as goal

pub returns-in_default : goal.returns-in_default
returns-in_default c = λ p e. let read : c.parse.result ≡ Ok p.number = parsed c.args.words.now c.parse.result
    c.parse.ensures.value.0 p e in absurd cc

pub returns-in_default-new : goal.returns-in_default-new
returns-in_default-new c = λ p e. none_is_zero c.in-Ok.number c.in_default-new.ensures p
    (parsed_number c.args.words.now c.parse.result c.parse.ensures.value.0 c.in-Ok.number c.in-Ok.is p e)

pub returns : goal.returns
returns c = λ p e.
    let same : c.in-Ok.number ≡ p.number = parsed_number c.args.words.now c.parse.result c.parse.ensures.value.0
    c.in-Ok.number c.in-Ok.is p e in
    let spelt : string_bytes c.in_ok-spelt.spelt ≡ decimal c.in-Ok.number = search rules in
    let differs : string_bytes c.in_ok-spelt.spelt ≢ c.args.words.now = search rules in
    differs (spelt ∙ ap decimal same ∙ sym e)
