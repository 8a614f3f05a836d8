use Rattle.std.proofs.Common.{◌∙◌, ◌<◌, ◌++◌, ap, arith, length, rules, string_bytes, subst, sym}
use Rattle.std.proofs.lemmas.List.{append-nil}
use Rattle.file_conversion.specs.Conversion.{text_of_lines}
use Rattle.file_conversion.specs.Streams.{NoText}
use Rattle.character_sets.proofs.FirstLines.{none}
use Rattle.file_conversion.proofs.converting.text_of_units.Goals as goal

pub lines-preserved : goal.lines-preserved
lines-preserved c = record {
  text = c.in-Ok.ensures.text ∙ c.lines.invariant.text;
  small = c.in-Ok.ensures.small;
}

pub returns-in-Err-clause-error : goal.returns-in-Err-clause-error
returns-in-Err-clause-error c = subst (λ t. NoText t c.in-Err.error) c.lines.invariant.text c.in-Err.ensures.error

pub returns-clause-text : goal.returns-clause-text
returns-clause-text c = let h : length c.lines.rest.now < 1 = first_of (search rules, grind arith) in
    sym (append-nil (string_bytes c.lines.text))
    ∙ (sym (ap (λ ls. string_bytes c.lines.text ++ text_of_lines c.args.set c.lines.carry.items ls)
    (none c.lines.rest.now h)) ∙ c.lines.invariant.text)
