use Rattle.std.proofs.Common.{ap, ◌∙◌}
use Rattle.std.specs.Option.{unwrap_or}
use Rattle.record_fields.specs.Words.{partnership_of}
use Rattle.record_fields.specs.declared.words.Partnership.TheVariants as values
use Rattle.record_fields.proofs.Worded.{partnership_read}
use Rattle.records.proofs.Worded.{read_text}
use Rattle.records.proofs.person_parts.partnership_in.Goals as goal

pub returns-in-Some : goal.returns-in-Some
returns-in-Some c = c.unwrap_or.ensures ∙ ap (λ o. unwrap_or o values.Husband)
    (read_text partnership_of c.as_str.result.now c.in-Some.text c.args.text.now c.from_word.result
    (partnership_read c.as_str.result.now c.from_word.result c.from_word.ensures) c.as_str.ensures.same c.in-Some.is)
