use Rattle.std.proofs.Common.{ap, ◌∙◌}
use Rattle.std.specs.Option.{unwrap_or}
use Rattle.record_fields.specs.Words.{entry_kind_of}
use Rattle.record_fields.specs.declared.entry_words.EntryKind.TheVariants as values
use Rattle.record_fields.proofs.Worded.{entry_kind_read}
use Rattle.records.proofs.Worded.{read_text}
use Rattle.records.proofs.entry_parts.kind_in.Goals as goal

pub returns-in-Some : goal.returns-in-Some
returns-in-Some c = c.unwrap_or.ensures ∙ ap (λ o. unwrap_or o values.Baptism)
    (read_text entry_kind_of c.as_str.result.now c.in-Some.text c.args.text.now c.from_word.result
    (entry_kind_read c.as_str.result.now c.from_word.result c.from_word.ensures) c.as_str.ensures.same c.in-Some.is)
