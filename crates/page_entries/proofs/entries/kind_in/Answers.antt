use Rattle.std.proofs.Common.{ap, ◌∙◌}
use Rattle.record_fields.proofs.Worded.{entry_kind_read}
use Rattle.record_fields.specs.Words.{entry_kind_of}
use Rattle.page_entries.proofs.entries.kind_in.Goals as goal

pub returns : goal.returns
returns c =
    entry_kind_read c.as_str.result.now c.from_word.result c.from_word.ensures
    ∙ ap entry_kind_of (c.as_str.ensures.value ∙ c.in_ok-word.ensures.ok)
