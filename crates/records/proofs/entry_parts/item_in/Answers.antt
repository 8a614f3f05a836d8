use Rattle.std.proofs.Common.{ap, ◌∙◌}
use Rattle.std.specs.Option.{unwrap_or}
use Rattle.record_fields.specs.Items.{item_of}
use Rattle.record_fields.proofs.Items.{item_read}
use Rattle.records.specs.Reading.{read_by}
use Rattle.records.proofs.Worded.{read_text}
use Rattle.records.proofs.entry_parts.item_in.Goals as goal

pub returns : goal.returns
returns c = c.unwrap_or.ensures ∙ ap (λ o. unwrap_or o c.first-2.result)
    (read_text item_of c.as_str.result.now c.in-Some.text c.args.text.now c.in_ok-found.found
    (item_read c.as_str.result.now c.in_ok-found.found c.in_ok-found.ensures) c.as_str.ensures.same c.in-Some.is)
    ∙ ap (unwrap_or (read_by item_of c.args.text.now)) c.first-2.ensures
