use Rattle.std.proofs.Common.{Some, ap, sym, ◌∙◌}
use Rattle.record_shapes.specs.Forms.{text_of}
use Rattle.record_fields.proofs.Dated.{date_ok}
use Rattle.entry_reading.proofs.guessing.date_on.Goals as goal

pub returns : goal.returns
returns c = date_ok c.of_text.result c.in_ok-text.text (Some (text_of c.args.line.now)) c.of_text.ensures
    (ap Some (sym (c.in_ok-text.ensures ∙ c.text_of.ensures.same)))
