use Rattle.std.proofs.Common.{ap, sym, ◌∙◌}
use Rattle.record_shapes.specs.Paths.{is_within_limits}
use Rattle.field_rows.proofs.Plain.{name_is_plain}
use Rattle.field_rows.proofs.places.place_name.Goals as goal

pub of_words-requires : goal.of_words-requires
of_words-requires c = name_is_plain c.text_of.result.now c.as_str-then-is_within_limits.result.now
    c.is_within_limits.result (c.as_str-then-is_within_limits.ensures.value ∙ c.in_ok-name.ensures)
    c.text_of.ensures.plain
    (c.is_within_limits.ensures ∙ ap is_within_limits (c.as_str.ensures.value
    ∙ sym c.as_str-then-is_within_limits.ensures.value))
    c.if-is_within_limits.true
