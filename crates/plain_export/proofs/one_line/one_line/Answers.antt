use Rattle.std.proofs.Common.{ap, subst, sym, ◌∙◌}
use Rattle.record_text.specs.Text.{IsPlain}
use Rattle.plain_export.specs.Allowed.{one_line}
use Rattle.plain_export.proofs.InLine.{is_plain}
use Rattle.plain_export.proofs.one_line.one_line.Goals as goal

pub of_words-requires : goal.of_words-requires
of_words-requires c =
    subst IsPlain (sym (c.as_str-2.ensures.value ∙ c.in_ok-words.ensures ∙ ap one_line c.as_str.ensures.same))
    (is_plain c.args.text.now c.as_str.ensures.text)
