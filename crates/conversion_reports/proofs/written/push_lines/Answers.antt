use Rattle.std.proofs.Common.{◌∙◌, ◌<◌, ◌++◌, ap, arith, length, rules}
use Rattle.conversion_reports.specs.Lines.{has_others}
use Rattle.conversion_reports.specs.Report.{left_if, read_text, text_if}
use Rattle.conversion_reports.proofs.Readings.{all_shown, shown_next}
use Rattle.conversion_reports.proofs.written.push_lines.Goals as goal

pub lines-preserved : goal.lines-preserved
lines-preserved c = let h : 0 < c.lines.left = first_of (search rules, grind arith) in
    record {
      shown = shown_next c.args.set c.lines.left _ _ c.in_ok-shown.field-0.joins c.in_ok-shown.field-0.units.items
          _ _ _ _ _ h c.in_ok-shown.ensures.line
          (c.in_ok-left.ensures.left
          ∙ ap (λ us. left_if (has_others c.args.set us) c.lines.left) c.deref.ensures.value)
          (c.in_ok-left.ensures.text
          ∙ ap (λ us. c.lines.out.items ++ text_if (has_others c.args.set us)
          (read_text c.args.set c.in_ok-shown.field-0.shown us)) c.deref.ensures.value)
          c.lines.invariant.shown;
      counted = omega (arith, c.in_ok-shown.ensures.number, c.in_ok-shown.ensures.shorter, c.lines.invariant.counted);
    }

pub returns : goal.returns
returns c = let h : length c.lines.rest.now < 1 = first_of (search rules, grind arith) in
    all_shown c.args.set c.lines.left c.lines.number c.lines.carry.items c.lines.rest.now _ _ h c.lines.invariant.shown
