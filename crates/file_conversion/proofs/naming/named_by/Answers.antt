use Rattle.std.proofs.Common.{◌∙◌, ◌<◌, ap, arith, length, rules, sym}
use Rattle.character_sets.specs.Lines.{lines}
use Rattle.file_conversion.specs.Charsets.{named_in}
use Rattle.character_sets.proofs.FirstLines.{none}
use Rattle.file_conversion.proofs.Beyond.{named_beyond}
use Rattle.file_conversion.proofs.naming.named_by.Goals as goal

pub returns-then-is_beyond : goal.returns-then-is_beyond
returns-then-is_beyond c =
    named_beyond _ _ _ _ _ (sym c.is_beyond.ensures ∙ c.if-is_beyond.true) c.lines.invariant.named

pub lines-preserved : goal.lines-preserved
lines-preserved c = record {
  named = sym (c.in_ok-reading.ensures.reads.at c.first_line-cut.result.ending.now
      (lines c.first_line-cut.result.rest.now))
      ∙ (sym (ap (named_in c.lines.reading.place c.lines.reading.named c.lines.reading.line)
      c.first_line-cut.ensures.lines) ∙ c.lines.invariant.named);
  counted = omega (arith, c.in_ok-reading.ensures.line, c.first_line-cut.ensures.shorter, c.lines.invariant.counted);
}

pub returns : goal.returns
returns c = let h : length c.lines.rest.now < 1 = first_of (search rules, grind arith) in
    sym (ap (named_in c.lines.reading.place c.lines.reading.named c.lines.reading.line) (none c.lines.rest.now h))
    ∙ c.lines.invariant.named
