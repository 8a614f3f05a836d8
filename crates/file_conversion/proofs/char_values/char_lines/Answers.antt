use Rattle.std.proofs.Common.{◌∙◌, ◌<◌, ◌++◌, ap, arith, length, rules, sym}
use Rattle.std.proofs.lemmas.List.{append-nil}
use Rattle.file_conversion.specs.CharLines.{numbers_in, words_in}
use Rattle.character_sets.proofs.FirstLines.{none}
use Rattle.file_conversion.proofs.Beyond.{numbers_beyond, words_beyond}
use Rattle.file_conversion.proofs.char_values.char_lines.Goals as goal

pub returns-then-is_beyond-clause-changed : goal.returns-then-is_beyond-clause-changed
returns-then-is_beyond-clause-changed c =
    numbers_beyond _ _ _ _ _ (sym c.is_beyond.ensures ∙ c.if-is_beyond.true) c.lines.invariant.changed

pub returns-then-is_beyond-clause-words : goal.returns-then-is_beyond-clause-words
returns-then-is_beyond-clause-words c =
    words_beyond _ _ _ _ (sym c.is_beyond.ensures ∙ c.if-is_beyond.true) c.lines.invariant.words

pub returns-clause-changed : goal.returns-clause-changed
returns-clause-changed c = let h : length c.lines.rest.now < 1 = first_of (search rules, grind arith) in
    sym (append-nil c.lines.found.changed.items)
    ∙ (sym (ap (λ ls. c.lines.found.changed.items ++ numbers_in c.lines.place c.lines.line ls)
    (none c.lines.rest.now h)) ∙ c.lines.invariant.changed)

pub returns-clause-words : goal.returns-clause-words
returns-clause-words c = let h : length c.lines.rest.now < 1 = first_of (search rules, grind arith) in
    sym (append-nil c.lines.found.words.items)
    ∙ (sym (ap (λ ls. c.lines.found.words.items ++ words_in c.lines.place ls) (none c.lines.rest.now h))
    ∙ c.lines.invariant.words)
