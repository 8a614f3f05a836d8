use Rattle.std.proofs.Common.{◌∙◌, ◌<◌, ◌++◌, ap, arith, length, rules, sym}
use Rattle.std.proofs.lemmas.List.{append-nil}
use Rattle.file_conversion.specs.Charsets.{said_in}
use Rattle.character_sets.proofs.FirstLines.{none}
use Rattle.file_conversion.proofs.Beyond.{said_beyond}
use Rattle.file_conversion.proofs.naming.said.Goals as goal

pub returns-then-is_beyond : goal.returns-then-is_beyond
returns-then-is_beyond c = said_beyond c.args.named c.lines.place c.lines.rest.now c.lines.all.items
    c.extend_from_slice.new.self.items _ (sym c.is_beyond.ensures ∙ c.if-is_beyond.true)
    (c.in_ok-extend_from_slice.ensures.items) c.lines.invariant

pub returns : goal.returns
returns c = let h : length c.lines.rest.now < 1 = first_of (search rules, grind arith) in
    sym (append-nil c.lines.all.items)
    ∙ (sym (ap (λ ls. c.lines.all.items ++ said_in c.args.named c.lines.place ls) (none c.lines.rest.now h))
    ∙ c.lines.invariant)
