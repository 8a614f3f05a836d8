use Rattle.std.proofs.Common.{ap, sym, ◌∙◌}
use Rattle.record_shapes.specs.Entries.{entry_if}
use Rattle.entry_reading.proofs.Guessed.{no_kind, read_as}
use Rattle.entry_reading.proofs.reading.entry_of.Goals as goal

pub returns-in_default : goal.returns-in_default
returns-in_default g c = sym (no_kind (g.K.Known.known c.args.known.now) c.args.value.now c.args.lines.now
    (sym c.kind_of.ensures ∙ c.in_default.is))

pub returns-then-branch : goal.returns-then-branch
returns-then-branch g c =
    ap (λ b. entry_if b c.in_ok-entry.entry) (sym c.if-branch.true)
    ∙ read_as (g.K.Known.known c.args.known.now) c.args.value.now c.args.lines.now c.in-Some.kind c.in_ok-entry.entry
    c.in_ok-is_of_lines.field-0 (sym c.kind_of.ensures ∙ c.in-Some.is) c.in_ok-entry.ensures c.in_ok-is_of_lines.ensures

pub returns-else-branch : goal.returns-else-branch
returns-else-branch g c =
    ap (λ b. entry_if b c.in_ok-entry.entry) (sym c.if-branch.false)
    ∙ read_as (g.K.Known.known c.args.known.now) c.args.value.now c.args.lines.now c.in-Some.kind c.in_ok-entry.entry
    c.in_ok-is_of_lines.field-0 (sym c.kind_of.ensures ∙ c.in-Some.is) c.in_ok-entry.ensures c.in_ok-is_of_lines.ensures
