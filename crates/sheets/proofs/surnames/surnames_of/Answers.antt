use Rattle.std.proofs.Common.{ap, ◌∙◌}
use Rattle.std.proofs.lemmas.List.{take_all}
use Rattle.std.specs.FinMap as map
use Rattle.archive_state.specs.Content.{Content}
use Rattle.sheet_lines.specs.Numbers.{under}
use Rattle.sheet_lines.proofs.Kept.{kept, then_person}
use Rattle.sheets.specs.Called.{is_called}
use Rattle.sheets.proofs.Called.{are_called}
use Rattle.sheets.proofs.surnames.surnames_of.Goals as goal

pub numbers-preserved : goal.numbers-preserved
numbers-preserved c = λ key. then_person (λ n. is_called key (map.get c.as_state-state.result.now.records n))
    c.numbers-numbers.result.now c.numbers.number-index (under c.numbers.surnames.numbers key)
    (under c.add_person_at.new.surnames.numbers key) c.numbers-test.true (c.numbers.invariant key)
    (c.in_ok-add_person_at.ensures key)

pub returns : goal.returns
returns c = λ is. are_called c.args.shown.now.records c.as_state-state.result.now.records c.args.index.now
    c.numbers.surnames (ap (λ (x : Content). x.records) c.as_state-state.ensures) is
    (λ key. c.numbers.invariant key
    ∙ ap (kept (λ n. is_called key (map.get c.as_state-state.result.now.records n)))
    (take_all c.numbers.number-index c.numbers-numbers.result.now c.numbers-test.false ∙ c.numbers-numbers.ensures))
