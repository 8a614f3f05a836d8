use Rattle.sheet_lines.specs.Numbers.{under}
use Rattle.sheet_lines.proofs.Kept.{then_name}
use Rattle.sheets.specs.Pages.{has_key}
use Rattle.sheets.proofs.surnames.add_names.Goals as goal

pub names-preserved : goal.names-preserved
names-preserved c = λ key. then_name (has_key key) c.args.names.now c.names.name-index c.name-item.result
    c.args.number (under c.args.surnames.now.numbers key) (under c.names.surnames.numbers key)
    (under c.add_name.new.surnames.numbers key) c.names-test.true c.name-item.is (c.names.invariant key)
    (c.in_ok-add_name.ensures key)
