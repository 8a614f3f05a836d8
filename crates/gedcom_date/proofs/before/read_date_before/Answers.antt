use Rattle.std.proofs.Common.{◌≡◌, false, true}
use Rattle.gedcom_date.specs.View.{view}
use Rattle.gedcom_date.proofs.Earlier.{none_before}
use Rattle.gedcom_date.proofs.before.read_date_before.Goals as goal

pub returns-else-is_earlier : goal.returns-else-is_earlier
returns-else-is_earlier c = none_before c.args.text.now (view c.in_ok-value.value) c.in_ok-value.ensures
    (λ h. let wrong : false ≡ true = c.if-is_earlier.ensures.1 h in absurd cc)
