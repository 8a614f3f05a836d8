use Rattle.std.proofs.Common.{◌≡◌, sym, ◌∙◌}
use Rattle.std.specs.Prelude.{Option, Some, None}
use Rattle.record_fields.specs.declared.date.Date.{Date}
use Rattle.older_archives.proofs.SoundAnew.{dated_is, said}
use Rattle.older_archives.proofs.dates.new_date.Goals as goal

pub returns-in-None : goal.returns-in-None
returns-in-None c =
    let wrong : ◌≡◌ {A = Option Date} None (Some (said c.args.text.now)) =
    sym c.in-None.is ∙ c.in_ok-said.ensures ∙ dated_is c.args.text.now in absurd cc
