use Rattle.std.proofs.Common.{◌∙◌, ℕ, List, subst}
use Rattle.tasks.specs.Faults.{IsReported}
use Rattle.tasks.proofs.expecting.say_unexpected.Goals as goal

pub returns : goal.returns
returns g c =
    subst (λ (text : List ℕ). IsReported g.F.Write.contents g.F.Device.failed c.args.faults.now c.report.new.self text)
    (c.as_bytes.ensures.value ∙ c.as_str.ensures.value ∙ c.text_of-text.ensures) c.report.ensures
