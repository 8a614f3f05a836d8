use Rattle.std.proofs.Common.{◌∙◌, sym, ap, inr, Ok}
use Rattle.gedcom_rules.specs.Views.{fault_view}
use Rattle.gedcom_rules.proofs.Walks.{or_err}
use Rattle.gedcom_tree.proofs.Finished.{finished_bad, finished_ok, finished_end}
use Rattle.gedcom_tree.proofs.ended.Lines.finish.Goals as goal

pub returns-in-Err : goal.returns-in-Err
returns-in-Err c = λ total. or_err (finished_bad c.args.self c.args.rest.now total (fault_view c.in-Err.fault))
    c.in-Err.ensures.fault

pub returns-in_ok-finish-in-Ok-judge_end : goal.returns-in_ok-finish-in-Ok-judge_end
returns-in_ok-finish-in-Ok-judge_end c = λ total. finished_ok c.args.self c.add.new.self c.args.rest.now total
    c.in-Ok.ensures.led c.in-Ok-judge_end.ensures ∙ ap (λ x. Ok x) (sym c.in_ok-finish-in-Ok-judge_end.ensures)

pub returns-in-Err-judge_end : goal.returns-in-Err-judge_end
returns-in-Err-judge_end c =
    λ total. inr (finished_end c.args.self c.add.new.self c.args.rest.now total (fault_view c.in-Err-judge_end.fault)
    c.in-Ok.ensures.led c.in-Err-judge_end.ensures)
