use Rattle.std.proofs.Common.{subst, sym, ◌∙◌, arith}
use Rattle.std.proofs.lemmas.List.{take_all}
use Rattle.sound_records.proofs.Surveyed.{Upto, all_known, all_within, kept, none_yet, stopped}
use Rattle.sound_records.proofs.survey.paths_of.Goals as goal

pub numbers-init : goal.numbers-init
numbers-init c = λ asc all. none_yet c.args.state.now.records c.new-paths.result c.new-paths.ensures

pub numbers-preserved : goal.numbers-preserved
numbers-preserved c = λ asc all. kept c.args.state.now.records c.args.numbers.now asc all c.numbers.number-index
    c.numbers-test.true c.numbers.paths (c.numbers.invariant asc all) _ c.in_ok-look.look c.in_ok-look.ensures
    (sym c.is_too_long.ensures ∙ c.if-is_too_long.false) c.in_ok-keep.ensures

pub returns-then-is_too_long : goal.returns-then-is_too_long
returns-then-is_too_long c = λ asc all. stopped c.args.state.now.records c.args.numbers.now asc all
    c.numbers.number-index c.numbers-test.true c.numbers.paths (c.numbers.invariant asc all) c.in_ok-look.look
    c.in_ok-look.ensures (sym c.is_too_long.ensures ∙ c.if-is_too_long.true)

pub returns : goal.returns
returns c = λ asc all.
    let upto : Upto c.args.state.now.records c.args.numbers.now c.numbers.paths =
    subst (λ ns. Upto c.args.state.now.records ns c.numbers.paths)
    (take_all c.numbers.number-index c.args.numbers.now (omega (arith, c.numbers-test.false)))
    (c.numbers.invariant asc all) in (
      all_known c.args.state.now.records c.args.numbers.now asc all c.numbers.paths upto,
      all_within c.args.state.now.records c.args.numbers.now asc all c.numbers.paths upto,
    )
