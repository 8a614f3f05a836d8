use Rattle.std.proofs.Common.{subst, ap, arith}
use Rattle.std.proofs.lemmas.List.{take_all}
use Rattle.std.specs.BTreeSet.{contains_text}
use Rattle.sound_records.specs.Keys.{Adds}
use Rattle.sound_records.proofs.Keyed.{AreKeyed, all_apart, none_keyed, one_keyed, one_taken}
use Rattle.sound_records.proofs.keys.first_taken.Goals as goal

pub numbers-init : goal.numbers-init
numbers-init c = λ asc. none_keyed c.new-keys.result c.args.state.now.records
    (λ words. ap (λ ks. contains_text (record { keys = ks }) words) c.new-keys.ensures.empty)

pub numbers-preserved : goal.numbers-preserved
numbers-preserved c = λ asc. one_keyed c.args.state.now.records c.args.numbers.now asc c.numbers.number-index
    c.numbers-test.true c.numbers.keys (c.numbers.invariant asc) c.add_at.new.keys
    (subst (Adds c.numbers.keys c.add_at.new.keys _) c.if-not-branch.false c.in_ok-add_at.ensures)

pub returns-then-not-branch : goal.returns-then-not-branch
returns-then-not-branch c = λ asc all. one_taken c.args.state.now.records c.args.numbers.now asc
    c.numbers.number-index c.numbers-test.true c.numbers.keys (c.numbers.invariant asc) c.add_at.new.keys
    (subst (Adds c.numbers.keys c.add_at.new.keys _) c.if-not-branch.true c.in_ok-add_at.ensures)

pub returns : goal.returns
returns c = λ asc all. all_apart c.numbers.keys c.args.state.now.records c.args.numbers.now all
    (subst (AreKeyed c.numbers.keys c.args.state.now.records)
    (take_all c.numbers.number-index c.args.numbers.now (omega (arith, c.numbers-test.false)))
    (c.numbers.invariant asc))
