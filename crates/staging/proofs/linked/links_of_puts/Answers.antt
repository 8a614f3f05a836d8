use Rattle.std.proofs.Common.{◌∙◌, [], ap, sym, take, arith}
use Rattle.std.proofs.lemmas.List.{take_all}
use Rattle.std.proofs.lemmas.Result.{IfOk-weaker}
use Rattle.records.specs.Stored.{stored}
use Rattle.staged_rows.specs.Staging.{with_names, with_targets}
use Rattle.staging.proofs.Counting.{taken_next}
use Rattle.staging.proofs.Linking.{names_more}
use Rattle.staging.proofs.linked.links_of_puts.Goals as goal

pub puts-preserved : goal.puts-preserved
puts-preserved c =
    let puts = c.args.puts.now in
    let put = c.put-item.result in
    let i = c.puts.put-index in
    c.in_ok-add_links.ensures
    ∙ ap (with_targets put.number (stored put.«record»)) c.puts.invariant
    ∙ sym (names_more (take i puts) put [])
    ∙ ap (λ ps. with_names ps []) (sym (taken_next puts i put c.puts-test.true c.put-item.is))

pub returns : goal.returns
returns c =
    IfOk-weaker c.links_in.result _ _ (λ links is. is ∙ c.puts.invariant
    ∙ ap (λ ps. with_names ps []) (take_all c.puts.put-index c.args.puts.now (omega (arith, c.puts-test.false))))
    c.links_in.ensures
