use Rattle.std.proofs.Common.{◌∙◌, ap, drop}
use Rattle.std.proofs.lemmas.List.{take_rest}
use Rattle.visitors.proofs.Moved.{got_more}
use Rattle.visitors.proofs.taking.Taking.write.Goals as goal

pub returns-in-Ok-clause-got : goal.returns-in-Ok-clause-got
returns-in-Ok-clause-got g c start got =
    let all = take_rest c.as_slice.result.now c.args.self.written in
    let left = all ∙ ap (drop c.args.self.written) c.as_slice.ensures.value in
    rw (c.took.ensures.more, c.took.ensures.same.answer)
    (got_more start _ _ c.args.self.answer.items _ c.args.self.written c.in-Ok.n got left c.in-Ok.ensures.bytes)
