use Rattle.std.proofs.Common.{rules, ◌≡◌, ◌<◌, ◌∙◌, ap, sym, subst, length, w32}
use Rattle.std.proofs.Math.Facts.{Fits-of_lt}
use Rattle.table_looks.proofs.Counting.{count_fits}
use Rattle.table_looks.proofs.judging.counted.Goals as goal

pub overflow_cast-result : goal.overflow_cast-result
overflow_cast-result c =
    let same : c.len.result ≡ length c.in-Ok.numbers.items = search rules in
    let few : c.len.result < 4294967296 = subst (λ n. n < 4294967296) (sym (same ∙ ap length c.in-Ok.ensures))
    (count_fits c.args.held.now c.requires.sound) in
    Fits-of_lt {w = w32} few
