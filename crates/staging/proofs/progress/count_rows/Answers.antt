use Rattle.std.proofs.Common.{◌≡◌, ◌+◌, ap, arith, length, min, ◌^◌, ◌-◌, ◌∙◌}
use Rattle.staging.proofs.Counting.{all_counted, later_count, sum_stops}
use Rattle.staging.proofs.progress.count_rows.Goals as goal

pub returns : goal.returns
returns c batch drawn other =
    let later = c.args.later.now in
    let n = length c.args.puts.now in
    let most = 2 ^ 64 - 1 in
    let behind : (n + n) + (c.len.result + (c.len-2.result + c.len-3.result)) ≡ (n + n) + later_count later = omega
    (arith, c.len.ensures, c.len-2.ensures, c.len-3.ensures) in
    sum_stops n c.len.result c.len-2.result c.len-3.result most c.saturating_add.result c.saturating_add-2.result
    c.saturating_add-3.result c.saturating_add-4.result c.saturating_add.ensures c.saturating_add-2.ensures
    c.saturating_add-3.ensures c.saturating_add-4.ensures
    ∙ ap (λ k. min k most) (behind ∙ all_counted batch c.args.puts.now later drawn c.requires.later other)
