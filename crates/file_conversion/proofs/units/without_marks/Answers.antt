use Rattle.std.proofs.Common.{◌≡◌, arith, length, rules}
use Rattle.file_conversion.proofs.Marks.{none_left_out}
use Rattle.file_conversion.proofs.units.without_marks.Goals as goal

pub returns-then-rest-len : goal.returns-then-rest-len
returns-then-rest-len c =
    let same : length c.past_marks-rest.result.now ≡ length c.args.units.items = first_of (search rules, grind arith) in
    none_left_out c.args.set c.args.units.items _ c.past_marks-rest.result.now c.deref.ensures.value
    c.past_marks-rest.ensures same
