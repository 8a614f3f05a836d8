use Rattle.std.proofs.Common.{◌<◌, arith, length, rules, string_bytes, subst}
use Rattle.file_conversion.proofs.converting.push_line.Goals as goal

pub returns-then-len-gt-MAX_WRITTEN-clause-error : goal.returns-then-len-gt-MAX_WRITTEN-clause-error
returns-then-len-gt-MAX_WRITTEN-clause-error c =
    let long : 67108864 < length (string_bytes c.push_both.new.text) = first_of (search rules, grind arith) in
    subst (λ t. 67108864 < length t) c.in_ok-push_both.ensures long
