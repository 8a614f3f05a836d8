use Rattle.std.proofs.Common.{◌≡◌, ℕ, Option, Err, IfSome, Some, decimal, option_copied, option_map, rules}
use Rattle.packed_rows.specs.Packed.{IsU32}
use Rattle.packed_rows.proofs.Found.{fails_more, written}
use Rattle.packed_rows.proofs.numbers.target_if_any.Goals as goal

pub returns-in_err-number-clause-err : goal.returns-in_err-number-clause-err
returns-in_err-number-clause-err c =
    let given : option_copied c.args.digits ≡ Some c.in-Some.digits.now = search rules in
    let same : c.from_residual.result ≡ Err c.in_err-number.field-0.0 = search rules in
    rw same (fails_more ((n : ℕ) × (c.in-Some.digits.now ≡ decimal n) × IsU32 n)
    ((n : Option ℕ) × (option_copied c.args.digits ≡ option_map decimal n) × IfSome n IsU32)
    (written decimal IsU32 (option_copied c.args.digits) c.in-Some.digits.now given) c.in_err-number.field-0.0
    c.in_err-number.ensures.err)
