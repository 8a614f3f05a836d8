use Rattle.std.proofs.Common.{inr, refl, rules, ◌≡◌, true, false}
use Rattle.packed_rows.specs.Pieces.{is_plain}
use Rattle.packed_rows.proofs.Decimals.{not_plain, number_found, number_unfound}
use Rattle.packed_rows.proofs.numbers.number_of.Goals as goal

pub returns-then-not-is_plain-clause-err : goal.returns-then-not-is_plain-clause-err
returns-then-not-is_plain-clause-err c = let off : is_plain c.args.digits.now ≡ false = search rules in
    inr (refl, not_plain c.args.digits.now off)

pub returns-in-Ok-clause-ok : goal.returns-in-Ok-clause-ok
returns-in-Ok-clause-ok c = let plain : is_plain c.args.digits.now ≡ true = search rules in
    number_found c.args.digits.now c.parse.result c.in-Ok.number c.parse.ensures.value.0 plain c.in-Ok.is

pub returns-in-Err-clause-err : goal.returns-in-Err-clause-err
returns-in-Err-clause-err c =
    inr (refl, number_unfound c.args.digits.now c.parse.result c.in-Err.field-0 c.parse.ensures.value.0 c.in-Err.is)
