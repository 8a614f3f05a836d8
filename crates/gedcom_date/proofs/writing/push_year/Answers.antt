use Rattle.std.proofs.Common.{◌+◌, ◌/◌, ◌%◌, arith}
use Rattle.std.proofs.lemmas.Fmt.{decimal_digit}
use Rattle.gedcom_date.proofs.writing.push_year.Goals as goal

pub returns-in-Double : goal.returns-in-Double
returns-in-Double c =
    let tens = decimal_digit ((c.in-Double.year + 1) / 10 % 10) (omega arith) in
    let ones = decimal_digit ((c.in-Double.year + 1) % 10) (omega arith) in
    rw c.in-Double.is (rw (tens, ones) at c.write-in-Double.ensures.bytes)
