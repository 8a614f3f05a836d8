use Rattle.std.proofs.Common.{◌<◌, arith, length, rules}
use Rattle.file_conversion.proofs.Written.{is_long, is_read}
use Rattle.file_conversion.proofs.converting.read_file.Goals as goal

pub returns-then-len-gt-MAX_READ-clause-error : goal.returns-then-len-gt-MAX_READ-clause-error
returns-then-len-gt-MAX_READ-clause-error g c =
    let long : 134217728 < length c.in-Ok.all.items = first_of (search rules, grind arith) in
    is_long 134217729 134217728 _ c.in-Ok.all.items c.in-Ok.ensures.bytes long

pub returns-clause-bytes : goal.returns-clause-bytes
returns-clause-bytes g c =
    let short : length c.in-Ok.all.items < 134217729 = first_of (search rules, grind arith) in
    is_read 134217729 _ c.in-Ok.all.items c.in-Ok.ensures.bytes short
