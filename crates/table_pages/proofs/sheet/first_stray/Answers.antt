use Rattle.std.specs.Str.Lossy.{utf8_valid_len}
use Rattle.std.proofs.Common.{None, Some, ap, arith, ◌∙◌}
use Rattle.std.proofs.lemmas.Str.{utf8_valid_len_le}
use Rattle.table_pages.proofs.Decoded.{decoded, undecoded}
use Rattle.table_pages.proofs.sheet.first_stray.Goals as goal

pub returns-in-Ok-clause-first : goal.returns-in-Ok-clause-first
returns-in-Ok-clause-first c =
    let bytes = c.args.lines.now in decoded bytes None (Some (utf8_valid_len bytes)) c.in-Ok.ensures.cases.1

pub returns-in-Err-clause-first : goal.returns-in-Err-clause-first
returns-in-Err-clause-first c =
    let bytes = c.args.lines.now in
    ap Some (c.valid_up_to.ensures ∙ c.in-Err.ensures.valid_len)
    ∙ undecoded bytes None (Some (utf8_valid_len bytes)) c.in-Err.ensures.cases.0

pub returns-in-Err-clause-within : goal.returns-in-Err-clause-within
returns-in-Err-clause-within c =
    omega (arith, utf8_valid_len_le c.args.lines.now, c.valid_up_to.ensures, c.in-Err.ensures.valid_len)
