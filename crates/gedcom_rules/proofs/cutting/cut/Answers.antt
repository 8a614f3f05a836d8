use Rattle.std.proofs.Common.{◌+◌, arith}
use Rattle.gedcom_rules.proofs.Cuts.{none_ended, first_ended, cut_parts, whole_rest, first_piece, only_piece}
use Rattle.gedcom_rules.proofs.cutting.cut.Goals as goal

pub returns-then-at-bytes-clause-ended : goal.returns-then-at-bytes-clause-ended
returns-then-at-bytes-clause-ended c = rw (whole_rest c.args.bytes.now (c.line_len-at.result + 1))
    (first_ended c.args.bytes.now c.line_len-at.result c.line_len-at.ensures c.if-at-bytes.true).0

pub returns-then-at-bytes-clause-open_ : goal.returns-then-at-bytes-clause-open_
returns-then-at-bytes-clause-open_ c = rw (whole_rest c.args.bytes.now (c.line_len-at.result + 1))
    (first_ended c.args.bytes.now c.line_len-at.result c.line_len-at.ensures c.if-at-bytes.true).1

pub returns-then-at-bytes-clause-parts : goal.returns-then-at-bytes-clause-parts
returns-then-at-bytes-clause-parts c = rw (whole_rest c.args.bytes.now (c.line_len-at.result + 1))
    (cut_parts c.args.bytes.now c.line_len-at.result c.line_len-at.ensures c.if-at-bytes.true)

pub returns-then-at-bytes-clause-piece : goal.returns-then-at-bytes-clause-piece
returns-then-at-bytes-clause-piece c = first_piece c.args.bytes.now c.line_len-at.result c.line_len-at.ensures

pub returns-else-at-bytes-clause-ended : goal.returns-else-at-bytes-clause-ended
returns-else-at-bytes-clause-ended c = (none_ended c.args.bytes.now (omega arith)).0

pub returns-else-at-bytes-clause-open_ : goal.returns-else-at-bytes-clause-open_
returns-else-at-bytes-clause-open_ c = (none_ended c.args.bytes.now (omega arith)).1

pub returns-else-at-bytes-clause-piece : goal.returns-else-at-bytes-clause-piece
returns-else-at-bytes-clause-piece c = only_piece c.args.bytes.now (omega arith)
