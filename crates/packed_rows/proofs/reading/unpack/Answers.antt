use Rattle.std.proofs.Common.{◌≡◌, ◌++◌, ◌∷◌, ◌∙◌, [], ℕ, Err, ap, inr, refl, rules}
use Rattle.stored_lines.specs.Line.{Label}
use Rattle.packed_rows.specs.Packed.{ArePackedAs, StoredLines, HaveText}
use Rattle.packed_rows.specs.Pieces.{IsFirstLine}
use Rattle.packed_rows.proofs.Found.{fails_more}
use Rattle.packed_rows.proofs.Lines.{no_packed, packed_left, packed_found}
use Rattle.packed_rows.proofs.reading.unpack.Goals as goal

pub returns-in_default-clause-refused : goal.returns-in_default-clause-refused
returns-in_default-clause-refused c =
    inr (refl, λ x. no_packed c.args.tag c.args.target c.args.text.now c.in_default.ensures x.0 x.1)

pub returns-in_err-first-clause-refused : goal.returns-in_err-first-clause-refused
returns-in_err-first-clause-refused c =
    let same : c.from_residual.result ≡ Err c.in_err-first.field-0.0 = search rules in
    rw same (fails_more ((l : ℕ × Label) × IsFirstLine c.args.tag c.args.target c.in-Some.head.now l)
    ((lines : StoredLines) × ArePackedAs c.args.tag c.args.target c.args.text.now lines)
    (λ x. (packed_left c.args.tag c.args.target c.args.text.now c.in-Some.head.now c.in-Some.below.now
    c.in-Some.ensures.0 c.in-Some.ensures.1 x.0 x.1).0)
    c.in_err-first.field-0.0 c.in_err-first.ensures.err)

pub returns-in_err-push_lines-clause-refused : goal.returns-in_err-push_lines-clause-refused
returns-in_err-push_lines-clause-refused c =
    let same : c.from_residual-in_err-push_lines.result ≡ Err c.in_err-push_lines.field-0.0 = search rules in
    rw same (fails_more ((more : StoredLines) × HaveText c.in-Some.below.now more)
    ((lines : StoredLines) × ArePackedAs c.args.tag c.args.target c.args.text.now lines)
    (λ x. (packed_left c.args.tag c.args.target c.args.text.now c.in-Some.head.now c.in-Some.below.now
    c.in-Some.ensures.0 c.in-Some.ensures.1 x.0 x.1).1)
    c.in_err-push_lines.field-0.0 c.in_err-push_lines.ensures.err)

pub returns-clause-read : goal.returns-clause-read
returns-clause-read c =
    let made : c.push.new.lines.items ≡ c.in_ok-first.first ∷ [] = search rules in
    let more = c.in_ok-push_lines.ensures.ok in
    packed_found c.args.tag c.args.target c.args.text.now c.in-Some.head.now c.in-Some.below.now c.in-Some.ensures.0
    c.in_ok-first.first c.in_ok-first.ensures.ok more.0 more.2 c.push_lines.new.lines.items
    (more.1 ∙ ap (λ (ls : StoredLines). ls ++ more.0) made)
