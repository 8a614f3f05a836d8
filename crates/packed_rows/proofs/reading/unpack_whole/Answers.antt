use Rattle.std.proofs.Common.{◌≡◌, ◌++◌, ◌∙◌, [], ap, rules, subst, sym}
use Rattle.packed_rows.specs.Packed.{HaveText, StoredLines}
use Rattle.packed_rows.proofs.reading.unpack_whole.Goals as goal

pub returns-clause-read : goal.returns-clause-read
returns-clause-read c =
    let none : c.new-lines.result.items ≡ [] = search rules in
    let more = c.in_ok-push_lines.ensures.ok in
    subst (HaveText c.args.text.now) (sym (more.1 ∙ ap (λ (ls : StoredLines). ls ++ more.0) none)) more.2
