use Rattle.std.proofs.Common.{◌++◌, ◌∙◌, ap, List, ℕ, string_bytes}
use Rattle.std.specs.Fmt.{styled_decimal}
use Rattle.sheet_lines.proofs.Padding.{right_is}
use Rattle.sheet_lines.proofs.words.push_right.Goals as goal
use Rattle.list_laws.proofs.Outcomes.{ok_then}

pub returns : goal.returns
returns c = ok_then c.write.result (λ e. e ∙ ap (λ (t : List ℕ). string_bytes c.args.out.now ++ t)
    (ap (λ s. styled_decimal s c.args.number) c.laid_out.ensures
    ∙ right_is c.args.places c.args.number)) c.write.ensures.bytes
