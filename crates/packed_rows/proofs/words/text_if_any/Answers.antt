use Rattle.std.proofs.Common.{◌≡◌, ℕ, List, Option, Err, IfSome, Some, option_copied, option_map, rules}
use Rattle.record_text.specs.Text.{IsText}
use Rattle.packed_rows.specs.Packed.{on_one_line}
use Rattle.packed_rows.proofs.Found.{fails_more, written}
use Rattle.packed_rows.proofs.words.text_if_any.Goals as goal

pub returns-in_err-text-clause-err : goal.returns-in_err-text-clause-err
returns-in_err-text-clause-err c =
    let given : option_copied c.args.words ≡ Some c.in-Some.words.now = search rules in
    let same : c.from_residual.result ≡ Err c.in_err-text.field-0.0 = search rules in
    rw same (fails_more ((t : List ℕ) × (c.in-Some.words.now ≡ on_one_line t) × IsText t)
    ((t : Option (List ℕ)) × (option_copied c.args.words ≡ option_map on_one_line t) × IfSome t IsText)
    (written on_one_line IsText (option_copied c.args.words) c.in-Some.words.now given) c.in_err-text.field-0.0
    c.in_err-text.ensures.err)
