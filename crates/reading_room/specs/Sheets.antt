-- What a call for a sheet answers, beside the sheet that its definition has.
use Rattle.std.specs.Prelude.{ℕ, ◌≡◌, List, Result, Ok, IfErr, IfOk, string_bytes, String}
use Rattle.record_text.specs.declared.refusal.RefusalKind.{RefusalKind}
use Rattle.sheets.specs.Answers.{IsRefused}

-- the text is that sheet; memory was refused, or that is the refusal of the sheet
pub record IsToldOf {Z : Type 0} (answered : Result (String Z) RefusalKind) (sheet : Result (List ℕ) RefusalKind)
    : Type 0 where
  pub text : IfOk answered (λ s. sheet ≡ Ok (string_bytes s))
  pub refused : IfErr answered (λ e. IsRefused e sheet)
