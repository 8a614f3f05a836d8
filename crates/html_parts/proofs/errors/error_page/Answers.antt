use Rattle.std.proofs.Common.{◌≡◌, ◌++◌, ◌∙◌, ap, List}
use Rattle.std.proofs.lemmas.Result.{IfOk-weaker}
use Rattle.html_parts.specs.declared.part.Part.{Part}
use Rattle.html_parts.specs.Errors.{error_parts, phrase_of}
use Rattle.html_parts.specs.Frame.{frame_parts}
use Rattle.html_parts.specs.Parts.{page_bytes}
use Rattle.html_parts.proofs.errors.error_page.Goals as goal

pub returns : goal.returns
returns c =
    let main : c.push_error.new.out ≡ error_parts c.args.status = c.in_ok-push_error.ensures
    ∙ ap (λ (l : List Part). l ++ error_parts c.args.status) c.new-main.ensures in
    IfOk-weaker c.framed.result _ _ (λ s e. e
    ∙ ap (λ t. page_bytes (frame_parts c.args.society.now t c.push_error.new.out)) c.phrase.ensures
    ∙ ap (λ (m : List Part). page_bytes (frame_parts c.args.society.now (phrase_of c.args.status) m)) main)
    c.framed.ensures
