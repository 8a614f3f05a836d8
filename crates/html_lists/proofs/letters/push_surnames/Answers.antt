use Rattle.std.proofs.Common.{◌≡◌, ◌∙◌, ◌++◌, ℕ, List, ap}
use Rattle.std.specs.Prelude.{None}
use Rattle.std.specs.Map.{values_of}
use Rattle.sheets.specs.Gathered.{gathered}
use Rattle.html_parts.specs.declared.part.Part.{Part}
use Rattle.html_lists.specs.Letters.{after_parts, arranged, surnames_in, texts}
use Rattle.html_lists.proofs.letters.push_surnames.Goals as goal

pub returns : goal.returns
returns c =
    let g = gathered c.args.library.now.records in
    let items : c.push_all.new.out ≡ after_parts g None (values_of (arranged (surnames_in g))) =
    c.in_ok-push_all.ensures
    ∙ (ap (λ (l : List Part). l ++ after_parts g None (values_of (texts c.in_ok-found.found))) c.new-list.ensures
    ∙ ap (λ (es : List (List ℕ × List ℕ)). after_parts g None (values_of es)) c.in_ok-found.ensures) in
    rw (c.as_str.ensures, items) at c.section.ensures
