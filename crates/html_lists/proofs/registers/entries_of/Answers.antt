use Rattle.std.proofs.Common.{◌∙◌, ◌++◌, ap, List, ℕ}
use Rattle.std.specs.List.{filter}
use Rattle.sheets.specs.Gathered.{gathered}
use Rattle.html_lists.specs.Registers.{is_of}
use Rattle.html_lists.proofs.registers.entries_of.Goals as goal

pub returns : goal.returns
returns c =
    let g = gathered c.args.library.now.records in
    c.in_ok-add_entries.ensures
    ∙ ap (λ (l : List ℕ). l ++ filter (λ k. is_of c.args.source (g.at k)) c.entries.result.now)
    c.new-numbers.ensures.items
    ∙ ap (λ (l : List ℕ). filter (λ k. is_of c.args.source (g.at k)) l) c.entries.ensures
