use Rattle.std.proofs.Common.{◌≡◌, ◌∙◌, List, [], ap, rules}
use Rattle.std.specs.Prelude.{ℕ, Option, Some, None, option_map, unwrap_or}
use Rattle.command_line.proofs.words.word_of.Goals as goal

pub returns-in-Some : goal.returns-in-Some
returns-in-Some c =
    let is : Some c.in-Some.word.now ≡ option_map (λ w. w.now) c.given_word.result = search rules in
    ap (λ (o : Option (List ℕ)). unwrap_or o []) (is ∙ c.given_word.ensures)

pub returns-in-None : goal.returns-in-None
returns-in-None c =
    let is : None ≡ option_map (λ w. w.now) c.given_word.result = search rules in
    ap (λ (o : Option (List ℕ)). unwrap_or o []) (is ∙ c.given_word.ensures)
