use Rattle.std.proofs.Common.{◌≡◌, ◌∙◌, List, [], ap, map, rules}
use Rattle.std.specs.Borrow.{Bor}
use Rattle.std.specs.Prelude.{Option, Some, None, option_map, unwrap_or}
use Rattle.clap.specs.Words.{Text, found_of}
use Rattle.clap.proofs.WalkLemmas.{raw_values-rows}
use Rattle.command_line.proofs.words.words_of.Goals as goal

pub returns-in_ok-collected-in-Some : goal.returns-in_ok-collected-in-Some
returns-in_ok-collected-in-Some c =
    let is : Some (map (λ (w : Bor Text). w.now) c.in-Some.words.now)
    ≡ option_map (λ s. map (λ (w : Bor Text). w.now) s.now) c.get_strs.result = search rules in
    let all = is ∙ (c.get_strs.ensures ∙ raw_values-rows (found_of c.args.given.now) c.args.id.now) in
    ap (map (λ (w : Bor Text). w.now)) c.in_ok-collected-in-Some.ensures
    ∙ ap (λ (o : Option (List Text)). unwrap_or o []) all

pub returns-in-None : goal.returns-in-None
returns-in-None c =
    let is : None ≡ option_map (λ s. map (λ (w : Bor Text). w.now) s.now) c.get_strs.result = search rules in
    ap (map (λ (w : Bor Text). w.now)) c.new.ensures.items ∙ ap (λ (o : Option (List Text)). unwrap_or o [])
    (is ∙ (c.get_strs.ensures ∙ raw_values-rows (found_of c.args.given.now) c.args.id.now))
